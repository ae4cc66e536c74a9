use Rattle.std.proofs.Common.{◌≡◌}
use Rattle.std.proofs.lemmas.Result.{on_ok_weaker}
use Rattle.bsp_model.proofs.StoredWords.{no_stores}
use Rattle.bsp_model.proofs.local_memory.LocalMemory.begin.Goals as goal

pub returns : goal.returns
returns c =
    on_ok_weaker _
    (λ (loaded : c.load_from.new.self ≡ c.args.memory.now). λ i. record { memory = loaded i; stores = no_stores c.clear.new.self.items c.clear-2.new.self.items c.load_from.new.self c.clear.ensures.items i })
    c.load_from.ensures
