use Rattle.std.proofs.Common.{◌∷◌, ◌++◌, [], List, ap, ◌∙◌}
use Rattle.bsp_model.specs.declared.range.Range.{Range}
use Rattle.bsp_model.proofs.StoredWords.{one_range}
use Rattle.bsp_model.proofs.local_memory.LocalMemory.take_stored.Goals as goal

pub returns-clause-ok : goal.returns-clause-ok
returns-clause-ok c =
    let range : Range = record { start = c.args.start; len = c.args.len } in
    let one = c.in_ok-push.ensures.items ∙ ap (λ (rs : List Range). rs ++ range ∷ []) c.clear.ensures.items in
    λ i. record {
      memory = c.take_words.ensures i;
      stores = one_range c.push.new.self.items c.clear-2.new.self.items c.take_words.new.self c.args.words.now.items c.args.start c.args.len one c.clear-2.ensures.items c.take_words.ensures i;
    }
