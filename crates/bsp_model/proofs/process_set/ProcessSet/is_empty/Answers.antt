use Rattle.std.proofs.Common.{◌≡◌, ℕ, List, [], sym, ap, ◌∙◌, subst}
use Rattle.std.specs.Prelude.{◌↔◌, IsTrue}
use Rattle.std.specs.Option.{is_some}
use Rattle.bsp_model.specs.ProcessSet.{processes_from}
use Rattle.bsp_model.proofs.ProcessSets.{no_first, processes_from_start}
use Rattle.bsp_model.proofs.process_set.ProcessSet.is_empty.Goals as goal

pub returns : goal.returns
returns c =
    let s = c.args.self.now in
    subst (λ (xs : List ℕ). IsTrue c.is_none.result ↔ (xs ≡ [])) (processes_from_start s)
    (no_first (processes_from s 0) c.is_none.result (ap is_some (sym c.next.ensures.first) ∙ c.is_none.ensures))
