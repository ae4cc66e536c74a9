use Rattle.std.proofs.Common.{List, Option, ℕ, ap, ◌∙◌, unwrap_or}
use Rattle.std.specs.Prelude.{slice_get}
use Rattle.std.proofs.lemmas.Option.{unwrap_or-slice_get}
use Rattle.bsp_step.specs.OutcomeParts.{outcome_of}
use Rattle.bsp_causes.proofs.travel.word_left.Goals as goal

pub returns : goal.returns
returns c =
    c.unwrap_or.ensures
    ∙ ap (λ (o : Option ℕ). unwrap_or o 0) (c.load.ensures ∙ ap (λ (m : List ℕ). slice_get m c.args.address) c.memory.ensures)
    ∙ unwrap_or-slice_get (outcome_of c.args.outcomes.now c.args.pid).memory c.args.address 0
