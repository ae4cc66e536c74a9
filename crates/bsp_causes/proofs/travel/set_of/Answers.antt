use Rattle.std.proofs.Common.{Bool, List, false, get_or, length, ap, ◌∙◌}
use Rattle.std.proofs.lemmas.List.{get_or-replicate, length-replicate}
use Rattle.bsp_model.specs.Limits.{most_processes}
use Rattle.bsp_causes.proofs.travel.set_of.Goals as goal

pub loop-place-init : goal.loop-place-init
loop-place-init c = record {
  count = ap (λ (s : List Bool). length s) c.none-set.ensures ∙ length-replicate {A = Bool} most_processes false;
  members = λ p l. ap (λ (s : List Bool). get_or s p false) c.none-set.ensures ∙ get_or-replicate {A = Bool} most_processes p false false l;
}
