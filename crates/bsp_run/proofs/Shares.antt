-- The shares of all processes are a whole superstep.
use Rattle.std.proofs.Common.{◌≡◌, ℕ, List, map, length, get_or, sym, ap, ◌∙◌, refl}
use Rattle.std.specs.List.{range_with_len}
use Rattle.std.proofs.lemmas.List.{get_or-map, length-map}
use Rattle.std.proofs.lemmas.List.FromFn.{fill_by_all}
use Rattle.bsp_model.specs.declared.request.Message.{Message}
use Rattle.bsp_step.specs.ViewParts.{ViewParts}
use Rattle.bsp_step.specs.OutcomeParts.{OutcomeParts, no_outcome}
use Rattle.bsp_run.specs.Condition.{no_view, deliveries_of}
use Rattle.bsp_run.specs.Shares.{turns_of, deliveries_to}

-- the turns of all processes, by number, are those of all views
pub turns_of-all : (turn : ViewParts → OutcomeParts) (vs : List ViewParts) → turns_of turn vs (range_with_len 0 (length vs)) ≡ map turn vs
turns_of-all turn vs =
    sym (fill_by_all (λ p. turn (get_or vs p no_view)) (map turn vs) (length vs) no_outcome (length-map vs turn) (λ p l. get_or-map turn vs p no_view no_outcome l))

-- the deliveries to all processes, by number
pub deliveries_to-all : (os : List OutcomeParts) → deliveries_to os (range_with_len 0 (length os)) ≡ deliveries_of os
unfolding deliveries_of
deliveries_to-all os = refl

pub deliveries_made : (os : List OutcomeParts) (count : ℕ) (ds : List ℕ) (cells : List (List ℕ × List Message)) → length os ≡ count → ds ≡ range_with_len 0 count → cells ≡ deliveries_to os ds → cells ≡ deliveries_of os
deliveries_made os count ds cells long all made = made ∙ ap (deliveries_to os) (all ∙ ap (range_with_len 0) (sym long)) ∙ deliveries_to-all os
