-- The footprint that looks everywhere: what a program cites that states no footprint of its own.
use Rattle.std.proofs.Common.{◌≡◌, ℕ, ◌<◌, true, List, Some, length, get_or, refl, sym, ap, ◌∙◌, arith}
use Rattle.std.specs.List.{slice_get}
use Rattle.std.proofs.lemmas.List.{same_lists}
use Rattle.std.proofs.lemmas.Option.{slice_get-get_or}
use Rattle.bsp_model.specs.declared.fault.End.{End}
use Rattle.bsp_model.specs.declared.request.Message.{Message}
use Rattle.bsp_table.specs.declared.area.Area.{Area}
use Rattle.bsp_step.specs.ViewParts.{ViewParts}
use Rattle.bsp_step.specs.Act.{Act}
use Rattle.bsp_step.specs.Footprint.{IsFootprint, AreAlike, AreAlikeButForWords}

-- two memories with equal words at each address are equal
pub same_memories : (m n : List ℕ) → length m ≡ length n → ((a : ℕ) → a < length m → slice_get m a ≡ slice_get n a) → m ≡ n
same_memories m n e h =
    same_lists m n e (λ k d within.
    let f : Some (get_or m k d) ≡ Some (get_or n k d) = sym (slice_get-get_or m k d within) ∙ h k within ∙ slice_get-get_or n k d (omega arith) in
    cc)

abbrev view_of : ℕ → ℕ → ℕ → List ℕ → List ℕ → List (List Area) → ℕ → List Message → ViewParts
view_of nprocs pid step args memory table tag_size queue =
    record { nprocs = nprocs; pid = pid; step = step; args = args; memory = memory; table = table; tag_size = tag_size; queue = queue }

pub same_views : (v w : ViewParts) → AreAlikeButForWords v w → v.memory ≡ w.memory → v ≡ w
same_views v w alike memory =
    ap (λ x. view_of x v.pid v.step v.args v.memory v.table v.tag_size v.queue) alike.nprocs
    ∙ ap (λ x. view_of w.nprocs x v.step v.args v.memory v.table v.tag_size v.queue) alike.pid
    ∙ ap (λ x. view_of w.nprocs w.pid x v.args v.memory v.table v.tag_size v.queue) alike.step
    ∙ ap (λ x. view_of w.nprocs w.pid w.step x v.memory v.table v.tag_size v.queue) alike.args
    ∙ ap (λ x. view_of w.nprocs w.pid w.step w.args x v.table v.tag_size v.queue) memory
    ∙ ap (λ x. view_of w.nprocs w.pid w.step w.args w.memory x v.tag_size v.queue) alike.table
    ∙ ap (λ x. view_of w.nprocs w.pid w.step w.args w.memory w.table x v.queue) alike.tag_size
    ∙ ap (λ x. view_of w.nprocs w.pid w.step w.args w.memory w.table w.tag_size x) alike.queue

-- The footprint that looks everywhere is a footprint of every program.
pub looks_everywhere : (acts : ViewParts → List Act) (ending : ViewParts → End) → IsFootprint acts ending (λ _ _. true)
looks_everywhere acts ending =
    let same : (v w : ViewParts) → AreAlike (λ _. true) v w → v ≡ w = λ v w alike. same_views v w alike.parts (same_memories v.memory w.memory alike.parts.same_length (λ a within. alike.words a within refl)) in
    record {
      acts_alike = λ v w _ _ alike. ap acts (same v w alike);
      ending_alike = λ v w _ _ alike. ap ending (same v w alike);
      looks_alike = λ v w _ _ alike a. refl;
    }
