-- The messages of a queue from a place on.
use Rattle.std.proofs.Common.{◌≡◌, ◌≤◌, ◌+◌, ◌*◌, ℕ, List, ◌∷◌, Some, length, suc, drop, sum_by, ap, ◌∙◌, subst, arith}
use Rattle.std.specs.Prelude.{slice_get}
use Rattle.std.proofs.lemmas.List.{drop_more}
use Rattle.std.proofs.lemmas.List.Sums.{sum_by-le}
use Rattle.std.proofs.lemmas.Option.{get_or_from_slice_get, slice_get_within}
use Rattle.bsp_model.specs.Limits.{most_messages, most_payload_words}
use Rattle.bsp_model.specs.declared.request.Message.{Message}
use Rattle.bsp_step.specs.ViewParts.{IsQueue}

-- what stands at a place stands before those behind it
pub first_left : {X : Type 0} (queue : List X) (taken : ℕ) (m : X) → slice_get queue taken ≡ Some m → drop taken queue ≡ m ∷ drop (taken + 1) queue
first_left queue taken m at = drop_more queue taken m (slice_get_within queue taken m at) ∙ ap (λ x. x ∷ drop (taken + 1) queue) (get_or_from_slice_get queue taken m m at)

-- what is left of a queue within the limits is within them
pub IsQueue-rest : (queue : List Message) (m : Message) (later : List Message) → IsQueue queue → queue ≡ m ∷ later → IsQueue later
IsQueue-rest queue m later h e =
    let whole : IsQueue (m ∷ later) = subst IsQueue e h in
    let few : suc (length later) ≤ most_messages = whole.few in
    record { few = omega arith; short = λ k d l. whole.short (suc k) d (omega arith) }

-- a queue within the limits has few words
pub few_words : (queue : List Message) → IsQueue queue → sum_by (λ (m : Message). length m.words) queue ≤ most_messages * most_payload_words
few_words queue h =
    let size : Message → ℕ = λ m. length m.words in
    let all : sum_by size queue ≤ length queue * most_payload_words = sum_by-le size most_payload_words queue (λ k d l. (h.short k d l).words) in
    let few : length queue ≤ most_messages = h.few in
    omega arith
