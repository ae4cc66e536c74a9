-- The test whether a recorded turn serves decides whether the views are alike.
use Rattle.std.proofs.Common.{◌≡◌, ℕ, ◌<◌, Bool, true, List, Some, length, get_or, arith, ◌==◌, ◌&&◌, slice_get, refl, sym, ap, ◌∙◌}
use Rattle.std.specs.Bool.{Decides}
use Rattle.std.specs.Cmp.Lexicographic.{pointwise}
use Rattle.std.proofs.lemmas.Bool.Decides.{Decides-eqb, Decides-and, Decides-like}
use Rattle.std.proofs.lemmas.Option.{slice_get-get_or}
use Rattle.bsp_step.specs.ViewParts.{ViewParts}
use Rattle.bsp_step.specs.Footprint.{AreAlike, AreAlikeButForWords, same_where_looked_at}
use Rattle.bsp_step.proofs.WhereLookedAt.{Decides-where_looked_at}
use Rattle.bsp_table.specs.Same.{same_table}
use Rattle.bsp_model.specs.Same.{same_message, same_words}
use Rattle.bsp_incr.specs.Inside.Reuse.{same_but_for_words, serves}
use Rattle.bsp_deliver.proofs.SameDelivery.{Decides-words, Decides-pointwise}
use Rattle.bsp_incr.proofs.Comparing.{Decides-table, Decides-message}

pub Decides-but_for_words : (v w : ViewParts) → Decides (same_but_for_words v w) (AreAlikeButForWords v w)
Decides-but_for_words v w =
    let one = (v.nprocs == w.nprocs) && (v.pid == w.pid) in
    let two = one && (v.step == w.step) in
    let three = two && same_words v.args w.args in
    let four = three && same_table v.table w.table in
    let five = four && (v.tag_size == w.tag_size) in
    let six = five && pointwise same_message v.queue w.queue in
    Decides-like (same_but_for_words v w)
    (λ (e : (((((((v.nprocs ≡ w.nprocs) × (v.pid ≡ w.pid)) × (v.step ≡ w.step)) × (v.args ≡ w.args)) × (v.table ≡ w.table)) × (v.tag_size ≡ w.tag_size)) × (v.queue ≡ w.queue)) × (length v.memory ≡ length w.memory)).
    record { nprocs = e.0.0.0.0.0.0.0; pid = e.0.0.0.0.0.0.1; step = e.0.0.0.0.0.1; args = e.0.0.0.0.1; table = e.0.0.0.1; tag_size = e.0.0.1; queue = e.0.1; same_length = e.1 })
    (λ (h : AreAlikeButForWords v w). (((((((h.nprocs, h.pid), h.step), h.args), h.table), h.tag_size), h.queue), h.same_length))
    (Decides-and six (length v.memory == length w.memory)
    (Decides-and five (pointwise same_message v.queue w.queue)
    (Decides-and four (v.tag_size == w.tag_size)
    (Decides-and three (same_table v.table w.table)
    (Decides-and two (same_words v.args w.args)
    (Decides-and one (v.step == w.step)
    (Decides-and (v.nprocs == w.nprocs) (v.pid == w.pid) (Decides-eqb v.nprocs w.nprocs) (Decides-eqb v.pid w.pid))
    (Decides-eqb v.step w.step)) (Decides-words v.args w.args)) (Decides-table v.table w.table)) (Decides-eqb v.tag_size w.tag_size))
    (Decides-pointwise Decides-message v.queue w.queue)) (Decides-eqb (length v.memory) (length w.memory)))

index_get : (m n : List ℕ) (a : ℕ) → a < length m → length m ≡ length n → get_or m a 0 ≡ get_or n a 0 → slice_get m a ≡ slice_get n a
index_get m n a l e h = slice_get-get_or m a 0 l ∙ ap (λ (x : ℕ). Some x) h ∙ sym (slice_get-get_or n a 0 (omega arith))

get_index : (m n : List ℕ) (a : ℕ) → a < length m → length m ≡ length n → slice_get m a ≡ slice_get n a → get_or m a 0 ≡ get_or n a 0
get_index m n a l e h =
    let f : Some (get_or m a 0) ≡ Some (get_or n a 0) = sym (slice_get-get_or m a 0 l) ∙ h ∙ slice_get-get_or n a 0 (omega arith) in
    cc

-- A recorded turn serves exactly where the views are alike.
pub Decides-serves : (looks : ViewParts → ℕ → Bool) (v w : ViewParts) → Decides (serves looks v w) (AreAlike (looks v) v w)
Decides-serves looks v w =
    Decides-like (serves looks v w)
    (λ (e : AreAlikeButForWords v w × ((a : ℕ) → a < length v.memory → looks v a ≡ true → get_or v.memory a 0 ≡ get_or w.memory a 0)).
    record { parts = e.0; words = λ a l k. index_get v.memory w.memory a l e.0.same_length (e.1 a l k) })
    (λ (h : AreAlike (looks v) v w). (h.parts, λ a l k. get_index v.memory w.memory a l h.parts.same_length (h.words a l k)))
    (Decides-and (same_but_for_words v w) (same_where_looked_at (looks v) v.memory w.memory) (Decides-but_for_words v w) (Decides-where_looked_at (looks v) v.memory w.memory))

-- the turn of a view serves for the view itself
pub serves-itself : (looks : ViewParts → ℕ → Bool) (v : ViewParts) → serves looks v v ≡ true
serves-itself looks v =
    (Decides-serves looks v v).1 record { parts = record { nprocs = refl; pid = refl; step = refl; args = refl; table = refl; tag_size = refl; queue = refl; same_length = refl }; words = λ a l k. refl }
