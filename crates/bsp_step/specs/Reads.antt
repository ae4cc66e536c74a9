-- Footprints from what is read.
use Rattle.std.proofs.Common.{◌≡◌, ◌≤◌, ◌<◌, ◌+◌, ℕ, Bool, true, List, [], ◌∷◌, Option, None, Some, length, get_or, take, drop, cond, refl, sym, ap, ◌∙◌, arith, inl, inr}
use Rattle.std.specs.Prelude.{nat_le, unwrap_or}
use Rattle.std.specs.List.{slice_get, slice_set}
use Rattle.std.proofs.lemmas.Bool.{cases_lt}
use Rattle.std.proofs.lemmas.Grind.{common_steps, same_number_lists}
use Rattle.std.proofs.lemmas.Option.{slice_get_past, unwrap_or-slice_get}
use Rattle.bsp_step.specs.ViewParts.{ViewParts}
use Rattle.bsp_step.specs.Footprint.{IsFootprint, AreAlike, AreAlikeButForWords}
use Rattle.bsp_step.specs.Footprints.{slice_get-set_alike}
use Rattle.bsp_step.specs.LooksEverywhere.{same_views}
use Rattle.bsp_step.specs.Plan.{Plan}
use Rattle.bsp_step.specs.Blocks.{words_at, stored}

-- the view with another memory
abbrev pub with_memory : ViewParts → List ℕ → ViewParts
with_memory v memory = record v { memory = memory }

-- past the end of the memories there are no words, so there they agree
words-alike : (looks : ℕ → Bool) (v w : ViewParts) → AreAlike looks v w → (a : ℕ) → looks a ≡ true → slice_get v.memory a ≡ slice_get w.memory a
words-alike looks v w alike a looked =
    elim (cases_lt a (length v.memory)) [
      | inl within ↦ alike.words a within looked
      | inr past ↦ slice_get_past v.memory a past ∙ sym (slice_get_past w.memory a (omega (arith, alike.parts.same_length)))
    ]

other_memory : (v w : ViewParts) → AreAlikeButForWords v w → with_memory v w.memory ≡ w
other_memory v w alike =
    same_views (with_memory v w.memory) w record { nprocs = alike.nprocs; pid = alike.pid; step = alike.step; args = alike.args; table = alike.table; tag_size = alike.tag_size; queue = alike.queue; same_length = refl } refl

-- The footprint of a plan that depends on the words where it looks: with another memory of the same length, which has the same words there, it is
-- the same plan, and it looks at the same addresses whatever the words.
pub IsFootprint-of_reads : (plan : ViewParts → Plan) (looks : ViewParts → ℕ → Bool) → ((v : ViewParts) (memory : List ℕ) → length v.memory ≡ length memory → ((a : ℕ) → looks v a ≡ true → slice_get v.memory a ≡ slice_get memory a) → plan v ≡ plan (with_memory v memory)) → ((v : ViewParts) (memory : List ℕ) → length v.memory ≡ length memory → (a : ℕ) → looks v a ≡ looks (with_memory v memory) a) → IsFootprint (λ v. (plan v).acts) (λ v. (plan v).ending) looks
IsFootprint-of_reads plan looks same_plan same_looks =
    let same : (v w : ViewParts) → AreAlike (looks v) v w → plan v ≡ plan w =
    λ v w alike. same_plan v w.memory alike.parts.same_length (words-alike (looks v) v w alike) ∙ ap plan (other_memory v w alike.parts) in
    record {
      acts_alike = λ v w _ _ alike. ap (λ (p : Plan). p.acts) (same v w alike);
      ending_alike = λ v w _ _ alike. ap (λ (p : Plan). p.ending) (same v w alike);
      looks_alike = λ v w _ _ parts a. same_looks v w.memory parts.same_length a ∙ ap (λ (x : ViewParts). looks x a) (other_memory v w parts);
    }

-- equal words of memories of one length
pub take-alike : (m n : List ℕ) (start len : ℕ) → length m ≡ length n → ((a : ℕ) → start ≤ a → a < start + len → slice_get m a ≡ slice_get n a) → take len (drop start m) ≡ take len (drop start n)
take-alike m n start len long same =
    same_number_lists _ _ (grind (arith, common_steps)) (λ k within.
    let below : k < len = grind (arith, common_steps) in
    let here : get_or m (start + k) 0 ≡ get_or n (start + k) 0 = sym (unwrap_or-slice_get m (start + k) 0) ∙ ap (λ (o : Option ℕ). unwrap_or o 0) (same (start + k) (omega arith) (omega arith)) ∙ unwrap_or-slice_get n (start + k) 0 in
    grind (arith, common_steps))

-- the same of a block that is loaded
pub words_at-alike : (m n : List ℕ) (start len : ℕ) → length m ≡ length n → ((a : ℕ) → start ≤ a → a < start + len → slice_get m a ≡ slice_get n a) → words_at m start len ≡ words_at n start len
words_at-alike m n start len long same = rw long (ap (λ (words : List ℕ). cond (nat_le (start + len) (length n)) (Some words) None) (take-alike m n start len long same))

-- memories that agree at an address agree there after equal stores
pub stored-alike : (m n : List ℕ) (start : ℕ) (words : List ℕ) (a : ℕ) → slice_get m a ≡ slice_get n a → slice_get (stored m start words) a ≡ slice_get (stored n start words) a
stored-alike m n start [] a same = same
stored-alike m n start (word ∷ words) a same =
    stored-alike (slice_set m start word) (slice_set n start word) (start + 1) words a (slice_get-set_alike m n start word a same)
