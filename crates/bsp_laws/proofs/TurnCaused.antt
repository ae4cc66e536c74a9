-- A turn has no cause exactly where a turn of the previous run serves.
use Rattle.std.proofs.Common.{◌≡◌, ◌<◌, ◌+◌, ◌==◌, ◌&&◌, ◌↔◌, ℕ, zero, suc, Bool, true, false, List, [], None, All, filter, length, get_or, not, arith, refl, sym, ap, ◌∙◌, subst, inl, inr}
use Rattle.std.specs.Cmp.Lexicographic.{pointwise}
use Rattle.std.specs.List.{range_with_len}
use Rattle.std.proofs.lemmas.Bool.{cases_lt, false≢true}
use Rattle.std.proofs.lemmas.Bool.Decides.{Decides-eqb}
use Rattle.bsp_step.specs.ViewParts.{ViewParts}
use Rattle.bsp_step.specs.Footprint.{AreAlike, AreAlikeButForWords, same_where_looked_at}
use Rattle.bsp_deliver.proofs.SameDelivery.{Decides-pointwise, Decides-words}
use Rattle.bsp_run.specs.declared.superstep.Superstep.{Superstep}
use Rattle.bsp_run.specs.Supersteps.{superstep_at}
use Rattle.bsp_incr.specs.declared.reply.Place.{Place}
use Rattle.bsp_incr.specs.Exact.{HasTurn, IsServed, view_there}
use Rattle.bsp_table.specs.Same.{same_table}
use Rattle.bsp_model.specs.Same.{same_message, same_words}
use Rattle.bsp_incr.specs.Inside.Reuse.{same_but_for_words, serves}
use Rattle.bsp_incr.proofs.Comparing.{Decides-table, Decides-message}
use Rattle.bsp_step.proofs.WhereLookedAt.{Decides-where_looked_at}
use Rattle.bsp_incr.proofs.Serving.{Decides-but_for_words, Decides-serves}
use Rattle.bsp_causes.specs.declared.turns.TurnCauses.{TurnCauses}
use Rattle.bsp_causes.specs.TurnCauses.{is_other_word, view_causes, turn_causes}
use Rattle.bsp_causes.proofs.Cases.{turn_there, turn_not_there}
use Rattle.bsp_causes.proofs.Filtered.{none_passes, fail_where_none}
use Rattle.bsp_causes.proofs.SamePlaces.{IsSamePlace}
use Rattle.bsp_laws.specs.Causes.{no_turn_causes}
use Rattle.bsp_model.proofs.Inputs.{not_false}

pub yes_is_no : (b : Bool) → b ≡ true → not b ≡ false
yes_is_no true h = refl
yes_is_no false h = cc

both : (a b : Bool) → a ≡ true → b ≡ true → (a && b) ≡ true
both true b h k = k
both false b h k = cc

second : (a b : Bool) → (a && b) ≡ true → b ≡ true
second true b h = h
second false b h = cc

-- a word is no other one where the program does not look, or where it is the same

same_where_looked : (looked same : Bool) → (looked && not same) ≡ false → looked ≡ true → same ≡ true
same_where_looked true same h k = not_false same h
same_where_looked false same h k = cc

no_other : (looked same : Bool) → (looked ≡ true → same ≡ true) → (looked && not same) ≡ false
no_other true same h = yes_is_no same (h refl)
no_other false same h = refl

abbrev SameWords : (ℕ → Bool) → List ℕ → List ℕ → Type 0
SameWords looks m n = (a : ℕ) → a < length m → looks a ≡ true → get_or m a 0 ≡ get_or n a 0

words_none : (looks : ℕ → Bool) (m n : List ℕ) → filter (is_other_word looks m n) (range_with_len 0 (length m)) ≡ [] → SameWords looks m n
words_none looks m n h a l looked =
    let none = fail_where_none (is_other_word looks m n) 0 (length m) h a (omega arith) (omega arith) in
    (Decides-eqb (get_or m a 0) (get_or n a 0)).0 (same_where_looked (looks a) (get_or m a 0 == get_or n a 0) none looked)

none_words : (looks : ℕ → Bool) (m n : List ℕ) → SameWords looks m n → filter (is_other_word looks m n) (range_with_len 0 (length m)) ≡ []
none_words looks m n h =
    none_passes (is_other_word looks m n) 0 (length m)
    (λ a low high. no_other (looks a) (get_or m a 0 == get_or n a 0) (λ looked. (Decides-eqb (get_or m a 0) (get_or n a 0)).1 (h a (omega arith) looked)))

alike_without : (looks : ViewParts → ℕ → Bool) (v w : ViewParts) → IsSamePlace v w → view_causes looks v w ≡ no_turn_causes → AreAlike (looks v) v w
alike_without looks v w h e =
    let parts : AreAlikeButForWords v w = record {
      nprocs = h.nprocs;
      pid = h.pid;
      step = h.step;
      args = (Decides-words v.args w.args).0 (not_false (same_words v.args w.args) (ap (λ (c : TurnCauses). c.args) e));
      table = (Decides-table v.table w.table).0 (not_false (same_table v.table w.table) (ap (λ (c : TurnCauses). c.table) e));
      tag_size = (Decides-eqb v.tag_size w.tag_size).0 (not_false (v.tag_size == w.tag_size) (ap (λ (c : TurnCauses). c.tag_size) e));
      queue = (Decides-pointwise Decides-message v.queue w.queue).0 (not_false (pointwise same_message v.queue w.queue) (ap (λ (c : TurnCauses). c.queue) e));
      same_length = h.same_length;
    } in
    let words = words_none (looks v) v.memory w.memory (ap (λ (c : TurnCauses). c.words) e) in
    (Decides-serves looks v w).0
    (both (same_but_for_words v w) (same_where_looked_at (looks v) v.memory w.memory) ((Decides-but_for_words v w).1 parts) ((Decides-where_looked_at (looks v) v.memory w.memory).1 words))

without_alike : (looks : ViewParts → ℕ → Bool) (v w : ViewParts) → AreAlike (looks v) v w → view_causes looks v w ≡ no_turn_causes
without_alike looks v w h =
    let p = h.parts in
    let args = yes_is_no (same_words v.args w.args) ((Decides-words v.args w.args).1 p.args) in
    let queue = yes_is_no (pointwise same_message v.queue w.queue) ((Decides-pointwise Decides-message v.queue w.queue).1 p.queue) in
    let table = yes_is_no (same_table v.table w.table) ((Decides-table v.table w.table).1 p.table) in
    let tag_size = yes_is_no (v.tag_size == w.tag_size) ((Decides-eqb v.tag_size w.tag_size).1 p.tag_size) in
    let served : serves looks v w ≡ true = (Decides-serves looks v w).1 h in
    let looked = second (same_but_for_words v w) (same_where_looked_at (looks v) v.memory w.memory) served in
    let words = none_words (looks v) v.memory w.memory ((Decides-where_looked_at (looks v) v.memory w.memory).0 looked) in
    λ i. record { is_new = false; args = args i; queue = queue i; table = table i; tag_size = tag_size i; words = words i }

-- a turn of both runs, and a turn of the new run alone
pub uncaused_turn : (looks : ViewParts → ℕ → Bool) (olds news : List Superstep) (q : Place) → (HasTurn olds q → IsSamePlace (view_there olds q) (view_there news q)) → (turn_causes looks olds news q ≡ no_turn_causes) ↔ IsServed looks olds news q
uncaused_turn looks olds news q same =
    let v = view_there olds q in
    let w = view_there news q in (
      λ e.
          elim (cases_lt q.pid (length (superstep_at olds q.step).views)) [
            | inl l ↦ record { there = l; alike = alike_without looks v w (same l) (sym (turn_there looks olds news q l) ∙ e) }
            | inr m ↦ absurd (false≢true (sym (ap (λ (c : TurnCauses). c.is_new) (sym (turn_not_there looks olds news q m) ∙ e))))
          ],
      λ s. turn_there looks olds news q s.there ∙ without_alike looks v w s.alike,
    )
