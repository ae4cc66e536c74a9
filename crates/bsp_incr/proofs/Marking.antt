-- The marks of a batch are those of the processes that begin with something else.
use Rattle.std.proofs.Common.{◌≡◌, ◌<◌, ◌⊎◌, ℕ, Bool, true, false, cond, List, [], ◌∷◌, Some, ◌&&◌, length, replicate, get_or, arith, refl, sym, ap, ◌∙◌, subst, inl, inr}
use Rattle.std.specs.Prelude.{◌↔◌, IsTrue, MatchBool, Contains, slice_set}
use Rattle.std.specs.List.{flat_map}
use Rattle.std.specs.Option.{ForSome}
use Rattle.std.proofs.lemmas.List.{get_or-replicate, get_or-set_other, length-set, length-replicate}
use Rattle.std.proofs.lemmas.Bool.{cases_eq, false≢true}
use Rattle.std.proofs.lemmas.Option.{same_Some}
use Rattle.bsp_model.specs.declared.input.Input.{Input}
use Rattle.bsp_model.specs.ProcessSet.{processes_in}
use Rattle.bsp_model.proofs.Inputs.{lawful_input}
use Rattle.bsp_model.proofs.Replaced.{length-replaced}
use Rattle.bsp_step.specs.ViewParts.{ViewParts}
use Rattle.bsp_step.specs.OutcomeParts.{OutcomeParts}
use Rattle.bsp_run.specs.Run.{Run}
use Rattle.bsp_run.proofs.Records.{count-views_in}
use Rattle.bsp_incr.specs.declared.edit.Edit.{Edit}
use Rattle.bsp_incr.specs.Named.{arg_pids, with_members, word_pids}
use Rattle.bsp_incr.specs.Inside.Before.{first_views_before, first_view_before, IsBeforeEdits, HasSameArgs, HasOtherArgs, HasSameMemory, HasOtherMemory}
use Rattle.bsp_incr.proofs.Lawful.{edited_count, edited_count-args}
use Rattle.bsp_incr.proofs.Members.{none_left, none_of, out_before, out_of_members}
use Rattle.bsp_incr.proofs.Propagation.{first_memory}
use Rattle.bsp_incr.proofs.RunBefore.{first_view, record_of_law}
use Rattle.bsp_incr.proofs.Unnamed.{same_args, same_memory}

-- a process begins with the arguments, or with the memory, of the previous run
abbrev pub SameArgs : Input → ℕ → Run → Type 0
SameArgs input p r = (first_view_before r p).args ≡ get_or input.args p []

abbrev pub SameMemory : Input → ℕ → Run → Type 0
SameMemory input p r = (first_view_before r p).memory ≡ get_or input.mems p []

of_some : (P : Run → Type 0) (r : Run) → P r → ForSome (Some r) P
of_some P r h k is = subst P (same_Some r k is) h

-- the processes that edits name
abbrev pub named : ℕ → List Edit → List Bool
named n edits = with_members (with_members (replicate n false) (flat_map word_pids edits)) (flat_map arg_pids edits)

pub length-named : (n : ℕ) (edits : List Edit) → length (named n edits) ≡ n
length-named n edits = length-replaced _ (flat_map arg_pids edits) _ ∙ length-replaced (replicate n false) (flat_map word_pids edits) _ ∙ length-replicate n false

module _ (turn : ViewParts → OutcomeParts) (r : Run) (input : Input) (edits : List Edit) (h : IsBeforeEdits turn edits input r) where
  abbrev i : Input
  i = h.input_before

  as_many : length i.mems ≡ length input.mems
  as_many = sym (edited_count i edits) ∙ sym (ap (λ (j : Input). length j.mems) h.stands)

  pub count_views : length (first_views_before r) ≡ length input.mems
  count_views = ap (λ (vs : List ViewParts). length vs) ((record_of_law turn i r h.lawful h.law).views 0 (omega arith)) ∙ count-views_in turn i 0 ∙ as_many

  pub count_args : length input.args ≡ length input.mems
  count_args =
      ap (λ (j : Input). length j.args) h.stands ∙ edited_count-args i edits ∙ (lawful_input i h.lawful).same_count ∙ as_many

  -- A process that the edits do not name begins with what it had.
  pub unnamed_same : (left : List ℕ) → left ≡ processes_in (named (length input.mems) edits) → (p : ℕ) → p < length input.mems → (Contains left p → ⊥) → HasSameMemory (Some r) input p × HasSameArgs (Some r) input p
  unnamed_same left all p l away =
      let n = length input.mems in
      let by_args = out_of_members _ (flat_map arg_pids edits) p (none_of (named n edits) p left (omega (arith, l, length-named n edits)) all away) in
      let by_words = out_of_members (replicate n false) (flat_map word_pids edits) p by_args.0 in
      let view = first_view turn input r p record { input_before = i; lawful = h.lawful; law = h.law; stands = as_many } l in (
        of_some (SameMemory input p) r (ap (λ (v : ViewParts). v.memory) view ∙ first_memory turn i p ∙ sym (same_memory i edits p by_words.1) ∙ sym (ap (λ (j : Input). get_or j.mems p []) h.stands)),
        of_some (SameArgs input p) r (ap (λ (v : ViewParts). v.args) view ∙ sym (same_args i edits p by_args.1) ∙ sym (ap (λ (j : Input). get_or j.args p []) h.stands)),
      )

-- Of the processes that are not left, those are marked that have something else.
pub record AreMarkedBut (Same Other : ℕ → Type 0) (n : ℕ) (left : List ℕ) (marks : List Bool) : Type 0 where
  pub count : length marks ≡ n
  pub clean : (p : ℕ) → p < n → (Contains left p → ⊥) → get_or marks p true ≡ false → Same p
  pub other : (p : ℕ) → p < n → get_or marks p false ≡ true → Other p

abbrev pub AreArgsMarkedBut : Run → Input → List ℕ → List Bool → Type 0
AreArgsMarkedBut r input = AreMarkedBut (HasSameArgs (Some r) input) (HasOtherArgs (Some r) input) (length input.mems)

abbrev pub AreFirstMarkedBut : Run → Input → List ℕ → List Bool → Type 0
AreFirstMarkedBut r input =
    AreMarkedBut (λ p. HasSameMemory (Some r) input p × HasSameArgs (Some r) input p) (λ p. HasOtherMemory (Some r) input p ⊎ HasOtherArgs (Some r) input p) (length input.mems)

-- before any process is compared
pub none_marked : (Same Other : ℕ → Type 0) (n : ℕ) (left : List ℕ) (marks : List Bool) → marks ≡ replicate n false → ((p : ℕ) → p < n → (Contains left p → ⊥) → Same p) → AreMarkedBut Same Other n left marks
none_marked Same Other n left marks none same = subst (AreMarkedBut Same Other n left) (sym none) record {
  count = length-replicate n false;
  clean = λ p l away _. same p l away;
  other = λ p l there. absurd (false≢true (sym (get_or-replicate n p false false l) ∙ there));
}

-- one process more
pub marked_more : (Same Other : ℕ → Type 0) (n q : ℕ) (later left : List ℕ) (same : Bool) (marks next : List Bool) → left ≡ q ∷ later → next ≡ cond same marks (slice_set marks q true) → MatchBool same (Same q) (Other q)
    → AreMarkedBut Same Other n left marks → AreMarkedBut Same Other n later next
marked_more Same Other n q later left false marks next rest put found h = subst (AreMarkedBut Same Other n later) (sym put) record {
  count = length-set marks q true ∙ h.count;
  clean = λ p l away out. let before = out_before marks q p out in h.clean p l (none_left q later left p rest before.1 away) before.0;
  other = λ p l there. elim (cases_eq p q) [
    | inl here ↦ subst Other (sym here) found
    | inr ne ↦ h.other p l (sym (get_or-set_other marks q p true false ne) ∙ there)
  ];
}
marked_more Same Other n q later left true marks next rest put found h = subst (AreMarkedBut Same Other n later) (sym put) record {
  count = h.count;
  clean = λ p l away out. elim (cases_eq p q) [
    | inl here ↦ subst Same (sym here) found
    | inr ne ↦ h.clean p l (none_left q later left p rest ne away) out
  ];
  other = h.other;
}

-- what a comparison tells
pub told : (P : Run → Type 0) (r : Run) (same : Bool) → IsTrue same ↔ P r → MatchBool same (ForSome (Some r) P) (ForSome (Some r) (λ k. P k → ⊥))
told P r true h = of_some P r (h.0 refl)
told P r false h = of_some (λ k. P k → ⊥) r (λ p. false≢true (h.1 p))

pub both_told : (A B C D : Type 0) (a b : Bool) → MatchBool a A B → MatchBool b C D → MatchBool (a && b) (C × A) (D ⊎ B)
both_told A B C D true true h k = (k, h)
both_told A B C D true false h k = inl k
both_told A B C D false b h k = inr h
