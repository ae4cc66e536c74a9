-- The same stores are kept as the same ranges.
use Rattle.std.proofs.Common.{◌≡◌, ◌<◌, ◌+◌, ℕ, List, [], ◌∷◌, ◌++◌, length, get_or, take, drop, refl, sym, ap, ◌∙◌, subst, arith, suc, zero, inl, inr}
use Rattle.std.proofs.lemmas.Bool.{cases_lt}
use Rattle.std.proofs.lemmas.List.{append_cancel_left, get_or-append-add, length-take-le, length-drop}
use Rattle.bsp_model.specs.declared.request.Store.{Store}
use Rattle.bsp_model.specs.declared.range.Range.{Range}
use Rattle.bsp_model.specs.Stores.{records, words_stored}
use Rattle.bsp_model.specs.Inside.Ranges.{stores_of, AreRanges}
use Rattle.bsp_model.proofs.Ranges.{length-records}
use Rattle.bsp_model.proofs.StoredWords.{words-stores_of}

addr-records : (start : ℕ) (words : List ℕ) (more : List Store) (k : ℕ) (d : Store) → k < length words → (get_or (records start words ++ more) k d).addr ≡ start + k
addr-records start [] more k d within = absurd (omega arith)
addr-records start (word ∷ words) more zero d within = omega arith
addr-records start (word ∷ words) more (suc k) d within = addr-records (start + 1) words more k d (omega arith) ∙ omega arith

abbrev no_store : Store
no_store = record { addr = 0; value = 0 }

-- where a range goes on, another list of ranges with the same stores has no end of a range
longer_first : (r q : Range) (rs qs : List Range) (values : List ℕ) → AreRanges (r ∷ rs) values → AreRanges (q ∷ qs) values → r.start ≡ q.start → r.len < q.len → stores_of (r ∷ rs) values ≡ stores_of (q ∷ qs) values → ⊥
unfolding stores_of
longer_first r q [] qs values are other start shorter e = omega (arith, are.1, are.3, other.1, length-drop r.len values)
longer_first r q (next ∷ rs) qs values are other start shorter e =
    let left = drop r.len values in
    let count : length (take r.len values) ≡ r.len = length-take-le r.len values are.1 in
    let next_count : length (take next.len left) ≡ next.len = length-take-le next.len left are.3.1 in
    let q_count : length (take q.len values) ≡ q.len = length-take-le q.len values other.1 in
    let front = records r.start (take r.len values) in
    let behind = stores_of (next ∷ rs) left in
    let long : length front ≡ r.len = length-records r.start (take r.len values) ∙ count in
    let first : (get_or (front ++ behind) (length front + 0) no_store).addr ≡ next.start + 0 =
    ap (λ (s : Store). s.addr) (get_or-append-add front behind 0 no_store) ∙ addr-records next.start (take next.len left) (stores_of rs (drop next.len left)) 0 no_store (omega (arith, are.3.0)) in
    let second : (get_or (stores_of (q ∷ qs) values) (length front + 0) no_store).addr ≡ q.start + (length front + 0) =
    addr-records q.start (take q.len values) (stores_of qs (drop q.len values)) (length front + 0) no_store (omega (arith, long)) in
    let both : next.start + 0 ≡ q.start + (length front + 0) = sym first ∙ ap (λ (ss : List Store). (get_or ss (length front + 0) no_store).addr) e ∙ second in
    are.2 (omega (arith, both, long, start))

same_range : (r q : Range) → r.start ≡ q.start → r.len ≡ q.len → r ≡ q
same_range r q start len = λ i. record { start = start i; len = len i }

same_ranges : (rs qs : List Range) (values : List ℕ) → AreRanges rs values → AreRanges qs values → stores_of rs values ≡ stores_of qs values → rs ≡ qs
unfolding stores_of
same_ranges [] [] values are other e = refl
same_ranges [] (q ∷ qs) values are other e = absurd (omega (arith, are, other.0, other.1))
same_ranges (r ∷ rs) [] values are other e = absurd (omega (arith, other, are.0, are.1))
same_ranges (r ∷ rs) (q ∷ qs) values are other e =
    let first : r.start + 0 ≡ q.start + 0 =
    sym (addr-records r.start (take r.len values) (stores_of rs (drop r.len values)) 0 no_store (omega (arith, are.0, length-take-le r.len values are.1)))
    ∙ ap (λ (ss : List Store). (get_or ss 0 no_store).addr) e
    ∙ addr-records q.start (take q.len values) (stores_of qs (drop q.len values)) 0 no_store (omega (arith, other.0, length-take-le q.len values other.1)) in
    let start : r.start ≡ q.start = omega (arith, first) in
    let len : r.len ≡ q.len =
    elim (cases_lt r.len q.len) as (λ _. r.len ≡ q.len) [
      | inl less ↦ absurd (longer_first r q rs qs values are other start less e)
      | inr most ↦
          elim (cases_lt q.len r.len) as (λ _. r.len ≡ q.len) [
            | inl more ↦ absurd (longer_first q r qs rs values other are (sym start) more (sym e))
            | inr least ↦ omega (arith, most, least)
          ]
    ] in
    let range : r ≡ q = same_range r q start len in
    let here : records q.start (take q.len values) ++ stores_of rs (drop q.len values) ≡ stores_of (q ∷ qs) values =
    subst (λ (p : Range). records p.start (take p.len values) ++ stores_of rs (drop p.len values) ≡ stores_of (q ∷ qs) values) range e in
    let later : rs ≡ qs =
    same_ranges rs qs (drop q.len values) (subst (λ (n : ℕ). AreRanges rs (drop n values)) len are.3) other.3 (append_cancel_left (records q.start (take q.len values)) _ _ here) in
    ap (λ (p : Range). p ∷ rs) range ∙ ap (λ (ps : List Range). q ∷ ps) later

pub same_stores : (rs qs : List Range) (vs ws : List ℕ) → AreRanges rs vs → AreRanges qs ws → stores_of rs vs ≡ stores_of qs ws → (rs ≡ qs) × (vs ≡ ws)
same_stores rs qs vs ws are other e =
    let values : vs ≡ ws = sym (words-stores_of rs vs are) ∙ ap words_stored e ∙ words-stores_of qs ws other in
    (same_ranges rs qs ws (subst (AreRanges rs) values are) other (ap (stores_of rs) (sym values) ∙ e), values)
