-- What the puts of the root write.
use Rattle.std.proofs.Common.{◌&&◌, ◌+◌, ◌<◌, ◌==◌, Bool, List, None, Some, [], ap, arith, cond, false, filter, get_or, inl, inr, length, map, nat_le, nat_lt, not, refl, set, suc, sym, true, zero, ℕ, ◌∙◌, ◌∷◌, ◌≡◌, ◌≢◌, ◌≤◌}
use Rattle.std.proofs.lemmas.Bool.{cases_eq, cases_lt}
use Rattle.std.proofs.lemmas.List.{get_or-set_other, get_or-set_same}
use Rattle.std.proofs.lemmas.Bool.Decides.{nat_tests}
use Rattle.bsp_model.specs.declared.request.Put.{Put}
use Rattle.bsp_deliver.specs.Delivery.{word_of, write_of, written}
use Rattle.bsp_deliver.proofs.Writes.{written-append}
use Rattle.bsp_right.proofs.BroadcastTurns.{others, tell, tells}
use Rattle.bsp_right.proofs.PrefixRun.{silent}
use Rattle.bsp_right.proofs.WordsWritten.{writes_to, written_by, written_by-last, written_by-none}

-- what they leave at word a of process d
abbrev pub told : ℕ → ℕ → ℕ → ℕ → ℕ → ℕ → ℕ → ℕ
told own word d a k m w = written (map write_of (filter (λ (q : Put). q.target == d) (map (tell word) (others own k m)))) a w

not_covered : (b : ℕ) → (nat_le 0 (suc b) && nat_lt (suc b) 1) ≡ false
not_covered b = grind (arith, nat_tests)

one_later : (word pid b w : ℕ) → written (write_of (tell word pid) ∷ []) (suc b) w ≡ w
one_later word pid b w = ap (λ t. word_of (suc b) (cond t (Some (write_of (tell word pid))) None) w) (not_covered b)

pub told-later : (own word d b m k w : ℕ) → told own word d (suc b) k m w ≡ w
told-later own word d b zero k w = refl
told-later own word d b (suc m) k w =
    let rest = filter (λ (q : Put). q.target == d) (map (tell word) (others own (k + 1) m)) in
    elim (k == own) as (λ t. written (map write_of (filter (λ (q : Put). q.target == d) (map (tell word) (cond (not t) (k ∷ others own (k + 1) m) (others own (k + 1) m))))) (suc b) w ≡ w) [
      | true ↦ told-later own word d b m (k + 1) w
      | false ↦
          elim (k == d) as (λ t. written (map write_of (cond t (tell word k ∷ rest) rest)) (suc b) w ≡ w) [
            | true ↦ written-append (write_of (tell word k) ∷ []) (map write_of rest) (suc b) w ∙ ap (written (map write_of rest) (suc b)) (one_later word k b w) ∙ told-later own word d b m (k + 1) w
            | false ↦ told-later own word d b m (k + 1) w
          ]
    ]

pub told-same : (own word d m k : ℕ) → told own word d 0 k m word ≡ word
told-same own word d zero k = refl
told-same own word d (suc m) k =
    let rest = filter (λ (q : Put). q.target == d) (map (tell word) (others own (k + 1) m)) in
    elim (k == own) as (λ t. written (map write_of (filter (λ (q : Put). q.target == d) (map (tell word) (cond (not t) (k ∷ others own (k + 1) m) (others own (k + 1) m))))) 0 word ≡ word) [
      | true ↦ told-same own word d m (k + 1)
      | false ↦
          elim (k == d) as (λ t. written (map write_of (cond t (tell word k ∷ rest) rest)) 0 word ≡ word) [
            | true ↦ written-append (write_of (tell word k) ∷ []) (map write_of rest) 0 word ∙ told-same own word d m (k + 1)
            | false ↦ told-same own word d m (k + 1)
          ]
    ]

-- nothing is told to oneself
own_if : (t : Bool) (own word a m k w : ℕ) → (k == own) ≡ t → told own word own a (k + 1) m w ≡ w → told own word own a k (suc m) w ≡ w
own_if true own word a m k w e h =
    ap (λ t. written (map write_of (filter (λ (q : Put). q.target == own) (map (tell word) (cond (not t) (k ∷ others own (k + 1) m) (others own (k + 1) m))))) a w) e ∙ h
own_if false own word a m k w e h =
    let rest = filter (λ (q : Put). q.target == own) (map (tell word) (others own (k + 1) m)) in
    ap (λ t. written (map write_of (filter (λ (q : Put). q.target == own) (map (tell word) (cond (not t) (k ∷ others own (k + 1) m) (others own (k + 1) m))))) a w) e
    ∙ ap (λ t. written (map write_of (cond t (tell word k ∷ rest) rest)) a w) e ∙ h

pub told-own : (own word a m k w : ℕ) → told own word own a k m w ≡ w
told-own own word a zero k w = refl
told-own own word a (suc m) k w = own_if (k == own) own word a m k w refl (told-own own word a m (k + 1) w)

-- the word itself is told to each other
other_here : (own word d m k w : ℕ) → d ≢ own → k ≡ d → told own word d 0 k (suc m) w ≡ word
other_here own word d m k w apart here =
    let rest = filter (λ (q : Put). q.target == d) (map (tell word) (others own (k + 1) m)) in
    let not_own : (k == own) ≡ false = grind (arith, nat_tests) in
    let target : (k == d) ≡ true = grind (arith, nat_tests) in
    ap (λ t. written (map write_of (filter (λ (q : Put). q.target == d) (map (tell word) (cond (not t) (k ∷ others own (k + 1) m) (others own (k + 1) m))))) 0 w) not_own
    ∙ ap (λ t. written (map write_of (cond t (tell word k ∷ rest) rest)) 0 w) target
    ∙ written-append (write_of (tell word k) ∷ []) (map write_of rest) 0 w
    ∙ told-same own word d m (k + 1)

pub told-other : (own word d m k w : ℕ) → d ≢ own → k ≤ d → d < k + m → told own word d 0 k m w ≡ word
told-other own word d zero k w apart low high = absurd (omega arith)
told-other own word d (suc m) k w apart low high =
    let rest = filter (λ (q : Put). q.target == d) (map (tell word) (others own (k + 1) m)) in
    elim (cases_lt k d) [
      | inl less ↦
          elim (k == own) as (λ t. written (map write_of (filter (λ (q : Put). q.target == d) (map (tell word) (cond (not t) (k ∷ others own (k + 1) m) (others own (k + 1) m))))) 0 w ≡ word) [
            | true ↦ told-other own word d m (k + 1) w apart (omega arith) (omega arith)
            | false ↦
                elim (k == d) as (λ t. written (map write_of (cond t (tell word k ∷ rest) rest)) 0 w ≡ word) [
                  | true ↦ written-append (write_of (tell word k) ∷ []) (map write_of rest) 0 w ∙ told-other own word d m (k + 1) word apart (omega arith) (omega arith)
                  | false ↦ told-other own word d m (k + 1) w apart (omega arith) (omega arith)
                ]
          ]
      | inr more ↦ other_here own word d m k w apart (omega arith)
    ]

not_root : (root p : ℕ) → root < p → (root == p) ≡ false
not_root root p h = grind (arith, nat_tests)

root_if : (t : Bool) (n root word d p : ℕ) (memory : ℕ → List ℕ) (w : ℕ) → (root == p) ≡ t → d ≡ root → ((q v : ℕ) → (root == q) ≡ false → written (writes_to d (tells n root word memory q)) 0 v ≡ v) → written (writes_to d (tells n root word memory p)) 0 w ≡ w
root_if false n root word d p memory w e same silent = silent p w e
root_if true n root word d p memory w e same silent =
    let here : root ≡ p = grind (arith, nat_tests) in
    ap (λ t. written (map write_of (filter (λ (q : Put). q.target == d) (cond t (map (tell word) (others p 0 n)) []))) 0 w) e
    ∙ ap (λ k. told p word k 0 0 n w) (same ∙ here)
    ∙ told-own p word 0 n 0 w

-- word by word after the delivery of the root's puts
pub tells_written : (n root word d a : ℕ) (memory : ℕ → List ℕ) → d < n → root < n → 1 ≤ length (memory d) → word ≡ get_or (memory root) 0 0
    → written_by d a (tells n root word memory) 0 n (get_or (memory d) a 0) ≡ get_or (set (memory d) 0 word) a 0
tells_written n root word d (suc b) memory l m some is =
    written_by-none d (suc b) (tells n root word memory) n 0 (get_or (memory d) (suc b) 0) (λ p _ _.
    elim (root == p) as (λ t. written (map write_of (filter (λ (q : Put). q.target == d) (cond t (map (tell word) (others p 0 n)) []))) (suc b) (get_or (memory d) (suc b) 0) ≡ get_or (memory d) (suc b) 0) [
      | true ↦ told-later p word d b n 0 (get_or (memory d) (suc b) 0)
      | false ↦ refl
    ])
    ∙ sym (get_or-set_other (memory d) 0 (suc b) word 0 (λ e. omega (arith, e)))
tells_written n root word d zero memory l m some is =
    let set_is : get_or (set (memory d) 0 word) 0 0 ≡ word = get_or-set_same (memory d) 0 word 0 (omega arith) in
    let silent : (p : ℕ) (w : ℕ) → (root == p) ≡ false → written (writes_to d (tells n root word memory p)) 0 w ≡ w = λ p w e.
    ap (λ t. written (map write_of (filter (λ (q : Put). q.target == d) (cond t (map (tell word) (others p 0 n)) []))) 0 w) e in
    elim (cases_eq d root) [
      | inl same ↦
          written_by-none d 0 (tells n root word memory) n 0 (get_or (memory d) 0 0) (λ p _ _. root_if (root == p) n root word d p memory (get_or (memory d) 0 0) refl same silent)
          ∙ ap (λ k. get_or (memory k) 0 0) same ∙ sym is ∙ sym set_is
      | inr apart ↦
          let at_root : (root == root) ≡ true = grind (arith, nat_tests) in
          written_by-last d 0 root word (tells n root word memory) n 0 (get_or (memory d) 0 0) (omega arith) (omega arith)
          (λ w. ap (λ t. written (map write_of (filter (λ (q : Put). q.target == d) (cond t (map (tell word) (others root 0 n)) []))) 0 w) at_root ∙ told-other root word d n 0 w apart (omega arith) (omega arith))
          (λ p after _. silent p word (not_root root p after))
          ∙ sym set_is
    ]
