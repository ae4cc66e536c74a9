-- Lists of answers by process, and of the processes whose answer is true.
use Rattle.std.proofs.Common.{◌≡◌, ◌<◌, ◌+◌, ℕ, zero, suc, Bool, true, false, cond, List, [], ◌∷◌, All, length, get_or, arith, refl, sym, ap, ◌∙◌, subst}
use Rattle.std.specs.Prelude.{filter, ◌&&◌}
use Rattle.std.specs.List.{range_with_len}
use Rattle.std.proofs.lemmas.List.FromFn.{get_or-map-range_with_len, get_or-range_with_len, length-map-range_with_len, length-range_with_len}
use Rattle.std.proofs.lemmas.List.Kept.{AllPairs-filter}
use Rattle.bsp_model.specs.Replaced.{IsAscending}
use Rattle.bsp_deliver.specs.Requests.{each_below}
use Rattle.bsp_model.specs.ProcessSet.{processes_where}

pub filter_from : (f g : ℕ → Bool) (a n : ℕ) → ((k : ℕ) → a < k + 1 → k < a + n → f k ≡ g k) → filter f (range_with_len a n) ≡ filter g (range_with_len a n)
filter_from f g a zero same = refl
filter_from f g a (suc n) same =
    ap (λ b. cond b (a ∷ filter f (range_with_len (a + 1) n)) (filter f (range_with_len (a + 1) n))) (same a (omega arith) (omega arith))
    ∙ ap (λ ks. cond (g a) (a ∷ ks) ks) (filter_from f g (a + 1) n (λ k low high. same k (omega arith) (omega arith)))

-- a list of answers gives the processes at which the test holds
pub processes_where-each_below : (n : ℕ) (test : ℕ → Bool) (answers : List Bool) → answers ≡ each_below n test → processes_where (length answers) (λ p. get_or answers p false) ≡ processes_where n test
processes_where-each_below n test answers e =
    let long : length answers ≡ n = ap (λ (bs : List Bool). length bs) e ∙ length-map-range_with_len test 0 n in
    ap (λ k. processes_where k (λ p. get_or answers p false)) long
    ∙ filter_from (λ p. get_or answers p false) test 0 n
    (λ k low high. ap (λ (bs : List Bool). get_or bs k false) e ∙ get_or-map-range_with_len test 0 n k k false (omega arith) (omega arith))

-- those processes are below the count
below_if : (rest : List ℕ) (m a : ℕ) (b : Bool) → a < m → ((k d : ℕ) → k < length rest → get_or rest k d < m) → (k d : ℕ) → k < length (cond b (a ∷ rest) rest) → get_or (cond b (a ∷ rest) rest) k d < m
below_if rest m a true here later zero d l = here
below_if rest m a true here later (suc k) d l = later k d (omega arith)
below_if rest m a false here later k d l = later k d l

below_from : (test : ℕ → Bool) (m a n : ℕ) → a + n < m + 1 → (k d : ℕ) → k < length (filter test (range_with_len a n)) → get_or (filter test (range_with_len a n)) k d < m
below_from test m a zero h k d l = absurd (omega arith)
below_from test m a (suc n) h k d l = below_if (filter test (range_with_len (a + 1) n)) m a (test a) (omega arith) (below_from test m (a + 1) n (omega arith)) k d l

pub processes_where-below : (n : ℕ) (test : ℕ → Bool) → All (λ p. p < n) (processes_where n test)
processes_where-below n test = λ k d l. below_from test n 0 n (omega arith) k d l

-- they stand in ascending order
pub processes_where-ascending : (n : ℕ) (test : ℕ → Bool) → IsAscending (processes_where n test)
processes_where-ascending n test =
    λ j k l lk.
    AllPairs-filter (λ a b. a < b) test (range_with_len 0 n)
    (λ i m d before lm.
    let inside : m < n = omega (arith, length-range_with_len 0 n) in
    omega (arith, before, get_or-range_with_len 0 n i d (omega arith), get_or-range_with_len 0 n m d inside))
    j k 0 l lk

twice_if : (f g : ℕ → Bool) (b : Bool) (p : ℕ) (ps : List ℕ) → filter g (filter f ps) ≡ filter (λ k. f k && g k) ps → filter g (cond b (p ∷ filter f ps) (filter f ps)) ≡ cond (b && g p) (p ∷ filter (λ k. f k && g k) ps) (filter (λ k. f k && g k) ps)
twice_if f g true p ps h = ap (λ ks. cond (g p) (p ∷ ks) ks) h
twice_if f g false p ps h = h

filter_all : (ps : List ℕ) → filter (λ _. true) ps ≡ ps
filter_all [] = refl
filter_all (p ∷ ps) = ap (λ ks. p ∷ ks) (filter_all ps)

pub listed_below : (n : ℕ) (test : ℕ → Bool) (ps : List ℕ) → ps ≡ processes_where n test → All (λ p. p < n) ps
listed_below n test ps e = subst (All (λ p. p < n)) (sym e) (processes_where-below n test)

-- Of the processes at which a test holds, those at which another holds too.
pub filter_twice : (f g : ℕ → Bool) (ps : List ℕ) → filter g (filter f ps) ≡ filter (λ p. f p && g p) ps
filter_twice f g [] = refl
filter_twice f g (p ∷ ps) = twice_if f g (f p) p ps (filter_twice f g ps)

-- all processes, where the test holds everywhere
pub all_where : (n : ℕ) (test : ℕ → Bool) → ((p : ℕ) → p < n → test p ≡ true) → processes_where n test ≡ range_with_len 0 n
all_where n test holds = filter_from test (λ _. true) 0 n (λ k low high. holds k (omega arith)) ∙ filter_all (range_with_len 0 n)
