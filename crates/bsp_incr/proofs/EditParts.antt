-- Two edits, one after the other.
use Rattle.std.proofs.Common.{◌≡◌, ℕ, zero, suc, true, false, cond, Option, None, Some, List, [], ◌∷◌, ◌==◌, ◌&&◌, not, length, get_or, refl, ap, ◌∙◌}
use Rattle.std.specs.Prelude.{slice_set, nat_lt}
use Rattle.std.specs.Bool.{Decides}
use Rattle.std.proofs.lemmas.List.{set-set, set_comm, length-set}
use Rattle.std.proofs.lemmas.Bool.Decides.{Decides-eqb, Decides-and, not_from_Decides}
use Rattle.bsp_model.specs.declared.input.Input.{Input}
use Rattle.bsp_incr.specs.declared.edit.Edit.{Edit}
use Rattle.bsp_incr.specs.declared.edit.Edit.TheVariants.{Word, Arg, Limit, Prices}
use Rattle.bsp_incr.specs.declared.edit.EditFault.{EditFault}
use Rattle.bsp_incr.specs.declared.edit.EditFault.TheVariants as why
use Rattle.bsp_incr.specs.Edits.{edit_fault, with_number, edited_by}
use Rattle.bsp_incr.proofs.Unchanged.{same_number}
use Rattle.bsp_incr.specs.Undo.{same_part, former_of}

-- numbers at two places, or at one

number_twice : (ls : List (List ℕ)) (p a x y : ℕ) → with_number (with_number ls p a x) p a y ≡ with_number ls p a y
number_twice [] p a x y = refl
number_twice (m ∷ ls) zero a x y = ap (λ (n : List ℕ). n ∷ ls) (set-set m a x y)
number_twice (m ∷ ls) (suc p) a x y = ap (λ (ms : List (List ℕ)). m ∷ ms) (number_twice ls p a x y)

numbers_commute : (ls : List (List ℕ)) (p a x q b y : ℕ) → ((p ≡ q) × (a ≡ b) → ⊥) → with_number (with_number ls p a x) q b y ≡ with_number (with_number ls q b y) p a x
numbers_commute [] p a x q b y ne = refl
numbers_commute (m ∷ ls) zero a x zero b y ne = ap (λ (n : List ℕ). n ∷ ls) (set_comm m a b x y (λ e. ne (refl, e)))
numbers_commute (m ∷ ls) zero a x (suc q) b y ne = refl
numbers_commute (m ∷ ls) (suc p) a x zero b y ne = refl
numbers_commute (m ∷ ls) (suc p) a x (suc q) b y ne = ap (λ (ms : List (List ℕ)). m ∷ ms) (numbers_commute ls p a x q b y (λ e. ne (ap suc e.0, e.1)))

same_length : (ls : List (List ℕ)) (p a x q : ℕ) → length (get_or (with_number ls p a x) q []) ≡ length (get_or ls q [])
same_length [] p a x q = refl
same_length (m ∷ ls) zero a x zero = length-set m a x
same_length (m ∷ ls) zero a x (suc q) = refl
same_length (m ∷ ls) (suc p) a x zero = refl
same_length (m ∷ ls) (suc p) a x (suc q) = same_length ls p a x q

one_place : (p a q b : ℕ) → Decides ((p == q) && (a == b)) ((p ≡ q) × (a ≡ b))
one_place p a q b = Decides-and (p == q) (a == b) (Decides-eqb p q) (Decides-eqb a b)

last_number : (ls : List (List ℕ)) (p a x q b y : ℕ) → (p == q) && (a == b) ≡ true → with_number (with_number ls p a x) q b y ≡ with_number ls q b y
last_number ls p a x q b y h =
    let same : (p ≡ q) × (a ≡ b) = (one_place p a q b).0 h in
    ap (λ k. with_number (with_number ls k a x) q b y) same.0 ∙ ap (λ k. with_number (with_number ls q k x) q b y) same.1 ∙ number_twice ls q b x y

other_number : (ls : List (List ℕ)) (p a x q b y : ℕ) → (p == q) && (a == b) ≡ false → with_number (with_number ls p a x) q b y ≡ with_number (with_number ls q b y) p a x
other_number ls p a x q b y h = numbers_commute ls p a x q b y (not_from_Decides ((p == q) && (a == b)) (one_place p a q b) h)

-- of two edits of one part the later counts
pub last_wins : (i : Input) (d e : Edit) → same_part d e ≡ true → edited_by (edited_by i d) e ≡ edited_by i e
last_wins i (Word p a x) (Word q b y) h = ap (λ (ms : List (List ℕ)). record i { mems = ms }) (last_number i.mems p a x q b y h)
last_wins i (Word p a x) (Arg q b y) h = cc
last_wins i (Word p a x) (Limit n) h = cc
last_wins i (Word p a x) (Prices g l) h = cc
last_wins i (Arg p a x) (Arg q b y) h = ap (λ (ms : List (List ℕ)). record i { args = ms }) (last_number i.args p a x q b y h)
last_wins i (Arg p a x) (Word q b y) h = cc
last_wins i (Arg p a x) (Limit n) h = cc
last_wins i (Arg p a x) (Prices g l) h = cc
last_wins i (Limit m) (Limit n) h = refl
last_wins i (Limit m) (Word q b y) h = cc
last_wins i (Limit m) (Arg q b y) h = cc
last_wins i (Limit m) (Prices g l) h = cc
last_wins i (Prices k m) (Prices g l) h = refl
last_wins i (Prices k m) (Word q b y) h = cc
last_wins i (Prices k m) (Arg q b y) h = cc
last_wins i (Prices k m) (Limit n) h = cc

-- edits of different parts may be made in either order
pub commute : (i : Input) (d e : Edit) → same_part d e ≡ false → edited_by (edited_by i d) e ≡ edited_by (edited_by i e) d
commute i (Word p a x) (Word q b y) h = ap (λ (ms : List (List ℕ)). record i { mems = ms }) (other_number i.mems p a x q b y h)
commute i (Word p a x) (Arg q b y) h = refl
commute i (Word p a x) (Limit n) h = refl
commute i (Word p a x) (Prices g l) h = refl
commute i (Arg p a x) (Arg q b y) h = ap (λ (ms : List (List ℕ)). record i { args = ms }) (other_number i.args p a x q b y h)
commute i (Arg p a x) (Word q b y) h = refl
commute i (Arg p a x) (Limit n) h = refl
commute i (Arg p a x) (Prices g l) h = refl
commute i (Limit m) (Limit n) h = cc
commute i (Limit m) (Word q b y) h = refl
commute i (Limit m) (Arg q b y) h = refl
commute i (Limit m) (Prices g l) h = refl
commute i (Prices k m) (Prices g l) h = cc
commute i (Prices k m) (Word q b y) h = refl
commute i (Prices k m) (Arg q b y) h = refl
commute i (Prices k m) (Limit n) h = refl

-- no edit changes which edits are accepted

abbrev there : EditFault → (p n a m : ℕ) → Option EditFault
there fault p n a m = cond (not (nat_lt p n)) (Some why.NoSuchProcess) (cond (not (nat_lt a m)) (Some fault) None)

pub fault_stays : (i : Input) (d e : Edit) → edit_fault (edited_by i d) e ≡ edit_fault i e
fault_stays i (Word p a x) (Word q b y) =
    ap (λ n. there why.NoSuchWord q n b (length (get_or (with_number i.mems p a x) q []))) (length-set i.mems p (slice_set (get_or i.mems p []) a x))
    ∙ ap (λ m. there why.NoSuchWord q (length i.mems) b m) (same_length i.mems p a x q)
fault_stays i (Word p a x) (Arg q b y) = ap (λ n. there why.NoSuchArg q n b (length (get_or i.args q []))) (length-set i.mems p (slice_set (get_or i.mems p []) a x))
fault_stays i (Word p a x) (Limit n) = refl
fault_stays i (Word p a x) (Prices g l) = refl
fault_stays i (Arg p a x) (Word q b y) = refl
fault_stays i (Arg p a x) (Arg q b y) = ap (λ m. there why.NoSuchArg q (length i.mems) b m) (same_length i.args p a x q)
fault_stays i (Arg p a x) (Limit n) = refl
fault_stays i (Arg p a x) (Prices g l) = refl
fault_stays i (Limit m) (Word q b y) = refl
fault_stays i (Limit m) (Arg q b y) = refl
fault_stays i (Limit m) (Limit n) = refl
fault_stays i (Limit m) (Prices g l) = refl
fault_stays i (Prices k m) (Word q b y) = refl
fault_stays i (Prices k m) (Arg q b y) = refl
fault_stays i (Prices k m) (Limit n) = refl
fault_stays i (Prices k m) (Prices g l) = refl

-- the edit that gives the value that is there

itself : (p a : ℕ) → (p == p) && (a == a) ≡ true
itself p a = (one_place p a p a).1 (refl, refl)

pub former_part : (i : Input) (e : Edit) → same_part e (former_of i e) ≡ true
former_part i (Word p a x) = itself p a
former_part i (Arg p a x) = itself p a
former_part i (Limit n) = refl
former_part i (Prices g l) = refl

pub former_there : (i : Input) (e : Edit) → edited_by i (former_of i e) ≡ i
former_there i (Word p a x) = ap (λ (ms : List (List ℕ)). record i { mems = ms }) (same_number i.mems p a (get_or (get_or i.mems p []) a 0) refl)
former_there i (Arg p a x) = ap (λ (ms : List (List ℕ)). record i { args = ms }) (same_number i.args p a (get_or (get_or i.args p []) a 0) refl)
former_there i (Limit n) = refl
former_there i (Prices g l) = refl
