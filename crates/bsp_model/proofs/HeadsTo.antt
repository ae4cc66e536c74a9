-- Whose puts are to processes of a set, by the heads of all puts in one list.
use Rattle.std.proofs.Common.{◌≡◌, ◌≤◌, ◌<◌, ℕ, zero, suc, ◌+◌, ◌-◌, Bool, true, false, List, [], ◌∷◌, length, get_or, map, refl, sym, ap, ◌∙◌, subst, arith, inl, inr}
use Rattle.std.specs.Prelude.{All, slice_index_or, slice_range}
use Rattle.std.proofs.lemmas.Bool.{cases_lt}
use Rattle.std.proofs.lemmas.List.{get_or_past}
use Rattle.std.proofs.lemmas.List.Edits.{length-between, get_or-between}
use Rattle.bsp_model.specs.declared.request.Put.{Put}
use Rattle.bsp_model.specs.declared.block.PutHead.{PutHead}
use Rattle.bsp_model.specs.Columns.{row_at}
use Rattle.bsp_model.specs.PutsTo.{AreToNone}
use Rattle.bsp_model.specs.Inside.Blocks.{blocks_of}
use Rattle.bsp_model.specs.Inside.Columns.{pair_at, paired}
use Rattle.bsp_model.specs.Inside.Blocks.{rows_from}
use Rattle.bsp_model.specs.Inside.Rows.{rows_of, AreEnds}
use Rattle.bsp_model.proofs.BlocksOf.{no_blocks}
use Rattle.bsp_model.proofs.PairedColumns.{row_from-pair}
use Rattle.bsp_model.proofs.RowsOf.{end-within, get_or-rows_of, length-rows_of}
use Rattle.bsp_model.proofs.RowsBetween.{start_at, start_at-below}

-- the put of a head and its words
abbrev pub put_of : PutHead × (List ℕ) → Put
put_of row = record { target = row.0.target; start = row.0.start; words = row.1 }

abbrev pub puts_of : List (PutHead × ℕ) → List ℕ → List Put
puts_of heads words = blocks_of put_of heads words

no_puts : puts_of [] [] ≡ []
no_puts = no_blocks put_of []

-- a put is to the process of its head

length-puts : (start : ℕ) (heads : List (PutHead × ℕ)) (words : List ℕ) → length (map put_of (rows_from start heads words)) ≡ length heads
unfolding rows_from
length-puts start [] words = refl
length-puts start (head ∷ heads) words = ap suc (length-puts head.1 heads words)

target-put : (start : ℕ) (heads : List (PutHead × ℕ)) (words : List ℕ) (i : ℕ) (d : Put) (h : PutHead × ℕ) → i < length heads
    → (get_or (map put_of (rows_from start heads words)) i d).target ≡ (get_or heads i h).0.target
unfolding rows_from
target-put start [] words i d h within = absurd (omega arith)
target-put start (head ∷ heads) words zero d h within = refl
target-put start (head ∷ heads) words (suc i) d h within = target-put head.1 heads words i d h (omega arith)

-- whether a put with this head is to a process of the set
abbrev pub is_to : List Bool → PutHead × ℕ → Bool
is_to targets head = slice_index_or targets head.0.target false

abbrev pub AreHeadsToNone : List Bool → List (PutHead × ℕ) → Type 0
AreHeadsToNone targets heads = All (λ head. is_to targets head ≡ false) heads

some_head : PutHead × ℕ
some_head = (record { target = 0; start = 0 }, 0)

some_put : Put
some_put = record { target = 0; start = 0; words = [] }

puts_to_none : (targets : List Bool) (heads : List (PutHead × ℕ)) (words : List ℕ) → AreHeadsToNone targets heads → AreToNone targets (puts_of heads words)
puts_to_none targets heads words none i d within =
    let inside : i < length heads = omega (arith, within, length-puts 0 heads words) in
    ap (λ t. slice_index_or targets t false) (target-put 0 heads words i d some_head inside) ∙ none i some_head inside

heads_to_none : (targets : List Bool) (heads : List (PutHead × ℕ)) (words : List ℕ) → AreToNone targets (puts_of heads words) → AreHeadsToNone targets heads
heads_to_none targets heads words none i h within =
    ap (λ t. slice_index_or targets t false) (sym (target-put 0 heads words i some_put h within)) ∙ none i some_put (omega (arith, within, length-puts 0 heads words))

-- The heads of a process lie between the end of those of the process before it and their own end.

heads_between : (targets : List Bool) (items : List (PutHead × ℕ)) (ends : List ℕ) (from k place : ℕ) → AreEnds 0 ends (length items) → from ≤ k → (k < length ends → get_or ends k 0 ≤ place)
    → ((j : ℕ) (h : PutHead × ℕ) → start_at 0 ends from ≤ j → j < place → is_to targets (get_or items j h) ≡ false) → AreHeadsToNone targets (row_at (rows_of 0 items ends) k)
heads_between targets items ends from k place are order ended none =
    let P : List (PutHead × ℕ) → Type 0 = λ row. AreHeadsToNone targets row in
    elim (cases_lt k (length ends)) [
      | inl here ↦
          let a = start_at 0 ends k in
          let b = get_or ends k 0 in
          let high : b ≤ length items = end-within 0 ends (length items) k are here in
          let low : start_at 0 ends from ≤ a = start_at-below ends (length items) from k are order (omega (arith, here)) in
          subst P (sym (get_or-rows_of 0 items ends k here)) (λ i h within.
          let inside : a + i < b = omega (arith, within, length-between items a b high) in
          ap (is_to targets) (get_or-between items a b i h inside) ∙ none (a + i) h (omega (arith, low)) (omega (arith, inside, ended here)))
      | inr past ↦
          subst P (sym (get_or_past (rows_of 0 items ends) k [] (omega (arith, past, length-rows_of 0 items ends)))) (λ i h within. absurd (omega (arith, within)))
    ]

pub puts_between : (targets : List Bool) (rows : List (List Put)) (pairs : (List (List (PutHead × ℕ))) × (List (List ℕ))) (items : List (PutHead × ℕ)) (ends : List ℕ) (from k place : ℕ)
    → paired puts_of pairs.0 pairs.1 ≡ rows → rows_of 0 items ends ≡ pairs.0 → AreEnds 0 ends (length items) → from ≤ k → (k < length ends → get_or ends k 0 ≤ place)
    → ((j : ℕ) (h : PutHead × ℕ) → start_at 0 ends from ≤ j → j < place → is_to targets (get_or items j h) ≡ false) → AreToNone targets (row_at rows k)
puts_between targets rows pairs items ends from k place is firsts are order ended none =
    let P : List Put → Type 0 = λ puts. AreToNone targets puts in
    subst P (row_from-pair puts_of pairs rows k (pair_at pairs k) no_puts is refl)
    (puts_to_none targets (row_at pairs.0 k) (row_at pairs.1 k)
    (subst (λ hs. AreHeadsToNone targets (row_at hs k)) firsts (heads_between targets items ends from k place are order ended none)))

-- the last row ends where the list does
last_end : (start : ℕ) (ends : List ℕ) (count : ℕ) → AreEnds start ends count → start_at start ends (length ends) ≡ count
last_end start [] count are = are
last_end start (end ∷ ends) count are = last_end end ends count are.1

-- The row that is the first to end behind a place has the item at that place.
begins_before : (ends : List ℕ) (from next place : ℕ) → from ≤ next → start_at 0 ends from ≤ place → ((k : ℕ) → from ≤ k → k < next → get_or ends k 0 ≤ place) → start_at 0 ends next ≤ place
begins_before ends from zero place order low ended = omega (arith)
begins_before ends from (suc next) place order low ended =
    elim (cases_lt next from) [
      | inl last ↦ let same : from ≡ suc next = omega (arith, last, order) in rw same at low
      | inr before ↦ ended next before (omega arith)
    ]

pub ends_behind : (ends : List ℕ) (count from next place : ℕ) → AreEnds 0 ends count → from ≤ next → next ≤ length ends → start_at 0 ends from ≤ place → place < count → ((k : ℕ) → from ≤ k → k < next → get_or ends k 0 ≤ place) → next < length ends
ends_behind ends count from next place are order within low inside ended =
    elim (cases_lt next (length ends)) [
      | inl here ↦ here
      | inr past ↦
          let last : next ≡ length ends = omega (arith, past, within) in
          let begins : start_at 0 ends next ≤ place = begins_before ends from next place order low ended in
          absurd (omega (arith, begins, inside, ap (start_at 0 ends) last, last_end 0 ends count are))
    ]

pub put_there : (targets : List Bool) (rows : List (List Put)) (pairs : (List (List (PutHead × ℕ))) × (List (List ℕ))) (items : List (PutHead × ℕ)) (ends : List ℕ) (from next place : ℕ)
    → paired puts_of pairs.0 pairs.1 ≡ rows → rows_of 0 items ends ≡ pairs.0 → AreEnds 0 ends (length items) → from ≤ next → next < length ends → start_at 0 ends from ≤ place
    → ((k : ℕ) → from ≤ k → k < next → get_or ends k 0 ≤ place) → place < get_or ends next 0
    → ((h : PutHead × ℕ) → is_to targets (get_or items place h) ≡ true) → AreToNone targets (row_at rows next) → ⊥
put_there targets rows pairs items ends from next place is firsts are order within low ended behind hit none =
    let a = start_at 0 ends next in
    let b = get_or ends next 0 in
    let i = place - a in
    let begins : a ≤ place = begins_before ends from next place order low ended in
    let high : b ≤ length items = end-within 0 ends (length items) next are within in
    let at : a + i ≡ place = omega (arith, begins) in
    let inside : a + i < b = omega (arith, at, behind) in
    let row : row_at pairs.0 next ≡ slice_range items a b = ap (λ hs. row_at hs next) (sym firsts) ∙ get_or-rows_of 0 items ends next within in
    let few : i < length (row_at pairs.0 next) = omega (arith, ap length row, length-between items a b high, inside) in
    let misses : AreHeadsToNone targets (row_at pairs.0 next) =
    heads_to_none targets (row_at pairs.0 next) (row_at pairs.1 next) (subst (λ puts. AreToNone targets puts) (sym (row_from-pair puts_of pairs rows next (pair_at pairs next) no_puts is refl)) none) in
    let missed : is_to targets (get_or (row_at pairs.0 next) i some_head) ≡ false = misses i some_head few in
    let same : get_or (row_at pairs.0 next) i some_head ≡ get_or items place some_head =
    ap (λ hs. get_or hs i some_head) row ∙ get_or-between items a b i some_head inside ∙ ap (λ n. get_or items n some_head) at in
    let clash : true ≡ false = sym (hit some_head) ∙ ap (is_to targets) (sym same) ∙ missed in
    cc
