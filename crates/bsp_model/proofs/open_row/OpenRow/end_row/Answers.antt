use Rattle.std.proofs.Common.{◌≡◌, ◌≤◌, ◌+◌, ◌-◌, ◌++◌, ◌∷◌, [], ℕ, List, length, take, drop, refl, sym, ap, ◌∙◌, subst, arith}
use Rattle.std.proofs.lemmas.List.{length_push, length-take-le, length-drop, take_all, take-append-drop, get_or_append_left, get_or_push, get_or_past}
use Rattle.bsp_model.specs.Columns.{row_at, IsPut}
use Rattle.bsp_model.specs.Opened.{Opened}
use Rattle.bsp_model.specs.Inside.Rows.{rows_of, AreEnds}
use Rattle.bsp_model.proofs.RowsOf.{length-rows_of, rows_of-push, AreEnds-push}
use Rattle.bsp_model.proofs.RowsCut.{rows_of-empty, AreEnds-empty, row_at-empty}
use Rattle.bsp_model.proofs.open_row.OpenRow.end_row.Given
use Rattle.bsp_model.proofs.open_row.OpenRow.end_row.Goals as goal

-- an empty row more
empty_more : {X : Type 0} (items : List X) (ends new : List ℕ) (start : ℕ) → AreEnds 0 ends start → start ≤ length items → new ≡ ends ++ start ∷ [] → (k : ℕ) → row_at (rows_of 0 (take start items) new) k ≡ row_at (rows_of 0 (take start items) ends) k
empty_more items ends new start are within is k =
    let front = take start items in
    let long : length front ≡ start = length-take-le start items within in
    ap (λ (es : List ℕ). row_at (rows_of 0 front es) k) (is ∙ ap (λ n. ends ++ n ∷ []) (sym long))
    ∙ ap (λ rows. row_at rows k) (rows_of-empty front ends (subst (AreEnds 0 ends) (sym long) are))
    ∙ row_at-empty (rows_of 0 front ends) k

-- the open row is a row
open_more : {X : Type 0} (items : List X) (ends new : List ℕ) (start len : ℕ) → AreEnds 0 ends start → start ≤ length items → len ≡ length items → new ≡ ends ++ len ∷ [] → rows_of 0 (take len items) new ≡ rows_of 0 (take start items) ends ++ drop start items ∷ []
open_more items ends new start len are within whole is =
    let front = take start items in
    let rest = drop start items in
    let long : length front ≡ start = length-take-le start items within in
    let end : len ≡ length front + length rest = omega (arith, whole, long, length-drop start items) in
    ap (λ xs. rows_of 0 xs new) (take_all len items (omega (arith, whole)) ∙ sym (take-append-drop start items))
    ∙ ap (rows_of 0 (front ++ rest)) (is ∙ ap (λ n. ends ++ n ∷ []) end)
    ∙ rows_of-push front rest ends (subst (AreEnds 0 ends) (sym long) are)

-- a row behind rows that may have got empty ones
put_behind : {X : Type 0} (old filled new : List (List X)) (place : ℕ) (row last : List X) → ((k : ℕ) → row_at filled k ≡ row_at old k) → length filled ≡ place → new ≡ filled ++ row ∷ [] → row ≡ last → IsPut [] (row_at old) place last (row_at new)
put_behind old filled new place row last same long is given = record {
  before = λ k below. ap (λ rows. row_at rows k) is ∙ get_or_append_left filled (row ∷ []) [] k (omega (arith, below, long)) ∙ same k;
  there = ap (λ rows. row_at rows place) is ∙ get_or_push filled row [] place long ∙ given;
  behind = λ k above. ap (λ rows. row_at rows k) is ∙ get_or_past (filled ++ row ∷ []) k [] (omega (arith, above, long, length_push filled row));
}

pub loop-self-init : goal.loop-self-init
loop-self-init g c = record {
  items = refl;
  start = refl;
  ends = c.self.invariant.ends_there;
  few = omega (arith, c.requires, length-rows_of 0 (take c.self.inside.start c.self.inside.items.items) c.self.inside.ends.items, ap (λ (o : Opened _). length o.rows) c.self.view_is);
  same = λ k. refl;
}

pub loop-self-preserved : goal.loop-self-preserved
loop-self-preserved g c =
    let r = c.loop-self.self-inside in
    let kept = c.loop-self.invariant in
    let inside : r.start ≤ length r.items.items = subst (λ v. r.start ≤ length v.items) (sym kept.items) (omega (arith, c.self.invariant.inside, kept.start)) in
    let new : c.push.new.self.items ≡ r.ends.items ++ r.start ∷ [] = c.in_ok-push.ensures.items in
    record {
      items = kept.items;
      start = kept.start;
      ends = rw new (AreEnds-empty r.ends.items r.start kept.ends);
      few = omega (arith, ap length new, length_push r.ends.items r.start, r.ends.ok);
      same = λ k. empty_more r.items.items r.ends.items c.push.new.self.items r.start kept.ends inside new k ∙ kept.same k;
    }

pub returns-in_err-push-clause-few : goal.returns-in_err-push-clause-few
returns-in_err-push-clause-few g c =
    let r = c.loop-self.self-inside in
    omega (arith, length-rows_of 0 (take r.start r.items.items) c.push.new.self.items, ap length c.in_err-push.ensures.items, c.loop-self.invariant.few)

pub returns-in_err-reserve-clause-few : goal.returns-in_err-reserve-clause-few
returns-in_err-reserve-clause-few g c =
    let r = c.loop-self.self-inside in
    omega (arith, length-rows_of 0 (take r.start r.items.items) c.reserve.new.self.items, ap length c.in_err-reserve.ensures.items, c.loop-self.invariant.few)

pub invariant_of-self-2 : goal.invariant_of-self-2
invariant_of-self-2 g c =
    let r = c.loop-self.self-inside in
    let kept = c.loop-self.invariant in
    let inside : r.start ≤ length r.items.items = subst (λ v. r.start ≤ length v.items) (sym kept.items) (omega (arith, c.self.invariant.inside, kept.start)) in
    let whole : c.len-self-inside.result ≡ length r.items.items = c.len-self-inside.ensures ∙ r.items.ok.0 in
    let end : c.len-self-inside.result ≡ r.start + (length r.items.items - r.start) = omega (arith, whole, inside) in
    let new : c.push_reserved.new.self.items ≡ r.ends.items ++ c.len-self-inside.result ∷ [] = c.push_reserved.ensures.items ∙ ap (λ (es : List ℕ). es ++ c.len-2.result ∷ []) c.in_ok-reserve.ensures.items ∙ ap (λ n. r.ends.items ++ n ∷ []) (c.len-2.ensures ∙ sym c.len-self-inside.ensures) in
    record {
      ends_there = rw (new, end) (AreEnds-push r.ends.items r.start (length r.items.items - r.start) kept.ends);
      inside = omega (arith, whole);
    }

ended : (g : Given.Over) (c : goal.After-self-1 g) → IsPut [] (row_at c.args.self.now.rows) c.args.place c.args.self.now.last (row_at (rows_of 0 (take c.len-self-inside.result c.loop-self.self-inside.items.items) c.push_reserved.new.self.items))
ended g c =
    let r = c.loop-self.self-inside in
    let kept = c.loop-self.invariant in
    let inside : r.start ≤ length r.items.items = subst (λ v. r.start ≤ length v.items) (sym kept.items) (omega (arith, c.self.invariant.inside, kept.start)) in
    let whole : c.len-self-inside.result ≡ length r.items.items = c.len-self-inside.ensures ∙ r.items.ok.0 in
    let new : c.push_reserved.new.self.items ≡ r.ends.items ++ c.len-self-inside.result ∷ [] = c.push_reserved.ensures.items ∙ ap (λ (es : List ℕ). es ++ c.len-2.result ∷ []) c.in_ok-reserve.ensures.items ∙ ap (λ n. r.ends.items ++ n ∷ []) (c.len-2.ensures ∙ sym c.len-self-inside.ensures) in
    let filled = rows_of 0 (take r.start r.items.items) r.ends.items in
    put_behind c.args.self.now.rows filled _ c.args.place (drop r.start r.items.items) c.args.self.now.last
    (λ k. kept.same k ∙ ap (λ (o : Opened _). row_at o.rows k) c.self.view_is)
    (omega (arith, length-rows_of 0 (take r.start r.items.items) r.ends.items, kept.few, r.ends.ok))
    (open_more r.items.items r.ends.items c.push_reserved.new.self.items r.start c.len-self-inside.result kept.ends inside whole new)
    ((λ i. drop (kept.start i) (kept.items i).items) ∙ ap (λ (o : Opened _). o.last) c.self.view_is)

pub returns-clause-ok : goal.returns-clause-ok
returns-clause-ok g c = ended g c

pub returns-clause-before : goal.returns-clause-before
returns-clause-before g c = (ended g c).before

pub returns-clause-few : goal.returns-clause-few
returns-clause-few g c =
    let r = c.loop-self.self-inside in
    omega (arith, length-rows_of 0 (take c.len-self-inside.result r.items.items) c.push_reserved.new.self.items, ap length c.push_reserved.ensures.items, length_push c.reserve.new.self.items c.len-2.result, ap length c.in_ok-reserve.ensures.items, c.loop-self.invariant.few)
