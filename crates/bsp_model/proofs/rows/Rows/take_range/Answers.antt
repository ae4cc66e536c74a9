use Rattle.std.proofs.Common.{◌≡◌, ◌<◌, ◌≤◌, ◌+◌, ◌-◌, ◌++◌, ℕ, List, [], length, take, inl, inr, ap, sym, ◌∙◌, arith}
use Rattle.std.specs.Prelude.{slice_range}
use Rattle.std.proofs.lemmas.Bool.{cases_lt}
use Rattle.std.proofs.lemmas.Result.{on_ok_weaker}
use Rattle.std.proofs.lemmas.List.{get_or_append_left, get_or-append_right, get_or-take, get_or_past, length-append}
use Rattle.std.proofs.lemmas.List.Edits.{length-between, get_or-between}
use Rattle.bsp_model.specs.Columns.{row_at, AreTaken}
use Rattle.bsp_model.proofs.rows.Rows.take_range.Goals as goal

-- Rows behind those before a place; past the last one each is empty.
taken_rows : {X : Type 0} (old front more new : List (List X)) (place from to end : ℕ) → length front ≡ place → ((k : ℕ) → row_at front k ≡ row_at (take place old) k) → from < end → end ≤ to → end ≤ length more
    → ((k : ℕ) → end ≤ k → k < to → length more ≤ k) → new ≡ front ++ slice_range more from end → AreTaken [] (row_at old) place (row_at more) from to (row_at new)
taken_rows old front more new place from to end long same some within inside past is =
    let part = slice_range more from end in
    let many : length (front ++ part) ≡ place + (end - from) = omega (arith, length-append front part, length-between more from end inside, long) in
    record {
      before = λ k below.
          ap (λ rows. row_at rows k) is ∙ get_or_append_left front part [] k (omega (arith, below, long)) ∙ same k ∙ get_or-take place old k [] below;
      taken = λ k above below.
          let there = from + (k - place) in
          ap (λ rows. row_at rows k) is
          ∙ elim (cases_lt there end) [
            | inl here ↦
                get_or-append_right front part place k [] long above ∙ get_or-between more from end (k - place) [] here
            | inr none ↦
                get_or_past (front ++ part) k [] (omega (arith, many, above, some, none)) ∙ sym (get_or_past more there [] (past there none (omega (arith, above, below))))
          ];
      behind = λ k above over. ap (λ rows. row_at rows k) is ∙ get_or_past (front ++ part) k [] (omega (arith, many, over, some, within));
    }

pub returns-clause-ok : goal.returns-clause-ok
returns-clause-ok g c =
    on_ok_weaker _
    (λ is. taken_rows c.args.self.now c.fill.new.self c.args.more.now c.append_range.new.self c.args.place c.args.from c.args.to c.min-to.result
    c.in_ok-fill.ensures.count (λ k. c.in_ok-fill.ensures.same k ∙ ap (λ rows. row_at rows k) c.truncate.ensures) c.if-to-from.false
    (omega (arith, c.min-to.ensures, c.len.ensures)) (omega (arith, c.min-to.ensures, c.len.ensures)) (λ k above below. omega (arith, c.min-to.ensures, c.len.ensures, above, below))
    is)
    c.append_range.ensures.ok
