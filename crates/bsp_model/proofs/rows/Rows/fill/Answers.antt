use Rattle.std.proofs.Common.{◌≡◌, ◌++◌, ◌∷◌, [], List, ℕ, length, ap, ◌∙◌, refl, arith}
use Rattle.std.proofs.lemmas.List.{length_push}
use Rattle.bsp_model.specs.Columns.{row_at}
use Rattle.bsp_model.specs.Inside.Rows.{rows_of}
use Rattle.bsp_model.proofs.RowsOf.{length-rows_of}
use Rattle.bsp_model.proofs.RowsCut.{rows_of-empty, AreEnds-empty, row_at-empty}
use Rattle.bsp_model.proofs.rows.Rows.fill.Goals as goal

pub loop-self-init : goal.loop-self-init
loop-self-init g c = record {
  ends = c.self.invariant;
  few = omega (arith, c.requires, length-rows_of 0 c.self.inside.items.items c.self.inside.ends.items, ap length c.self.view_is);
  same = λ k. refl;
}

pub loop-self-preserved : goal.loop-self-preserved
loop-self-preserved g c =
    let items = c.loop-self.self-inside.items in
    let ends = c.loop-self.self-inside.ends in
    let count : c.len-in-loop-self.result ≡ length items.items = c.len-in-loop-self.ensures ∙ items.ok.0 in
    let new : c.push.new.self.items ≡ ends.items ++ length items.items ∷ [] = rw count at c.in_ok-push.ensures.items in
    record {
      ends = rw new (AreEnds-empty ends.items (length items.items) c.loop-self.invariant.ends);
      few = omega (arith, ap length new, length_push ends.items (length items.items), ends.ok);
      same = λ k.
          ap (λ (es : List ℕ). row_at (rows_of 0 items.items es) k) new
          ∙ ap (λ rows. row_at rows k) (rows_of-empty items.items ends.items c.loop-self.invariant.ends)
          ∙ row_at-empty (rows_of 0 items.items ends.items) k
          ∙ c.loop-self.invariant.same k;
    }

pub returns-in_err-push-clause-few : goal.returns-in_err-push-clause-few
returns-in_err-push-clause-few g c =
    omega (arith, length-rows_of 0 c.loop-self.self-inside.items.items c.push.new.self.items, ap length c.in_err-push.ensures.items, c.loop-self.invariant.few)

pub returns-clause-few : goal.returns-clause-few
returns-clause-few g c = omega (arith, length-rows_of 0 c.loop-self.self-inside.items.items c.loop-self.self-inside.ends.items, c.loop-self.invariant.few)

pub returns-clause-count : goal.returns-clause-count
returns-clause-count g c =
    omega (arith, length-rows_of 0 c.loop-self.self-inside.items.items c.loop-self.self-inside.ends.items, c.loop-self.invariant.few, c.loop-self.self-inside.ends.ok)
