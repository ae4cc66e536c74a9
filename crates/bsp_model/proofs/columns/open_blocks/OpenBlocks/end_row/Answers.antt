use Rattle.std.proofs.Common.{◌≡◌, ◌+◌, [], length, take, sym, ap, ◌∙◌, arith}
use Rattle.std.proofs.lemmas.List.{length-take, nil_from_length}
use Rattle.bsp_model.specs.Columns.{AreCut, IsPut}
use Rattle.bsp_model.specs.Opened.{Opened}
use Rattle.bsp_model.specs.Inside.Blocks.{blocks_of, AreBlocks}
use Rattle.bsp_model.specs.Inside.Columns.{pair_at}
use Rattle.bsp_model.proofs.BlocksOf.{no_blocks, none_are, AreBlocks-none}
use Rattle.bsp_model.proofs.EitherWay.{both_ok}
use Rattle.bsp_model.proofs.PairedColumns.{cut_paired, put_paired, cut_law, put_law}
use Rattle.bsp_model.proofs.OpenRows.{firsts-within, seconds-within, paired-within, cut_both, put_pair, put_none}
use Rattle.bsp_model.proofs.columns.open_blocks.OpenBlocks.end_row.Given
use Rattle.bsp_model.proofs.columns.open_blocks.OpenBlocks.end_row.Goals as goal

pub returns-then-len-eq0-clause-none : goal.returns-then-len-eq0-clause-none
returns-then-len-eq0-clause-none g c =
    let b = c.self.inside in
    let none : length b.heads.last ≡ 0 = omega (arith, c.len.ensures, c.if-len-eq0.true) in
    sym (ap (λ (o : Opened _). o.last) c.self.view_is) ∙ ap (λ heads. blocks_of g.X.Block.of heads b.words.last) (nil_from_length b.heads.last none) ∙ no_blocks g.X.Block.of b.words.last

pub returns-then-len-eq0-clause-ok : goal.returns-then-len-eq0-clause-ok
returns-then-len-eq0-clause-ok g c = put_none c.args.self.now.rows c.args.place c.args.self.now.last c.requires (returns-then-len-eq0-clause-none g c)

pub end_row-heads-requires : goal.end_row-heads-requires
end_row-heads-requires g c =
    let b = c.self.inside in
    omega (arith, c.requires, firsts-within (blocks_of g.X.Block.of) b.heads.rows b.words.rows, ap (λ (o : Opened _). length o.rows) c.self.view_is)

pub end_row-requires : goal.end_row-requires
end_row-requires g c =
    let b = c.self.inside in
    omega (arith, c.requires, seconds-within (blocks_of g.X.Block.of) b.heads.rows b.words.rows, ap (λ (o : Opened _). length o.rows) c.self.view_is)

-- after an error

cut : (g : Given.Over) (c : goal.After-cut_rows-in-Err g) → AreCut ([], []) (pair_at (c.self.inside.heads.rows, c.self.inside.words.rows)) c.args.place (pair_at (take c.args.place c.end_row-heads.new.self.rows, take c.args.place c.end_row.new.self.rows))
cut g c =
    cut_both c.self.inside.heads.rows c.end_row-heads.new.self.rows c.self.inside.words.rows c.end_row.new.self.rows c.args.place c.end_row-heads.ensures.before c.end_row.ensures.before

pub invariant_of-self : goal.invariant_of-self
invariant_of-self g c =
    let b = c.self.inside in
    let none = AreBlocks-none g.X.Block.IsKept in
    let place = c.args.place in
    let first = take place c.end_row-heads.new.self.rows in
    let second = take place c.end_row.new.self.rows in
    rw (c.cut_rows.ensures, c.cut_rows-in-Err.ensures)
    record { rows = cut_law (AreBlocks g.X.Block.IsKept) (b.heads.rows, b.words.rows) (first, second) place none c.self.invariant.rows (cut g c); last = none }

pub returns-in-Err-clause-err : goal.returns-in-Err-clause-err
returns-in-Err-clause-err g c =
    let b = c.self.inside in
    let place = c.args.place in
    let first = take place c.end_row-heads.new.self.rows in
    let second = take place c.end_row.new.self.rows in
    rw (c.cut_rows.ensures, c.cut_rows-in-Err.ensures)
    (cut_paired (blocks_of g.X.Block.of) (b.heads.rows, b.words.rows) (first, second) c.args.self.now.rows place (no_blocks g.X.Block.of []) (ap (λ (o : Opened _). o.rows) c.self.view_is) (cut g c))

pub returns-in-Err-clause-none : goal.returns-in-Err-clause-none
returns-in-Err-clause-none g c = rw (c.cut_rows.ensures, c.cut_rows-in-Err.ensures) (no_blocks g.X.Block.of [])

pub returns-in-Err-clause-few : goal.returns-in-Err-clause-few
returns-in-Err-clause-few g c =
    let place = c.args.place in
    let first = take place c.end_row-heads.new.self.rows in
    let second = take place c.end_row.new.self.rows in
    rw (c.cut_rows.ensures, c.cut_rows-in-Err.ensures)
    (paired-within (blocks_of g.X.Block.of) first second (place + 1) (omega (arith, length-take place c.end_row-heads.new.self.rows)) (omega (arith, length-take place c.end_row.new.self.rows)))

-- where both rows are noted

both_put : (g : Given.Over) (c : goal.In_default g) → IsPut ([], []) (pair_at (c.self.inside.heads.rows, c.self.inside.words.rows)) c.args.place (c.self.inside.heads.last, c.self.inside.words.last) (pair_at (c.end_row-heads.new.self.rows, c.end_row.new.self.rows))
both_put g c =
    let b = c.self.inside in
    let puts = both_ok c.end_row-heads.result c.end_row.result c.in_default.field-0 (sym c.in_default.is ∙ c.and.ensures) c.end_row-heads.ensures.ok c.end_row.ensures.ok in
    put_pair b.heads.rows c.end_row-heads.new.self.rows b.words.rows c.end_row.new.self.rows c.args.place b.heads.last b.words.last puts.0 puts.1

both_none : (g : Given.Over) (c : goal.In_default g) → (c.end_row-heads.new.self.last ≡ []) × (c.end_row.new.self.last ≡ [])
both_none g c = both_ok c.end_row-heads.result c.end_row.result c.in_default.field-0 (sym c.in_default.is ∙ c.and.ensures) c.end_row-heads.ensures.none c.end_row.ensures.none

pub invariant_of-self-in_default : goal.invariant_of-self-in_default
invariant_of-self-in_default g c =
    let b = c.self.inside in
    let first = c.end_row-heads.new.self in
    let second = c.end_row.new.self in
    record {
      rows = put_law (AreBlocks g.X.Block.IsKept) (b.heads.rows, b.words.rows) (first.rows, second.rows) c.args.place b.heads.last b.words.last (AreBlocks-none g.X.Block.IsKept) c.self.invariant.rows c.self.invariant.last (both_put g c);
      last = none_are g.X.Block.IsKept first.last second.last (both_none g c).0 (both_none g c).1;
    }

pub returns-clause-ok : goal.returns-clause-ok
returns-clause-ok g c =
    let b = c.self.inside in
    put_paired (blocks_of g.X.Block.of) (b.heads.rows, b.words.rows) (c.end_row-heads.new.self.rows, c.end_row.new.self.rows) c.args.self.now.rows c.args.place b.heads.last b.words.last c.args.self.now.last (no_blocks g.X.Block.of [])
    (ap (λ (o : Opened _). o.rows) c.self.view_is) (ap (λ (o : Opened _). o.last) c.self.view_is) (both_put g c)

pub returns-clause-none : goal.returns-clause-none
returns-clause-none g c =
    let words = c.end_row.new.self.last in
    ap (λ heads. blocks_of g.X.Block.of heads words) (both_none g c).0 ∙ no_blocks g.X.Block.of words

pub returns-clause-few : goal.returns-clause-few
returns-clause-few g c =
    paired-within (blocks_of g.X.Block.of) c.end_row-heads.new.self.rows c.end_row.new.self.rows (c.args.place + 1) c.end_row-heads.ensures.few c.end_row.ensures.few
