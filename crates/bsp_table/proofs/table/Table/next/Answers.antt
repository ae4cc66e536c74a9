use Rattle.std.proofs.Common.{◌≡◌, ◌++◌, ◌∷◌, [], IfOk, List, length, map, sym, ap, ◌∙◌, arith, subst}
use Rattle.std.specs.List.{range_with_len}
use Rattle.std.proofs.lemmas.Bool.{OnTrue_at}
use Rattle.std.proofs.lemmas.List.{append_assoc}
use Rattle.std.proofs.lemmas.List.FromFn.{map-range_with_len_more}
use Rattle.bsp_table.specs.declared.area.Area.{Area}
use Rattle.bsp_table.specs.NextTable.{kept_slots, pushed_slot, pushed_slots, count_of_pushes}
use Rattle.bsp_table.proofs.NextTables.{count_of_each, kept_of_first, count_of_pushes-first, unchanged}
use Rattle.bsp_table.proofs.table.Table.next.Goals as goal

pub pushed-requires-clause-each : goal.pushed-requires-clause-each
pushed-requires-clause-each g c =
    let pushes = g.R.Registers.pushes c.args.all.now in
    λ p d l. omega (arith, count_of_each c.args.self.now (g.R.Registers.pops c.args.all.now) pushes c.requires.faultless p d l, count_of_pushes-first pushes, ap length c.pushes-k-end.ensures)

pub loop-k-preserved : goal.loop-k-preserved
loop-k-preserved g c =
    let slot = pushed_slot (g.R.Registers.pushes c.args.all.now) in
    c.in_ok-push.ensures.ok
    ∙ ap (λ x. c.loop-k.slots ++ x ∷ []) c.in_ok-pushed.ensures
    ∙ ap (λ xs. xs ++ slot c.loop-k.k ∷ []) c.loop-k.invariant
    ∙ append_assoc c.in_ok-slots.slots (map slot (range_with_len 0 c.loop-k.k)) (slot c.loop-k.k ∷ [])
    ∙ ap (λ xs. c.in_ok-slots.slots ++ xs) (sym (map-range_with_len_more slot 0 c.loop-k.k c.loop-k.k (omega arith)))

pub returns : goal.returns
returns g c =
    let pops = g.R.Registers.pops c.args.all.now in
    let pushes = g.R.Registers.pushes c.args.all.now in
    let count : c.loop-k.k ≡ count_of_pushes pushes = omega (arith, ap length c.pushes-k-end.ensures, count_of_pushes-first pushes) in
    c.in_ok-share.ensures
    ∙ c.loop-k.invariant
    ∙ ap (λ n. c.in_ok-slots.slots ++ map (pushed_slot pushes) (range_with_len 0 n)) count
    ∙ ap (λ xs. xs ++ pushed_slots pushes) (c.in_ok-slots.ensures ∙ ap (λ p. kept_slots c.args.self.now (p ∷ [])) c.pops.ensures ∙ sym (kept_of_first c.args.self.now pops pushes c.requires.some c.requires.faultless))

pub returns-then-has_no_pushes : goal.returns-then-has_no_pushes
returns-then-has_no_pushes g c =
    subst (λ (slots : List (List Area)). IfOk c.copy.result (λ t. t ≡ slots))
    (unchanged c.args.self.now (g.R.Registers.pops c.args.all.now) (g.R.Registers.pushes c.args.all.now) c.requires.some c.requires.faultless
    (OnTrue_at c.if-has_no_pops.true c.has_no_pops.ensures) (OnTrue_at c.if-has_no_pushes.true c.has_no_pushes.ensures))
    c.copy.ensures
