use Rattle.std.proofs.Common.{map, sym, ap, ◌∙◌, arith}
use Rattle.std.proofs.lemmas.Bool.{false≢true}
use Rattle.bsp_step.specs.OutcomeParts.{OutcomeParts, outcome_of}
use Rattle.bsp_deliver.specs.Requests.{words_read}
use Rattle.bsp_deliver.specs.Delivery.{delivery_parts}
use Rattle.bsp_deliver.proofs.SameParts.{readable_of}
use Rattle.bsp_deliver.proofs.Comparing.{pairs_from, pairs_apart}
use Rattle.bsp_deliver.proofs.parcels.answers_same.Goals as goal

pub read_the_same-requires-clause-before : goal.read_the_same-requires-clause-before
read_the_same-requires-clause-before c =
    rw (ap (λ (o : OutcomeParts). o.gets) (c.before-2.view_is ∙ c.get-before.ensures)) (readable_of c.args.old.now c.args.d c.requires.old c.requires.known)

pub read_the_same-requires-clause-after : goal.read_the_same-requires-clause-after
read_the_same-requires-clause-after c =
    rw (c.are_same.ensures.0 c.if-are_same.true ∙ ap (λ (o : OutcomeParts). o.gets) (c.after.view_is ∙ c.get-after.ensures))
    (readable_of c.args.new.now c.args.d c.requires.new (omega (arith, c.requires.known, c.requires.as_many)))

pub returns-then-are_same : goal.returns-then-are_same
unfolding delivery_parts
returns-then-are_same c =
    let old = c.args.old.now in let new = c.args.new.now in let d = c.args.d in
    let G = (outcome_of old d).gets in
    let H = (outcome_of new d).gets in
    let f = words_read old in let h = words_read new in
    let old_gets = ap (λ (o : OutcomeParts). o.gets) (c.before-2.view_is ∙ c.get-before.ensures) in
    let new_gets = ap (λ (o : OutcomeParts). o.gets) (c.after.view_is ∙ c.get-after.ensures) in (
      λ t. pairs_from f h G H (sym old_gets ∙ c.are_same.ensures.0 c.if-are_same.true ∙ new_gets) (sym (ap (map f) old_gets) ∙ c.read_the_same.ensures.0 t ∙ ap (map h) old_gets),
      λ e. let parts = pairs_apart f h G H e in c.read_the_same.ensures.1 (ap (map f) old_gets ∙ parts.1 ∙ ap (map h) (sym parts.0) ∙ sym (ap (map h) old_gets)),
    )

pub returns-else-are_same : goal.returns-else-are_same
unfolding delivery_parts
returns-else-are_same c =
    let old = c.args.old.now in let new = c.args.new.now in let d = c.args.d in
    let old_gets = ap (λ (o : OutcomeParts). o.gets) (c.before-2.view_is ∙ c.get-before.ensures) in
    let new_gets = ap (λ (o : OutcomeParts). o.gets) (c.after.view_is ∙ c.get-after.ensures) in (
      λ t. absurd (false≢true (sym c.if-are_same.false ∙ t)),
      λ e. c.are_same.ensures.1 (old_gets ∙ (pairs_apart (words_read old) (words_read new) (outcome_of old d).gets (outcome_of new d).gets e).0 ∙ sym new_gets),
    )
