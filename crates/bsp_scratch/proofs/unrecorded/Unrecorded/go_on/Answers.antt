use Rattle.std.proofs.Common.{◌≡◌, refl, arith}
use Rattle.bsp_run.specs.declared.phase.Phase.TheVariants.{Turned}
use Rattle.std.proofs.lemmas.Result.{IfOk-weaker}
use Rattle.bsp_run.specs.Run.{Run}
use Rattle.bsp_run.specs.Setting.{next_views}
use Rattle.bsp_scratch.specs.Inside.IsUnrecorded.{IsUnrecordedIn}
use Rattle.bsp_scratch.proofs.UnrecordedRuns.{are_turned, as_many, deliverable_turned, unrecorded_delivered}
use Rattle.bsp_scratch.proofs.unrecorded.Unrecorded.go_on.Goals as goal

pub add_delivery-requires-clause-deliverable : goal.add_delivery-requires-clause-deliverable
add_delivery-requires-clause-deliverable c =
    let os = c.args.self.now.taken.outcomes in
    deliverable_turned c.requires.turned.0 c.args.views os (are_turned c.requires.turned.0 c.args.views c.args.self.now os c.requires.turned.1)

pub next_views-requires-clause-turned : goal.next_views-requires-clause-turned
next_views-requires-clause-turned c =
    let r : Run = c.requires.turned.0 in
    let os = c.args.self.now.taken.outcomes in
    (r, are_turned r c.args.views c.args.self.now os c.requires.turned.1)

pub next_views-requires-clause-processes : goal.next_views-requires-clause-processes
next_views-requires-clause-processes c =
    as_many c.requires.turned.0 c.args.views c.args.self.now c.args.self.now.taken.outcomes c.requires.turned.1

pub returns-clause-views : goal.returns-clause-views
returns-clause-views c = λ r t.
    let more = c.in_ok-add_delivery.ensures in
    let os = c.args.self.now.taken.outcomes in
    IfOk-weaker c.next_views.result (λ next. next ≡ next_views r) _
    (λ next e. unrecorded_delivered r os c.args.self.now c.args.views _ _ _ t refl e more.g more.l more.lines more.costs)
    (c.next_views.ensures r (are_turned r c.args.views c.args.self.now os t))

pub add_delivery-requires-clause-small_g : goal.add_delivery-requires-clause-small_g
add_delivery-requires-clause-small_g c = let t : IsUnrecordedIn Turned c.requires.turned.0 c.args.views c.args.self.now c.args.self.now.taken.outcomes = c.requires.turned.1 in omega (arith, t.same.g, t.same.run.small_g)

pub add_delivery-requires-clause-small_l : goal.add_delivery-requires-clause-small_l
add_delivery-requires-clause-small_l c = let t : IsUnrecordedIn Turned c.requires.turned.0 c.args.views c.args.self.now c.args.self.now.taken.outcomes = c.requires.turned.1 in omega (arith, t.same.l, t.same.run.small_l)
