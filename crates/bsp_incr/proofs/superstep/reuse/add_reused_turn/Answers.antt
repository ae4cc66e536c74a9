use Rattle.std.proofs.Common.{◌≡◌, ◌∙◌, ◌++◌, ◌∷◌, [], List, ℕ, OnOk, ap, get_or, subst}
use Rattle.bsp_model.specs.Stores.{made_again}
use Rattle.bsp_step.specs.ViewParts.{ViewParts, IsView}
use Rattle.bsp_step.specs.OutcomeParts.{OutcomeParts}
use Rattle.bsp_step.specs.Turn.{turn_of}
use Rattle.bsp_run.specs.Condition.{no_view}
use Rattle.bsp_incr.proofs.Retaking.{served_there, unneeded}
use Rattle.bsp_incr.proofs.Reusing.{reused_is, turn_there}
use Rattle.bsp_incr.proofs.superstep.reuse.add_reused_turn.Goals as goal

pub push_over-requires : goal.push_over-requires
push_over-requires g c =
    let turn = turn_of (g.P.Program.acts c.args.program.now) (g.P.Program.ending c.args.program.now) in
    let looks = g.P.Program.looks c.args.program.now in
    let laws = g.met.P.Program g.world.𝓛 g.world.𝓜 g.world.𝓡 ((λ s x. x), (λ x. x), (λ x. x), λ x. x) in
    let v : ViewParts = c.get-recorded.result in
    let w : ViewParts = c.get-view.result in
    let old = c.args.superstep.now.old_views in
    let seen = c.get-view.ensures ∙ ap (λ (vs : List ViewParts). get_or vs c.args.p no_view) c.deref.ensures in
    let served = unneeded looks old c.args.superstep.now.views.now c.args.p c.requires.serves in
    let alike = served_there looks old c.args.superstep.now.views.now c.args.p v w c.get-recorded.ensures seen served.1 in
    let outcome = turn_there turn old c.args.old_outcomes.now c.args.p v c.get-outcome.result served.0 c.requires.recorded c.get-recorded.ensures c.get-outcome.ensures in
    let memory = c.in_ok-replay_on.ensures ∙ ap (λ (m : List ℕ). made_again m c.outcome.inside.stores) (c.in_ok-memory.ensures ∙ ap (λ (x : ViewParts). x.memory) c.view.view_is)
    ∙ ap (λ (o : OutcomeParts). made_again w.memory o.stores) c.outcome.view_is in
    let made = reused_is (g.P.Program.acts c.args.program.now) (g.P.Program.ending c.args.program.now) looks v w c.get-outcome.result c.replay_on.new.memory (laws.footprint c.args.program.now)
    (subst IsView c.recorded.view_is c.recorded.invariant) (subst IsView c.view.view_is c.view.invariant) alike outcome memory in
    made.1

pub returns : goal.returns
returns g c =
    let turn = turn_of (g.P.Program.acts c.args.program.now) (g.P.Program.ending c.args.program.now) in
    let looks = g.P.Program.looks c.args.program.now in
    let laws = g.met.P.Program g.world.𝓛 g.world.𝓜 g.world.𝓡 ((λ s x. x), (λ x. x), (λ x. x), λ x. x) in
    let v : ViewParts = c.get-recorded.result in
    let w : ViewParts = c.get-view.result in
    let old = c.args.superstep.now.old_views in
    let seen = c.get-view.ensures ∙ ap (λ (vs : List ViewParts). get_or vs c.args.p no_view) c.deref.ensures in
    let served = unneeded looks old c.args.superstep.now.views.now c.args.p c.requires.serves in
    let alike = served_there looks old c.args.superstep.now.views.now c.args.p v w c.get-recorded.ensures seen served.1 in
    let outcome = turn_there turn old c.args.old_outcomes.now c.args.p v c.get-outcome.result served.0 c.requires.recorded c.get-recorded.ensures c.get-outcome.ensures in
    let memory = c.in_ok-replay_on.ensures ∙ ap (λ (m : List ℕ). made_again m c.outcome.inside.stores) (c.in_ok-memory.ensures ∙ ap (λ (x : ViewParts). x.memory) c.view.view_is)
    ∙ ap (λ (o : OutcomeParts). made_again w.memory o.stores) c.outcome.view_is in
    let made = reused_is (g.P.Program.acts c.args.program.now) (g.P.Program.ending c.args.program.now) looks v w c.get-outcome.result c.replay_on.new.memory (laws.footprint c.args.program.now)
    (subst IsView c.recorded.view_is c.recorded.invariant) (subst IsView c.view.view_is c.view.invariant) alike outcome memory in
    subst (λ (o : OutcomeParts). OnOk c.push_over.result (c.push_over.new.self ≡ c.args.rows.now ++ o ∷ [])) (made.0 ∙ ap turn seen) c.push_over.ensures.ok
