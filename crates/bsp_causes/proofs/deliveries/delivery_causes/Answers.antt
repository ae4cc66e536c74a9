use Rattle.std.proofs.Common.{◌≡◌, true, false, ◌≤◌, ◌<◌, List, Option, IfOk, Bor, length, arith, sym, ap, ◌∙◌, subst}
use Rattle.std.specs.Prelude.{option_map}
use Rattle.bsp_step.specs.OutcomeParts.{OutcomeParts}
use Rattle.bsp_run.specs.Run.{Run}
use Rattle.bsp_run.specs.Supersteps.{superstep_at}
use Rattle.bsp_incr.specs.Exact.{delivered_before}
use Rattle.bsp_incr.specs.Inside.Before.{outcomes_if_any}
use Rattle.bsp_causes.specs.declared.deliveries.DeliveryCauses.{DeliveryCauses}
use Rattle.bsp_causes.specs.DeliveryCauses.{parcel_causes, delivery_causes}
use Rattle.bsp_causes.proofs.Cases.{delivery_there, delivery_not_there}
use Rattle.bsp_causes.proofs.deliveries.delivery_causes.Goals as goal
use Rattle.bsp_causes.proofs.deliveries.delivery_causes.Goals.{in_default-via-in-Some+else-pid-len, in_default-via-in_default}

pub returns-in-Some : goal.returns-in-Some
returns-in-Some c =
    let olds = delivered_before (option_map (λ (h : Bor Run). h.now) c.args.before) in
    let news = c.args.after.now.past in
    let place = c.args.place in
    let old : c.in-Some.old.now ≡ (superstep_at olds place.step).outcomes = c.in-Some.ensures.outcomes in
    let new : c.unwrap-new.result.now ≡ (superstep_at news place.step).outcomes =
    ap (λ (o : Option (Bor (List OutcomeParts))). outcomes_if_any (option_map (λ (x : Bor (List OutcomeParts)). x.now) o)) (sym c.unwrap-new.ensures) ∙ c.delivered_in.ensures.outcomes in
    let there : place.pid < length (superstep_at olds place.step).outcomes = omega (arith, c.if-pid-len.true, c.len.ensures, ap (λ (os : List OutcomeParts). length os) old) in
    let same : parcel_causes c.in-Some.old.now c.unwrap-new.result.now place.pid ≡ delivery_causes olds news place =
    (λ i. parcel_causes (old i) (new i) place.pid) ∙ sym (delivery_there olds news place there) in
    subst (λ (x : DeliveryCauses). IfOk c.parcel_causes.result (λ y. y ≡ x)) same c.parcel_causes.ensures

pub returns-in_default : goal.returns-in_default
returns-in_default c =
    let olds = delivered_before (option_map (λ (h : Bor Run). h.now) c.args.before) in
    let news = c.args.after.now.past in
    let place = c.args.place in
    let none : length (superstep_at olds place.step).outcomes ≤ place.pid =
    elim c.in_default.branch [
      | in_default-via-in-Some+else-pid-len w ↦
          let old : w.in-Some.old.now ≡ (superstep_at olds place.step).outcomes = w.in-Some.ensures.outcomes in
          omega (arith, w.if-pid-len.false, w.len.ensures, ap (λ (os : List OutcomeParts). length os) old)
      | in_default-via-in_default w ↦ omega (arith, ap (λ (os : List OutcomeParts). length os) w.in_default.ensures.outcomes)
    ] in
    (λ i. record { is_new = true; memory = false; gets = false; read = c.new.ensures i; puts = c.new-in_default.ensures i; sends = c.new-in_default-2.ensures i }) ∙ sym (delivery_not_there olds news place none)
