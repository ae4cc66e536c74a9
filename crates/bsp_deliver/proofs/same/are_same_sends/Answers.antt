use Rattle.std.proofs.Common.{◌≡◌, ◌==◌, List, ap, filter, subst}
use Rattle.std.specs.Prelude.{◌↔◌, IsTrue}
use Rattle.bsp_model.specs.declared.request.Send.{Send}
use Rattle.bsp_step.specs.OutcomeParts.{OutcomeParts}
use Rattle.bsp_deliver.proofs.same.are_same_sends.Goals as goal

pub returns : goal.returns
returns c =
    let to_d = λ (m : Send). m.target == c.args.d in
    let old = ap (λ (o : OutcomeParts). o.sends) c.old.view_is in
    let new = ap (λ (o : OutcomeParts). o.sends) c.new.view_is in
    subst (λ (xs : List Send). IsTrue c.are_same_to.result ↔ (filter to_d xs ≡ filter to_d c.args.new.now.sends)) old
    (subst (λ (ys : List Send). IsTrue c.are_same_to.result ↔ (filter to_d c.old.inside.sends ≡ filter to_d ys)) new c.are_same_to.ensures)
