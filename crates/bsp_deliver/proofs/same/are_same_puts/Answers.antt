use Rattle.std.proofs.Common.{◌≡◌, ◌==◌, List, ap, filter, subst}
use Rattle.std.specs.Prelude.{◌↔◌, IsTrue}
use Rattle.bsp_model.specs.declared.request.Put.{Put}
use Rattle.bsp_step.specs.OutcomeParts.{OutcomeParts}
use Rattle.bsp_deliver.proofs.same.are_same_puts.Goals as goal

pub returns : goal.returns
returns c =
    let to_d = λ (p : Put). p.target == c.args.d in
    let old = ap (λ (o : OutcomeParts). o.puts) c.old.view_is in
    let new = ap (λ (o : OutcomeParts). o.puts) c.new.view_is in
    subst (λ (xs : List Put). IsTrue c.are_same_to.result ↔ (filter to_d xs ≡ filter to_d c.args.new.now.puts)) old
    (subst (λ (ys : List Put). IsTrue c.are_same_to.result ↔ (filter to_d c.old.inside.puts ≡ filter to_d ys)) new c.are_same_to.ensures)
