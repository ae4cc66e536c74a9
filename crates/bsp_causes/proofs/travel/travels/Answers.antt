use Rattle.std.proofs.Common.{◌≡◌, ◌∙◌, ◌&&◌, ◌||◌, Bool, true, false, All, length, not, nat_eq, sym, ap, subst}
use Rattle.std.specs.List.{list_any}
use Rattle.bsp_model.specs.declared.request.Get.{Get}
use Rattle.bsp_step.specs.OutcomeParts.{OutcomeParts}
use Rattle.bsp_causes.specs.Inside.Travel.{reads_other}
use Rattle.bsp_causes.specs.Travel.{has_requests, requests_again}
use Rattle.bsp_causes.specs.Inside.Travel.{is_in, HasAddresses}
use Rattle.bsp_causes.proofs.Travelling.{issued, read_again}
use Rattle.bsp_causes.proofs.travel.travels.Goals as goal

pub any_reads_other-requires : goal.any_reads_other-requires
any_reads_other-requires c = subst (λ (o : OutcomeParts). All HasAddresses o.gets) (sym c.own.view_is) c.requires

pub returns-then-contains : goal.returns-then-contains
returns-then-contains c =
    let D = is_in c.args.redone.now.delivered in
    let R = λ (g : Get). is_in c.args.redone.now.delivered c.args.pid && reads_other c.args.before.now c.args.after.now g in
    c.issues.ensures
    ∙ ap (λ (o : OutcomeParts). list_any (λ p. D p.target) o.puts || not (nat_eq (length o.gets) 0) || list_any (λ m. D m.target) o.sends) c.own.view_is
    ∙ issued D R c.args.own.now
    ∙ ap (λ b. has_requests (requests_again b D R c.args.own.now)) (sym (sym c.contains.ensures ∙ c.if-contains.true))

pub returns-then-not-contains : goal.returns-then-not-contains
returns-then-not-contains c =
    let D = is_in c.args.redone.now.delivered in
    let r = reads_other c.args.before.now c.args.after.now in
    let d : D c.args.pid ≡ false = sym c.contains-2.ensures ∙ c.if-not-contains.true in
    let t : is_in c.args.redone.now.turned c.args.pid ≡ false = sym c.contains.ensures ∙ c.if-contains.false in
    ap (λ b. b && list_any r c.args.own.now.gets) (sym d)
    ∙ read_again D (D c.args.pid) r c.args.own.now
    ∙ ap (λ b. has_requests (requests_again b D (λ g. D c.args.pid && r g) c.args.own.now)) (sym t)

pub returns : goal.returns
returns c =
    let D = is_in c.args.redone.now.delivered in
    let r = reads_other c.args.before.now c.args.after.now in
    let d : D c.args.pid ≡ true = sym c.contains-2.ensures ∙ c.if-not-contains.false in
    let t : is_in c.args.redone.now.turned c.args.pid ≡ false = sym c.contains.ensures ∙ c.if-contains.false in
    c.any_reads_other.ensures
    ∙ ap (λ (o : OutcomeParts). list_any r o.gets) c.own.view_is
    ∙ ap (λ b. b && list_any r c.args.own.now.gets) (sym d)
    ∙ read_again D (D c.args.pid) r c.args.own.now
    ∙ ap (λ b. has_requests (requests_again b D (λ g. D c.args.pid && r g) c.args.own.now)) (sym t)
