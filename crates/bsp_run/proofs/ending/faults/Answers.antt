use Rattle.std.proofs.Common.{◌≡◌, ◌<◌, ◌+◌, ◌++◌, ◌∷◌, [], ℕ, List, length, take, get_or, ap, sym, ◌∙◌, arith, append-nil, append_assoc, Option}
use Rattle.std.proofs.lemmas.List.{take_more, get_or_default}
use Rattle.std.proofs.lemmas.Grind.{common_steps}
use Rattle.bsp_model.specs.declared.fault.Fault.{Fault}
use Rattle.bsp_step.specs.OutcomeParts.{OutcomeParts, outcome_of, no_outcome}
use Rattle.bsp_run.specs.declared.result.ProcessFault.{ProcessFault}
use Rattle.bsp_run.specs.Ending.{faults_from, fault_at}
use Rattle.bsp_run.proofs.ending.faults.Goals as goal
use Rattle.bsp_run.proofs.ending.faults.Goals.{in-Some+in_ok-push, in_default}

faults_from-push : (p n : ℕ) (os : List OutcomeParts) (o : OutcomeParts) → n ≡ p + length os → faults_from p (os ++ o ∷ []) ≡ faults_from p os ++ fault_at n o.fault
faults_from-push p n [] o e = let k : n ≡ p = omega arith in rw k (append-nil _)
faults_from-push p n (x ∷ os) o e =
    ap (λ fs. fault_at p x.fault ++ fs) (faults_from-push (p + 1) n os o (omega arith)) ∙ sym (append_assoc (fault_at p x.fault) (faults_from (p + 1) os) (fault_at n o.fault))

one_more : (os : List OutcomeParts) (i : ℕ) (o : OutcomeParts) → i < length os → o ≡ get_or os i o → faults_from 0 (take (i + 1) os) ≡ faults_from 0 (take i os) ++ fault_at i o.fault
one_more os i o l e =
    ap (faults_from 0) (take_more os i o l ∙ ap (λ x. take i os ++ x ∷ []) (sym e)) ∙ faults_from-push 0 i (take i os) o (grind (arith, common_steps))

pub loop-pid-preserved : goal.loop-pid-preserved
loop-pid-preserved c =
    let os = c.args.outcomes.now in
    let i = c.loop-pid.pid in
    let o = outcome_of os i in
    let here : i < length os = omega (arith, c.loop-pid-test.true, c.len-pid-end.ensures) in
    let more = one_more os i o here (get_or_default os i no_outcome o here) in
    let fault = ap (λ (x : OutcomeParts). x.fault) (c.outcome.view_is ∙ c.get-outcome.ensures) in
    elim c.match-outcome.branch [
      | in-Some+in_ok-push w ↦
          w.faults-is ∙ w.in_ok-push.ensures.ok ∙ ap (λ (fs : List ProcessFault). fs ++ record { pid = i; fault = w.in-Some.fault } ∷ []) c.loop-pid.invariant
          ∙ ap (λ (f : Option Fault). faults_from 0 (take i os) ++ fault_at i f) (sym w.in-Some.is ∙ fault) ∙ sym more
      | in_default w ↦
          w.faults-is ∙ c.loop-pid.invariant
          ∙ sym (more ∙ ap (λ (f : Option Fault). faults_from 0 (take i os) ++ fault_at i f) (sym fault ∙ w.in_default.is) ∙ append-nil (faults_from 0 (take i os)))
    ]
