-- Turns that end alike end a superstep alike, and leave the same table and tag size.
use Rattle.std.proofs.Common.{◌≡◌, ◌<◌, ◌+◌, ℕ, Bool, cond, not, Option, None, Some, List, ◌++◌, length, refl, ap, ◌∙◌}
use Rattle.std.specs.Prelude.{◌&&◌, ◌||◌, is_some, unwrap_or}
use Rattle.std.specs.List.{list_any}
use Rattle.bsp_model.specs.declared.fault.SyncFault.{SyncFault}
use Rattle.bsp_model.specs.declared.fault.SyncFault.TheVariants.{MixedEnd, TagMismatch}
use Rattle.bsp_table.specs.declared.area.Area.{Area}
use Rattle.bsp_table.specs.NextTable.{are_alike, next_table, table_fault}
use Rattle.bsp_step.specs.OutcomeParts.{OutcomeParts, outcome_of}
use Rattle.bsp_deliver.specs.SyncFault.{is_sync, next_tag_size, same_tag, sync_fault}
use Rattle.bsp_run.specs.declared.result.Status.TheVariants.{Faulted, Halted}
use Rattle.bsp_run.specs.State.{pops_of, pushes_of}
use Rattle.bsp_run.specs.Ending.{end_of, end_without_fault, fault_at, faults_from}
use Rattle.bsp_incr.specs.Inside.Alike.{EndsAlike, AllEndAlike}
use Rattle.bsp_incr.proofs.Likeness.{alike_lists, same_part}

-- a test that holds of some outcome
same_any : (test : OutcomeParts → Bool) (os us : List OutcomeParts) → length os ≡ length us → ((p : ℕ) → p < length us → test (outcome_of os p) ≡ test (outcome_of us p)) → list_any test os ≡ list_any test us
same_any test = alike_lists (λ o u. test o ≡ test u) (λ os us. list_any test os ≡ list_any test us) refl (λ o u os us first rest. λ i. first i || rest i)

same_faults : (n : ℕ) (os us : List OutcomeParts) → length os ≡ length us → ((p : ℕ) → p < length us → EndsAlike (outcome_of os p) (outcome_of us p)) → faults_from n os ≡ faults_from n us
same_faults n os us count each =
    alike_lists EndsAlike (λ os us. (n : ℕ) → faults_from n os ≡ faults_from n us) (λ n. refl) (λ o u os us first rest n. λ i. fault_at n (first.fault i) ++ rest (n + 1) i) os us count each n

-- the same pops and pushes
pub same_pops : (os us : List OutcomeParts) → AllEndAlike os us → pops_of os ≡ pops_of us
same_pops os us h = same_part (λ (o : OutcomeParts). o.pops) os us h.count (λ p l. (h.each p l).pops)

pub same_pushes : (os us : List OutcomeParts) → AllEndAlike os us → pushes_of os ≡ pushes_of us
same_pushes os us h = same_part (λ (o : OutcomeParts). o.pushes) os us h.count (λ p l. (h.each p l).pushes)

same_syncs : (os us : List OutcomeParts) → AllEndAlike os us → list_any (λ (o : OutcomeParts). is_sync o.ended) os ≡ list_any (λ (o : OutcomeParts). is_sync o.ended) us
same_syncs os us h = same_any (λ (o : OutcomeParts). is_sync o.ended) os us h.count (λ p l. ap is_sync (h.each p l).ended)

same_sync_fault : (os us : List OutcomeParts) (slots : List (List Area)) → AllEndAlike os us → sync_fault os slots ≡ sync_fault us slots
same_sync_fault os us slots h =
    let syncs = same_syncs os us h in
    let halts = same_any (λ (o : OutcomeParts). not (is_sync o.ended)) os us h.count (λ p l. ap (λ e. not (is_sync e)) (h.each p l).ended) in
    let tags = same_part (λ (o : OutcomeParts). o.tag) os us h.count (λ p l. (h.each p l).tag) in
    let pops = same_pops os us h in
    let pushes = same_pushes os us h in
    λ i. cond (syncs i && halts i) (Some MixedEnd) (cond (not (syncs i)) None (cond (not (are_alike same_tag (tags i))) (Some TagMismatch) (table_fault slots (pops i) (pushes i))))

same_without_fault : (step : ℕ) (os us : List OutcomeParts) (f : Option SyncFault) → AllEndAlike os us → end_without_fault step os f ≡ end_without_fault step us f
same_without_fault step os us None h = ap (λ b. cond b None (Some Halted)) (same_syncs os us h)
same_without_fault step os us (Some f) h = refl

-- The superstep ends alike ..
pub same_end : (step : ℕ) (slots : List (List Area)) (os us : List OutcomeParts) → AllEndAlike os us → end_of step slots os ≡ end_of step slots us
unfolding end_of
same_end step slots os us h =
    let faulty = same_any (λ (o : OutcomeParts). is_some o.fault) os us h.count (λ p l. ap is_some (h.each p l).fault) in
    let faults = same_faults 0 os us h.count h.each in
    let sync = same_sync_fault os us slots h in
    (λ i. cond (faulty i) (Some (Faulted step (faults i))) (end_without_fault step os (sync i)))
    ∙ ap (λ x. cond (list_any (λ (o : OutcomeParts). is_some o.fault) us) (Some (Faulted step (faults_from 0 us))) x) (same_without_fault step os us (sync_fault us slots) h)

-- .. and the table and the tag size after it are the same.
pub same_next_table : (slots : List (List Area)) (os us : List OutcomeParts) → AllEndAlike os us → next_table slots (pops_of os) (pushes_of os) ≡ next_table slots (pops_of us) (pushes_of us)
same_next_table slots os us h =
    let pops = same_pops os us h in
    let pushes = same_pushes os us h in
    λ i. next_table slots (pops i) (pushes i)

pub same_next_tag_size : (size : ℕ) (os us : List OutcomeParts) → AllEndAlike os us → next_tag_size size os ≡ next_tag_size size us
same_next_tag_size size os us h =
    alike_lists EndsAlike (λ os us. next_tag_size size os ≡ next_tag_size size us) refl (λ o u os us first rest. ap (λ tag. unwrap_or tag size) first.tag) os us h.count h.each

pub ends_alike-same : (o u : OutcomeParts) → o ≡ u → EndsAlike o u
ends_alike-same o u e =
    record {
      fault = ap (λ (x : OutcomeParts). x.fault) e;
      ended = ap (λ (x : OutcomeParts). x.ended) e;
      tag = ap (λ (x : OutcomeParts). x.tag) e;
      pops = ap (λ (x : OutcomeParts). x.pops) e;
      pushes = ap (λ (x : OutcomeParts). x.pushes) e;
    }
