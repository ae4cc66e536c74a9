use Rattle.std.proofs.Common.{◌≡◌, ◌<◌, ◌∙◌, ℕ, List, [], length, get_or, ap, sym, subst, arith}
use Rattle.std.proofs.lemmas.List.{get_or_default}
use Rattle.bsp_step.specs.OutcomeParts.{OutcomeParts, IsOutcome, no_outcome}
use Rattle.bsp_step.specs.declared.outcome_rows.OutcomeRows.TheInside.{Inside}
use Rattle.bsp_model.specs.Columns.{row_at}
use Rattle.bsp_model.specs.Inside.Beside.{stores_in, HaveWords}
use Rattle.bsp_model.specs.Inside.Columns.{pair_at}
use Rattle.bsp_step.specs.declared.lists.Lists.{Lists}
use Rattle.bsp_step.specs.declared.lists.TurnEnd.{TurnEnd}
use Rattle.bsp_step.specs.Inside.Outcomes.{no_end, first_at, kept_beside, outcome_at, outcomes_of}
use Rattle.bsp_step.proofs.OutcomeColumns.{length-outcomes_of, outcome-outcomes_of}
use Rattle.bsp_step.proofs.outcome_rows.OutcomeRows.get.Goals as goal
use Rattle.bsp_step.proofs.outcome_rows.OutcomeRows.get.Goals.{After-from}

within : (r : Inside) (now : List OutcomeParts) (pid : ℕ) → outcomes_of r.ends.items r.memories r.lists.value ≡ now → pid < length now → pid < length r.ends.items
within r now pid seen l = omega (arith, l, length-outcomes_of r.ends.items r.memories r.lists.value, ap length seen)

pub index-end-requires : goal.index-end-requires
index-end-requires c = omega (arith, c.self.inside.ends.ok, within c.self.inside c.args.self.now c.args.pid c.self.view_is c.requires)

pub get-memory-requires : goal.get-memory-requires
get-memory-requires c = omega (arith, c.self.invariant.count, within c.self.inside c.args.self.now c.args.pid c.self.view_is c.requires)

-- the stores that are kept beside a memory are so at other names of the end, of the lists and of the memory
beside_there : (e end : TurnEnd) (l lists : Lists) (m memory : List ℕ) (pid : ℕ) → e ≡ end → l ≡ lists → m ≡ memory → HaveWords (kept_beside end.stored (pair_at lists.stores pid)) memory → HaveWords (kept_beside e.stored (pair_at l.stores pid)) m
beside_there e end l lists m memory pid es all is beside =
    subst (λ (x : TurnEnd). HaveWords (kept_beside x.stored (pair_at l.stores pid)) m) (sym es)
    (subst (λ (ls : Lists). HaveWords (kept_beside end.stored (pair_at ls.stores pid)) m) (sym all) (subst (HaveWords (kept_beside end.stored (pair_at lists.stores pid))) (sym is) beside))

pub stores-requires : goal.stores-requires
stores-requires c =
    let r = c.self.inside in
    let below = within r c.args.self.now c.args.pid c.self.view_is c.requires in
    beside_there c.index-end.result.now (get_or r.ends.items c.args.pid no_end) c.deref-lists.result.now r.lists.value c.get-memory.result (get_or r.memories c.args.pid []) c.args.pid
    (c.index-end.ensures ∙ get_or_default r.ends.items c.args.pid c.index-end.result.now no_end below) c.deref-lists.ensures c.get-memory.ensures (c.self.invariant.beside c.args.pid below)

-- the parts that are found make the outcome
parts_of : (c : After-from)
    → record { fault = c.first.result; ended = c.index-end.result.now.ended; memory = c.get-memory.result; stores = c.stores.result; puts = c.get.result; gets = c.row.result.now; sends = c.get-2.result; pops = c.row-2.result.now; pushes = c.row-3.result.now; tag = c.first-2.result; lines = c.get-3.result; work = c.from.result }
    ≡ outcome_at c.self.inside.ends.items c.self.inside.memories c.self.inside.lists.value c.args.pid
parts_of c =
    let r = c.self.inside in
    let end : c.index-end.result.now ≡ get_or r.ends.items c.args.pid no_end =
    c.index-end.ensures ∙ get_or_default r.ends.items c.args.pid c.index-end.result.now no_end (within r c.args.self.now c.args.pid c.self.view_is c.requires) in
    let all : c.deref-lists.result.now ≡ r.lists.value = c.deref-lists.ensures in
    λ i. record {
      fault = (c.first.ensures ∙ ap (λ (l : Lists). first_at l.faults c.args.pid) all) i;
      ended = (end i).ended;
      memory = c.get-memory.ensures i;
      stores = (c.stores.ensures
          ∙ ap (λ (e : TurnEnd). stores_in (kept_beside e.stored (pair_at c.deref-lists.result.now.stores c.args.pid)) c.get-memory.result) end
          ∙ ap (λ (l : Lists). stores_in (kept_beside (get_or r.ends.items c.args.pid no_end).stored (pair_at l.stores c.args.pid)) c.get-memory.result) all
          ∙ ap (stores_in (kept_beside (get_or r.ends.items c.args.pid no_end).stored (pair_at r.lists.value.stores c.args.pid))) c.get-memory.ensures) i;
      puts = (c.get.ensures ∙ ap (λ (l : Lists). row_at l.puts c.args.pid) all) i;
      gets = (c.row.ensures ∙ ap (λ (l : Lists). row_at l.gets c.args.pid) all) i;
      sends = (c.get-2.ensures ∙ ap (λ (l : Lists). row_at l.sends c.args.pid) all) i;
      pops = (c.row-2.ensures ∙ ap (λ (l : Lists). row_at l.pops c.args.pid) all) i;
      pushes = (c.row-3.ensures ∙ ap (λ (l : Lists). row_at l.pushes c.args.pid) all) i;
      tag = (c.first-2.ensures ∙ ap (λ (l : Lists). first_at l.tags c.args.pid) all) i;
      lines = (c.get-3.ensures ∙ ap (λ (l : Lists). row_at l.lines c.args.pid) all) i;
      work = (c.from.ensures ∙ ap (λ (e : TurnEnd). e.work) end) i;
    }

pub invariant_of-result : goal.invariant_of-result
invariant_of-result c = subst IsOutcome (sym (parts_of c)) (c.self.invariant.lawful c.args.pid (within c.self.inside c.args.self.now c.args.pid c.self.view_is c.requires))

pub returns : goal.returns
returns c =
    let r = c.self.inside in
    parts_of c ∙ sym (outcome-outcomes_of r.ends.items r.memories r.lists.value c.args.pid no_outcome (within r c.args.self.now c.args.pid c.self.view_is c.requires))
    ∙ ap (λ (os : List OutcomeParts). get_or os c.args.pid no_outcome) c.self.view_is
