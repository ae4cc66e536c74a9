use Rattle.std.proofs.Common.{◌≡◌, suc, ◌+◌, ◌-◌, ◌&&◌, Some, ap, sym, ◌∙◌, arith}
use Rattle.std.proofs.lemmas.Bool.Decides.{not_from_Decides}
use Rattle.std.proofs.lemmas.Option.{slice_get-get_or}
use Rattle.bsp_step.specs.Footprint.{same_where_looked_at}
use Rattle.bsp_step.specs.ViewParts.{ViewParts}
use Rattle.bsp_step.proofs.WhereLookedAt.{where-same, where-none, where-everywhere, where-either}
use Rattle.bsp_kernels.specs.Inside.Showing.{known_at}
use Rattle.bsp_kernels.specs.Kernels.{kernel_looks}
use Rattle.bsp_kernels.specs.Known.{looks_from, within}
use Rattle.bsp_kernels.specs.Machine.{setting_of}
use Rattle.bsp_kernels.proofs.LooksFrom.{everywhere-from, over-from, past-from, reads-from}
use Rattle.bsp_kernels.proofs.kernel.Kernel.sees_same.Goals as goal

pub loop-shown-init : goal.loop-shown-init
loop-shown-init c =
    let k = c.args.self.now in
    let v = c.args.view.now in
    let whole : k.looking_budget ≡ k.looking_budget - 0 = omega arith in
    λ i. same_where_looked_at (looks_from k.code (whole i) (setting_of (sym c.as_slice-constants.ensures i) v) (sym (c.new-knowledge.ensures v.queue) i)) v.memory c.args.memory.now

pub returns-then-same : goal.returns-then-same
returns-then-same c =
    let on : c.view.inside.memory ≡ c.args.view.now.memory = ap (λ (v : ViewParts). v.memory) c.view.view_is in
    sym (where-same (kernel_looks c.args.self.now c.args.view.now) c.args.view.now.memory c.args.memory.now (sym on ∙ c.same.ensures.0 c.if-same.true))

pub returns-in_default : goal.returns-in_default
returns-in_default c =
    let code = c.args.self.now.code in
    let xs = c.as_slice-code.result.now in
    let place = c.loop-shown.place in
    let queue = c.args.view.now.queue in
    let g = setting_of c.as_slice-constants.result.now c.args.view.now in
    let k = known_at queue c.loop-shown.knowledge place in
    let n = c.args.self.now.looking_budget - c.loop-shown.shown in
    let m = c.args.self.now.looking_budget - (c.loop-shown.shown + 1) in
    let below = c.loop-shown-test.true in
    let count : n ≡ suc m = omega (arith, below) in
    sym (c.loop-shown.invariant ∙ where-none (looks_from code n g k) c.args.view.now.memory c.args.memory.now (past-from code xs n m g k count c.as_slice-code.ensures c.in_default.ensures.lookup.3))

pub returns-in-Everywhere : goal.returns-in-Everywhere
returns-in-Everywhere c =
    let code = c.args.self.now.code in
    let xs = c.as_slice-code.result.now in
    let place = c.loop-shown.place in
    let queue = c.args.view.now.queue in
    let g = setting_of c.as_slice-constants.result.now c.args.view.now in
    let k = known_at queue c.loop-shown.knowledge place in
    let n = c.args.self.now.looking_budget - c.loop-shown.shown in
    let m = c.args.self.now.looking_budget - (c.loop-shown.shown + 1) in
    let below = c.loop-shown-test.true in
    let count : n ≡ suc m = omega (arith, below) in
    let i = c.in-Some.instruction.now in
    let found = c.in-Some.ensures.lookup in
    let is = slice_get-get_or xs place i found.3.0 ∙ ap Some (sym found.1) in
    sym (c.loop-shown.invariant ∙ where-everywhere (looks_from code n g k) c.args.view.now.memory c.args.memory.now (everywhere-from code xs n m g k i queue c.show.new.self count c.as_slice-code.ensures is c.in-Everywhere.ensures) c.requires
    (λ e. not_from_Decides c.same.result c.same.ensures c.if-same.false (ap (λ (v : ViewParts). v.memory) c.view.view_is ∙ e)))

pub returns-in-Over : goal.returns-in-Over
returns-in-Over c =
    let code = c.args.self.now.code in
    let xs = c.as_slice-code.result.now in
    let place = c.loop-shown.place in
    let queue = c.args.view.now.queue in
    let g = setting_of c.as_slice-constants.result.now c.args.view.now in
    let k = known_at queue c.loop-shown.knowledge place in
    let n = c.args.self.now.looking_budget - c.loop-shown.shown in
    let m = c.args.self.now.looking_budget - (c.loop-shown.shown + 1) in
    let below = c.loop-shown-test.true in
    let count : n ≡ suc m = omega (arith, below) in
    let i = c.in-Some.instruction.now in
    let found = c.in-Some.ensures.lookup in
    let is = slice_get-get_or xs place i found.3.0 ∙ ap Some (sym found.1) in
    sym (c.loop-shown.invariant ∙ where-none (looks_from code n g k) c.args.view.now.memory c.args.memory.now (over-from code xs n m g k i queue c.show.new.self count c.as_slice-code.ensures is c.in-Over.ensures))

pub returns-then-not-are_same_within : goal.returns-then-not-are_same_within
returns-then-not-are_same_within c =
    let code = c.args.self.now.code in
    let xs = c.as_slice-code.result.now in
    let place = c.loop-shown.place in
    let queue = c.args.view.now.queue in
    let g = setting_of c.as_slice-constants.result.now c.args.view.now in
    let k = known_at queue c.loop-shown.knowledge place in
    let n = c.args.self.now.looking_budget - c.loop-shown.shown in
    let m = c.args.self.now.looking_budget - (c.loop-shown.shown + 1) in
    let below = c.loop-shown-test.true in
    let count : n ≡ suc m = omega (arith, below) in
    let i = c.in-Some.instruction.now in
    let found = c.in-Some.ensures.lookup in
    let is = slice_get-get_or xs place i found.3.0 ∙ ap Some (sym found.1) in
    sym (c.loop-shown.invariant ∙ where-either (within c.in-Reads.from c.in-Reads.len) (looks_from code m g (known_at queue c.show.new.self c.in-Reads.next)) (looks_from code n g k) c.args.view.now.memory c.args.memory.now (reads-from code xs n m g k i c.in-Reads.from c.in-Reads.len c.in-Reads.next queue c.show.new.self count c.as_slice-code.ensures is c.in-Reads.ensures)
    ∙ ap (λ b. b && same_where_looked_at (looks_from code m g (known_at queue c.show.new.self c.in-Reads.next)) c.args.view.now.memory c.args.memory.now)
    (sym (c.are_same_within.ensures ∙ ap (λ (v : ViewParts). same_where_looked_at (within c.in-Reads.from c.in-Reads.len) v.memory c.args.memory.now) c.view.view_is) ∙ c.if-not-are_same_within.true))

pub loop-shown-preserved : goal.loop-shown-preserved
loop-shown-preserved c =
    let code = c.args.self.now.code in
    let xs = c.as_slice-code.result.now in
    let place = c.loop-shown.place in
    let queue = c.args.view.now.queue in
    let g = setting_of c.as_slice-constants.result.now c.args.view.now in
    let k = known_at queue c.loop-shown.knowledge place in
    let n = c.args.self.now.looking_budget - c.loop-shown.shown in
    let m = c.args.self.now.looking_budget - (c.loop-shown.shown + 1) in
    let below = c.loop-shown-test.true in
    let count : n ≡ suc m = omega (arith, below) in
    let i = c.in-Some.instruction.now in
    let found = c.in-Some.ensures.lookup in
    let is = slice_get-get_or xs place i found.3.0 ∙ ap Some (sym found.1) in
    c.loop-shown.invariant ∙ where-either (within c.in-Reads.from c.in-Reads.len) (looks_from code m g (known_at queue c.show.new.self c.in-Reads.next)) (looks_from code n g k) c.args.view.now.memory c.args.memory.now (reads-from code xs n m g k i c.in-Reads.from c.in-Reads.len c.in-Reads.next queue c.show.new.self count c.as_slice-code.ensures is c.in-Reads.ensures)
    ∙ ap (λ b. b && same_where_looked_at (looks_from code m g (known_at queue c.show.new.self c.in-Reads.next)) c.args.view.now.memory c.args.memory.now)
    (sym (c.are_same_within.ensures ∙ ap (λ (v : ViewParts). same_where_looked_at (within c.in-Reads.from c.in-Reads.len) v.memory c.args.memory.now) c.view.view_is) ∙ c.if-not-are_same_within.false)

pub returns : goal.returns
returns c =
    let code = c.args.self.now.code in
    let g = setting_of c.as_slice-constants.result.now c.args.view.now in
    let k = known_at c.args.view.now.queue c.loop-shown.knowledge c.loop-shown.place in
    let past = c.loop-shown-test.false in
    let spent : c.args.self.now.looking_budget - c.loop-shown.shown ≡ 0 = omega (arith, past) in
    sym (c.loop-shown.invariant ∙ where-everywhere (looks_from code (c.args.self.now.looking_budget - c.loop-shown.shown) g k) c.args.view.now.memory c.args.memory.now
    (λ a. ap (λ left. looks_from code left g k a) spent) c.requires
    (λ e. not_from_Decides c.same.result c.same.ensures c.if-same.false (ap (λ (v : ViewParts). v.memory) c.view.view_is ∙ e)))
