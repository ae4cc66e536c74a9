use Rattle.std.proofs.Common.{◌≡◌, suc, ◌+◌, ◌-◌, List, None, Some, ap, sym, ◌∙◌, arith}
use Rattle.std.specs.Prelude.{slice_get}
use Rattle.std.proofs.lemmas.Option.{slice_get-get_or, slice_get_past}
use Rattle.bsp_kernels.specs.declared.instruction.Instruction.{Instruction}
use Rattle.bsp_kernels.specs.Inside.Making.{state_at}
use Rattle.bsp_kernels.specs.Machine.{first_state, plan_from, setting_of}
use Rattle.bsp_kernels.proofs.Continuing.{Continues-from, Continues-step, Leaves-over, Leaves-past, Leaves-step}
use Rattle.bsp_kernels.proofs.kernel.Kernel.follow_all.Goals as goal

pub loop-spent-init : goal.loop-spent-init
loop-spent-init c =
    let k = c.args.self.now in
    let now = c.args.ctx.now in
    let whole : k.budget ≡ k.budget - 0 = omega arith in
    Continues-from now (λ i. plan_from k.code (whole i) (first_state (setting_of (sym c.as_slice-constants.ensures i) now.view) now.memory now.left))
    (ap (plan_from k.code (k.budget - 0)) (sym (c.new-machine.ensures now)))

pub returns-in_default : goal.returns-in_default
returns-in_default c =
    let k = c.args.self.now in
    let place = c.loop-spent.place in
    let n = k.budget - c.loop-spent.spent in
    let m = k.budget - (c.loop-spent.spent + 1) in
    let below = c.loop-spent-test.true in
    let count : n ≡ suc m = omega (arith, below) in
    let past : slice_get k.code place ≡ None =
    ap (λ (xs : List Instruction). slice_get xs place) (sym c.as_slice-code.ensures) ∙ slice_get_past c.as_slice-code.result.now place c.in_default.ensures.lookup.3 in
    Leaves-past k.code n m place c.loop-spent.machine c.loop-spent.invariant count past

pub returns : goal.returns
returns c =
    let k = c.args.self.now in
    let over = c.loop-spent-test.false in
    let none : k.budget - c.loop-spent.spent ≡ 0 = omega (arith, over) in
    Leaves-over k.code (k.budget - c.loop-spent.spent) (state_at c.loop-spent.machine c.loop-spent.ctx c.loop-spent.place) c.loop-spent.invariant none

pub returns-in-Err : goal.returns-in-Err
returns-in-Err c =
    let code = c.args.self.now.code in
    let place = c.loop-spent.place in
    let i = c.in-Some.instruction.now in
    let found = c.in-Some.ensures.lookup in
    let is : slice_get code place ≡ Some i =
    ap (λ (xs : List Instruction). slice_get xs place) (sym c.as_slice-code.ensures) ∙ slice_get-get_or c.as_slice-code.result.now place i found.3.0 ∙ ap Some (sym found.1) in
    let n = c.args.self.now.budget - c.loop-spent.spent in
    let m = c.args.self.now.budget - (c.loop-spent.spent + 1) in
    let below = c.loop-spent-test.true in
    let count : n ≡ suc m = omega (arith, below) in
    Leaves-step code n m place c.loop-spent.machine i c.follow.new.ctx c.follow.new.self c.in-Err.exit c.loop-spent.invariant count is c.in-Err.ensures

pub loop-spent-preserved : goal.loop-spent-preserved
loop-spent-preserved c =
    let code = c.args.self.now.code in
    let place = c.loop-spent.place in
    let i = c.in-Some.instruction.now in
    let found = c.in-Some.ensures.lookup in
    let is : slice_get code place ≡ Some i =
    ap (λ (xs : List Instruction). slice_get xs place) (sym c.as_slice-code.ensures) ∙ slice_get-get_or c.as_slice-code.result.now place i found.3.0 ∙ ap Some (sym found.1) in
    let n = c.args.self.now.budget - c.loop-spent.spent in
    let m = c.args.self.now.budget - (c.loop-spent.spent + 1) in
    let below = c.loop-spent-test.true in
    let count : n ≡ suc m = omega (arith, below) in
    Continues-step code n m place c.loop-spent.machine i c.follow.new.ctx c.in-Ok.next c.follow.new.self c.loop-spent.invariant count is c.in-Ok.ensures
