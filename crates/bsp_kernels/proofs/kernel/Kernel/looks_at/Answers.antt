use Rattle.std.proofs.Common.{◌≡◌, suc, ◌+◌, ◌-◌, Some, ap, sym, ◌∙◌, arith}
use Rattle.std.proofs.lemmas.Bool.{or_left}
use Rattle.std.proofs.lemmas.Option.{slice_get-get_or}
use Rattle.bsp_kernels.specs.Inside.Showing.{known_at}
use Rattle.bsp_kernels.specs.Known.{looks_from, within}
use Rattle.bsp_kernels.specs.Machine.{setting_of}
use Rattle.bsp_kernels.proofs.LooksFrom.{everywhere-from, or_false, over-from, past-from, reads-from}
use Rattle.bsp_kernels.proofs.kernel.Kernel.looks_at.Goals as goal

pub loop-shown-init : goal.loop-shown-init
loop-shown-init c =
    let k = c.args.self.now in
    let v = c.args.view.now in
    let whole : k.looking_budget ≡ k.looking_budget - 0 = omega arith in
    λ i. looks_from k.code (whole i) (setting_of (sym c.as_slice-constants.ensures i) v) (sym (c.new-knowledge.ensures v.queue) i) c.args.address

pub returns-in_default : goal.returns-in_default
returns-in_default c =
    let code = c.args.self.now.code in
    let xs = c.as_slice-code.result.now in
    let place = c.loop-shown.place in
    let queue = c.args.view.now.queue in
    let g = setting_of c.as_slice-constants.result.now c.args.view.now in
    let k = known_at queue c.loop-shown.knowledge place in
    let n = c.args.self.now.looking_budget - c.loop-shown.shown in
    let m = c.args.self.now.looking_budget - (c.loop-shown.shown + 1) in
    let below = c.loop-shown-test.true in
    let count : n ≡ suc m = omega (arith, below) in
    sym (c.loop-shown.invariant ∙ past-from code xs n m g k count c.as_slice-code.ensures c.in_default.ensures.lookup.3 c.args.address)

pub returns-in-Everywhere : goal.returns-in-Everywhere
returns-in-Everywhere c =
    let code = c.args.self.now.code in
    let xs = c.as_slice-code.result.now in
    let place = c.loop-shown.place in
    let queue = c.args.view.now.queue in
    let g = setting_of c.as_slice-constants.result.now c.args.view.now in
    let k = known_at queue c.loop-shown.knowledge place in
    let n = c.args.self.now.looking_budget - c.loop-shown.shown in
    let m = c.args.self.now.looking_budget - (c.loop-shown.shown + 1) in
    let below = c.loop-shown-test.true in
    let count : n ≡ suc m = omega (arith, below) in
    let i = c.in-Some.instruction.now in
    let found = c.in-Some.ensures.lookup in
    let is = slice_get-get_or xs place i found.3.0 ∙ ap Some (sym found.1) in
    sym (c.loop-shown.invariant ∙ everywhere-from code xs n m g k i queue c.show.new.self count c.as_slice-code.ensures is c.in-Everywhere.ensures c.args.address)

pub returns-in-Over : goal.returns-in-Over
returns-in-Over c =
    let code = c.args.self.now.code in
    let xs = c.as_slice-code.result.now in
    let place = c.loop-shown.place in
    let queue = c.args.view.now.queue in
    let g = setting_of c.as_slice-constants.result.now c.args.view.now in
    let k = known_at queue c.loop-shown.knowledge place in
    let n = c.args.self.now.looking_budget - c.loop-shown.shown in
    let m = c.args.self.now.looking_budget - (c.loop-shown.shown + 1) in
    let below = c.loop-shown-test.true in
    let count : n ≡ suc m = omega (arith, below) in
    let i = c.in-Some.instruction.now in
    let found = c.in-Some.ensures.lookup in
    let is = slice_get-get_or xs place i found.3.0 ∙ ap Some (sym found.1) in
    sym (c.loop-shown.invariant ∙ over-from code xs n m g k i queue c.show.new.self count c.as_slice-code.ensures is c.in-Over.ensures c.args.address)

pub returns-then-is_within : goal.returns-then-is_within
returns-then-is_within c =
    let code = c.args.self.now.code in
    let xs = c.as_slice-code.result.now in
    let place = c.loop-shown.place in
    let queue = c.args.view.now.queue in
    let g = setting_of c.as_slice-constants.result.now c.args.view.now in
    let k = known_at queue c.loop-shown.knowledge place in
    let n = c.args.self.now.looking_budget - c.loop-shown.shown in
    let m = c.args.self.now.looking_budget - (c.loop-shown.shown + 1) in
    let below = c.loop-shown-test.true in
    let count : n ≡ suc m = omega (arith, below) in
    let i = c.in-Some.instruction.now in
    let found = c.in-Some.ensures.lookup in
    let is = slice_get-get_or xs place i found.3.0 ∙ ap Some (sym found.1) in
    sym (c.loop-shown.invariant ∙ reads-from code xs n m g k i c.in-Reads.from c.in-Reads.len c.in-Reads.next queue c.show.new.self count c.as_slice-code.ensures is c.in-Reads.ensures c.args.address
    ∙ or_left (within c.in-Reads.from c.in-Reads.len c.args.address) (looks_from code m g (known_at queue c.show.new.self c.in-Reads.next) c.args.address) (sym c.is_within.ensures ∙ c.if-is_within.true))

pub loop-shown-preserved : goal.loop-shown-preserved
loop-shown-preserved c =
    let code = c.args.self.now.code in
    let xs = c.as_slice-code.result.now in
    let place = c.loop-shown.place in
    let queue = c.args.view.now.queue in
    let g = setting_of c.as_slice-constants.result.now c.args.view.now in
    let k = known_at queue c.loop-shown.knowledge place in
    let n = c.args.self.now.looking_budget - c.loop-shown.shown in
    let m = c.args.self.now.looking_budget - (c.loop-shown.shown + 1) in
    let below = c.loop-shown-test.true in
    let count : n ≡ suc m = omega (arith, below) in
    let i = c.in-Some.instruction.now in
    let found = c.in-Some.ensures.lookup in
    let is = slice_get-get_or xs place i found.3.0 ∙ ap Some (sym found.1) in
    c.loop-shown.invariant ∙ reads-from code xs n m g k i c.in-Reads.from c.in-Reads.len c.in-Reads.next queue c.show.new.self count c.as_slice-code.ensures is c.in-Reads.ensures c.args.address
    ∙ or_false (within c.in-Reads.from c.in-Reads.len c.args.address) (looks_from code m g (known_at queue c.show.new.self c.in-Reads.next) c.args.address) (sym c.is_within.ensures ∙ c.if-is_within.false)
