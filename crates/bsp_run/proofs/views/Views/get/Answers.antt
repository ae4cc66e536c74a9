use Rattle.std.proofs.Common.{◌≡◌, ◌<◌, ◌∙◌, ℕ, List, [], ap, sym, subst, get_or, length, arith}
use Rattle.std.proofs.Math.ListN.{get_or-map}
use Rattle.std.proofs.lemmas.List.{get_or_default, length-map}
use Rattle.bsp_model.specs.declared.request.Message.{Message}
use Rattle.bsp_step.specs.ViewParts.{ViewParts, IsView}
use Rattle.bsp_run.specs.declared.views.Views.TheInside.{Inside}
use Rattle.bsp_run.specs.State.{view_of}
use Rattle.bsp_run.specs.Condition.{no_view}
use Rattle.bsp_run.specs.Inside.Views.{seen_in, state_in}
use Rattle.bsp_run.proofs.Conditions.{length-views_of, view-views_of}
use Rattle.bsp_run.proofs.ViewsOfStates.{view_within}
use Rattle.bsp_run.proofs.views.Views.get.Goals as goal
use Rattle.bsp_run.proofs.views.Views.get.Goals.{After-queue}

-- a memory and a queue for each of the cells

long : (v : Inside) → length (state_in v).memories ≡ length v.cells
long v = length-map v.cells (λ (cell : List ℕ × List Message). cell.0)

long_queues : (v : Inside) → length (state_in v).queues ≡ length v.cells
long_queues v = length-map v.cells (λ (cell : List ℕ × List Message). cell.1)

-- a process of the views is one of the cells
known : (v : Inside) (now : List ViewParts) (pid : ℕ) → seen_in v ≡ now → pid < length now → pid < length v.cells
known v now pid seen l =
    let many : length now ≡ length (state_in v).memories = ap (λ (vs : List ViewParts). length vs) (sym seen) ∙ length-views_of v.setting.args v.setting.step (state_in v) in
    omega (arith, l, many, long v)

pub offset_bounds-as_slice-pid : goal.offset_bounds-as_slice-pid
offset_bounds-as_slice-pid c =
    let l = known c.self.inside c.args.self.now c.args.pid c.self.view_is c.requires in
    let args : length c.as_slice.result.now ≡ length c.self.inside.setting.args = ap (λ (xs : List (List ℕ)). length xs) c.as_slice.ensures in
    omega (arith, l, args, c.self.invariant.same_args, long c.self.inside, c.as_slice.type_inv.1)

pub bounds-as_slice-pid : goal.bounds-as_slice-pid
bounds-as_slice-pid c =
    let l = known c.self.inside c.args.self.now c.args.pid c.self.view_is c.requires in
    let args : length c.as_slice.result.now ≡ length c.self.inside.setting.args = ap (λ (xs : List (List ℕ)). length xs) c.as_slice.ensures in
    omega (arith, l, args, c.self.invariant.same_args, long c.self.inside)

pub find-place-requires : goal.find-place-requires
find-place-requires c = known c.self.inside c.args.self.now c.args.pid c.self.view_is c.requires

-- the parts that are found make the view of the process
parts_of : (c : After-queue)
    → record { nprocs = c.len.result; pid = c.args.pid; step = c.self.inside.setting.step; args = c.as_slice-2.result.now; memory = c.memory.result; table = c.self.inside.setting.table; tag_size = c.self.inside.setting.tag_size; queue = c.queue.result }
    ≡ view_of c.self.inside.setting.args c.self.inside.setting.step (state_in c.self.inside) c.args.pid
parts_of c =
    let v = c.self.inside in
    let l = known v c.args.self.now c.args.pid c.self.view_is c.requires in
    let count : c.len.result ≡ length (state_in v).memories = c.len.ensures ∙ sym (long v) in
    let args : c.as_slice-2.result.now ≡ get_or v.setting.args c.args.pid [] =
    c.as_slice-2.ensures ∙ c.index-as_slice-pid.is ∙ ap (λ (xs : List (List ℕ)). get_or xs c.args.pid c.index-as_slice-pid.result) c.as_slice.ensures
    ∙ get_or_default v.setting.args c.args.pid c.index-as_slice-pid.result [] (omega (arith, l, c.self.invariant.same_args, long v)) in
    let memory : c.memory.result ≡ get_or (state_in v).memories c.args.pid [] = c.memory.ensures ∙ ap (λ (cell : List ℕ × List Message). cell.0) (c.find-place.ensures.there ([], [])) ∙ sym (get_or-map (λ (cell : List ℕ × List Message). cell.0) v.cells c.args.pid ([], [])) in
    let queue : c.queue.result ≡ get_or (state_in v).queues c.args.pid [] = c.queue.ensures ∙ ap (λ (cell : List ℕ × List Message). cell.1) (c.find-place.ensures.there ([], [])) ∙ sym (get_or-map (λ (cell : List ℕ × List Message). cell.1) v.cells c.args.pid ([], [])) in
    λ i. record { nprocs = count i; pid = c.args.pid; step = v.setting.step; args = args i; memory = memory i; table = v.setting.table; tag_size = v.setting.tag_size; queue = queue i }

pub invariant_of-result : goal.invariant_of-result
invariant_of-result c =
    let v = c.self.inside in
    let l = known v c.args.self.now c.args.pid c.self.view_is c.requires in
    let there : c.args.pid < length (state_in v).memories = omega (arith, l, long v) in
    subst IsView (sym (parts_of c)) (view_within v.setting.args v.setting.step (state_in v) c.args.pid c.self.invariant (long_queues v ∙ sym (long v)) there)

pub returns : goal.returns
returns c =
    let v = c.self.inside in
    let l = known v c.args.self.now c.args.pid c.self.view_is c.requires in
    let there : c.args.pid < length (state_in v).memories = omega (arith, l, long v) in
    parts_of c ∙ sym (view-views_of v.setting.args v.setting.step (state_in v) c.args.pid there) ∙ ap (λ (vs : List ViewParts). get_or vs c.args.pid no_view) c.self.view_is
