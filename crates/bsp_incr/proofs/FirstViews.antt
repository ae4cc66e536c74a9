-- What the processes see in superstep 0 of an edited input.
use Rattle.std.proofs.Common.{◌≡◌, ◌<◌, ℕ, Bool, true, false, List, [], Some, map, length, get_or, arith, refl, sym, ap, ◌∙◌}
use Rattle.std.proofs.lemmas.List.{get_or_default, get_or-map, length-map}
use Rattle.std.proofs.lemmas.List.FromFn.{fill_by_all, get_or-map-range_with_len, length-map-range_with_len}
use Rattle.bsp_model.specs.declared.input.Input.{Input}
use Rattle.bsp_model.specs.declared.request.Message.{Message}
use Rattle.bsp_step.specs.ViewParts.{ViewParts}
use Rattle.bsp_step.specs.OutcomeParts.{OutcomeParts}
use Rattle.bsp_deliver.specs.Requests.{each_below}
use Rattle.bsp_run.specs.State.{cell_of, first_cell, first_state, no_messages, view_of, views_of}
use Rattle.bsp_run.specs.Run.{Run, start, open_views}
use Rattle.bsp_run.specs.Condition.{no_view}
use Rattle.bsp_run.specs.Law.{views_in}
use Rattle.bsp_run.specs.Inside.Record.{IsRecord}
use Rattle.bsp_run.proofs.Records.{state_at-first}
use Rattle.bsp_incr.specs.Inside.Before.{first_views_before, first_view_before, IsBefore}
use Rattle.bsp_incr.specs.Inside.Marks.{AreFirstMarked}
use Rattle.bsp_model.specs.ProcessSet.{processes_where}
use Rattle.bsp_model.specs.Replaced.{replaced}
use Rattle.bsp_incr.proofs.Patching.{patched, patched_is}
use Rattle.bsp_incr.proofs.RunBefore.{record_of_law}

-- what each process sees first
first_views : (input : Input) → open_views (start input) ≡ each_below (length input.mems) (view_of input.args 0 (first_state input))
unfolding start views_of first_state
first_views input = refl

started : (turn : ViewParts → OutcomeParts) (input : Input) → open_views (start input) ≡ views_in turn input 0
unfolding start
started turn input = ap (views_of input.args 0) (sym (state_at-first turn input))

-- a run begins with the first views of its input
first_views_of : (turn : ViewParts → OutcomeParts) (input : Input) (r : Run) → IsRecord turn input r → first_views_before r ≡ open_views (start input)
first_views_of turn input r h = h.views 0 (omega arith) ∙ sym (started turn input)

-- a process has no messages at first
first_queue : (i : Input) (p : ℕ) → p < length i.mems → (view_of i.args 0 (first_state i) p).queue ≡ []
unfolding first_state
first_queue i p l = get_or-map no_messages i.mems p [] [] l

-- The memories and the queues that the processes saw first in the previous run, with those of the marked processes in their places, are the new ones.
pub first_cells_in_place : (turn : ViewParts → OutcomeParts) (r : Run) (input : Input) (marks : List Bool) (marked : List ℕ) → IsBefore turn input (Some r) → AreFirstMarked (Some r) input marks → marked ≡ processes_where (length marks) (λ p. get_or marks p false)
    → replaced (map cell_of (first_views_before r)) marked (map (first_cell input.mems) marked) ≡ map (λ m. (m, no_messages m)) input.mems
first_cells_in_place turn r input marks marked began h listed =
    let n = length input.mems in
    let i = began.input_before in
    let f : ℕ → List ℕ × List Message = first_cell input.mems in
    let g = view_of i.args 0 (first_state i) in
    let test : ℕ → Bool = λ p. get_or marks p false in
    let views = first_views_before r in
    let cells = map cell_of views in
    let fresh : List ℕ → List ℕ × List Message = λ m. (m, no_messages m) in
    let seen : views ≡ each_below n g = first_views_of turn i r (record_of_law turn began.input_before r began.lawful began.law) ∙ first_views i ∙ ap (λ k. each_below k g) began.stands in
    let long : length views ≡ n = ap (λ (vs : List ViewParts). length vs) seen ∙ length-map-range_with_len g 0 n in
    let there : (p : ℕ) → p < n → test p ≡ false → get_or cells p ([], []) ≡ f p =
    λ p l t.
    let clean : get_or marks p true ≡ false = get_or_default marks p true false (omega (arith, l, h.count)) ∙ t in
    let at : first_view_before r p ≡ g p = ap (λ (vs : List ViewParts). get_or vs p no_view) seen ∙ get_or-map-range_with_len g 0 n p p no_view l (omega arith) in
    let memory = h.memory p l clean r refl in
    let queue = ap (λ (v : ViewParts). v.queue) at ∙ first_queue i p (omega (arith, l, began.stands)) in
    get_or-map cell_of views p no_view ([], []) (omega (arith, l, long)) ∙ (λ k. (memory k, queue k)) in
    let all : map fresh input.mems ≡ each_below n f = fill_by_all f (map fresh input.mems) n ([], []) (length-map input.mems fresh) (λ p l. get_or-map fresh input.mems p [] ([], []) l) in
    ap (λ (ps : List ℕ). patched f cells ps) (listed ∙ ap (λ k. processes_where k test) h.count) ∙ patched_is f test n cells ([], []) (length-map views cell_of ∙ long) there ∙ sym all
