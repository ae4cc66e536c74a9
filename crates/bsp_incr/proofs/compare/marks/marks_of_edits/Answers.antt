use Rattle.std.proofs.Common.{◌≡◌, ◌∙◌, ℕ, Bool, List, true, false, cond, ◌&&◌, ap, sym, length, replicate}
use Rattle.std.specs.Prelude.{slice_set}
use Rattle.bsp_model.specs.ProcessSet.{processes_in}
use Rattle.bsp_incr.specs.Inside.Before.{first_views_before}
use Rattle.bsp_incr.proofs.Marking.{SameArgs, SameMemory, both_told, count_args, count_views, length-named, marked_more, named, none_marked, told, unnamed_same}
use Rattle.bsp_incr.proofs.Members.{later_known, members_known}
use Rattle.bsp_incr.proofs.compare.marks.marks_of_edits.Goals as goal
use Rattle.bsp_incr.proofs.compare.marks.marks_of_edits.Goals.{then-same_args, else-same_args}

pub loop-process-init : goal.loop-process-init
loop-process-init c =
    let r = c.args.old.now in
    let i = c.args.input.now in
    let es = c.args.edits.now in
    let turn = c.requires.before.0 in
    let before = c.requires.before.1 in
    let n = length i.mems in
    let left : List ℕ = c.into_iter-process-iterator.result in
    let empty : c.none-empty.result ≡ replicate n false = c.none-empty.ensures ∙ ap (λ k. replicate k false) c.len.ensures in
    let are : c.add_arg_processes.new.processes ≡ named n es = cc in
    let all : left ≡ processes_in (named n es) = c.into_iter-process-iterator.ensures.into_iter_gives ∙ c.iter-process-items.ensures ∙ ap processes_in are in
    let same = unnamed_same turn r i es before left all in
    record {
      args = none_marked _ _ n left _ empty (λ p l away. (same p l away).1);
      first = none_marked _ _ n left _ empty same;
      known = members_known (named n es) n left (length-named n es) all;
      seen = members_known (named n es) (length (first_views_before r)) left (length-named n es ∙ sym (count_views turn r i es before)) all;
      given = members_known (named n es) (length i.args) left (length-named n es ∙ sym (count_args turn r i es before)) all;
    }

pub loop-process-preserved : goal.loop-process-preserved
loop-process-preserved c =
    let r = c.args.old.now in
    let i = c.args.input.now in
    let n = length i.mems in
    let q : ℕ = c.in-Some.process in
    let later : List ℕ = c.next.new.self in
    let left : List ℕ = c.loop-process.process-iterator in
    let rest = c.in-Some.ensures.steps in
    let kept = c.loop-process.invariant in
    let same_args : Bool = c.has_same_args-same_args.result in
    let same_memory : Bool = c.has_same_memory-same_memory.result in
    let args = told (SameArgs i q) r same_args c.has_same_args-same_args.ensures in
    let memory = told (SameMemory i q) r same_memory c.has_same_memory-same_memory.ensures in
    let first : List Bool = c.loop-process.first in
    let both : c.if-same_args.mark_unless ≡ same_args && same_memory =
    elim c.if-same_args.branch [
      | then-same_args w ↦ w.mark_unless-is ∙ sym (ap (λ b. b && same_memory) w.if-same_args.true)
      | else-same_args w ↦ w.mark_unless-is ∙ w.if-same_args.false ∙ sym (ap (λ b. b && same_memory) w.if-same_args.false)
    ] in
    record {
      args = marked_more _ _ n q later left same_args c.loop-process.args _ rest c.mark_unless.ensures args kept.args;
      first = marked_more _ _ n q later left (same_args && same_memory) first _ rest (c.mark_unless-in-loop-process.ensures ∙ ap (λ b. cond b first (slice_set first q true)) both)
          (both_told _ _ _ _ same_args same_memory args memory) kept.first;
      known = later_known n q later left rest kept.known;
      seen = later_known (length (first_views_before r)) q later left rest kept.seen;
      given = later_known (length i.args) q later left rest kept.given;
    }
