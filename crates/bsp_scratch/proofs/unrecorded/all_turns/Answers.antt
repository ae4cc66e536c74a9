use Rattle.std.proofs.Common.{◌++◌, ◌<◌, ◌∙◌, ℕ, List, ap, arith, get_or, length, subst, sym}
use Rattle.std.specs.List.{range_with_len}
use Rattle.bsp_step.specs.OutcomeParts.{OutcomeParts}
use Rattle.bsp_run.specs.TurnBy.{turn_by}
use Rattle.std.proofs.lemmas.List.FromFn.{length-range_with_len, get_or-range_with_len}
use Rattle.bsp_run.specs.Shares.{turns_of}
use Rattle.bsp_run.proofs.Shares.{turns_of-all}
use Rattle.bsp_scratch.proofs.unrecorded.all_turns.Goals as goal

pub wide_turns-requires-clause-processes : goal.wide_turns-requires-clause-processes
wide_turns-requires-clause-processes g c κs within =
    let count = length c.args.views.now in
    λ k d l. subst (λ (ps : List ℕ). get_or ps k d < count) (sym c.requires.processes) (omega (arith, get_or-range_with_len 0 count k d (omega (arith, l, ap (λ (ps : List ℕ). length ps) c.requires.processes, length-range_with_len 0 count)), l, ap (λ (ps : List ℕ). length ps) c.requires.processes, length-range_with_len 0 count))

pub returns : goal.returns
returns g c =
    let turn = turn_by g.P.Program c.args.means.now.program.now in
    let views = c.args.views.now in
    let taken : List OutcomeParts = turns_of turn views (range_with_len 0 (length views)) in
    c.replace.ensures.after ∙ c.in_ok-share.ensures ∙ c.in_ok-turns.ensures ∙ (λ i. (c.keep_lists.ensures ∙ c.in_ok-rows.ensures) i ++ turns_of turn views (c.requires.processes i)) ∙ turns_of-all turn views
