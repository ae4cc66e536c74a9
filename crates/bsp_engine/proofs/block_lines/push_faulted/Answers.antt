use Rattle.std.proofs.Common.{◌∷◌, ◌++◌, ◌∙◌, [], List, ap, append_assoc, arith, codes}
use Rattle.std.specs.List.{flat_map}
use Rattle.std.proofs.lemmas.List.{take_all}
use Rattle.bsp_run.specs.declared.result.ProcessFault.{ProcessFault}
use Rattle.bsp_text.specs.Lines.{line}
use Rattle.bsp_engine.specs.Text.{process_fault_line}
use Rattle.bsp_engine.proofs.block_lines.push_faulted.Goals as goal

pub returns : goal.returns
returns c =
    let faults : List ProcessFault = c.args.faults.now in
    let first = line (codes "status faulted") (c.args.step ∷ []) in
    let all = flat_map process_fault_line faults in
    c.loop-fault.invariant ∙ ap (λ (fs : List ProcessFault). c.push_line.new.text.items ++ flat_map process_fault_line fs) (take_all c.loop-fault.fault-index faults (omega arith))
    ∙ ap (λ t. t ++ all) c.in_ok-push_line.ensures ∙ append_assoc c.args.text.now.items first all
