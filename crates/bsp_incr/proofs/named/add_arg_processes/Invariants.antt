use Rattle.std.proofs.Common.{◌≡◌, drop}
use Rattle.std.specs.List.{flat_map}
use Rattle.bsp_incr.specs.Named.{arg_pids, with_members}
use Rattle.bsp_incr.proofs.named.add_arg_processes.Given as goal

-- the edits that are left
abbrev pub invariant-loop-edit : goal.invariant-loop-edit
invariant-loop-edit l = with_members l.processes (flat_map arg_pids (drop l.edit-index l.edits)) ≡ with_members l.initial.processes (flat_map arg_pids l.edits)
