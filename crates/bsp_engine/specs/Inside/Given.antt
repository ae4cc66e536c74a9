-- The result against which a block of changes is made.
use Rattle.std.specs.Prelude.{Bool, Option, None, Some, if◌then◌else◌}
use Rattle.bsp_run.specs.declared.result.RunResult.{RunResult}
use Rattle.bsp_run.specs.Run.{Run}
use Rattle.bsp_run.specs.Result.{result_of}

-- with changes, the result of a run
abbrev pub result_if : Bool → Run → Option RunResult
result_if changes r = if changes then Some (result_of r) else None
