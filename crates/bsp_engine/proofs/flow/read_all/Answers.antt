use Rattle.std.proofs.Common.{◌+◌, arith, length, ◌-◌}
use Rattle.bsp_model.specs.Limits.{most_document_bytes}
use Rattle.bsp_engine.proofs.Flowing.{takes_more}
use Rattle.bsp_engine.proofs.flow.read_all.Goals as goal

pub returns-in_err-read_some-clause-taken : goal.returns-in_err-read_some-clause-taken
returns-in_err-read_some-clause-taken g c =
    takes_more _ _ _ c.loop-source.document.items (most_document_bytes + 1 - length c.loop-source.document.items) (most_document_bytes + 1) c.loop-source.invariant.read c.read_some.ensures.taken (omega arith)
