use Rattle.std.proofs.Common.{◌+◌, ◌≡◌, ◌≤◌, ◌-◌, length}
use Rattle.std.specs.Io.KnownBytes.{Consumes}
use Rattle.bsp_model.specs.Limits.{most_document_bytes}
use Rattle.bsp_engine.proofs.flow.read_all.Given as goal

abbrev pub invariant-loop-source : goal.invariant-loop-source
invariant-loop-source g l = record {
  within : length l.document.items ≤ most_document_bytes + 1;
  read : Consumes (g.S.Source.remaining l.initial.source) (g.S.Source.remaining l.source) l.document.items;
  failures : g.S.Source.failures l.source ≡ g.S.Source.failures l.initial.source;
}

abbrev pub decreases-loop-source : goal.decreases-loop-source
decreases-loop-source g l = most_document_bytes + 1 - length l.document.items
