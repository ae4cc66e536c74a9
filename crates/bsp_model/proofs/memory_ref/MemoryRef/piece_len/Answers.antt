use Rattle.std.proofs.Common.{arith}
use Rattle.bsp_model.proofs.memory_ref.MemoryRef.piece_len.Goals as goal

pub returns-clause-some : goal.returns-clause-some
returns-clause-some c inside = c.piece.ensures.some inside (omega (arith, inside, c.len.ensures))
