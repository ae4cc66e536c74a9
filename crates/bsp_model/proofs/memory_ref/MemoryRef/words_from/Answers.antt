use Rattle.bsp_model.proofs.Rests.{cut_piece}
use Rattle.bsp_model.proofs.memory_ref.MemoryRef.words_from.Goals as goal

pub returns : goal.returns
returns c = cut_piece c.args.self.now c.piece_from-words.result.now c.args.address _ c.piece_from-words.ensures.there c.piece_from-words.ensures.rest c.min.ensures
