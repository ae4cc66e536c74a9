use Rattle.std.proofs.Common.{[], length, refl, arith}
use Rattle.bsp_model.proofs.Pages.{words_behind, length-words_of}
use Rattle.bsp_model.proofs.memory_ref.MemoryRef.over_words.Goals as goal

pub returns-clause-words : goal.returns-clause-words
returns-clause-words c = words_behind _ c.args.words.now c.args.words.now _ refl refl refl

pub returns-clause-fits : goal.returns-clause-fits
returns-clause-fits c = omega (arith, length-words_of [] c.args.words.now (length c.args.words.now))
