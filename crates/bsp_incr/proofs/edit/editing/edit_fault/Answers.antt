use Rattle.std.proofs.Common.{◌∙◌, ap, sym}
use Rattle.bsp_incr.specs.Edits.{edit_fault}
use Rattle.bsp_incr.proofs.edit.editing.edit_fault.Goals as goal

pub returns-in-Word : goal.returns-in-Word
returns-in-Word c = c.word_fault.ensures c.in-Word.value ∙ ap (edit_fault c.args.input.now) (sym c.in-Word.is)

pub returns-in-Arg : goal.returns-in-Arg
returns-in-Arg c = c.arg_fault.ensures c.in-Arg.value ∙ ap (edit_fault c.args.input.now) (sym c.in-Arg.is)
