use Rattle.std.proofs.Common.{◌≡◌, ◌++◌, take}
use Rattle.bsp_text.specs.DocumentText.{entry}
use Rattle.bsp_text.specs.Lines.{numbered}
use Rattle.bsp_text.proofs.session_document.push_array.Given as goal

abbrev pub invariant-loop-number : goal.invariant-loop-number
invariant-loop-number g l = l.text.items ≡ l.initial.text.items ++ numbered (entry g.T.Written.written) 0 (take l.number l.items)
