-- The law holds of the run of the input, and the history is that run.
use Rattle.std.proofs.Common.{◌≡◌, sym, subst}
use Rattle.bsp_model.specs.declared.input.Input.{Input}
use Rattle.bsp_step.specs.Turn.{turn_of}
use Rattle.bsp_run.specs.Run.{Run, run}
use Rattle.bsp_run.proofs.OneRun.{one_run}
use Rattle.bsp_right.proofs.computes.session_computes.Goals as goal

carried : (claim : Input → Run → Type 0) (run_of : Input → Run) (given input : Input) (read history : Run) → given ≡ input → read ≡ run_of input → read ≡ history → claim given (run_of given) → claim input history
carried claim run_of given input read history same is kept law =
    subst (claim input) kept (subst (claim input) (sym is) (subst (λ i. claim i (run_of i)) same law))

pub returns : goal.returns
returns g c =
    let session = c.args.session.now in
    let read = c.history-history in
    let turn = turn_of (g.P.Program.acts session.program) (g.P.Program.ending session.program) in
    let is : read.result.now ≡ run turn session.input = (one_run turn session.input read.result.now c.input.ensures.lawful).0 read.ensures.law in
    carried (g.P.Computes.computes session.program) (run turn)
    c.input.result.now session.input read.result.now session.history c.input.ensures.input is read.ensures.history (c.law.ensures session.program)
