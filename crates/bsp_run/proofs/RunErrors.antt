-- Why a run was refused.
use Rattle.std.proofs.Common.{◌≡◌, ◌∙◌, Option, None, Result, Ok, Err, sym}
use Rattle.std.specs.Result.{IfErr, IsErrAnd}
use Rattle.bsp_model.specs.declared.fault.InputFault.{InputFault}
use Rattle.bsp_run.specs.declared.result.RunError.{RunError}
use Rattle.bsp_run.specs.RunErrors.{input_fault_of}

-- Want of memory is no fault of the input. P is what the conversion gives.
pub lawful_input_refused : {X : Type 0} (P : RunError → Type 0) (result : Result X RunError) (fault : Option InputFault) → fault ≡ None → ((e : RunError) → P e → input_fault_of e ≡ None) → IsErrAnd result P → IfErr result (λ e. fault ≡ input_fault_of e)
lawful_input_refused P (Ok x) fault none gives h = absurd h
lawful_input_refused P (Err e) fault none gives h = none ∙ sym (gives e h)
