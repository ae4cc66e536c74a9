-- Laws that the proofs of kernels apply by themselves, where the root file of a crate has
-- `#![tactic(auto, using(bsp_step::proofs::Laws::running))]`: of acts in order, and of loops over numbers in order.
use Rattle.std.proofs.Common.{◌≡◌, List, Option, None, Some, true, refl}
use Rattle.std.specs.Prelude.{is_some}
use Rattle.bsp_model.specs.declared.fault.Fault.{Fault}
use Rattle.bsp_step.specs.Context.{Context}
use Rattle.bsp_step.specs.Act.{Act}
use Rattle.bsp_step.specs.Perform.{perform_all}
use Rattle.bsp_step.proofs.Performing.{perform_all-append, perform_all-kept, perform_all-view, perform_all-length}
use Rattle.bsp_step.proofs.Ranges.{range_with_len-first}

some_kept : (o : Option Fault) (c : Context) (acts : List Act) → c.fault ≡ o → is_some o ≡ true → perform_all c acts ≡ c
some_kept None c acts e some = cc
some_kept (Some f) c acts e some = perform_all-kept c acts f e

-- where a fault is kept, what is left to do changes nothing
pub perform_all-stopped : (c : Context) (acts : List Act) → is_some c.fault ≡ true → perform_all c acts ≡ c
perform_all-stopped c acts some = some_kept c.fault c acts refl some

pub ruleset running = (perform_all-append, perform_all-stopped, range_with_len-first)
