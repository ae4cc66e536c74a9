-- When the words that a get asks for can be read.
use Rattle.std.specs.Prelude.{◌+◌, ◌<◌, ◌≤◌, List, length, slice_index}
use Rattle.bsp_model.specs.declared.request.Get.{Get}
use Rattle.bsp_step.specs.OutcomeParts.{OutcomeParts}
use Rattle.bsp_deliver.specs.Condition.{sizes_of}

-- they are words of the owner's memory
pub record IsReadable (os : List OutcomeParts) (g : Get) : Type 0 where
  pub known : g.owner < length os
  pub inside : g.start + g.len ≤ slice_index (sizes_of os) g.owner
