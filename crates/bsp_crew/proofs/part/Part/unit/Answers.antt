use Rattle.bsp_crew.proofs.PartLists.{within_cuts}
use Rattle.bsp_crew.proofs.part.Part.unit.Goals as goal

pub returns : goal.returns
returns c =
    within_cuts c.split.result.0 c.split.result.1 c.«split-2».result.0 c.«split-2».result.1 c.args.self.now c.split.ensures.cut c.«split-2».ensures.cut
