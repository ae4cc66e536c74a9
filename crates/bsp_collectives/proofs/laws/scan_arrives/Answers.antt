use Rattle.bsp_collectives.proofs.Arriving.{scan-arrives}
use Rattle.bsp_collectives.proofs.laws.scan_arrives.Goals as goal

pub returns : goal.returns
returns c = scan-arrives
