use Rattle.bsp_collectives.proofs.MessagesSent.{turn-sends_made}
use Rattle.bsp_collectives.proofs.laws.turns_send_their_acts.Goals as goal

pub returns : goal.returns
returns c = turn-sends_made
