use Rattle.bsp_incr.proofs.rerun.rerun_alone.Goals as goal

pub invariant_of-given : goal.invariant_of-given
invariant_of-given g c = record { lawful = c.requires.lawful; before = c.requires.before; others = c.requires.args }
