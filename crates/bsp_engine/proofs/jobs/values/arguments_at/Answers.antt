use Rattle.bsp_engine.proofs.jobs.values.arguments_at.Goals as goal

pub returns-in-Some : goal.returns-in-Some
returns-in-Some c = rw (← c.in-Some.ensures) (rw (← c.elements.ensures) c.read_each.ensures)
