use Rattle.toml.specs.View.{table_view}
use Rattle.bsp_engine.proofs.LawfulInputs.{lawful_described}
use Rattle.bsp_engine.proofs.jobs.job_in.Goals as goal

pub returns-in-Ok-read_each-clause-lawful : goal.returns-in-Ok-read_each-clause-lawful
returns-in-Ok-read_each-clause-lawful g c = rw c.in-Ok.ensures (lawful_described (table_view c.args.table.now) c.in_ok-check.ensures.ok.sizes)
