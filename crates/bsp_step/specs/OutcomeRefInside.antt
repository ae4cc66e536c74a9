-- The parts of an outcome that is read where it lies, from its fields.
use Rattle.bsp_step.specs.declared.outcome.OutcomeRef.TheInside.{Inside}
use Rattle.bsp_step.specs.OutcomeParts.{OutcomeParts, IsOutcome}

abbrev pub outcome_parts : Inside → OutcomeParts
outcome_parts o =
    record {
      fault = o.fault;
      ended = o.ended;
      memory = o.memory;
      stores = o.stores;
      puts = o.puts;
      gets = o.gets.now;
      sends = o.sends;
      pops = o.pops.now;
      pushes = o.pushes.now;
      tag = o.tag;
      lines = o.lines;
      work = o.work;
    }

abbrev pub IsLawful : Inside → Type 0
IsLawful o = IsOutcome (outcome_parts o)
