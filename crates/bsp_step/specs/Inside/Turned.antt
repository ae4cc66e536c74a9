-- What a turn has left whose lists stand behind those of earlier turns.
use Rattle.bsp_step.specs.declared.outcome.Turned.{Turned}
use Rattle.bsp_step.specs.OutcomeParts.{OutcomeParts}

abbrev pub outcome_left : Turned → OutcomeParts
outcome_left t =
    record {
      fault = t.fault;
      ended = t.ended;
      memory = t.workspace.value.local.memory;
      stores = t.workspace.value.local.stores;
      puts = t.rows.value.puts;
      gets = t.rows.value.gets;
      sends = t.rows.value.sends;
      pops = t.rows.value.pops;
      pushes = t.rows.value.pushes;
      tag = t.tag;
      lines = t.rows.value.lines;
      work = t.work;
    }
