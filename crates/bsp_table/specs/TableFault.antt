-- What a failed step to the next table says of the superstep.
use Rattle.std.specs.Prelude.{Option, None, Some}
use Rattle.bsp_model.specs.declared.fault.SyncFault.{SyncFault}
use Rattle.bsp_table.specs.declared.next.TableFault.{TableFault}
use Rattle.bsp_table.specs.declared.next.TableFault.TheVariants.{Sync, OutOfMemory}

-- Want of memory says that there was no sync fault.
abbrev pub sync_fault_of : TableFault → Option SyncFault
sync_fault_of (Sync fault) = Some fault
sync_fault_of OutOfMemory = None
