-- When an input is refused.
use Rattle.std.specs.Prelude.{Option, None, Some, ◌==◌, ◌&&◌, not, nat_le, nat_lt, length, if◌then◌else◌}
use Rattle.std.specs.List.{list_all}
use Rattle.bsp_model.specs.Limits.{highest_price, most_arguments, most_memory_words, most_processes, most_supersteps}
use Rattle.bsp_model.specs.declared.input.Input.{Input}
use Rattle.bsp_model.specs.declared.fault.InputFault.{InputFault}
use Rattle.bsp_model.specs.declared.fault.InputFault.TheVariants.{NoProcess, TooMany, LengthsDiffer, MemoryTooLong, ArgsTooLong, BadLimit, BadPrice}

-- The first reason why an input is refused (this profile).
abbrev pub input_fault : Input → Option InputFault
input_fault i =
    if length i.mems == 0 then Some NoProcess
    else (if nat_lt most_processes (length i.mems) then Some TooMany
    else (if not (length i.args == length i.mems) then Some LengthsDiffer
    else (if not (list_all (λ m. nat_le (length m) most_memory_words) i.mems) then Some MemoryTooLong
    else (if not (list_all (λ a. nat_le (length a) most_arguments) i.args) then Some ArgsTooLong
    else (if not (nat_le 1 i.limit && nat_le i.limit most_supersteps) then Some BadLimit
    else (if not (nat_le i.g highest_price && nat_le i.l highest_price) then Some BadPrice
    else None))))))
