-- The lines of what the turn of a process left (this profile).
use Rattle.std.specs.Prelude.{ℕ, List, [], ◌∷◌, ◌++◌, length, take, drop, codes, Option, None, Some}
use Rattle.std.specs.List.{flat_map}
use Rattle.bsp_model.specs.declared.fault.Fault.{Fault}
use Rattle.bsp_model.specs.declared.range.Range.{Range}
use Rattle.bsp_model.specs.declared.request.Put.{Put}
use Rattle.bsp_model.specs.declared.request.Get.{Get}
use Rattle.bsp_model.specs.declared.request.Send.{Send}
use Rattle.bsp_model.specs.Stores.{words_stored}
use Rattle.bsp_model.specs.StoredRanges.{ranges_stored}
use Rattle.bsp_table.specs.declared.area.Area.{Area}
use Rattle.bsp_step.specs.declared.outcome.Ended.{Ended}
use Rattle.bsp_step.specs.declared.outcome.Ended.TheVariants.{Sync, Halt}
use Rattle.bsp_step.specs.OutcomeParts.{OutcomeParts}
use Rattle.bsp_text.specs.Lines.{line}
use Rattle.bsp_text.specs.FaultWords.{fault_word, fault_numbers}

-- `ended sync`, `ended halt`, or `fault Fn` with the number that belongs to the fault
abbrev pub ended_line : Option Fault → Ended → List ℕ
ended_line (Some fault) ended = codes "fault " ++ line (fault_word fault) (fault_numbers fault)
ended_line None Sync = codes "ended sync\n"
ended_line None Halt = codes "ended halt\n"

-- `store A W ..` for each range of words that were stored one behind the other
abbrev pub store_lines : List Range → List ℕ → List ℕ
store_lines [] words = []
store_lines (r ∷ later) words = line (codes "store") (r.start ∷ take r.len words) ++ store_lines later (drop r.len words)

-- `put Q A W ..`
abbrev pub put_line : Put → List ℕ
put_line p = line (codes "put") (p.target ∷ p.start ∷ p.words)

-- `get Q A N I`: the owner, the address there, the number of words, and the own address
abbrev pub get_line : Get → List ℕ
get_line g = line (codes "get") (g.owner ∷ g.start ∷ g.len ∷ g.into ∷ [])

-- `send Q N T .. W ..`: the target, the number of words of the tag, the tag, and the payload
abbrev pub send_line : Send → List ℕ
send_line m = line (codes "send") (m.target ∷ length m.tag ∷ m.tag ++ m.words)

-- `push A N`
abbrev pub push_area_line : Area → List ℕ
push_area_line area = line (codes "push") (area.start ∷ area.len ∷ [])

-- `pop K`
abbrev pub pop_line : ℕ → List ℕ
pop_line slot = line (codes "pop") (slot ∷ [])

-- `tagsize N`, where the next one was chosen
abbrev pub tag_line : Option ℕ → List ℕ
tag_line None = []
tag_line (Some size) = line (codes "tagsize") (size ∷ [])

-- `print W ..`
abbrev pub printed_line : List ℕ → List ℕ
printed_line words = line (codes "print") words

-- what a turn asked to be done at the end of its superstep
abbrev pub request_lines : OutcomeParts → List ℕ
request_lines o =
    flat_map put_line o.puts ++ flat_map get_line o.gets ++ flat_map send_line o.sends ++ flat_map push_area_line o.pushes
    ++ flat_map pop_line o.pops ++ tag_line o.tag

-- the lines of an outcome: how the turn ended, its stores, its requests, its printed lines and its work
abbrev pub turn_lines : OutcomeParts → List ℕ
turn_lines o =
    ended_line o.fault o.ended ++ store_lines (ranges_stored o.stores) (words_stored o.stores) ++ request_lines o
    ++ flat_map printed_line o.lines ++ line (codes "work") (o.work ∷ [])

-- the same between the lines `turn S P` and `end`
abbrev pub turn_block : ℕ → ℕ → OutcomeParts → List ℕ
turn_block step pid o = line (codes "turn") (step ∷ pid ∷ []) ++ turn_lines o ++ codes "end\n"
