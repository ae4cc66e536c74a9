-- What a live session shows of its run (this profile).
use Rattle.std.specs.Prelude.{ℕ, List, map, slice_get, codes, Option, None, Some, option_and_then}
use Rattle.bsp_step.specs.ViewParts.{ViewParts}
use Rattle.bsp_step.specs.OutcomeParts.{OutcomeParts}
use Rattle.bsp_run.specs.Run.{Run}
use Rattle.bsp_run.specs.Supersteps.{outcomes_of, supersteps_of, supersteps_opened}
use Rattle.bsp_incr.specs.declared.reply.Place.{Place}
use Rattle.bsp_text.specs.TurnLines.{turn_block}
use Rattle.bsp_text.specs.ViewLines.{view_block}

-- The view of a process in a superstep that was opened: at the limit also in the one after the last.
abbrev pub view_at : Run → Place → Option ViewParts
view_at r place = option_and_then (λ views. slice_get views place.pid) (slice_get (map (λ s. s.views) (supersteps_opened r)) place.step)

-- The outcome of a process in a superstep whose turns were taken.
abbrev pub turn_at : Run → Place → Option OutcomeParts
turn_at r place = option_and_then (λ outcomes. slice_get outcomes place.pid) (slice_get (outcomes_of (supersteps_of r)) place.step)

-- There is no such place.
abbrev pub unread_place : List ℕ
unread_place = codes "unread place\n"

abbrev pub view_if : Place → Option ViewParts → List ℕ
view_if place None = unread_place
view_if place (Some view) = view_block place.step place.pid view

abbrev pub turn_if : Place → Option OutcomeParts → List ℕ
turn_if place None = unread_place
turn_if place (Some turn) = turn_block place.step place.pid turn

-- the answer to a line that asks for the view at a place; none is named where the line cannot be read
abbrev pub view_text : Run → Option Place → List ℕ
view_text r None = unread_place
view_text r (Some place) = view_if place (view_at r place)

-- the same for a turn
abbrev pub turn_text : Run → Option Place → List ℕ
turn_text r None = unread_place
turn_text r (Some place) = turn_if place (turn_at r place)
