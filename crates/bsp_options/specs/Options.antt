-- What the words of the command line ask for (this profile).
use Rattle.std.specs.Prelude.{ℕ, Bool, true, false, ◌&&◌, ◌||◌, nat_le, List, [], ◌∷◌, Option, Some, None, codes, pos, if◌then◌else◌}
use Rattle.std.specs.Str.{bytes_eq}
use Rattle.std.specs.Str.Parse.{digits_value, without_leading_plus}
use Rattle.clap.specs.ValueTests.{is_numeral}
use Rattle.clap.specs.Words.{App, Row, Rule, Text, new_app, new_rule, one_of, with_rule}
use Rattle.clap.specs.declared.builder.action.ArgAction.TheVariants.{SetTrue}
use Rattle.clap.specs.declared.builder.value_parser.ValueParser.TheVariants.{Signed}
use Rattle.bsp_model.specs.Limits.{most_workers}
use Rattle.bsp_options.specs.declared.options.Detail.{Detail}
use Rattle.bsp_options.specs.declared.options.Options.{Options}

-- `--workers N`, from 1 to the most workers, 1 where absent
abbrev pub workers_rule : Rule
workers_rule = record (new_rule (codes "workers")) { long = Some (codes "workers"); value_names = 1; defaults = codes "1" ∷ []; parser = Some (Signed (pos 1) (pos most_workers)) }

-- an option that is given or not
abbrev pub flag_rule : List ℕ → Rule
flag_rule name = record (new_rule name) { long = Some name; action = Some SetTrue }

-- `--scratch`
abbrev pub scratch_rule : Rule
scratch_rule = flag_rule (codes "scratch")

-- `--places`
abbrev pub places_rule : Rule
places_rule = flag_rule (codes "places")

-- `--changes`
abbrev pub changes_rule : Rule
changes_rule = flag_rule (codes "changes")

-- `--why`
abbrev pub why_rule : Rule
why_rule = flag_rule (codes "why")

-- `--update-cost`
abbrev pub update_cost_rule : Rule
update_cost_rule = flag_rule (codes "update-cost")

-- `--follow FILE`
abbrev pub follow_rule : Rule
follow_rule = record (new_rule (codes "follow")) { long = Some (codes "follow"); value_names = 1 }

-- `--quiet`
abbrev pub quiet_rule : Rule
quiet_rule = flag_rule (codes "quiet")

-- a command that has a version, which `--version` tells
abbrev pub with_version : App → App
with_version a = record a { top = record a.top { has_version = true } }

-- a command with the options that say what the blocks tell
abbrev pub with_details : App → App
with_details a = with_rule (with_rule (with_rule (with_rule a places_rule) changes_rule) why_rule) update_cost_rule

-- the command of a tool with this name: its version, and these eight options
abbrev pub tool_app : List ℕ → App
tool_app name =
    with_rule (with_rule (with_details (with_rule (with_rule (with_version (new_app name)) workers_rule) scratch_rule)) follow_rule) quiet_rule

-- the number that a text writes
abbrev pub number_of : Text → ℕ
number_of text = digits_value 10 (without_leading_plus text)

-- the text writes a number from 1 to the most workers
abbrev pub is_workers_text : Text → Bool
is_workers_text text = is_numeral (without_leading_plus text) && (nat_le 1 (number_of text) && nat_le (number_of text) most_workers)

-- The number of workers that a text asks for, 1 where there is none. So counts any other text too, which the rule refuses.
abbrev pub workers_of : Option Text → ℕ
workers_of None = 1
workers_of (Some text) = if is_workers_text text then number_of text else 1

-- whether a flag was given
abbrev pub is_given : Option Text → Bool
is_given None = false
is_given (Some text) = bytes_eq text (codes "true")

-- what the blocks are to tell, by the matches of the words: who asks why asks for the places too
abbrev pub detail_of : List Row → Detail
detail_of rows =
    record {
      places = is_given (one_of (codes "places") rows) || is_given (one_of (codes "why") rows);
      changes = is_given (one_of (codes "changes") rows);
      why = is_given (one_of (codes "why") rows);
      update_cost = is_given (one_of (codes "update-cost") rows);
    }

-- the options that the matches of the words name, 1 and false where absent
abbrev pub options_of : List Row → Options
options_of rows =
    record {
      workers = workers_of (one_of (codes "workers") rows);
      scratch = is_given (one_of (codes "scratch") rows);
      detail = detail_of rows;
      quiet = is_given (one_of (codes "quiet") rows);
    }
