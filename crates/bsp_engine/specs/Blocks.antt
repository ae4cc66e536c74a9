-- The blocks of a report (this profile).
use Rattle.std.specs.Prelude.{ℕ, ◌+◌, Bool, List, [], ◌∷◌, ◌++◌, codes, Option, None, Some, if◌then◌else◌}
use Rattle.bsp_run.specs.declared.result.RunResult.{RunResult}
use Rattle.bsp_incr.specs.declared.reply.Reply.{Reply}
use Rattle.bsp_incr.specs.declared.reply.Reply.TheVariants.{Done, Refused}
use Rattle.bsp_options.specs.declared.options.Detail.{Detail}
use Rattle.bsp_engine.specs.Changes.{changes_of, changes_lines}
use Rattle.bsp_text.specs.Lines.{line}
use Rattle.bsp_engine.specs.Told.{ToldReply}
use Rattle.bsp_engine.specs.Text.{result_lines, update_lines, refusal_line}

-- all of a result, or what of it is another than in a result before
abbrev pub lines_after : Option RunResult → RunResult → List ℕ
lines_after None new = result_lines new
lines_after (Some old) new = changes_lines (changes_of old new)

abbrev pub lines_of_reply : Bool → List ℕ → Option RunResult → Reply → List ℕ
lines_of_reply places more before (Done result update) = lines_after before result ++ update_lines places more update
lines_of_reply places more before (Refused refusal) = refusal_line refusal

-- what follows the line `run K`
abbrev pub reply_lines : Bool → Option RunResult → ToldReply → List ℕ
reply_lines places before told = lines_of_reply places told.more before told.reply

-- the block of reply K
abbrev pub reply_block : Bool → ℕ → Option RunResult → ToldReply → List ℕ
reply_block places k before told = line (codes "run") (k ∷ []) ++ reply_lines places before told

-- With changes, the result of the last block that has one; without, none.
abbrev pub compared_result : Bool → Option RunResult → Reply → Option RunResult
compared_result changes before (Done result update) = if changes then Some result else None
compared_result changes before (Refused refusal) = before

-- the blocks of replies, of which the first has this number, after a block with this result
abbrev pub blocks_after : Detail → ℕ → Option RunResult → List ToldReply → List ℕ
blocks_after detail k before [] = []
blocks_after detail k before (told ∷ later) =
    reply_block detail.places k before told ++ blocks_after detail (k + 1) (compared_result detail.changes before told.reply) later

-- the text of a report
abbrev pub text_of : Detail → List ToldReply → List ℕ
text_of detail replies = blocks_after detail 0 None replies
