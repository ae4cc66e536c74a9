-- What is known of the answers to lines (this profile).
use Rattle.std.specs.Prelude.{◌≡◌, ℕ, Bool, false, List, ◌++◌, map, codes, None}
use Rattle.std.specs.List.{list_any}
use Rattle.bsp_model.specs.Input.{input_fault}
use Rattle.bsp_model.specs.declared.fault.End.{End}
use Rattle.bsp_step.specs.ViewParts.{ViewParts}
use Rattle.bsp_step.specs.Act.{Act}
use Rattle.bsp_incr.specs.declared.edit.Edit.{Edit}
use Rattle.bsp_incr.specs.Edits.{refusal_of}
use Rattle.bsp_engine.specs.declared.asked.Asked.TheVariants.{Batch, Undo}
use Rattle.bsp_engine.specs.declared.jobs.Job.{Job}
use Rattle.bsp_options.specs.declared.options.Detail.{Detail}
use Rattle.bsp_engine.specs.Asked.{asked_of, asks_for_text}
use Rattle.bsp_engine.specs.Blocks.{text_of}
use Rattle.bsp_engine.specs.Live.{AreLiveReplies, LiveParts, Replying, after, after_batch, due_of}

-- Where each line asks for a batch, a session says what stands in the report of a document that has these batches behind its own. The line `ready`
-- stands between the two.
abbrev pub LinesAreBatches : {P : Type 0} → (P → ViewParts → List Act) → (P → ViewParts → End) → (P → ViewParts → ℕ → Bool) → Type 0
LinesAreBatches {P} acts ending looks =
    (replying : Replying P) (detail : Detail) (own : List ℕ) (job : Job P) (lines : List (List ℕ)) (batches : List (List Edit)) → AreLiveReplies acts ending looks replying
    → input_fault job.input ≡ None → map asked_of lines ≡ map Batch batches → list_any asks_for_text lines ≡ false
    → (later : List ℕ) × (text_of detail (replying.job detail (record job { batches = job.batches ++ batches })) ≡ text_of detail (replying.job detail job) ++ later)
    × (due_of acts ending replying detail own job lines ≡ text_of detail (replying.job detail job) ++ codes "ready\n" ++ later)

-- `undo` after an accepted batch leaves the session as it was before: its input, and what else can be taken back. So it is never refused.
abbrev pub UndoTakesBack : Type 0 → Type 0
UndoTakesBack P = (live : LiveParts P) (batch : List Edit) → input_fault live.input ≡ None → refusal_of live.input batch ≡ None → after (after_batch live batch) Undo ≡ live
