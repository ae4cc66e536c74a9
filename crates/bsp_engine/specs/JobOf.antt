-- What job a document is, or the first fault that it has (this profile).
use Rattle.std.specs.Prelude.{ℕ, List, Option, None, Some, Result, Ok, Err, if◌then◌else◌}
use Rattle.toml.specs.Data.{Members}
use Rattle.bsp_model.specs.declared.fault.InputFault.{InputFault}
use Rattle.bsp_engine.specs.declared.errors.JobFault.{JobFault}
use Rattle.bsp_engine.specs.declared.errors.JobFault.TheVariants.{NotToml, UnknownProgram, Input as InputRefused, BadWord}
use Rattle.bsp_engine.specs.declared.jobs.Job.{Job}
use Rattle.bsp_engine.specs.Catalogue.{Meaning}
use Rattle.bsp_engine.specs.Tree.{tree_of}
use Rattle.bsp_engine.specs.Keys.{key_fault}
use Rattle.bsp_engine.specs.Sizes.{described_fault}
use Rattle.bsp_engine.specs.Signs.{has_negative_word}
use Rattle.bsp_engine.specs.Values.{input_of, batches_of}

-- J6, with the first reason to refuse the input; then J7; else the job
abbrev pub job_with : {P : Type 0} → Meaning P → P → Option InputFault → Members → Result (Job P) JobFault
job_with meaning program (Some fault) t = Err (InputRefused fault)
job_with meaning program None t =
    if has_negative_word meaning t then Err BadWord
    else Ok (record { program = program; input = input_of t; batches = batches_of t })

-- J5 before them
abbrev pub job_named : {P : Type 0} → Meaning P → Option P → Members → Result (Job P) JobFault
job_named meaning None t = Err UnknownProgram
job_named meaning (Some program) t = job_with meaning program (described_fault t) t

-- J2, J3 and J4 before it
abbrev pub job_unless : {P : Type 0} → Meaning P → Option JobFault → Members → Result (Job P) JobFault
job_unless meaning (Some fault) t = Err fault
job_unless meaning None t = job_named meaning (meaning.program_of t) t

-- J1 before them
abbrev pub job_of_tree : {P : Type 0} → Meaning P → Option Members → Result (Job P) JobFault
job_of_tree meaning None = Err NotToml
job_of_tree meaning (Some t) = job_unless meaning (key_fault meaning t) t

-- the job of a document, or the first of J1 to J7
abbrev pub job_of : {P : Type 0} → Meaning P → List ℕ → Result (Job P) JobFault
job_of meaning bytes = job_of_tree meaning (tree_of bytes)
