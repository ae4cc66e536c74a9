-- That the document of a session is a job again (this profile).
use Rattle.std.specs.Prelude.{◌≡◌, ◌≤◌, ◌^◌, ℕ, Bool, true, List, [], None, Ok, IsSomeAnd, nat_lt}
use Rattle.std.specs.List.{list_all}
use Rattle.toml.specs.Data.{members_depth}
use Rattle.bsp_model.specs.declared.input.Input.{Input}
use Rattle.bsp_model.specs.Input.{input_fault}
use Rattle.bsp_engine.specs.declared.jobs.Job.{Job}
use Rattle.bsp_engine.specs.Catalogue.{Meaning}
use Rattle.bsp_text.specs.DocumentText.{document_text}
use Rattle.bsp_engine.specs.Document.{IsPrinted, most_depth, own_members}
use Rattle.bsp_engine.specs.JobOf.{job_of}
use Rattle.bsp_engine.specs.Tree.{tree_of}

-- Each word can be written as an integer of a document.
abbrev pub can_be_written : List (List ℕ) → Bool
can_be_written rows = list_all (list_all (λ w. nat_lt w (2 ^ 63))) rows

-- Where these bytes are a job, the document of an input, with the text that is printed for the own keys of these bytes,
-- is the job of the same program, with this input and no batches.
abbrev pub DocumentsReadBack : {P : Type 0} → Meaning P → Type 0
DocumentsReadBack {P} meaning =
    (bytes own : List ℕ) (job : Job P) (input : Input) → job_of meaning bytes ≡ Ok job
    → IsSomeAnd (tree_of bytes) (λ t. IsPrinted (own_members t) own × (members_depth (own_members t) ≤ most_depth))
    → input_fault input ≡ None → can_be_written input.mems ≡ true → can_be_written input.args ≡ true
    → job_of meaning (document_text own input) ≡ Ok (record { program = job.program; input = input; batches = [] })
