-- THE INPUT OF A JOB, in the order of work: its own file, and then each file that it names (this project's own).
-- A file that is named twice is fetched twice.
use Rattle.std.specs.Prelude.{◌⊎◌, ℕ, List, [], ◌∷◌, ◌++◌, map, Option}
use Rattle.tc_base.specs.Outside.{Held, Asked, AppendsUpTo}
use Rattle.job_lines.specs.declared.job.Job.{Job}
use Rattle.job_files.specs.Named.{JobFile, name_of, files_of}
use Rattle.job_files.specs.Holdings.{HasJobFile}

abbrev pub names_of : List JobFile → List (List ℕ)
names_of files = map name_of files

abbrev pub input_names : List ℕ → Job → List (List ℕ)
input_names name job = name ∷ names_of (files_of job)

-- a front of the input of the job under the name was fetched, and of more names behind it: what a job names is
-- known once its own file was read
abbrev pub FetchesInput : Option Held → Asked → Asked → List ℕ → List (List ℕ) → Type 0
FetchesInput told old new name more =
    AppendsUpTo old new (name ∷ [])
    ⊎ ((said : Job) × HasJobFile told name said × AppendsUpTo old new (input_names name said ++ more))
