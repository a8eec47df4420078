-- The files that a job names, in the order in which its lines name them: round by round, in a round its
-- batches by rising control and then its capture (this project's own).
use Rattle.std.specs.Prelude.{List, [], ◌∷◌, ◌++◌, map, flat_map, ℕ, Option, Some, None}
use Rattle.std.specs.List.{AllByRecursion}
use Rattle.job_lines.specs.declared.job.BatchName.{BatchName}
use Rattle.job_lines.specs.declared.job.CaptureName.{CaptureName}
use Rattle.job_lines.specs.declared.job.Round.{Round}
use Rattle.job_lines.specs.declared.job.Job.{Job}
use Rattle.job_lines.specs.Jobs.{IsName}

-- a file by its name, and what is read there
pub data JobFile : Type 0 where
  Batch : List ℕ → JobFile
  Capture : List ℕ → JobFile

abbrev pub name_of : JobFile → List ℕ
name_of (JobFile.Batch name) = name
name_of (JobFile.Capture name) = name

abbrev pub batch_files : List BatchName → List JobFile
batch_files batches = map (λ (batch : BatchName). JobFile.Batch batch.name) batches

abbrev pub capture_files : Option CaptureName → List JobFile
capture_files None = []
capture_files (Some capture) = JobFile.Capture capture.name ∷ []

abbrev pub round_files : Round → List JobFile
round_files round = batch_files round.batches ++ capture_files round.capture

abbrev pub rounds_files : List Round → List JobFile
rounds_files rounds = flat_map round_files rounds

-- THE FILES OF A JOB; one that is named twice stands there twice
abbrev pub files_of : Job → List JobFile
files_of job = rounds_files job.rounds

-- ---- the names of the batches among files, and of the captures, in order
abbrev pub batches_in : List JobFile → List (List ℕ)
batches_in [] = []
batches_in (JobFile.Batch name ∷ files) = name ∷ batches_in files
batches_in (JobFile.Capture name ∷ files) = batches_in files

abbrev pub captures_in : List JobFile → List (List ℕ)
captures_in [] = []
captures_in (JobFile.Batch name ∷ files) = captures_in files
captures_in (JobFile.Capture name ∷ files) = name ∷ captures_in files

-- each file's name is a name that a job may have
abbrev pub AreNames : List JobFile → Type 0
AreNames files = AllByRecursion (λ (file : JobFile). IsName (name_of file)) files
