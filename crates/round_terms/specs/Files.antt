-- The batches of a round with what their files hold (this project's own). Rounds are counted from 1.
use Rattle.std.specs.Prelude.{◌≡◌, ℕ, ◌-◌, ◌≤◌, Bool, List, [], ◌∷◌, length, map, take, drop, sum_by}
use Rattle.std.specs.Prelude.{slice_get, Option, Some, None}
use Rattle.job_lines.specs.declared.job.BatchName.{BatchName}
use Rattle.job_lines.specs.declared.job.Round.{Round}
use Rattle.batch_run.specs.Commands.{commands_of}
use Rattle.lawful_runs.specs.declared.loaded.LoadedJob.{LoadedJob}
use Rattle.lawful_runs.specs.Given.{GivenBatch, batches_named}

-- the batch of a control: whether it goes on after a line that isn't accepted, and the bytes of its file
pub record RoundFile : Type 0 where
  pub control : ℕ
  pub force : Bool
  pub bytes : List ℕ

-- files are handed out in the order in which the round names them
abbrev pub files_with : List BatchName → List (List ℕ) → List RoundFile
files_with (name ∷ names) (bytes ∷ files) =
    record { control = name.control; force = name.force; bytes = bytes } ∷ files_with names files
files_with [] files = []
files_with (name ∷ names) [] = []

abbrev pub files_at : Option Round → List (List ℕ) → List RoundFile
files_at None files = []
files_at (Some round) files = files_with round.batches files

-- how many batches the job names before a round
abbrev pub first_file : LoadedJob → ℕ → ℕ
first_file loaded number = batches_named (take (number - 1) loaded.job.rounds)

-- THE BATCHES OF A ROUND
abbrev pub files_of : LoadedJob → ℕ → List RoundFile
files_of loaded number = files_at (slice_get loaded.job.rounds (number - 1))
    (drop (first_file loaded number) loaded.batches)

-- each control has one at most, and is one of so many
pub record AreFiles (files : List RoundFile) (controls : ℕ) : Type 0 where
  pub apart : (at other : ℕ) (file also : RoundFile) → slice_get files at ≡ Some file
      → slice_get files other ≡ Some also → file.control ≡ also.control → at ≡ other
  pub numbered : (at : ℕ) (file : RoundFile) → slice_get files at ≡ Some file
      → (1 ≤ file.control) × (file.control ≤ controls)

-- ---- as a lawful run sees them
abbrev pub given_of : RoundFile → GivenBatch
given_of file = record { control = file.control; force = file.force; commands = commands_of file.bytes }

abbrev pub batches_of : List RoundFile → List GivenBatch
batches_of files = map given_of files

abbrev pub commands_in_all : List RoundFile → ℕ
commands_in_all files = sum_by (λ (file : RoundFile). length (commands_of file.bytes)) files
