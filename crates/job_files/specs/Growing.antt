-- The loading of files, file by file, behind any that were loaded before. This serves the proofs: no clause
-- of a public call speaks of it.
use Rattle.std.specs.Prelude.{ℕ, List, [], ◌++◌, Option}
use Rattle.tc_base.specs.Outside.{Held}
use Rattle.tool_words.specs.declared.status.Status.{Status}
use Rattle.tool_words.specs.declared.status.Status.TheVariants as statuses
use Rattle.job_files.specs.OfInputs.Failures.{ReadFails}
use Rattle.job_files.specs.Named.{JobFile}
use Rattle.job_files.specs.Holdings.{HasFiles}
use Rattle.job_files.specs.Faults.{FilesBreak, FilesRead}
use Rattle.job_files.specs.Loaded.{Loaded}

abbrev pub nothing : Loaded
nothing = record { batches = []; captures = [] }

-- the files are held, and give what is loaded
abbrev pub Gave : Option Held → List JobFile → Loaded → Type 0
Gave told files loaded = HasFiles told files loaded.batches loaded.captures

-- whatever files gave what was loaded before: with these behind them they give what is loaded now
abbrev pub Grows : Option Held → Loaded → List JobFile → Loaded → Type 0
Grows told old files new = (front : List JobFile) → Gave told front old → Gave told (front ++ files) new

-- why files weren't loaded
abbrev pub FilesFail : {S : Type 0} → (S → Option Held) → (S → ℕ) → (S → Option (List ℕ)) → S → S
    → List JobFile → Status → Type 0
FilesFail held read_faults failed_name old new files (statuses.ReadFault name) =
    FilesRead (held old) files name × ReadFails held read_faults failed_name old new name
FilesFail held read_faults failed_name old new files (statuses.BadInput name place kind) =
    FilesBreak (held old) files name place kind
FilesFail held read_faults failed_name old new files (statuses.NoMemory memory) = Unit {0}
FilesFail held read_faults failed_name old new files status = ⊥

-- why these weren't loaded behind whatever files gave what was loaded before
abbrev pub AddFails : {S : Type 0} → (S → Option Held) → (S → ℕ) → (S → Option (List ℕ)) → S → S → Loaded
    → List JobFile → Status → Type 0
AddFails held read_faults failed_name old new loaded files status =
    (front : List JobFile) → Gave (held old) front loaded
    → FilesFail held read_faults failed_name old new (front ++ files) status
