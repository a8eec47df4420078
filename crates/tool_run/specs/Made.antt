-- Files that are put one after the other.
use Rattle.std.specs.Prelude.{◌≡◌, ◌≢◌, ℕ, ◌+◌, List, [], ◌∷◌, take, Option, Some, None}
use Rattle.tc_base.specs.Outside.{Held, Stands}
use Rattle.tool_run.specs.declared.generated.workload.Generated.{Generated}
use Rattle.tool_run.specs.OfGenerated.Generated.{MadeFile, files_of}

-- each of the files stands, where the shelf tells what it holds
abbrev pub AllStand : Option Held → List MadeFile → Type 0
AllStand told [] = Unit {0}
AllStand told (file ∷ files) = Stands told file.name file.bytes × AllStand told files

-- the name is none of the files'
abbrev pub IsNoneOf : List ℕ → List MadeFile → Type 0
IsNoneOf name [] = Unit {0}
IsNoneOf name (file ∷ files) = (name ≢ file.name) × IsNoneOf name files

-- the shelf tells what it holds after the calls as before them, and every name that is none of the files'
-- stays
abbrev pub AllElseStay : Option Held → Option Held → List MadeFile → Type 0
AllElseStay None None files = Unit {0}
AllElseStay (Some old) (Some new) files = (other : List ℕ) → IsNoneOf other files → new other ≡ old other
AllElseStay None (Some new) files = ⊥
AllElseStay (Some old) None files = ⊥

-- HOW FAR THE PUTS CAME, in the order of the files: some first ones stand, and no name but theirs and the
-- next one's may hold something else
pub record PutUpTo (held_old held_new : Option Held) (files : List MadeFile) : Type 0 where
  pub many : ℕ
  pub stand : AllStand held_new (take many files)
  pub others : AllElseStay held_old held_new (take (many + 1) files)

-- the files of a workload, as its parts give them
abbrev pub files_in : List ℕ → Generated → List MadeFile
files_in front made = files_of front made.batch.items made.capture.items made.job.items made.output.items
