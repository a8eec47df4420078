-- Files that are put one after the other, where two may have one name: then the later stands.
use Rattle.std.specs.Prelude.{◌≡◌, ◌⊎◌, List, [], ◌∷◌, Option}
use Rattle.tc_base.specs.Outside.{Held, Stands, OthersStay}
use Rattle.tool_run.specs.OfGenerated.Generated.{MadeFile}

-- all of them were put, in order: what was held before, and what is held then
abbrev pub ArePut : Option Held → Option Held → List MadeFile → Type 0
ArePut old new [] = new ≡ old
ArePut old new (file ∷ files) =
    (between : Option Held) × Stands between file.name file.bytes × OthersStay old between file.name
    × ArePut between new files

-- HOW FAR THE PUTS CAME, however they ended: files were put in order up to some one, and then no name but the
-- next one's may hold something else
abbrev pub ArePutUpTo : Option Held → Option Held → List MadeFile → Type 0
ArePutUpTo old new [] = new ≡ old
ArePutUpTo old new (file ∷ files) =
    OthersStay old new file.name
    ⊎ ((between : Option Held) × Stands between file.name file.bytes × OthersStay old between file.name
    × ArePutUpTo between new files)
