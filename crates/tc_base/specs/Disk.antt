-- What a put asks of the system's files, call by call. This project's own.
use Rattle.std.specs.Prelude.{◌≡◌, ℕ, List, [], ◌∷◌, ◌++◌, Bool, true, false, ⊤, ◌⊎◌, Option, Some, None}
use Rattle.std.specs.Prelude.{Result, Ok, Err, IsErr, IsOk, IsSome, OnOk, string_bytes}
use Rattle.std.specs.IoError.{error_kind}
use Rattle.std.specs.Io.KnownBytes.{Appends}
use Rattle.std.specs.Path.{path_with_file_name}
use Rattle.std.specs.List.{All}
use Rattle.std.specs.Option.{option_map}
use Rattle.std.specs.declared.io.Error.{Error}
use Rattle.std.specs.declared.io.ErrorKind.{ErrorKind}
use Rattle.std.specs.declared.io.ErrorKind.TheVariants.{PermissionDenied, InvalidFilename}
use Rattle.tc_base.specs.declared.disk.Standing.{Standing}
use Rattle.tc_base.specs.declared.disk.Standing.TheVariants as standings
use Rattle.tc_base.specs.declared.drafts.Draft.{Draft}

-- ---- calls
-- what was found under a name
pub data Found : Type 0 where
  nothing plain other unknown : Found

-- what an open file holds, where it tells that, or the kind of the fault that kept it from being opened
abbrev pub Opened : Type 0
Opened = Result (Option (List ℕ)) ErrorKind

-- a call, with its names and how it was answered; of a try and of a removal the answer is not told
pub data Call : Type 0 where
  -- what stands under a name is looked at; of a link that is the link
  Looked : (name : List ℕ) (found : Found) → Call
  -- what stands under a name is opened for writing, and closed
  Tried : (name : List ℕ) → Call
  -- a file is made under a name where nothing stands
  Made : (name : List ℕ) (file : Opened) → Call
  -- what stands under a name is cut to nothing, or a file made there
  Cut : (name : List ℕ) (file : Opened) → Call
  -- the open file is closed, and holds this
  Closed : (bytes : Option (List ℕ)) → Call
  Renamed : (from to : List ℕ) (is_done : Bool) → Call
  Removed : (name : List ℕ) → Call

abbrev pub found_in : Result Standing Error → Found
found_in (Ok standings.Nothing) = nothing
found_in (Ok (standings.File rights)) = plain
found_in (Ok standings.Else) = other
found_in (Err e) = unknown

abbrev pub opened_in : {F : Type 0} → (F → Option (List ℕ)) → Result F Error → Opened
opened_in contents (Ok file) = Ok (contents file)
opened_in contents (Err e) = Err (error_kind e)

-- between two moments the disk was asked calls of which P holds, where it tells them
abbrev pub Asked : Option (List Call) → Option (List Call) → (List Call → Type 0) → Type 0
Asked None new P = ⊤
Asked (Some old) None P = ⊥
Asked (Some old) (Some new) P = (calls : List Call) × (new ≡ old ++ calls) × P calls

-- it was asked this call alone
abbrev pub Asks : Option (List Call) → Option (List Call) → Call → Type 0
Asks old new call = Asked old new (λ calls. calls ≡ call ∷ [])

-- ---- a put
-- a call that leaves what stands under each name as it is
abbrev pub IsMere : Call → Type 0
IsMere (Looked name found) = ⊤
IsMere (Tried name) = ⊤
IsMere (Made name (Err kind)) = ⊤
IsMere (Made name (Ok held)) = ⊥
IsMere (Cut name (Err kind)) = ⊤
IsMere (Cut name (Ok held)) = ⊥
IsMere (Closed held) = ⊤
IsMere (Renamed from to true) = ⊥
IsMere (Renamed from to false) = ⊤
IsMere (Removed name) = ⊥

-- a name in the folder of another
abbrev pub IsBeside : List ℕ → List ℕ → Type 0
IsBeside name side = (own : List ℕ) × (side ≡ path_with_file_name name own)

-- why a file is written in place: no plain file stands there, or none may be made beside it
abbrev pub IsReason : List ℕ → Call → Type 0
IsReason name (Looked looked found) = (looked ≡ name) × (found ≡ other)
IsReason name (Made side (Err kind)) = IsBeside name side × ((kind ≡ PermissionDenied) ⊎ (kind ≡ InvalidFilename))
IsReason name (Made side (Ok held)) = ⊥
IsReason name (Tried tried) = ⊥
IsReason name (Cut cut file) = ⊥
IsReason name (Closed held) = ⊥
IsReason name (Renamed from to is_done) = ⊥
IsReason name (Removed removed) = ⊥

-- a file is open for what is to stand under a name, and begins with what it held when it was opened: a new file
-- beside the name, or, for a reason, what stands under it
abbrev pub Opens : List ℕ → Option (List ℕ) → Option (List ℕ) → List Call → Type 0
Opens name (Some side) held calls = (front : List Call) × All IsMere front × IsBeside name side
    × (calls ≡ front ++ (Made side (Ok held) ∷ []))
Opens name None held calls = (front : List Call) × (reason : Call) × All IsMere front × IsReason name reason
    × (calls ≡ front ++ (reason ∷ Cut name (Ok held) ∷ []))

-- the bytes are written and the file is closed; where the answer is an error nothing else was done
abbrev pub Writes : Option (List ℕ) → List ℕ → Result Unit Error → List Call → Type 0
Writes held bytes (Ok done) calls = (written : Option (List ℕ)) × Appends held written bytes
    × (calls ≡ Closed written ∷ [])
Writes held bytes (Err e) calls = All IsMere calls

-- a file beside a name comes to stand under it, or is removed
abbrev pub Settles : List ℕ → Option (List ℕ) → Result Unit Error → List Call → Type 0
Settles name None answer calls = calls ≡ []
Settles name (Some side) (Ok done) calls = calls ≡ Renamed side name true ∷ []
Settles name (Some side) (Err e) calls = (vain : List Call) × All IsMere vain
    × (calls ≡ vain ++ (Removed side ∷ []))

-- THE CALLS OF A PUT that is answered so. An Ok comes only where all bytes were written, and the file that holds
-- them was renamed to the name, or stood there.
pub data Puts (name bytes : List ℕ) (answer : Result Unit Error) (calls : List Call) : Type 0 where
  refused : IsErr answer → All IsMere calls → Puts name bytes answer calls
  done : (opening writing settling : List Call) (beside held : Option (List ℕ)) (written : Result Unit Error)
      → Opens name beside held opening → Writes held bytes written writing → Settles name beside answer settling
      → OnOk answer (IsOk written) → calls ≡ opening ++ (writing ++ settling) → Puts name bytes answer calls

-- what was asked where a file was to be opened for what is to stand under a name
abbrev pub OpensOrNot : {F : Type 0} → (F → Option (List ℕ)) → List ℕ → Result (Draft F) Error → List Call → Type 0
OpensOrNot contents name (Ok draft) calls =
    Opens name (option_map string_bytes draft.beside) (contents draft.file) calls
OpensOrNot contents name (Err e) calls = All IsMere calls

-- the same where the file is to lie beside the name: where none may be made, the last call is the reason
abbrev pub OpensBeside : {F : Type 0} → (F → Option (List ℕ)) → List ℕ → Result (Option (Draft F)) Error → List Call
    → Type 0
OpensBeside contents name (Ok (Some draft)) calls = OpensOrNot contents name (Ok draft) calls × IsSome draft.beside
OpensBeside contents name (Ok None) calls = (front : List Call) × (reason : Call) × All IsMere front
    × IsReason name reason × (calls ≡ front ++ (reason ∷ []))
OpensBeside contents name (Err e) calls = All IsMere calls

-- what stands under a name was to be cut to nothing
abbrev pub Cuts : {F : Type 0} → (F → Option (List ℕ)) → List ℕ → Result (Draft F) Error → List Call → Type 0
Cuts contents name (Ok draft) calls = (draft.beside ≡ None) × (calls ≡ Cut name (Ok (contents draft.file)) ∷ [])
Cuts contents name (Err e) calls = calls ≡ Cut name (Err (error_kind e)) ∷ []
