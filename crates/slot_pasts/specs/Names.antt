-- The pasts of names (this project's own).
use Rattle.std.specs.Prelude.{◌≡◌, ℕ, suc, List, [], ◌∷◌, ◌++◌, Option, Some, None, option_map, if◌then◌else◌}
use Rattle.std.specs.Str.{bytes_eq}
use Rattle.std.specs.HashMap.{HashMap, get}
use Rattle.slot_pasts.specs.declared.past.Change.{Change}
use Rattle.slot_pasts.specs.declared.named.NamedPast.{NamedPast}

-- what stood under one name, and nothing
abbrev pub SlotPast : Type 0 → Type 0
SlotPast V = List (Change (Option V))

-- THE PAST OF A NAME: of the first entry that has it; a name that none has, has no past
abbrev pub past_of : {V : Type 0} → List (NamedPast V) → List ℕ → SlotPast V
past_of [] name = []
past_of (entry ∷ entries) name = if bytes_eq entry.name name then entry.past else past_of entries name

-- the same, where one of the names has a change more
abbrev pub past_with : {V : Type 0} → List ℕ → ℕ → Option V → List (NamedPast V) → List ℕ → SlotPast V
past_with name from value entries other =
    if bytes_eq name other then past_of entries name ++ (record { from = from; value = value } ∷ [])
    else past_of entries other

-- ---- the index
abbrev pub place_of : {V : Type 0} → List (NamedPast V) → List ℕ → Option ℕ
place_of [] name = None
place_of (entry ∷ entries) name =
    if bytes_eq entry.name name then Some 0 else option_map suc (place_of entries name)

-- it has the place of each name
abbrev pub IsIndexed : {S V : Type 0} → HashMap (List ℕ) ℕ S → List (NamedPast V) → Type 0
IsIndexed places entries = (name : List ℕ) → get bytes_eq places name ≡ place_of entries name
