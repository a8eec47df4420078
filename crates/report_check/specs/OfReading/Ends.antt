-- Where the first line of bytes ends (this project's own).
use Rattle.std.specs.Prelude.{◌≡◌, ◌⊎◌, ℕ, ◌+◌, ◌<◌, List, length, take, get_or}
use Rattle.report_laws.specs.OfLineCuts.Cuts.{Inner}

-- behind the first 0x0A, or at the end where there is none
abbrev pub IsEnd : List ℕ → ℕ → Type 0
IsEnd bytes end =
    ((place : ℕ) × (end ≡ place + 1) × (place < length bytes) × Inner (take place bytes)
    × (get_or bytes place 0 ≡ 10))
    ⊎ ((end ≡ length bytes) × Inner bytes)
