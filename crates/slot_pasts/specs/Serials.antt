-- The past of a serial (this project's own).
use Rattle.std.specs.Prelude.{ℕ, List, [], get_or, Option}
use Rattle.slot_pasts.specs.declared.past.Change.{Change}

-- a serial that never had a change has none
abbrev pub past_at : {V : Type 0} → List (List (Change (Option V))) → ℕ → List (Change (Option V))
past_at pasts serial = get_or pasts serial []
