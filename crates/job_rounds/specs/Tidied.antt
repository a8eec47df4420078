-- A desk that was tidied (this project's own).
use Rattle.std.specs.Prelude.{◌≡◌, ◌≤◌, ◌⊎◌}
use Rattle.pin_store.specs.Calls.{sheet_of}
use Rattle.pin_store.specs.Found.{FoundIn}
use Rattle.pin_store.specs.declared.scan.Scan.{Scan}
use Rattle.pin_store.specs.declared.scan.Scan.TheVariants.{Quiet}
use Rattle.desk_needs.specs.declared.pool.Pool.{Pool}
use Rattle.desk_pools.specs.OfTidying.Tidied.{IsTwiceIn}
use Rattle.shared_hook.specs.Views.{DeskView, count_of}
use Rattle.job_rounds.specs.declared.one_round.turns.TheConstants.{EPOCHS_MAX}

-- A DESK THAT WAS TIDIED: of each pool all that left is free, or a reader is named that is in the way, whose
-- pin was loaded twice and was the same
abbrev pub IsTidied : DeskView → Type 0
IsTidied desk = (scan : Scan) × IsTwiceIn (sheet_of desk.place).notes scan
    × FoundIn (sheet_of desk.place).notes scan × (scan ≡ Quiet → (pool : Pool) → count_of desk.left pool ≡ 0)

-- it was tidied, or all its epochs began
abbrev pub IsReadied : DeskView → Type 0
IsReadied desk = IsTidied desk ⊎ (EPOCHS_MAX ≤ (sheet_of desk.place).epoch)
