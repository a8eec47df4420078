-- How a list of actions ends whose actions give the same control each time that they run.
use Rattle.std.specs.Prelude.{ℕ, zero, suc, ◌==◌, ◌||◌, nat_le, List, [], ◌∷◌, length, drop, if◌then◌else◌}
use Rattle.act_kinds.specs.declared.params.Control.{Control}
use Rattle.act_kinds.specs.declared.params.Control.TheVariants as controls
use Rattle.act_list.specs.declared.run.Ending.{Ending}
use Rattle.act_list.specs.declared.run.Ending.TheVariants as endings

-- how the list `all` ends, where so many jumps and the last part of it, which is given behind them, are left
abbrev pub ending_from : List Control → ℕ → List Control → Ending
ending_from all jumps [] = endings.Pipe
ending_from all jumps (controls.Accept ∷ more) = endings.Accept
ending_from all jumps (controls.Shot ∷ more) = endings.Shot
ending_from all jumps (controls.Unspec ∷ more) = endings.Unspec
ending_from all jumps (controls.Pipe ∷ more) = ending_from all jumps more
ending_from all jumps (controls.Reclassify ∷ more) = endings.Reclassify
ending_from all jumps (controls.Goto chain ∷ more) = endings.Goto chain
ending_from all zero (controls.Jump to ∷ more) = endings.Accept
ending_from all (suc jumps) (controls.Jump to ∷ more) =
    if to == 0 || nat_le (length all) to then endings.Accept else ending_from all jumps (drop to all)
