-- A batch whose lines are gone through: the commands that are left, and the room that is.
use Rattle.std.proofs.Common.{◌≡◌, ℕ, ◌+◌, ◌-◌, ◌≤◌, List, length, drop}
use Rattle.tc_words.specs.Lines.{lines_of}
use Rattle.batch_run.specs.Commands.{Command, commands_from, line_past}

-- the commands from a byte on, before which so many lines stand
abbrev pub left_from : List ℕ → ℕ → ℕ → List Command
left_from bytes at number = commands_from (number + 1) (lines_of (drop at bytes))

-- so many commands came before those that are left, within the room
pub record IsCounted (room count : ℕ) (left all : List Command) : Type 0 where
  pub within : count ≤ room
  pub line : line_past (room - count) left ≡ line_past room all
  pub counted : count + length left ≡ length all
