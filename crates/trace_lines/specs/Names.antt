-- What a trace tells beside a walk's answers: the words of masks, and by which lines filters and actions were
-- brought (this project's own).
use Rattle.std.specs.Prelude.{ℕ, List, [], Option, Some, None}
use Rattle.flow_fields.specs.declared.key.Key.{Key}
use Rattle.edit_lines.specs.declared.line.Line.{Line}
use Rattle.edit_lines.specs.declared.line.Origin.{Origin}

pub record Names : Type 0 where
  -- at a point, of the mask of a serial: its words; none, where it doesn't stand
  pub words : ℕ → ℕ → List ℕ
  -- at a point, of the filter of a mask and a key: its handle, and the edit that brought it
  pub filter : ℕ → ℕ → List ℕ → Option Origin
  -- at a point, of the action of a serial: the edit that brought it as it is
  pub action : ℕ → ℕ → Option Line
  -- of the action of a serial
  pub index : ℕ → ℕ

-- the words that stand there, or none
abbrev pub words_or_none : Option (Key 14) → List ℕ
words_or_none None = []
words_or_none (Some key) = key.words
