-- The first bad word of a list of words that is no line.
use Rattle.std.specs.Prelude.{ℕ, ◌+◌, ◌<◌, ◌≤◌, List, ◌++◌, length, take}
use Rattle.filter_state.specs.declared.edit.Edit.{Edit}
use Rattle.tc_batch.specs.declared.fault.LineFault.{LineFault}
use Rattle.tc_batch.specs.declared.fault.LineFault.TheVariants as faults
use Rattle.tc_batch.specs.Grammar.{Gives}

-- some line has these words as its own first words
pub record Begins (words : List (List ℕ)) : Type 0 where
  pub more : List (List ℕ)
  pub edit : Edit
  pub gives : Gives (words ++ more) edit

-- the first bad word: lines begin with the words before it, and none with it as well. One past the last word
-- it says that the line is cut
pub record IsFirstBad (words : List (List ℕ)) (at : ℕ) : Type 0 where
  pub first : 1 ≤ at
  pub within : at ≤ length words + 1
  pub before : (k : ℕ) → k < at → Begins (take k words)
  pub bad : at ≤ length words → Begins (take at words) → ⊥
  pub cut : length words < at → (edit : Edit) → Gives words edit → ⊥

-- the fault of a list of words
abbrev pub HasFault : List (List ℕ) → LineFault → Type 0
HasFault words (faults.Syntax at) = IsFirstBad words at
HasFault words (faults.NoMemory memory) = Unit {0}
