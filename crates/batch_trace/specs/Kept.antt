-- What is kept of a frame that was told (this project's own). This serves the proofs: no clause of a public call
-- speaks of it.
use Rattle.std.specs.Prelude.{◌≡◌, ◌≤◌, ◌==◌, ℕ, true, not, List, [], ◌∷◌, ◌++◌, length, codes}
use Rattle.std.specs.List.{flat_map, list_all}
use Rattle.walk_texts.specs.Texts.{counted}
use Rattle.tc_base.specs.declared.hook.Hook.{Hook}
use Rattle.walk_rules.specs.declared.limits.TheConstants.{VISITS_MAX}
use Rattle.filter_origins.specs.Entries.{Entry}
use Rattle.trace_lines.specs.Lines.{decided_in}
use Rattle.journal_names.specs.Known.{names_of}
use Rattle.batch_trace.specs.Traced.{steps_in, met_text}
use Rattle.batch_trace.specs.declared.kept_trace.KeptTrace.{KeptTrace}

-- `at N`
abbrev pub at_number : ℕ → List ℕ
at_number number = counted (codes "at ") number

-- each of these lines behind the same words
abbrev pub behind_head : List ℕ → List (List ℕ) → List ℕ
behind_head head lines = flat_map (λ (line : List ℕ). head ++ line) lines

-- each of these is a line's end: no line feed but its last byte
abbrev pub AreEnds : List (List ℕ) → Type 0
AreEnds [] = Unit {0}
AreEnds (line ∷ lines) =
    ((words : List ℕ) × (list_all (λ (b : ℕ). not (b == 10)) words ≡ true) × (line ≡ words ++ (10 ∷ [])))
    × AreEnds lines

-- what was told of a frame: its lines, numbered 0, and the edits whose filters decided
pub record IsToldOf (entries : List Entry) (hook : Hook) (frame lines decided : List ℕ) : Type 0 where
  pub lines_are : lines ≡ met_text entries hook 0 frame
  pub decided_are : decided ≡ decided_in (names_of entries) (steps_in entries hook frame)
  pub few : length decided ≤ VISITS_MAX

-- what is kept was told of the frame that is kept
abbrev pub IsKept : List Entry → Hook → KeptTrace → Type 0
IsKept entries hook kept =
    kept.is_kept ≡ true → IsToldOf entries hook kept.frame.items kept.lines.items kept.decided.items
