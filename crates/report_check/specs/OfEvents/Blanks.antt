-- Bytes without a kind of byte, and the control that a line names (this project's own).
use Rattle.std.specs.Prelude.{◌≡◌, ℕ, ◌-◌, ◌==◌, ◌||◌, nat_lt, eqb, Bool, List, [], ◌∷◌}
use Rattle.std.specs.Prelude.{Option, Some, None, if◌then◌else◌, codes}
use Rattle.std.specs.List.{starts_with}

abbrev pub HasNo : ℕ → List ℕ → Type 0
HasNo byte [] = Unit {0}
HasNo byte (first ∷ bytes) = (first ≡ byte → ⊥) × HasNo byte bytes

-- what stands behind the first blank; nothing, where there is none
abbrev pub behind_blank : List ℕ → List ℕ
behind_blank [] = []
behind_blank (byte ∷ bytes) = if byte == 32 then bytes else behind_blank bytes

abbrev pub first_digit : List ℕ → Option ℕ
first_digit [] = None
first_digit (byte ∷ bytes) = if nat_lt byte 48 then None else Some (byte - 48)

-- the line begins as an event's does
abbrev pub begins_event : List ℕ → Bool
begins_event line = starts_with eqb line (codes "edit ") || starts_with eqb line (codes "refused ")

-- what the first digit of its fourth word stands for
abbrev pub control_in : List ℕ → Option ℕ
control_in line = if begins_event line then first_digit (behind_blank (behind_blank (behind_blank line)))
    else None
