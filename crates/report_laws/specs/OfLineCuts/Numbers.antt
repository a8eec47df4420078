-- Decimal numbers inside longer texts (this project's own).
use Rattle.std.specs.Prelude.{ℕ, ◌<◌, ◌^◌, List, [], ◌∷◌}
use Rattle.std.specs.List.{flat_map}
use Rattle.std.specs.Fmt.{decimal}

-- what may follow a number: nothing, or a byte below the digits
abbrev pub Low : List ℕ → Type 0
Low [] = Unit {0}
Low (byte ∷ bytes) = byte < 48

-- each number behind a blank
abbrev pub numbers_text : List ℕ → List ℕ
numbers_text numbers = flat_map (λ (number : ℕ). 32 ∷ decimal number) numbers

-- numbers that decimals tell apart: those of 64 bits
abbrev pub AreShort : List ℕ → Type 0
AreShort [] = Unit {0}
AreShort (number ∷ numbers) = (number < 2 ^ 64) × AreShort numbers
