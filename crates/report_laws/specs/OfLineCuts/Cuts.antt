-- Bytes cut into lines, each with its end, so that no byte is lost (this project's own).
use Rattle.std.specs.Prelude.{◌≡◌, ℕ, ◌==◌, false, List, [], ◌∷◌, ◌++◌, if◌then◌else◌}
use Rattle.std.specs.List.{flat_map}

-- a byte before lines: it begins the first of them, unless it ends a line itself
abbrev pub byte_before : ℕ → List (List ℕ) → List (List ℕ)
byte_before byte [] = (byte ∷ []) ∷ []
byte_before byte (line ∷ lines) = if byte == 10 then (byte ∷ []) ∷ line ∷ lines else (byte ∷ line) ∷ lines

-- bytes cut behind each 0x0A. A last line without one is a line.
abbrev pub cut : List ℕ → List (List ℕ)
cut [] = []
cut (byte ∷ bytes) = byte_before byte (cut bytes)

-- ---- lines
-- bytes among which no line ends
abbrev pub Inner : List ℕ → Type 0
Inner [] = Unit {0}
Inner (byte ∷ bytes) = ((byte == 10) ≡ false) × Inner bytes

-- a line is such bytes and its end
abbrev pub IsLine : List ℕ → Type 0
IsLine line = (text : List ℕ) × Inner text × (line ≡ text ++ (10 ∷ []))

abbrev pub AreLines : List (List ℕ) → Type 0
AreLines [] = Unit {0}
AreLines (line ∷ lines) = IsLine line × AreLines lines

-- ---- lines that are joined
abbrev pub joined : List (List ℕ) → List ℕ
joined lines = flat_map (λ (line : List ℕ). line) lines
