-- Bytes in pieces: stretches of bytes that are lent, and of others. This project's own.
use Rattle.std.specs.Prelude.{◌≡◌, ℕ, ◌-◌, ◌≤◌, Bool, true, false, List, take, drop, length}
use Rattle.std.specs.List.{flat_map, All}
use Rattle.tc_base.specs.declared.pieces.Stretch.{Stretch}

-- the bytes of which stretches can be lent, and the pieces in order
pub record BytesInPieces : Type 0 where
  pub lent : List ℕ
  pub pieces : List (List ℕ)

-- the pieces, one behind the other
abbrev pub joined : List (List ℕ) → List ℕ
joined pieces = flat_map (λ piece. piece) pieces

-- ---- stretches
-- the bytes in which a stretch lies
abbrev pub source : List ℕ → List ℕ → Bool → List ℕ
source lent own true = own
source lent own false = lent

-- the bytes of a stretch
abbrev pub piece_of : List ℕ → List ℕ → Stretch → List ℕ
piece_of lent own stretch =
    take (stretch.end - stretch.start) (drop stretch.start (source lent own stretch.is_own))

-- a stretch lies in its bytes
pub record IsWithin (lent own : List ℕ) (stretch : Stretch) : Type 0 where
  pub order : stretch.start ≤ stretch.end
  pub within : stretch.end ≤ length (source lent own stretch.is_own)

abbrev pub AreWithin : List ℕ → List ℕ → List Stretch → Type 0
AreWithin lent own stretches = All (IsWithin lent own) stretches

-- a stretch begins where another of the same bytes ends
pub record GoesOn (last next : Stretch) : Type 0 where
  pub source : last.is_own ≡ next.is_own
  pub there : last.end ≡ next.start
