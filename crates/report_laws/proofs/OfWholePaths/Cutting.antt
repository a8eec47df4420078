-- Lines that were cut are joined again.
use Rattle.std.proofs.Common.{◌≡◌, ◌∙◌, ℕ, ◌==◌, Bool, true, false, List, [], ◌∷◌, refl, ap}
use Rattle.std.specs.Prelude.{if◌then◌else◌}
use Rattle.report_laws.specs.OfLineCuts.Cuts.{byte_before, cut, joined}

before_joined : (byte : ℕ) (lines : List (List ℕ)) → joined (byte_before byte lines) ≡ byte ∷ joined lines
before_joined byte [] = refl
before_joined byte (line ∷ lines) = by_test (byte == 10)
  where
    by_test : (b : Bool) → joined (if b then (byte ∷ []) ∷ line ∷ lines else (byte ∷ line) ∷ lines) ≡ byte ∷ joined (line ∷ lines)
    by_test true = refl
    by_test false = refl

-- and lines that were cut are joined again
pub joined_cut : (bytes : List ℕ) → joined (cut bytes) ≡ bytes
joined_cut [] = refl
joined_cut (byte ∷ bytes) = before_joined byte (cut bytes) ∙ ap (λ (bs : List ℕ). byte ∷ bs) (joined_cut bytes)
