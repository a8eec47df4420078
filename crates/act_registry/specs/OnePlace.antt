-- A list in which one place alone passes a test (this project's own).
use Rattle.std.specs.Prelude.{◌≡◌, ℕ, ◌<◌, Bool, true, false, List, length, slice_index_or}
use Rattle.std.specs.List.{All}

-- that place passes, and no other
abbrev pub OnlyAt : {X : Type 0} → (X → Bool) → List X → ℕ → Type 0
OnlyAt {X} test xs at =
    (at < length xs) × ((d : X) → test (slice_index_or xs at d) ≡ true)
    × ((k : ℕ) (d : X) → k < length xs → (k ≡ at → ⊥) → test (slice_index_or xs k d) ≡ false)

-- no place passes
abbrev pub NoPlace : {X : Type 0} → (X → Bool) → List X → Type 0
NoPlace test xs = All (λ x. test x ≡ false) xs
