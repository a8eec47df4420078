-- States that differ in nothing but the order between rows of different masks.
use Rattle.std.specs.Prelude.{◌≡◌, ℕ, ◌==◌, Bool, List, [], ◌∷◌, Ok, Err}
use Rattle.filter_state.specs.States.{Row, State}
use Rattle.filter_state.specs.Steps.{Stepped}

-- rows in another order, where the rows of one mask keep theirs: neighbours of different masks were exchanged
pub data SameRows : List Row → List Row → Type 0 where
  none : SameRows [] []
  keep : {x : Row} {xs ys : List Row} → SameRows xs ys → SameRows (x ∷ xs) (x ∷ ys)
  exchange : {x y : Row} {xs : List Row} → (x.mask_serial ≡ y.mask_serial → ⊥)
      → SameRows (x ∷ y ∷ xs) (y ∷ x ∷ xs)
  joined : {xs ys zs : List Row} → SameRows xs ys → SameRows ys zs → SameRows xs zs

-- the row is of the mask with that serial
abbrev pub of_mask : ℕ → Row → Bool
of_mask mask_serial row = row.mask_serial == mask_serial

-- all is equal, but for that order
pub record SameState (s t : State) : Type 0 where
  pub hooked : s.hooked ≡ t.hooked
  pub rows : SameRows s.rows t.rows
  pub actions : s.actions ≡ t.actions
  pub tables_made : s.tables_made ≡ t.tables_made
  pub masks_made : s.masks_made ≡ t.masks_made
  pub actions_made : s.actions_made ≡ t.actions_made

-- both steps refuse for one reason, or both accept with one answer, and their states are the same
abbrev pub SameStepped : Stepped → Stepped → Type 0
SameStepped (Ok (s, done)) (Ok (t, said)) = SameState s t × (done ≡ said)
SameStepped (Err refusal) (Err said) = refusal ≡ said
SameStepped a b = ⊥
