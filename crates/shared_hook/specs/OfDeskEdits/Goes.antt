-- Masks that go with an edit (this project's own).
use Rattle.std.specs.Prelude.{ℕ, List, eqb}
use Rattle.std.specs.List.{IsDistinct}
use Rattle.filter_state.specs.States.{State}
use Rattle.hook_store_law.specs.OfEffects.Parts.{Stands}
use Rattle.hook_law.specs.Standing.{IsIn}

-- the masks that stood before and don't after, each once
pub record AreGone (s t : State) (gone : List ℕ) : Type 0 where
  pub different : IsDistinct eqb gone
  pub each : (mask : ℕ) → IsIn mask gone → Stands s mask × (Stands t mask → ⊥)
  pub all : (mask : ℕ) → Stands s mask → (Stands t mask → ⊥) → IsIn mask gone
