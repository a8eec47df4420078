-- Pasts that were brought up to a point, by their keys (this project's own).
use Rattle.std.specs.Prelude.{◌≡◌, ℕ, List, Option}
use Rattle.slot_pasts.specs.declared.past.Change.{Change}
use Rattle.slot_pasts.specs.Pasts.{value_at, UpTo}
use Rattle.state_past_laws.specs.OfChanges.Among.{Has}
use Rattle.state_past_laws.specs.OfChanges.Moving.{GrowsFrom}

-- those of some keys have what belongs there from that point on, and all others are as they were
pub record Brought {K V W : Type 0} (from : ℕ) (read : Option V → W) (value : K → W) (keys : List K)
    (past after : K → List (Change V)) : Type 0 where
  pub grows : (key : K) → GrowsFrom from (past key) (after key)
  pub done : (key : K) → Has key keys → read (value_at from (after key)) ≡ value key
  pub others : (key : K) → (Has key keys → ⊥) → after key ≡ past key

-- no key has a change behind a point
abbrev pub AllUpTo : {K V : Type 0} → ℕ → (K → List (Change V)) → Type 0
AllUpTo from past = (key : _) → UpTo from (past key)
