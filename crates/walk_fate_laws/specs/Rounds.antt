-- The packets that one worker walks, one after the other (this project's own).
use Rattle.std.specs.Prelude.{ℕ, max, fold, List, [], ◌∷◌}
use Rattle.tc_base.specs.declared.hook.Hook.{Hook}
use Rattle.filter_state.specs.States.{State}
use Rattle.walk_rules.specs.Walks.{Outcome}
use Rattle.walk_fate_laws.specs.Meeting.{IsMet}

-- a packet's walk, by its points and its outcome
pub record Walked : Type 0 where
  pub points : List ℕ
  pub outcome : Outcome

-- the greatest of some points, or 0
abbrev pub greatest : List ℕ → ℕ
greatest points = fold max 0 points

-- EACH OF THESE PACKETS IS WALKED: its walk's floor is the point before the change, or the greatest point
-- that the worker saw in earlier walks, where that is more
abbrev pub AreMet : (ℕ → State) → ℕ → ℕ → Hook → ℕ → List (List ℕ) → List Walked → Type 0
AreMet states before ceiling hook seen [] [] = Unit {0}
AreMet states before ceiling hook seen (bytes ∷ packets) (walk ∷ walks) =
    IsMet states (max before seen) ceiling hook bytes walk.points walk.outcome
    × AreMet states before ceiling hook (max seen (greatest walk.points)) packets walks
AreMet states before ceiling hook seen packets walks = ⊥
