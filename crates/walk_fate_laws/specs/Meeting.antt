-- What a packet can meet between two points (this project's own).
use Rattle.std.specs.Prelude.{◌≡◌, ℕ, List, []}
use Rattle.tc_base.specs.declared.hook.Hook.{Hook}
use Rattle.filter_state.specs.States.{State}
use Rattle.walk_rules.specs.Steps.{begun}
use Rattle.walk_rules.specs.Walks.{Outcome, IsWalk}
use Rattle.walk_rules.specs.OfPoints.Points.{Visit, IsVisited, AreLawfulPoints}
use Rattle.walk_fate_laws.specs.Fates.{Fate, fate_of}
use Rattle.walk_fate_laws.specs.Order.{IsNoLater}

-- A WALK THAT THE PACKET CAN HAVE: of these bytes at the hook over the states of the points, with a visit at
-- each of these, which are lawful between the two
pub record IsMet (states : ℕ → State) (before ceiling : ℕ) (hook : Hook) (bytes points : List ℕ)
    (outcome : Outcome) : Type 0 where
  pub visits : List Visit
  pub walks : IsWalk (IsVisited states) [] (begun hook bytes) points visits outcome
  pub lawful : AreLawfulPoints before ceiling visits

-- A FATE THAT THE PACKET CAN HAVE
pub record CanHave (states : ℕ → State) (before ceiling : ℕ) (hook : Hook) (bytes : List ℕ)
    (fate : Fate) : Type 0 where
  pub points : List ℕ
  pub outcome : Outcome
  pub met : IsMet states before ceiling hook bytes points outcome
  pub has : fate_of outcome ≡ fate

-- A WITNESS OF ITS FATE: a walk that the packet can have, and of all with that fate the one of least points
pub record IsWitness (states : ℕ → State) (before ceiling : ℕ) (hook : Hook) (bytes points : List ℕ)
    (outcome : Outcome) : Type 0 where
  pub met : IsMet states before ceiling hook bytes points outcome
  pub least : (others : List ℕ) (other : Outcome) → IsMet states before ceiling hook bytes others other
      → fate_of other ≡ fate_of outcome → IsNoLater points others
