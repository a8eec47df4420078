-- Lower bounds leave a walk a walk.
use Rattle.std.proofs.Common.{ℕ, ◌≤◌, Bool, true, false, List, [], ◌∷◌, arith}
use Rattle.std.specs.Prelude.{max, if◌then◌else◌}
use Rattle.walk_fate_laws.specs.Games.{Game, raised, IsWalkFrom, IsNoHigher}

raised_less : (b : Bool) (p x y : ℕ) → x ≤ y → (if b then max p x else x) ≤ (if b then max p y else y)
raised_less true p x y less = omega (arith, less)
raised_less false p x y less = less

raised_later : (b : Bool) (p r x : ℕ) → p ≤ r → (if b then max p x else x) ≤ (if b then max r x else x)
raised_later true p r x less = omega (arith, less)
raised_later false p r x less = omega arith

up : (a b c : ℕ) → a ≤ b → b ≤ c → a ≤ c
up a b c one two = omega (arith, one, two)

module _ {S Q A : Type 0} (g : Game S Q A) where
  still_less : (low high : Q → ℕ) (question : Q) (point : ℕ) → IsNoHigher low high
      → IsNoHigher (raised g low question point) (raised g high question point)
  still_less low high question point less =
      λ other. raised_less (g.touches question other) point (low other) (high other) (less other)

  pub earlier_less : (low : Q → ℕ) (question : Q) (point later : ℕ) → point ≤ later
      → IsNoHigher (raised g low question point) (raised g low question later)
  earlier_less low question point later less =
      λ other. raised_later (g.touches question other) point later (low other) less

  pub walk_below : (ceiling : ℕ) (points : List ℕ) (answers : List A) (st end : S) (low high : Q → ℕ)
      → IsNoHigher low high → IsWalkFrom g ceiling st high points answers end
      → IsWalkFrom g ceiling st low points answers end
  walk_below ceiling [] answers st end low high less walk = walk
  walk_below ceiling (p ∷ ps) answers st end low high less walk = (
    walk.0,
    walk.1,
    walk.2,
    walk.3,
    up (low walk.0) (high walk.0) p (less walk.0) walk.4,
    walk.5,
    walk.6,
    walk.7,
    walk_below ceiling ps walk.2 (g.after st walk.1) end (raised g low walk.0 p) (raised g high walk.0 p)
        (still_less low high walk.0 p less) walk.8,
  )
