-- Bounds visit by visit, and lawful points.
use Rattle.std.proofs.Common.{◌≡◌, ◌∙◌, ℕ, zero, suc, ◌<◌, ◌≤◌, Bool, true, false, List, [], ◌∷◌, slice_get}
use Rattle.std.proofs.Common.{Some, refl, ap, subst, arith}
use Rattle.std.specs.Prelude.{max, if◌then◌else◌}
use Rattle.walk_fate_laws.specs.Games.{Game, raised}
use Rattle.walk_fate_laws.specs.Points.{Asked, AreBounded, AreLawful}

not_lower : (b : Bool) (p x : ℕ) → x ≤ (if b then max p x else x)
not_lower true p x = omega arith
not_lower false p x = omega arith

reaches : (b : Bool) (p x : ℕ) → b ≡ true → p ≤ (if b then max p x else x)
reaches true p x is = omega arith
reaches false p x is = absurd (cc is)

covered : (b : Bool) (p x y : ℕ) → x ≤ y → (b ≡ true → p ≤ y) → (if b then max p x else x) ≤ y
covered true p x y least up = let more = up refl in omega (arith, least, more)
covered false p x y least up = least

trans : (a b c : ℕ) → a ≤ b → b ≤ c → a ≤ c
trans a b c one two = omega (arith, one, two)

module _ {S Q A : Type 0} (g : Game S Q A) (ceiling : ℕ) where
  abbrev LawfulBehind : (Q → ℕ) → Asked Q → List (Asked Q) → Type 0
  LawfulBehind low v vs = AreLawful g ceiling (raised g low v.question v.point) vs

  pub bounded_lawful : (low : Q → ℕ) (visits : List (Asked Q)) → AreBounded g ceiling low visits
      → AreLawful g ceiling low visits
  bounded_lawful low [] bounded = record {
    above = λ place visit is. absurd (cc is);
    below = λ place visit is. absurd (cc is);
    never_fall = λ early late one other order is there touches. absurd (cc is);
  }
  bounded_lawful low (v ∷ vs) bounded =
      with_rest (bounded_lawful (raised g low v.question v.point) vs bounded.2)
    where
      above : LawfulBehind low v vs → (place : ℕ) (visit : Asked Q) → slice_get (v ∷ vs) place ≡ Some visit
          → low visit.question ≤ visit.point
      above rest zero visit is =
          let same : v ≡ visit = cc is in
          subst (λ (u : Asked Q). low u.question ≤ u.point) same bounded.0
      above rest (suc place) visit is =
          trans (low visit.question) (raised g low v.question v.point visit.question) visit.point
          (not_lower (g.touches v.question visit.question) v.point (low visit.question))
          (rest.above place visit is)

      below : LawfulBehind low v vs → (place : ℕ) (visit : Asked Q) → slice_get (v ∷ vs) place ≡ Some visit
          → visit.point ≤ ceiling
      below rest zero visit is =
          let same : v ≡ visit = cc is in subst (λ (u : Asked Q). u.point ≤ ceiling) same bounded.1
      below rest (suc place) visit is = rest.below place visit is

      never : LawfulBehind low v vs → (early late : ℕ) (one other : Asked Q) → early < late
          → slice_get (v ∷ vs) early ≡ Some one → slice_get (v ∷ vs) late ≡ Some other
          → g.touches one.question other.question ≡ true → one.point ≤ other.point
      never rest early zero one other order is there touches = absurd (omega (arith, order))
      never rest zero (suc late) one other order is there touches =
          let same : v ≡ one = cc is in
          let it : g.touches v.question other.question ≡ true =
          ap (λ (u : Asked Q). g.touches u.question other.question) same ∙ touches in
          let own = trans v.point (raised g low v.question v.point other.question) other.point
          (reaches (g.touches v.question other.question) v.point (low other.question) it)
          (rest.above late other there) in
          subst (λ (u : Asked Q). u.point ≤ other.point) same own
      never rest (suc early) (suc late) one other order is there touches =
          rest.never_fall early late one other (omega (arith, order)) is there touches

      with_rest : LawfulBehind low v vs → AreLawful g ceiling low (v ∷ vs)
      with_rest rest = record { above = above rest; below = below rest; never_fall = never rest }

  pub lawful_bounded : (low : Q → ℕ) (visits : List (Asked Q)) → AreLawful g ceiling low visits
      → AreBounded g ceiling low visits
  lawful_bounded low [] lawful = tt
  lawful_bounded low (v ∷ vs) lawful = (
    lawful.above 0 v refl,
    lawful.below 0 v refl,
    lawful_bounded (raised g low v.question v.point) vs (record {
      above = λ place visit is. covered (g.touches v.question visit.question) v.point (low visit.question)
          visit.point (lawful.above (suc place) visit is)
          (λ touches. lawful.never_fall 0 (suc place) v visit (omega arith) refl is touches);
      below = λ place visit is. lawful.below (suc place) visit is;
      never_fall = λ early late one other order is there touches.
          lawful.never_fall (suc early) (suc late) one other (omega (arith, order)) is there touches;
    }),
  )
