-- The last points of serials, as the places of a vector.
use Rattle.std.proofs.Common.{◌≡◌, ◌∙◌, ℕ, zero, suc, ◌+◌, ◌<◌, ◌≤◌, ◌==◌, Bool, true, false, List, [], ◌∷◌, ◌++◌, length, map, get_or, set, refl, sym, ap, arith}
use Rattle.std.specs.Prelude.{◌≢◌, replicate, if◌then◌else◌}
use Rattle.std.specs.List.{All}
use Rattle.std.proofs.Math.ListN.{get_or-map}
use Rattle.std.proofs.lemmas.Bool.Decides.{nat_tests}
use Rattle.std.proofs.lemmas.Grind.{get_or-set_at}
use Rattle.std.proofs.lemmas.List.{get_or-set_other}
use Rattle.point_walks.specs.declared.last_points.LastPoint.{LastPoint}
use Rattle.point_walks.specs.Lasts.{in_walk, last_of}

abbrev pub never : LastPoint
never = record { walk = 0; point = 0 }

no_point : (walk : ℕ) → in_walk walk never ≡ 0
no_point walk = by_test (0 == walk)
  where
    by_test : (b : Bool) → ◌≡◌ {A = ℕ} (if b then 0 else 0) 0
    by_test true = refl
    by_test false = refl

pub read : (walk : ℕ) (places : List LastPoint) (n : ℕ) → last_of (map (in_walk walk) places) n ≡ in_walk walk (get_or places n never)
read walk places n = ap (λ (d : ℕ). get_or (map (in_walk walk) places) n d) (sym (no_point walk)) ∙ get_or-map (in_walk walk) places n never

-- ---- another walk begins
earlier_walk : (walk : ℕ) (place : LastPoint) (b : Bool) → (place.walk == walk + 1) ≡ b → place.walk ≤ walk → (if b then place.point else 0) ≡ 0
earlier_walk walk place true is least = absurd (grind (arith, nat_tests, is, least))
earlier_walk walk place false is least = refl

pub forgotten : (walk : ℕ) (places : List LastPoint) (n : ℕ) → All (λ (place : LastPoint). place.walk ≤ walk) places → last_of (map (in_walk (walk + 1)) places) n ≡ 0
forgotten walk [] n all = refl
forgotten walk (place ∷ places) zero all = earlier_walk walk place (place.walk == walk + 1) refl (all 0 place (omega arith))
forgotten walk (place ∷ places) (suc n) all = forgotten walk places n (λ k d less. all (suc k) d (omega (arith, less)))

-- ---- more places
padded : (places : List LastPoint) (k n : ℕ) → get_or (places ++ replicate k never) n never ≡ get_or places n never
padded [] zero n = refl
padded [] (suc k) zero = refl
padded [] (suc k) (suc n) = padded [] k n
padded (place ∷ places) k zero = refl
padded (place ∷ places) k (suc n) = padded places k n

pub grown : (walk : ℕ) (places now : List LastPoint) (k n : ℕ) → now ≡ places ++ replicate k never → last_of (map (in_walk walk) now) n ≡ last_of (map (in_walk walk) places) n
grown walk places now k n is =
    ap (λ (ps : List LastPoint). last_of (map (in_walk walk) ps) n) is
    ∙ read walk (places ++ replicate k never) n ∙ ap (in_walk walk) (padded places k n) ∙ sym (read walk places n)

-- ---- a point is set
this_walk : (walk point : ℕ) → in_walk walk (record { walk = walk; point = point }) ≡ point
this_walk walk point = ap (λ (b : Bool). if b then point else 0) (is_equal (walk == walk) refl)
  where
    is_equal : (b : Bool) → (walk == walk) ≡ b → b ≡ true
    is_equal true is = refl
    is_equal false is = absurd (grind (arith, nat_tests, is))

number : (a b : ℕ) → (a == b) ≡ true → a ≡ b
number a b is = grind (arith, nat_tests, is)

another : (a b : ℕ) → (a == b) ≡ false → a ≢ b
another a b is = λ same. grind (arith, nat_tests, is, same)

pub set_one : (walk point : ℕ) (places : List LastPoint) (serial other : ℕ) → serial < length places
    → last_of (map (in_walk walk) (set places serial (record { walk = walk; point = point }))) other ≡ (if other == serial then point else last_of (map (in_walk walk) places) other)
set_one walk point places serial other within = by_test (other == serial) refl
  where
    by_test : (b : Bool) → (other == serial) ≡ b → last_of (map (in_walk walk) (set places serial (record { walk = walk; point = point }))) other ≡ (if b then point else last_of (map (in_walk walk) places) other)
    by_test true is =
        read walk (set places serial (record { walk = walk; point = point })) other
        ∙ ap (in_walk walk) (get_or-set_at places serial other (record { walk = walk; point = point }) never (number other serial is) within) ∙ this_walk walk point
    by_test false is =
        read walk (set places serial (record { walk = walk; point = point })) other
        ∙ ap (in_walk walk) (get_or-set_other places serial other (record { walk = walk; point = point }) never (another other serial is)) ∙ sym (read walk places other)
