-- Rooms as large as all that is needed are large enough for each part.
use Rattle.std.proofs.Common.{◌≡◌, ◌≢◌, ℕ, ◌+◌, ◌-◌, ◌*◌, ◌/◌, ◌≤◌, ◌==◌, Bool, true, false, [], refl, ap, arith}
use Rattle.std.proofs.lemmas.Bool.Decides.{nat_tests}
use Rattle.std.specs.Prelude.{not, vec_capacity, if◌then◌else◌, nat_le}
use Rattle.flow_mask.specs.Sizes.{size_of}
use Rattle.desk_needs.specs.OfEditNeeds.Told.{blocks_anew, rows_anew, laid, laid_rows}
use Rattle.shared_hook.specs.declared.desk_edits.room.Room.{Room}
use Rattle.shared_hook.specs.OfDeskEdits.Spent.{HasRoom}
use Rattle.desk_parts.specs.declared.ways.way.Way.{Way}
use Rattle.desk_parts.specs.declared.ways.way.Way.TheVariants as ways
use Rattle.desk_parts.specs.OfWays.Ways.{AreFew, needs_by}
use Rattle.shared_hook.specs.declared.plans.means.Means.{Means}
use Rattle.shared_hook.specs.OfPlans.Plans.{HasMeans, HaveFilters}

-- a room for more is one for less
pub less_room : (room : Room) (blocks rows fewer less : ℕ) → HasRoom room blocks rows → fewer ≤ blocks → less ≤ rows → HasRoom room fewer less
less_room room blocks rows fewer less r low below = (r.0, r.1, (let a = r.2 in omega (arith, a, low)), (let b = r.3 in omega (arith, b, below)))

size_some : (count : ℕ) → 16 ≤ size_of count
size_some count = pick (nat_le (4 * count) 48) (nat_le (4 * count) 96) (nat_le (4 * count) 192) (nat_le (4 * count) 384) (nat_le (4 * count) 768) (nat_le (4 * count) 1536) (nat_le (4 * count) 3072)
  where
    pick : (a b c d e f g : Bool) → 16 ≤ (if a then 16 else if b then 32 else if c then 64 else if d then 128 else if e then 256 else if f then 512 else if g then 1024 else 1024)
    pick true b c d e f g = omega arith
    pick false true c d e f g = omega arith
    pick false false true d e f g = omega arith
    pick false false false true e f g = omega arith
    pick false false false false true f g = omega arith
    pick false false false false false true g = omega arith
    pick false false false false false false true = omega arith
    pick false false false false false false false = omega arith

-- where no row is needed nothing is laid anew
anew_again : (before after blocks rows again : ℕ) → blocks_anew before after ≤ blocks → rows_anew before after ≡ rows → (rows ≢ 0 → again ≡ blocks) → blocks_anew before after ≤ again
anew_again before after blocks rows again low same with_rows = pick (size_of after == size_of before) refl
  where
    pick : (t : Bool) → (size_of after == size_of before) ≡ t → blocks_anew before after ≤ again
    pick true is = let none : blocks_anew before after ≡ 0 = ap (λ (b : Bool). if not b then after + 1 else 0) is in omega (arith, none)
    pick false is =
        let some : rows_anew before after ≡ size_of after / 16 = ap (λ (b : Bool). if not b then size_of after / 16 else 0) is in
        let least = size_some after in
        let are : again ≡ blocks = with_rows (λ none. absurd (omega (arith, some, same, none, least))) in omega (arith, are, low)

pub means_fit : (way : Way) (m : Means) (again to from : ℕ) → AreFew way → HaveFilters way to from
    → ((needs_by 0 way).rows ≢ 0 → again ≡ (needs_by 0 way).blocks)
    → HasRoom m.first.numbers (needs_by 0 way).blocks (needs_by 0 way).rows → HasRoom m.second.numbers again (needs_by 0 way).rows
    → (m.first.filters.items ≡ []) × (to ≤ vec_capacity m.first.filters) → (m.second.filters.items ≡ []) × (from ≤ vec_capacity m.second.filters)
    → HasMeans way m
means_fit (ways.IntoMask slot count) m again to from few have with_rows one two fone ftwo = (
  less_room m.first.numbers _ _ 1 0 one (omega arith) (omega arith),
  less_room m.second.numbers again (rows_anew count (count + 1)) _ _ two
      (anew_again count (count + 1) (0 + 1 + blocks_anew count (count + 1)) (rows_anew count (count + 1)) again (omega arith) refl with_rows) (omega arith),
)
means_fit (ways.WithMask hook) m again to from few have with_rows one two fone ftwo = less_room m.first.numbers _ _ 2 1 one (omega arith) (omega arith)
means_fit (ways.InPlace slot later) m again to from few have with_rows one two fone ftwo = less_room m.first.numbers _ _ (later + 1) 0 one (omega arith) (omega arith)
means_fit (ways.OtherKey hook slot count) m again to from few have with_rows one two fone ftwo = (
  less_room m.first.numbers _ _ (laid count) (laid_rows count) one (omega arith) (omega arith),
  fone.0,
  (let c = fone.1 in omega (arith, c, have)),
)
means_fit (ways.OtherMask hook slot count into others) m again to from few have with_rows one two fone ftwo =
    let a = have.0 in let b = have.1 in let c = fone.1 in let d = ftwo.1 in (
      (less_room m.first.numbers _ _ (laid (others + 1)) (laid_rows (others + 1)) one (omega arith) (omega arith), fone.0, omega (arith, a, c)),
      (less_room m.second.numbers again _ (laid (count - 1)) (laid_rows (count - 1)) two fits (omega arith), ftwo.0, omega (arith, b, d)),
    )
  where
    others_some : (others + 1 == 0) ≡ false
    others_some = grind (arith, nat_tests)

    row_some : 1 ≤ laid_rows (others + 1)
    row_some = let is : laid_rows (others + 1) ≡ size_of (others + 1) / 16 = ap (λ (b : Bool). if b then 0 else size_of (others + 1) / 16) others_some in
        let least = size_some (others + 1) in omega (arith, is, least)

    fits : laid (count - 1) ≤ again
    fits = let are : again ≡ 0 + laid (others + 1) + laid (count - 1) = with_rows (λ none. absurd (let some = row_some in omega (arith, none, some))) in omega (arith, are)
means_fit (ways.OutOfMask slot count later) m again to from few have with_rows one two fone ftwo = (
  less_room m.first.numbers _ _ later 0 one (omega arith) (omega arith),
  less_room m.second.numbers again (rows_anew count (count - 1)) _ _ two
      (anew_again count (count - 1) (later + blocks_anew count (count - 1)) (rows_anew count (count - 1)) again (omega arith) refl with_rows) (omega arith),
)
means_fit (ways.Closes hook) m again to from few have with_rows one two fone ftwo = tt
