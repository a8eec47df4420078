-- Places of actions before any edit.
use Rattle.std.proofs.Common.{◌≡◌, ℕ, zero, suc, ◌<◌, [], length, get_or, replicate, refl, arith}
use Rattle.store_history.specs.declared.places.TheConstants.{ACTION_SLOTS}
use Rattle.desk_actions.specs.Places.{Placed, AreHere}

zeros : (n i : ℕ) → ◌≡◌ {A = ℕ} (get_or (replicate n 0) i 0) 0
zeros zero i = refl
zeros (suc n) zero = refl
zeros (suc n) (suc i) = zeros n i

pub zeros_are_small : (n i : ℕ) → get_or {A = ℕ} (replicate n 0) i 0 < ACTION_SLOTS
zeros_are_small n i = let none = zeros n i in omega (arith, none)

pub nothing_here : (placed : Placed) → length placed.slots ≡ 16385 → length placed.blocks ≡ ACTION_SLOTS → AreHere placed []
nothing_here placed long wide = record {
  long = long;
  wide = wide;
  slots = λ action live. absurd (live refl);
  blocks = λ action live. absurd (live refl);
  made = λ action slot at. let there = at.there in absurd (cc there);
}
