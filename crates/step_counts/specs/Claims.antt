-- The rule of the claim word, and what a step on it tells (this project's own).
use Rattle.std.specs.Prelude.{◌≡◌, ℕ, ◌+◌, ◌*◌, ◌^◌, ◌<◌, ◌≤◌, ◌==◌, List, [], ◌∷◌, ◌++◌, length, slice_index}
use Rattle.std.specs.Prelude.{sum_by, count_by, if◌then◌else◌, nat_lt, All}
use mathlib.Core.Option.{some}
use lib.ListN.{get_elem?}
use Rattle.atomic_table.specs.Table.{State, Me, Step}
use Rattle.step_counts.specs.declared.hand.Hand.{Hand}

-- how often a number stands in the list
abbrev pub times : ℕ → List ℕ → ℕ
times number numbers = count_by (λ other. other == number) numbers

-- 1 for a number below the bound, else 0
abbrev pub once_below : ℕ → ℕ → ℕ
once_below bound number = if nat_lt number bound then 1 else 0

-- the list has each number below the bound once, and no other number
abbrev pub HasEachBelow : ℕ → List ℕ → Type 0
HasEachBelow bound numbers = (number : ℕ) → times number numbers ≡ once_below bound number

-- a seat with so many shares of so many seats, and the numbers that it drew
abbrev pub hand : ℕ → ℕ → List ℕ → Hand
hand seats shares drawn = record { seats = seats; shares = shares; drawn = drawn }

-- a seat with shares knows how many seats were made, one without drew nothing, a share is good for 2^31
-- numbers, and all of them are below the word
pub record IsFair (seats word : ℕ) (seat : Hand) : Type 0 where
  pub made : 0 < seat.shares → seat.seats ≡ seats
  pub idle : seat.shares ≡ 0 → seat.drawn ≡ []
  pub few : length seat.drawn ≤ seat.shares * 2 ^ 31
  pub given : All (λ number. number < word) seat.drawn

-- the shares add up to the seats made, and the numbers that all seats drew are those below the word, each
-- once
pub record Claimed (seats : ℕ) (table : State (Unit {0}) Hand) : Type 0 where
  pub wide : length table.words ≡ 1
  pub small : seats < 2 ^ 32
  pub shares : sum_by (λ seat. seat.shares) table.views ≡ seats
  pub count : sum_by (λ seat. length seat.drawn) table.views ≡ slice_index table.words 0
  pub once : (number : ℕ) → sum_by (λ seat. times number seat.drawn) table.views
      ≡ once_below (slice_index table.words 0) number
  pub fair : (place : ℕ) (seat : Hand) → get_elem? table.views place ≡ some seat
      → IsFair seats (slice_index table.words 0) seat

-- the number found was drawn. It is above all that the seat drew; and where the seat holds all shares, it has
-- all numbers up to it
pub record Draws (at : Step (Unit {0})) (before : Me (Unit {0}) Hand) (number : ℕ)
    (after : Me (Unit {0}) Hand) : Type 0 where
  pub drawn : after ≡ (hand before.0.seats before.0.shares (before.0.drawn ++ number ∷ []), before.1)
  pub rising : All (λ earlier. earlier < number) before.0.drawn
  pub all : before.0.shares ≡ before.0.seats → HasEachBelow (number + 1) after.0.drawn
