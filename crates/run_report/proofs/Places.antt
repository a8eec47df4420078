-- Outcomes at places of lists.
use Rattle.std.proofs.Common.{◌≡◌, ◌∙◌, ℕ, ◌<◌, zero, suc, List, [], ◌∷◌, length, get_or, Option, Some, None, refl, sym, ap, subst, arith}
use Rattle.std.specs.Prelude.{All, slice_get, filter_map, option_and_then}
use Rattle.std.specs.Option.{IsSome}
use Rattle.std.specs.List.{AllByRecursion, cons_option}
use Rattle.std.proofs.lemmas.Option.{slice_get_within, option_and_then_some, slice_get_read}
use Rattle.std.proofs.lemmas.List.Elements.{recursion_from_All}
use Rattle.run_report.specs.declared.outcomes.Outcome.{Outcome}
use Rattle.run_report.specs.declared.outcomes.OutcomePlace.{OutcomePlace}
use Rattle.run_report.specs.Kept.{outcome_there, IsThere, outcomes_there}

pub some_of : {Y : Type 0} (o : Option Y) → IsSome o → (y : Y) × (o ≡ Some y)
some_of None is = absurd (cc is)
some_of (Some y) is = (y, refl)

some_same : {Y : Type 0} {x y : Y} → Some x ≡ Some y → x ≡ y
some_same is = cc is

-- ---- a map that gives something of each item
module _ {X Y : Type 0} (f : X → Option Y) where
  each_many : (xs : List X) → AllByRecursion (λ (x : X). IsSome (f x)) xs → length (filter_map f xs) ≡ length xs
  each_many [] each = refl
  each_many (x ∷ xs) each =
      let y = some_of (f x) each.0 in
      ap (λ (o : Option Y). length (cons_option o (filter_map f xs))) y.1 ∙ ap suc (each_many xs each.1)

  each_read : (xs : List X) (at : ℕ) → AllByRecursion (λ (x : X). IsSome (f x)) xs → slice_get (filter_map f xs) at ≡ option_and_then f (slice_get xs at)
  each_read [] at each = refl
  each_read (x ∷ xs) zero each =
      let y = some_of (f x) each.0 in
      ap (λ (o : Option Y). slice_get (cons_option o (filter_map f xs)) 0) y.1 ∙ sym y.1
  each_read (x ∷ xs) (suc at) each =
      let y = some_of (f x) each.0 in
      ap (λ (o : Option Y). slice_get (cons_option o (filter_map f xs)) (suc at)) y.1 ∙ each_read xs at each.1

-- ---- outcomes at places
module _ (lists : List (List Outcome)) (places : List OutcomePlace) (all : All (IsThere lists) places) where
  pub there_many : length (outcomes_there lists places) ≡ length places
  there_many = each_many (outcome_there lists) places (recursion_from_All (IsThere lists) places all)

  pub there_read : (at : ℕ) → slice_get (outcomes_there lists places) at ≡ option_and_then (outcome_there lists) (slice_get places at)
  there_read at = each_read (outcome_there lists) places at (recursion_from_All (IsThere lists) places all)

-- a place with a row is within its list
pub record Within (lists : List (List Outcome)) (place : OutcomePlace) : Type 0 where
  pub rows : List Outcome
  pub list : slice_get lists place.list ≡ Some rows
  pub first : place.list < length lists
  pub second : place.row < length rows

within_of : (lists : List (List Outcome)) (place : OutcomePlace) (outcome : Outcome) → outcome_there lists place ≡ Some outcome → Within lists place
within_of lists place outcome is =
    option_and_then_some (λ (rows : List Outcome). slice_get rows place.row) (slice_get lists place.list) outcome is
    (λ rows list row. record {
      rows = rows;
      list = list;
      first = slice_get_within lists place.list rows list;
      second = slice_get_within rows place.row outcome row;
    })

pub there_within : (lists : List (List Outcome)) (place : OutcomePlace) → IsThere lists place → Within lists place
there_within lists place is = let some = some_of (outcome_there lists place) is in within_of lists place some.0 some.1

-- ---- what is read at a place
module _ (lists : List (List Outcome)) (places : List OutcomePlace) (seen : List Outcome) (all : All (IsThere lists) places) (is : outcomes_there lists places ≡ seen) where
  pub many_seen : length seen ≡ length places
  many_seen = ap length (sym is) ∙ there_many lists places all

  module _ (at : ℕ) (place : OutcomePlace) (less : at < length seen) (read : place ≡ get_or places at place) where
    here : slice_get places at ≡ Some place
    here = slice_get_read places (length places) at place refl (omega (arith, less, many_seen)) read

    pub within_list : Within lists place
    within_list = there_within lists place (subst (IsThere lists) (sym read) (all at place (omega (arith, less, many_seen))))

    module _ (rows : List Outcome) (row_read : rows ≡ get_or lists place.list rows) where
      listed : slice_get lists place.list ≡ Some rows
      listed = slice_get_read lists (length lists) place.list rows refl within_list.first row_read

      pub within_rows : place.row < length rows
      within_rows =
          let same : within_list.rows ≡ rows = some_same (sym within_list.list ∙ listed) in
          subst (λ (its : List Outcome). place.row < length its) same within_list.second

      pub read_at : (outcome : Outcome) → slice_get rows place.row ≡ Some outcome → slice_get seen at ≡ Some outcome
      read_at outcome there =
          ap (λ (outcomes : List Outcome). slice_get outcomes at) (sym is) ∙ there_read lists places all at
          ∙ ap (option_and_then (outcome_there lists)) here
          ∙ ap (option_and_then (λ (its : List Outcome). slice_get its place.row)) listed ∙ there
