-- In a table, the first mask under which a filter meets the frame has the filter that decides: of those that
-- meet it, the one of the oldest mask.
use Rattle.std.proofs.Common.{◌≡◌, ◌∙◌, ℕ, suc, ◌<◌, ◌≤◌, ◌==◌, ◌&&◌, ◌||◌, nat_le, Bool, true, false, cond, List, [], ◌∷◌, length, Option, Some, None, IfSome, refl, sym, ap, subst, eqb-true, arith}
use Rattle.std.specs.Prelude.{filter}
use Rattle.std.specs.List.{list_any, count_by}
use Rattle.std.proofs.lemmas.Bool.{and_parts}
use Rattle.std.proofs.lemmas.Bool.Decides.{nat_tests}
use Rattle.filter_state.specs.States.{Row}
use Rattle.filter_state.specs.Tables.{first_where}
use Rattle.filter_state.specs.Order.{of_mask}
use Rattle.filter_state.specs.Sound.{Each, EachPair}
use Rattle.filter_state.proofs.Pairs.{each_weaker, each_of}
use Rattle.walk_rules.specs.Questions.{Head}
use Rattle.walk_rules.specs.Answers.{meets}
use Rattle.walk_rules.specs.Plain.{older, oldest, looked_at}
use Rattle.walk_rules.proofs.Listed.{first_has, kept_have, kept_alike, none_kept, one_if, count-cons, count-none}

-- ---- a table as it is kept
abbrev pub is_among : ℕ → List ℕ → Bool
is_among n ns = list_any (λ m. n == m) ns

-- each mask stands, the masks rise, and a row is of the table exactly where its mask is one of these
pub record IsKept (rows : List Row) (head : Head) : Type 0 where
  pub stand : Each (λ mask. list_any (of_mask mask) rows ≡ true) head.masks
  pub rising : EachPair ◌<◌ head.masks
  pub whole : Each (λ row. (row.table == head.serial) ≡ is_among row.mask_serial head.masks) rows

-- ---- masks that are tried in turn
abbrev pub meeting : List ℕ → List Row → ℕ → Option Row
meeting values rows mask = first_where (λ row. of_mask mask row && meets values row) rows

abbrev pub or_later : Option Row → Option Row → Option Row
or_later (Some row) later = Some row
or_later None later = later

abbrev pub first_met : List ℕ → List Row → List ℕ → Option Row
first_met values rows [] = None
first_met values rows (mask ∷ masks) = or_later (meeting values rows mask) (first_met values rows masks)

abbrev pub one_or_more : Option Row → ℕ → ℕ
one_or_more (Some row) more = 1
one_or_more None more = suc more

-- how many are tried
abbrev pub masks_met : List ℕ → List Row → List ℕ → ℕ
masks_met values rows [] = 0
masks_met values rows (mask ∷ masks) = one_or_more (meeting values rows mask) (masks_met values rows masks)

-- ---- the oldest of the rows of two parts, where those of the first have one mask, and those of the second newer ones
abbrev IsFrom : ℕ → Row → Type 0
IsFrom mask row = mask ≤ row.mask_serial

stays_older : (mask : ℕ) (row : Row) (o : Option Row) → row.mask_serial ≡ mask → IfSome o (IsFrom mask) → older row o ≡ row
stays_older mask row None is from = refl
stays_older mask row (Some other) is from =
    let older_one : nat_le row.mask_serial other.mask_serial ≡ true = grind (arith, nat_tests, is, from) in
    ap (λ b. cond b row other) older_one

older_from : (mask : ℕ) (row : Row) (o : Option Row) → IsFrom mask row → IfSome o (IsFrom mask) → IsFrom mask (older row o)
older_from mask row None from more = from
older_from mask row (Some other) from more = either (nat_le row.mask_serial other.mask_serial)
  where
    either : (b : Bool) → IsFrom mask (cond b row other)
    either true = from
    either false = more

oldest_from : (mask : ℕ) (rows : List Row) → Each (IsFrom mask) rows → IfSome (oldest rows) (IsFrom mask)
oldest_from mask [] all = tt
oldest_from mask (row ∷ rows) all = older_from mask row (oldest rows) all.0 (oldest_from mask rows all.1)

newer_goes : (mask : ℕ) (row : Row) (o p : Option Row) → mask < row.mask_serial → IfSome o (λ met. met.mask_serial ≡ mask) →
    Some (older row (or_later o p)) ≡ or_later o (Some (older row p))
newer_goes mask row None p newer is = refl
newer_goes mask row (Some met) p newer is =
    let newer_one : nat_le row.mask_serial met.mask_serial ≡ false = grind (arith, nat_tests, newer, is) in
    ap (λ b. Some (cond b row met)) newer_one

module _ (mask : ℕ) (first other : Row → Bool) (firsts : (row : Row) → first row ≡ true → row.mask_serial ≡ mask) (others : (row : Row) → other row ≡ true → mask < row.mask_serial) where
  from_mask : (row : Row) (b c : Bool) → first row ≡ b → other row ≡ c → (b || c) ≡ true → IsFrom mask row
  from_mask row true c is there either = omega (arith, firsts row is)
  from_mask row false true is there either = omega (arith, others row there)
  from_mask row false false is there either = absurd (cc either)

  all_from : (rows : List Row) → Each (IsFrom mask) (filter (λ row. first row || other row) rows)
  all_from rows =
      kept_have (λ row. Unit {0}) (IsFrom mask) (λ row. first row || other row) (λ row either any. from_mask row (first row) (other row) refl refl either) rows
      (each_of (λ row. Unit {0}) (λ row. tt) rows)

  first_is : (rows : List Row) → IfSome (first_where first rows) (λ row. row.mask_serial ≡ mask)
  first_is rows = first_has (λ row. Unit {0}) (λ row. row.mask_serial ≡ mask) first (λ row is any. firsts row is) rows (each_of (λ row. Unit {0}) (λ row. tt) rows)

  part : (b c : Bool) (row : Row) (rows : List Row) → first row ≡ b → other row ≡ c →
      oldest (filter (λ row. first row || other row) rows) ≡ or_later (first_where first rows) (oldest (filter other rows)) →
      oldest (cond (b || c) (row ∷ filter (λ row. first row || other row) rows) (filter (λ row. first row || other row) rows))
      ≡ or_later (cond b (Some row) (first_where first rows)) (oldest (cond c (row ∷ filter other rows) (filter other rows)))
  part true c row rows is there rest =
      ap (λ r. Some r) (stays_older mask row (oldest (filter (λ row. first row || other row) rows)) (firsts row is) (oldest_from mask (filter (λ row. first row || other row) rows) (all_from rows)))
  part false true row rows is there rest =
      ap (λ o. Some (older row o)) rest ∙ newer_goes mask row (first_where first rows) (oldest (filter other rows)) (others row there) (first_is rows)
  part false false row rows is there rest = rest

  oldest_of_parts : (rows : List Row) → oldest (filter (λ row. first row || other row) rows) ≡ or_later (first_where first rows) (oldest (filter other rows))
  oldest_of_parts [] = refl
  oldest_of_parts (row ∷ rows) = part (first row) (other row) row rows refl refl (oldest_of_parts rows)

-- ---- the masks of a table in turn
and_spread : (a b c : Bool) → ((a || b) && c) ≡ ((a && c) || (b && c))
and_spread true true true = refl
and_spread true false true = refl
and_spread false true true = refl
and_spread false false true = refl
and_spread true true false = refl
and_spread true false false = refl
and_spread false true false = refl
and_spread false false false = refl

least_at : (least n m : ℕ) (b c : Bool) → (n == m) ≡ b → (b || c) ≡ true → least < m → (c ≡ true → least < n) → least < n
least_at least n m true c is either below more = let same : n ≡ m = eqb-true n m is in omega (arith, same, below)
least_at least n m false c is either below more = more either

above_all : (least n : ℕ) (masks : List ℕ) → Each (λ m. least < m) masks → is_among n masks ≡ true → least < n
above_all least n [] all among = absurd (cc among)
above_all least n (m ∷ masks) all among = least_at least n m (n == m) (is_among n masks) refl among all.0 (above_all least n masks all.1)

pub first_met_is : (values : List ℕ) (rows : List Row) (masks : List ℕ) → EachPair ◌<◌ masks →
    first_met values rows masks ≡ oldest (filter (λ row. is_among row.mask_serial masks && meets values row) rows)
first_met_is values rows [] rising = sym (ap oldest (none_kept rows))
first_met_is values rows (mask ∷ masks) rising =
    let of_first : Row → Bool = λ row. of_mask mask row && meets values row in
    let of_others : Row → Bool = λ row. is_among row.mask_serial masks && meets values row in
    let alike : filter (λ row. is_among row.mask_serial (mask ∷ masks) && meets values row) rows ≡ filter (λ row. of_first row || of_others row) rows =
    kept_alike (λ row. is_among row.mask_serial (mask ∷ masks) && meets values row) (λ row. of_first row || of_others row) rows
    (each_of (λ row. (is_among row.mask_serial (mask ∷ masks) && meets values row) ≡ (of_first row || of_others row))
    (λ row. and_spread (of_mask mask row) (is_among row.mask_serial masks) (meets values row)) rows) in
    ap (or_later (meeting values rows mask)) (first_met_is values rows masks rising.1)
    ∙ sym (ap oldest alike
    ∙ oldest_of_parts mask of_first of_others
    (λ row is. eqb-true row.mask_serial mask (and_parts (of_mask mask row) (meets values row) is).0)
    (λ row is. above_all mask row.mask_serial masks rising.0 (and_parts (is_among row.mask_serial masks) (meets values row) is).0)
    rows)

-- ---- how many of them are tried
abbrev looked_in : List ℕ → Option Row → ℕ
looked_in masks None = length masks
looked_in masks (Some row) = count_by (λ mask. nat_le mask row.mask_serial) masks

met_has : (P : ℕ → Type 0) (o p : Option Row) (mask : ℕ) → P mask → IfSome o (λ row. row.mask_serial ≡ mask) → IfSome p (λ row. P row.mask_serial) → IfSome (or_later o p) (λ row. P row.mask_serial)
met_has P (Some row) p mask here is more = subst P (sym is) here
met_has P None p mask here is more = more

of_its_mask : (values : List ℕ) (rows : List Row) (mask : ℕ) → IfSome (meeting values rows mask) (λ row. row.mask_serial ≡ mask)
of_its_mask values rows mask =
    first_has (λ row. Unit {0}) (λ row. row.mask_serial ≡ mask) (λ row. of_mask mask row && meets values row)
    (λ row is any. eqb-true row.mask_serial mask (and_parts (of_mask mask row) (meets values row) is).0) rows (each_of (λ row. Unit {0}) (λ row. tt) rows)

met_in : (P : ℕ → Type 0) (values : List ℕ) (rows : List Row) (masks : List ℕ) → Each P masks → IfSome (first_met values rows masks) (λ row. P row.mask_serial)
met_in P values rows [] all = tt
met_in P values rows (mask ∷ masks) all =
    met_has P (meeting values rows mask) (first_met values rows masks) mask all.0 (of_its_mask values rows mask) (met_in P values rows masks all.1)

one_looked : (mask : ℕ) (masks : List ℕ) (row : Row) → row.mask_serial ≡ mask → Each (λ m. mask < m) masks → 1 ≡ count_by (λ m. nat_le m row.mask_serial) (mask ∷ masks)
one_looked mask masks row is above =
    let here : nat_le mask row.mask_serial ≡ true = grind (arith, nat_tests, is) in
    let none : count_by (λ m. nat_le m row.mask_serial) masks ≡ 0 =
    count-none (λ m. nat_le m row.mask_serial) masks (each_weaker (λ m. mask < m) (λ m. nat_le m row.mask_serial ≡ false) (λ m less. grind (arith, nat_tests, is, less)) masks above) in
    let one : one_if (nat_le mask row.mask_serial) ≡ 1 = ap one_if here in
    let all = count-cons (λ m. nat_le m row.mask_serial) mask masks in
    omega (arith, none, one, all)

one_more_looked : (mask : ℕ) (masks : List ℕ) (o : Option Row) → IfSome o (λ row. mask < row.mask_serial) → suc (looked_in masks o) ≡ looked_in (mask ∷ masks) o
one_more_looked mask masks None above = refl
one_more_looked mask masks (Some row) above =
    let here : nat_le mask row.mask_serial ≡ true = grind (arith, nat_tests, above) in
    let one : one_if (nat_le mask row.mask_serial) ≡ 1 = ap one_if here in
    let all = count-cons (λ m. nat_le m row.mask_serial) mask masks in
    omega (arith, one, all)

looked_on : (mask : ℕ) (masks : List ℕ) (o p : Option Row) (count : ℕ) → IfSome o (λ row. row.mask_serial ≡ mask) → Each (λ m. mask < m) masks →
    IfSome p (λ row. mask < row.mask_serial) → count ≡ looked_in masks p → one_or_more o count ≡ looked_in (mask ∷ masks) (or_later o p)
looked_on mask masks (Some row) p count is above later rest = one_looked mask masks row is above
looked_on mask masks None p count is above later rest = ap suc rest ∙ one_more_looked mask masks p later

masks_met_are : (values : List ℕ) (rows : List Row) (masks : List ℕ) → EachPair ◌<◌ masks → masks_met values rows masks ≡ looked_in masks (first_met values rows masks)
masks_met_are values rows [] rising = refl
masks_met_are values rows (mask ∷ masks) rising =
    looked_on mask masks (meeting values rows mask) (first_met values rows masks) (masks_met values rows masks) (of_its_mask values rows mask) rising.0
    (met_in (λ m. mask < m) values rows masks rising.0) (masks_met_are values rows masks rising.1)

looked_is : (head : Head) (o : Option Row) → looked_in head.masks o ≡ looked_at head o
looked_is head None = refl
looked_is head (Some row) = refl

-- ---- a table that is kept
pub decides : (values : List ℕ) (rows : List Row) (head : Head) → IsKept rows head →
    first_met values rows head.masks ≡ oldest (filter (λ row. row.table == head.serial && meets values row) rows)
decides values rows head kept =
    first_met_is values rows head.masks kept.rising
    ∙ sym (ap oldest (kept_alike (λ row. row.table == head.serial && meets values row) (λ row. is_among row.mask_serial head.masks && meets values row) rows
    (each_weaker (λ row. (row.table == head.serial) ≡ is_among row.mask_serial head.masks)
    (λ row. (row.table == head.serial && meets values row) ≡ (is_among row.mask_serial head.masks && meets values row))
    (λ row e. ap (λ b. b && meets values row) e) rows kept.whole)))

pub looks : (values : List ℕ) (rows : List Row) (head : Head) → IsKept rows head → masks_met values rows head.masks ≡ looked_at head (first_met values rows head.masks)
looks values rows head kept = masks_met_are values rows head.masks kept.rising ∙ looked_is head (first_met values rows head.masks)
