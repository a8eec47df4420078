-- Tables by rising chain and pref: what keeps them so.
use Rattle.std.proofs.Common.{◌≡◌, ℕ, zero, suc, ◌<◌, Bool, true, false, cond, ◌||◌, List, [], ◌∷◌, length, get_or, refl, inl, inr, subst, arith}
use Rattle.std.specs.Prelude.{map}
use Rattle.std.specs.List.{list_any}
use Rattle.std.specs.List.Sorted.{IsPartitionedBy}
use Rattle.std.proofs.lemmas.Bool.{cases_lt}
use Rattle.std.proofs.lemmas.Bool.Decides.{nat_tests}
use Rattle.filter_state.specs.Sound.{Each}
use Rattle.filter_state.proofs.Pairs.{each_weaker}
use Rattle.filter_tables.specs.Plain.{PlainMask, PlainTable}
use Rattle.filter_tables.specs.Places.{change_at, without_at}
use Rattle.filter_tables.specs.Room.{AreRising}
use Rattle.filter_tables.specs.Changes.{comes_before, is_table, in_masks, is_none_left, cleared, with_table}
use Rattle.filter_tables.specs.TablePlaces.{is_ahead}

-- ---- two tables
before_after : (t u v : PlainTable) → comes_before t u ≡ true → comes_before u v ≡ true → comes_before t v ≡ true
before_after t u v tu uv = grind (arith, nat_tests)

other_way : (t u : PlainTable) → comes_before u t ≡ false → is_table t.chain t.pref u ≡ false → comes_before t u ≡ true
other_way t u behind other = grind (arith, nat_tests)

-- ---- one table of a list
each_changed : (t : PlainTable) (change : List PlainMask → List PlainMask) (at : ℕ) (ts : List PlainTable) → Each (λ u. comes_before t u ≡ true) ts →
    Each (λ u. comes_before t u ≡ true) (change_at at (in_masks change) ts)
each_changed t change zero [] all = tt
each_changed t change (suc at) [] all = tt
each_changed t change zero (u ∷ ts) all = (all.0, all.1)
each_changed t change (suc at) (u ∷ ts) all = (all.0, each_changed t change at ts all.1)

pub rising_changed : (change : List PlainMask → List PlainMask) (at : ℕ) (ts : List PlainTable) → AreRising ts → AreRising (change_at at (in_masks change) ts)
rising_changed change zero [] all = tt
rising_changed change (suc at) [] all = tt
rising_changed change zero (t ∷ ts) all = (all.0, all.1)
rising_changed change (suc at) (t ∷ ts) all = (each_changed t change at ts all.0, rising_changed change at ts all.1)

pub each_without : {X : Type 0} (P : X → Type 0) (at : ℕ) (xs : List X) → Each P xs → Each P (without_at at xs)
each_without P zero [] all = tt
each_without P (suc at) [] all = tt
each_without P zero (x ∷ xs) all = all.1
each_without P (suc at) (x ∷ xs) all = (all.0, each_without P at xs all.1)

pub rising_without : (at : ℕ) (ts : List PlainTable) → AreRising ts → AreRising (without_at at ts)
rising_without zero [] all = tt
rising_without (suc at) [] all = tt
rising_without zero (t ∷ ts) all = all.1
rising_without (suc at) (t ∷ ts) all = (each_without (λ u. comes_before t u ≡ true) at ts all.0, rising_without at ts all.1)

each_first : {X : Type 0} (P : X → Type 0) (b : Bool) (x : X) (xs : List X) → Each P (x ∷ xs) → Each P (cond b xs (x ∷ xs))
each_first P true x xs all = all.1
each_first P false x xs all = all

each_cleared : (P : PlainTable → Type 0) (at : ℕ) (ts : List PlainTable) → Each P ts → Each P (cleared at ts)
each_cleared P zero [] all = tt
each_cleared P (suc at) [] all = tt
each_cleared P zero (t ∷ ts) all = each_first P (is_none_left t.masks) t ts all
each_cleared P (suc at) (t ∷ ts) all = (all.0, each_cleared P at ts all.1)

rising_first : (b : Bool) (t : PlainTable) (ts : List PlainTable) → AreRising (t ∷ ts) → AreRising (cond b ts (t ∷ ts))
rising_first true t ts all = all.1
rising_first false t ts all = all

pub rising_cleared : (at : ℕ) (ts : List PlainTable) → AreRising ts → AreRising (cleared at ts)
rising_cleared zero [] all = tt
rising_cleared (suc at) [] all = tt
rising_cleared zero (t ∷ ts) all = rising_first (is_none_left t.masks) t ts all
rising_cleared (suc at) (t ∷ ts) all = (each_cleared (λ u. comes_before t u ≡ true) at ts all.0, rising_cleared at ts all.1)

-- ---- a table more
each_step : {X : Type 0} (P : X → Type 0) (b : Bool) (t u : X) (us more : List X) → Each P (u ∷ us) → P t → Each P more → Each P (cond b (u ∷ more) (t ∷ (u ∷ us)))
each_step P true t u us more all here rest = (all.0, rest)
each_step P false t u us more all here rest = (here, all)

each_with : (P : PlainTable → Type 0) (t : PlainTable) (ts : List PlainTable) → Each P ts → P t → Each P (with_table t ts)
each_with P t [] all here = (here, tt)
each_with P t (u ∷ us) all here = each_step P (comes_before u t) t u us (with_table t us) all here (each_with P t us all.1 here)

rising_step : (b : Bool) (t u : PlainTable) (us : List PlainTable) → comes_before u t ≡ b → AreRising (u ∷ us) → is_table t.chain t.pref u ≡ false →
    AreRising (with_table t us) → AreRising (cond b (u ∷ with_table t us) (t ∷ (u ∷ us)))
rising_step true t u us is all other rest = (each_with (λ v. comes_before u v ≡ true) t us all.0 is, rest)
rising_step false t u us is all other rest =
    let first = other_way t u is other in
    ((first, each_weaker (λ v. comes_before u v ≡ true) (λ v. comes_before t v ≡ true) (λ v uv. before_after t u v first uv) us all.0), all)

both_false : (a b : Bool) → (a || b) ≡ false → (a ≡ false) × (b ≡ false)
both_false true b e = cc
both_false false b e = (refl, e)

pub rising_with : (t : PlainTable) (ts : List PlainTable) → AreRising ts → list_any (is_table t.chain t.pref) ts ≡ false → AreRising (with_table t ts)
rising_with t [] all new = (tt, tt)
rising_with t (u ∷ us) all new =
    let parts = both_false (is_table t.chain t.pref u) (list_any (is_table t.chain t.pref) us) new in
    rising_step (comes_before u t) t u us refl all parts.0 (rising_with t us all.1 parts.1)

-- ---- the same by places
each_at : {X : Type 0} (f : X → PlainTable) (P : PlainTable → Type 0) (xs : List X) (k : ℕ) (d : X) → Each P (map f xs) → k < length xs → P (f (get_or xs k d))
each_at f P [] k d all within = absurd (omega arith)
each_at f P (x ∷ xs) zero d all within = all.0
each_at f P (x ∷ xs) (suc k) d all within = each_at f P xs k d all.1 (omega arith)

pub rising_at : {X : Type 0} (f : X → PlainTable) (xs : List X) (i j : ℕ) (d : X) → AreRising (map f xs) → i < j → j < length xs →
    comes_before (f (get_or xs i d)) (f (get_or xs j d)) ≡ true
rising_at f [] i j d all less within = absurd (omega arith)
rising_at f (x ∷ xs) zero zero d all less within = absurd (omega arith)
rising_at f (x ∷ xs) zero (suc j) d all less within = each_at f (λ u. comes_before (f x) u ≡ true) xs j d all.0 (omega arith)
rising_at f (x ∷ xs) (suc i) zero d all less within = absurd (omega arith)
rising_at f (x ∷ xs) (suc i) (suc j) d all less within = rising_at f xs i j d all.1 (omega arith) (omega arith)

ahead_too : (chain pref : ℕ) (t u : PlainTable) → comes_before t u ≡ true → is_ahead chain pref u ≡ true → is_ahead chain pref t ≡ true
ahead_too chain pref t u tu ahead = grind (arith, nat_tests)

pub table_parts : {X : Type 0} (f : X → PlainTable) (chain pref : ℕ) (xs : List X) → AreRising (map f xs) → IsPartitionedBy (λ x. is_ahead chain pref (f x)) xs
table_parts f chain pref xs all = λ i j d le within ahead.
    elim (cases_lt i j) [
      | inl less ↦ ahead_too chain pref (f (get_or xs i d)) (f (get_or xs j d)) (rising_at f xs i j d all less within) ahead
      | inr same ↦
          let e : j ≡ i = omega (arith, le, same) in
          let P : ℕ → Type 0 = λ k. is_ahead chain pref (f (get_or xs k d)) ≡ true in
          subst P e ahead
    ]
