-- The sorted handles of a table, after a change of its masks.
use Rattle.std.proofs.Common.{◌≡◌, ℕ, ◌+◌, zero, suc, ◌<◌, ◌≤◌, ◌==◌, Bool, true, false, cond, List, [], ◌∷◌, ◌++◌, length, Some, refl, sym, ap, ◌∙◌, subst, arith}
use Rattle.std.specs.List.{count_by, list_any}
use Rattle.std.proofs.lemmas.Bool.Decides.{nat_tests}
use Rattle.std.proofs.lemmas.Bool.{eq-eqb}
use Rattle.filter_index.specs.declared.filter.Filter.{Filter}
use Rattle.filter_index.specs.Listed.{has_handle, has_key, without}
use Rattle.filter_tables.specs.Plain.{PlainMask}
use Rattle.filter_tables.specs.Places.{change_at, item_at, place_where}
use Rattle.filter_tables.specs.Changes.{has_handle_in, has_key_in, any_handle, more_filter, less_filter, new_mask, other_actions, taken, moved, moved_out, count_of, IsLowestFree}
use Rattle.filter_tables.specs.Handles.{AreHandles, IsRising, count_in, times}
use Rattle.filter_tables.proofs.Counts.{count_all, any_count}
use Rattle.filter_tables.proofs.Rising.{few_times}
use Rattle.filter_tables.proofs.Places.{place_found}
use Rattle.filter_tables.proofs.HandleCounts.{none_in, in_none, in_any, count_filters, some_at, count_more, count_new, count_less, count_swept, count_acting, without_none}

module _ (masks : List PlainMask) (handles : List ℕ) (are : AreHandles masks handles) where
  -- each handle stands once
  pub few_in : (handle : ℕ) → count_in (λ h. h == handle) masks ≤ 1
  few_in handle = let few = few_times handle handles are.rising in let same = are.same (λ h. h == handle) in omega (arith, few, same)

  pub none_times : (handle : ℕ) → any_handle handle masks ≡ false → times handle handles ≡ 0
  none_times handle none = are.same (λ h. h == handle) ∙ none_in handle masks none

  pub as_many : length handles ≡ count_of masks
  as_many = sym (count_all handles) ∙ are.same (λ h. true) ∙ count_filters masks

  pub some_times : (at handle : ℕ) → place_where (has_handle_in handle) masks ≡ Some at → 0 < times handle handles
  some_times at handle e =
      let found = place_found (has_handle_in handle) masks at e in
      let some = some_at handle masks at found.0 found.1 found.2 in
      let same = are.same (λ h. h == handle) in
      omega (arith, some, same)

  pub lowest : (handle : ℕ) → 1 ≤ handle → times handle handles ≡ 0 → ((lower : ℕ) → 1 ≤ lower → lower < handle → 0 < times lower handles) →
      IsLowestFree masks handle
  lowest handle one none used = record {
    from_one = one;
    free = in_none handle masks (sym (are.same (λ h. h == handle)) ∙ none);
    lowest = λ lower up less.
        let some = used lower up less in
        let same = are.same (λ h. h == lower) in
        in_any lower masks (omega (arith, some, same));
  }

  -- ---- one handle more, one fewer, and the same
  pub more_handles : (handle : ℕ) (now : List ℕ) (masks_now : List PlainMask) → 1 ≤ handle → IsRising now →
      ((test : ℕ → Bool) → count_by test now ≡ count_by test handles + cond (test handle) 1 0) →
      ((test : ℕ → Bool) → count_in test masks_now ≡ count_in test masks + cond (test handle) 1 0) → AreHandles masks_now now
  more_handles handle now masks_now one rising counts counts_in =
      let other : (handle == 0) ≡ false = grind (arith, nat_tests) in
      record {
        rising = rising;
        from_one = counts (λ h. h == 0) ∙ rw other (omega (arith, are.from_one));
        same = λ test. counts test ∙ ap (λ n. n + cond (test handle) 1 0) (are.same test) ∙ sym (counts_in test);
      }

  pub fewer_handles : (handle : ℕ) (now : List ℕ) (masks_now : List PlainMask) → IsRising now →
      ((test : ℕ → Bool) → count_by test now + cond (test handle) 1 0 ≡ count_by test handles) →
      ((test : ℕ → Bool) → count_in test masks_now + cond (test handle) 1 0 ≡ count_in test masks) → AreHandles masks_now now
  fewer_handles handle now masks_now rising counts counts_in = record {
    rising = rising;
    from_one = (let fewer = counts (λ h. h == 0) in omega (arith, fewer, are.from_one));
    same = λ test. let less = counts test in let less_in = counts_in test in let same = are.same test in omega (arith, less, less_in, same);
  }

  pub same_handles : (masks_now : List PlainMask) → ((test : ℕ → Bool) → count_in test masks_now ≡ count_in test masks) → AreHandles masks_now handles
  same_handles masks_now counts_in = record { rising = are.rising; from_one = are.from_one; same = λ test. are.same test ∙ sym (counts_in test) }

-- ---- a filter that moves
less_none : (handle : ℕ) (m : PlainMask) → count_by (has_handle handle) m.filters ≡ 0 → m ≡ less_filter handle m
less_none handle m none = ap (λ fs. record m { filters = fs }) (sym (without_none handle m.filters none))

count_at : (handle : ℕ) (masks : List PlainMask) (at : ℕ) (m : PlainMask) → item_at masks at ≡ Some m → count_by (has_handle handle) m.filters ≤ count_in (λ h. h == handle) masks
count_at handle [] at m e = cc
count_at handle (n ∷ masks) zero m e = let same : n ≡ m = cc in subst (λ k. count_by (has_handle handle) k.filters ≤ count_in (λ h. h == handle) (n ∷ masks)) same (omega arith)
count_at handle (n ∷ masks) (suc at) m e = let rest = count_at handle masks at m e in omega (arith, rest)

-- once the filter has left, the mask at each place is without its handle
left_item : (handle : ℕ) (masks : List PlainMask) (from to : ℕ) (x m : PlainMask) → item_at masks from ≡ Some x → has_handle_in handle x ≡ true →
    count_in (λ h. h == handle) masks ≤ 1 → item_at masks to ≡ Some m → item_at (change_at from (less_filter handle) masks) to ≡ Some (less_filter handle m)
left_item handle [] from to x m e is few there = cc
left_item handle (n ∷ masks) zero zero x m e is few there = let same : n ≡ m = cc in ap (λ k. Some (less_filter handle k)) same
left_item handle (n ∷ masks) zero (suc to) x m e is few there =
    let same : x ≡ n = cc in
    let some = any_count (has_handle handle) n.filters (subst (λ k. has_handle_in handle k ≡ true) same is) in
    let rest = count_at handle masks to m there in
    there ∙ ap (λ k. Some k) (less_none handle m (omega (arith, some, rest, few)))
left_item handle (n ∷ masks) (suc from) zero x m e is few there =
    let same : n ≡ m = cc in
    let some = some_at handle masks from x e is in
    ap (λ k. Some k) (less_none handle n (omega (arith, some, few))) ∙ ap (λ k. Some (less_filter handle k)) same
left_item handle (n ∷ masks) (suc from) (suc to) x m e is few there = left_item handle masks from to x m e is (omega (arith, few)) there

pub item_there : {X : Type 0} (xs : List X) (at : ℕ) → at < length xs → (x : X) × (item_at xs at ≡ Some x)
item_there [] at within = absurd (omega arith)
item_there (x ∷ xs) zero within = (x, refl)
item_there (x ∷ xs) (suc at) within = item_there xs at (omega arith)

module _ (masks : List PlainMask) (handles : List ℕ) (are : AreHandles masks handles) (handle from : ℕ) (found : place_where (has_handle_in handle) masks ≡ Some from) where
  at_from : (x : PlainMask) × (item_at masks from ≡ Some x) × (has_handle_in handle x ≡ true)
  at_from = place_found (has_handle_in handle) masks from found

  pub left_count : (test : ℕ → Bool) → count_in test (change_at from (less_filter handle) masks) + cond (test handle) 1 0 ≡ count_in test masks
  left_count test = count_less test handle masks from at_from.0 at_from.1 at_from.2 (few_in masks handles are handle)

  pub left_none : count_in (λ h. h == handle) (change_at from (less_filter handle) masks) ≡ 0
  left_none =
      let few = few_in masks handles are handle in
      let less = left_count (λ h. h == handle) in
      let own : (handle == handle) ≡ true = eq-eqb handle handle refl in
      let one : ◌≡◌ {A = ℕ} (cond (handle == handle) 1 0) 1 = rw own refl in
      omega (arith, few, less, one)

  pub left_at : (to : ℕ) (m : PlainMask) → item_at masks to ≡ Some m → item_at (change_at from (less_filter handle) masks) to ≡ Some (less_filter handle m)
  left_at to m there = left_item handle masks from to at_from.0 m at_from.1 at_from.2 (few_in masks handles are handle) there

  pub taken_handles : (now : List ℕ) → IsRising now → ((test : ℕ → Bool) → count_by test now + cond (test handle) 1 0 ≡ count_by test handles) →
      AreHandles (taken from handle masks) now
  taken_handles now rising counts =
      fewer_handles masks handles are handle now (taken from handle masks) rising counts
      (λ test. ap (λ n. n + cond (test handle) 1 0) (count_swept test from (change_at from (less_filter handle) masks)) ∙ left_count test)

pub moved_handles : (masks : List PlainMask) (handles : List ℕ) (from to : ℕ) (f : Filter) → AreHandles masks handles →
    place_where (has_handle_in f.handle) masks ≡ Some from → to < length masks → AreHandles (moved from to f masks) handles
moved_handles masks handles from to f are found within =
    let m = item_there masks to within in
    let left = change_at from (less_filter f.handle) masks in
    same_handles masks handles are (moved from to f masks)
    (λ test. count_swept test from (change_at to (more_filter f) left)
    ∙ count_more test f left to (less_filter f.handle m.0) (left_at masks handles are f.handle from found to m.0 m.1)
    ∙ left_count masks handles are f.handle from found test)

pub moved_out_handles : (masks : List PlainMask) (handles : List ℕ) (from serial : ℕ) (words : List ℕ) (f : Filter) → AreHandles masks handles →
    place_where (has_handle_in f.handle) masks ≡ Some from → AreHandles (moved_out from serial words f masks) handles
moved_out_handles masks handles from serial words f are found =
    let left = change_at from (less_filter f.handle) masks in
    same_handles masks handles are (moved_out from serial words f masks)
    (λ test. count_swept test from (left ++ new_mask serial words f ∷ [])
    ∙ count_new test serial words f left
    ∙ left_count masks handles are f.handle from found test)

pub acting_handles : (masks : List PlainMask) (handles : List ℕ) (at handle : ℕ) (actions : List ℕ) → AreHandles masks handles →
    AreHandles (change_at at (other_actions handle actions) masks) handles
acting_handles masks handles at handle actions are =
    same_handles masks handles are (change_at at (other_actions handle actions) masks) (λ test. count_acting test handle actions at masks)

-- ---- the key of a filter that moves
pub left_key : (masks : List PlainMask) (handles : List ℕ) (from to : ℕ) (f : Filter) (m : PlainMask) → AreHandles masks handles →
    place_where (has_handle_in f.handle) masks ≡ Some from → to < length masks →
    ((n : PlainMask) → item_at masks to ≡ Some n → list_any (has_key f.key.words) (without f.handle n.filters) ≡ false) →
    item_at (change_at from (less_filter f.handle) masks) to ≡ Some m → has_key_in f.key.words m ≡ false
left_key masks handles from to f m are found within rule there =
    let n = item_there masks to within in
    let left = left_at masks handles are f.handle from found to n.0 n.1 in
    let same : less_filter f.handle n.0 ≡ m = cc in
    subst (λ k. has_key_in f.key.words k ≡ false) same (rule n.0 n.1)
