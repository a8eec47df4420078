-- The handles of a table's filters, as counts: what each change of the masks makes of them.
use Rattle.std.proofs.Common.{◌≡◌, ℕ, ◌+◌, zero, suc, ◌<◌, ◌≤◌, ◌==◌, Bool, true, false, cond, ◌||◌, List, [], ◌∷◌, ◌++◌, Some, refl, ap, ◌∙◌, subst, arith}
use Rattle.std.specs.List.{count_by}
use Rattle.std.proofs.lemmas.List.Sums.{sum_by_push}
use Rattle.std.proofs.lemmas.Bool.{eqb-true}
use Rattle.filter_index.specs.declared.filter.Filter.{Filter}
use Rattle.filter_index.specs.Listed.{has_handle, without, with_actions}
use Rattle.filter_tables.specs.Plain.{PlainMask}
use Rattle.filter_tables.specs.Places.{change_at, item_at}
use Rattle.filter_tables.specs.Changes.{has_handle_in, any_handle, more_filter, less_filter, other_actions, new_mask, swept, is_none_left, count_of}
use Rattle.filter_tables.specs.Handles.{count_in}
use Rattle.filter_tables.proofs.Counts.{count_cons, count_all, cond_one, any_count, any_none, count_tells, count_shows}

-- ---- whether a filter has a handle
any_handle_step : (first rest : Bool) (one more : ℕ) → (first ≡ true → 0 < one) → (rest ≡ true → 0 < more) → (first || rest) ≡ true → 0 < one + more
any_handle_step true rest one more here behind e = let some = here refl in omega arith
any_handle_step false rest one more here behind e = let some = behind e in omega arith

any_in : (handle : ℕ) (masks : List PlainMask) → any_handle handle masks ≡ true → 0 < count_in (λ h. h == handle) masks
any_in handle [] e = cc
any_in handle (m ∷ masks) e =
    any_handle_step (has_handle_in handle m) (any_handle handle masks) (count_by (has_handle handle) m.filters) (count_in (λ h. h == handle) masks)
    (λ here. any_count (has_handle handle) m.filters here) (λ behind. any_in handle masks behind) e

none_handle_step : (first rest : Bool) (one more : ℕ) → (first ≡ false → one ≡ 0) → (rest ≡ false → more ≡ 0) → (first || rest) ≡ false → one + more ≡ 0
none_handle_step true rest one more here behind e = cc
none_handle_step false rest one more here behind e = let no = here refl in let none = behind e in omega arith

pub none_in : (handle : ℕ) (masks : List PlainMask) → any_handle handle masks ≡ false → count_in (λ h. h == handle) masks ≡ 0
none_in handle [] e = refl
none_in handle (m ∷ masks) e =
    none_handle_step (has_handle_in handle m) (any_handle handle masks) (count_by (has_handle handle) m.filters) (count_in (λ h. h == handle) masks)
    (λ here. any_none (has_handle handle) m.filters here) (λ behind. none_in handle masks behind) e

pub in_none : (handle : ℕ) (masks : List PlainMask) → count_in (λ h. h == handle) masks ≡ 0 → any_handle handle masks ≡ false
in_none handle masks none = count_tells (any_handle handle masks) (count_in (λ h. h == handle) masks) (λ some. any_in handle masks some) none

pub in_any : (handle : ℕ) (masks : List PlainMask) → 0 < count_in (λ h. h == handle) masks → any_handle handle masks ≡ true
in_any handle masks some = count_shows (any_handle handle masks) (count_in (λ h. h == handle) masks) (λ none. none_in handle masks none) some

pub count_filters : (masks : List PlainMask) → count_in (λ h. true) masks ≡ count_of masks
count_filters [] = refl
count_filters (m ∷ masks) = let rest = count_filters masks in let one = count_all m.filters in omega (arith, rest, one)

-- what is not in all masks is not in one of them
pub none_at : (handle : ℕ) (masks : List PlainMask) (at : ℕ) (m : PlainMask) → count_in (λ h. h == handle) masks ≡ 0 → item_at masks at ≡ Some m →
    has_handle_in handle m ≡ false
none_at handle [] at m none e = cc
none_at handle (n ∷ masks) zero m none e =
    let same : n ≡ m = cc in
    subst (λ k. has_handle_in handle k ≡ false) same
    (count_tells (has_handle_in handle n) (count_by (has_handle handle) n.filters) (λ some. any_count (has_handle handle) n.filters some) (omega arith))
none_at handle (n ∷ masks) (suc at) m none e = none_at handle masks at m (omega arith) e

-- what is in one mask is in all masks
pub some_at : (handle : ℕ) (masks : List PlainMask) (at : ℕ) (m : PlainMask) → item_at masks at ≡ Some m → has_handle_in handle m ≡ true →
    0 < count_in (λ h. h == handle) masks
some_at handle [] at m e is = cc
some_at handle (n ∷ masks) zero m e is =
    let same : m ≡ n = cc in
    let some = any_count (has_handle handle) n.filters (subst (λ k. has_handle_in handle k ≡ true) same is) in
    omega arith
some_at handle (n ∷ masks) (suc at) m e is = let rest = some_at handle masks at m e is in omega arith

-- ---- one filter more
pub count_more : (test : ℕ → Bool) (f : Filter) (masks : List PlainMask) (at : ℕ) (m : PlainMask) → item_at masks at ≡ Some m →
    count_in test (change_at at (more_filter f) masks) ≡ count_in test masks + cond (test f.handle) 1 0
count_more test f [] at m e = cc
count_more test f (n ∷ masks) zero m e = let more = sum_by_push (λ g. cond (test g.handle) 1 0) n.filters f in omega (arith, more)
count_more test f (n ∷ masks) (suc at) m e = let rest = count_more test f masks at m e in omega (arith, rest)

pub count_new : (test : ℕ → Bool) (serial : ℕ) (words : List ℕ) (f : Filter) (masks : List PlainMask) →
    count_in test (masks ++ new_mask serial words f ∷ []) ≡ count_in test masks + cond (test f.handle) 1 0
count_new test serial words f [] = let one = count_cons (λ g. test g.handle) f [] in omega (arith, one)
count_new test serial words f (m ∷ masks) = let rest = count_new test serial words f masks in omega (arith, rest)

-- ---- one filter fewer
pub without_none : (handle : ℕ) (fs : List Filter) → count_by (has_handle handle) fs ≡ 0 → without handle fs ≡ fs
without_none handle [] none = refl
without_none handle (f ∷ fs) none =
    let parts = count_cons (has_handle handle) f fs in
    let other : has_handle handle f ≡ false = cond_one (has_handle handle f) (omega (arith, parts, none)) in
    rw other (ap (λ rest. f ∷ rest) (without_none handle fs (omega (arith, parts, none))))

without_step : (b : Bool) (test : ℕ → Bool) (handle : ℕ) (f : Filter) (fs : List Filter) → has_handle handle f ≡ b → count_by (has_handle handle) (f ∷ fs) ≡ 1 →
    (count_by (has_handle handle) fs ≡ 1 → count_by (λ g. test g.handle) (without handle fs) + cond (test handle) 1 0 ≡ count_by (λ g. test g.handle) fs) →
    count_by (λ g. test g.handle) (without handle (f ∷ fs)) + cond (test handle) 1 0 ≡ count_by (λ g. test g.handle) (f ∷ fs)
without_step true test handle f fs is one rest =
    let parts : count_by (has_handle handle) (f ∷ fs) ≡ 1 + count_by (has_handle handle) fs = count_cons (has_handle handle) f fs ∙ rw is refl in
    let gone : without handle (f ∷ fs) ≡ fs = rw is (without_none handle fs (omega (arith, parts, one))) in
    let own = ap (λ h. cond {A = ℕ} (test h) 1 0) (eqb-true f.handle handle is) in
    rw gone (omega (arith, own, count_cons (λ g. test g.handle) f fs))
without_step false test handle f fs is one rest =
    let parts : count_by (has_handle handle) (f ∷ fs) ≡ 0 + count_by (has_handle handle) fs = count_cons (has_handle handle) f fs ∙ rw is refl in
    let kept : without handle (f ∷ fs) ≡ f ∷ without handle fs = rw is refl in
    let behind = rest (omega (arith, parts, one)) in
    rw kept (omega (arith, behind, count_cons (λ g. test g.handle) f (without handle fs), count_cons (λ g. test g.handle) f fs))

without_count : (test : ℕ → Bool) (handle : ℕ) (fs : List Filter) → count_by (has_handle handle) fs ≡ 1 →
    count_by (λ g. test g.handle) (without handle fs) + cond (test handle) 1 0 ≡ count_by (λ g. test g.handle) fs
without_count test handle [] one = absurd (omega arith)
without_count test handle (f ∷ fs) one = without_step (has_handle handle f) test handle f fs refl one (λ behind. without_count test handle fs behind)

pub count_less : (test : ℕ → Bool) (handle : ℕ) (masks : List PlainMask) (at : ℕ) (m : PlainMask) → item_at masks at ≡ Some m → has_handle_in handle m ≡ true →
    count_in (λ h. h == handle) masks ≤ 1 → count_in test (change_at at (less_filter handle) masks) + cond (test handle) 1 0 ≡ count_in test masks
count_less test handle [] at m e is few = cc
count_less test handle (n ∷ masks) zero m e is few =
    let same : m ≡ n = cc in
    let some = any_count (has_handle handle) n.filters (subst (λ k. has_handle_in handle k ≡ true) same is) in
    let one : count_by (has_handle handle) n.filters ≡ 1 = omega (arith, some, few) in
    let fewer = without_count test handle n.filters one in
    omega (arith, fewer)
count_less test handle (n ∷ masks) (suc at) m e is few =
    let rest = count_less test handle masks at m e is (omega (arith, few)) in
    omega (arith, rest)

-- ---- as many filters
none_left : (test : Filter → Bool) (fs : List Filter) → is_none_left fs ≡ true → count_by test fs ≡ 0
none_left test [] e = refl
none_left test (f ∷ fs) e = cc

swept_step : (b : Bool) (test : ℕ → Bool) (m : PlainMask) (masks : List PlainMask) → is_none_left m.filters ≡ b →
    count_in test (cond b masks (m ∷ masks)) ≡ count_in test (m ∷ masks)
swept_step true test m masks e = let none = none_left (λ g. test g.handle) m.filters e in omega (arith, none)
swept_step false test m masks e = refl

pub count_swept : (test : ℕ → Bool) (at : ℕ) (masks : List PlainMask) → count_in test (swept at masks) ≡ count_in test masks
count_swept test zero [] = refl
count_swept test (suc at) [] = refl
count_swept test zero (m ∷ masks) = swept_step (is_none_left m.filters) test m masks refl
count_swept test (suc at) (m ∷ masks) = let rest = count_swept test at masks in omega (arith, rest)

same_handle : (b : Bool) (f : Filter) (actions : List ℕ) → (cond b (record f { actions = actions }) f).handle ≡ f.handle
same_handle true f actions = refl
same_handle false f actions = refl

acting_count : (test : ℕ → Bool) (handle : ℕ) (actions : List ℕ) (fs : List Filter) →
    count_by (λ g. test g.handle) (with_actions handle actions fs) ≡ count_by (λ g. test g.handle) fs
acting_count test handle actions [] = refl
acting_count test handle actions (f ∷ fs) =
    let acting : Filter = cond (has_handle handle f) (record f { actions = actions }) f in
    let rest = acting_count test handle actions fs in
    let own = ap (λ h. cond {A = ℕ} (test h) 1 0) (same_handle (has_handle handle f) f actions) in
    omega (arith, rest, own, count_cons (λ g. test g.handle) f fs, count_cons (λ g. test g.handle) acting (with_actions handle actions fs))

pub count_acting : (test : ℕ → Bool) (handle : ℕ) (actions : List ℕ) (at : ℕ) (masks : List PlainMask) →
    count_in test (change_at at (other_actions handle actions) masks) ≡ count_in test masks
count_acting test handle actions zero [] = refl
count_acting test handle actions (suc at) [] = refl
count_acting test handle actions zero (m ∷ masks) = let rest = acting_count test handle actions m.filters in omega (arith, rest)
count_acting test handle actions (suc at) (m ∷ masks) = let rest = count_acting test handle actions at masks in omega (arith, rest)
