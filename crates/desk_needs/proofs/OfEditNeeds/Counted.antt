-- How many filters a mask has, by its rows and by its filters.
use Rattle.std.proofs.Common.{◌≡◌, ℕ, ◌+◌, Bool, List, [], ◌∷◌, ◌++◌, length, Some, refl, sym, ◌∙◌, ap, arith, length-append}
use Rattle.std.specs.Prelude.{filter}
use Rattle.std.proofs.lemmas.List.{length-map}
use Rattle.filter_state.specs.States.{Row, State}
use Rattle.filter_state.specs.Tables.{first_where}
use Rattle.filter_state.specs.Order.{of_mask}
use Rattle.filter_state.specs.Sound.{Sound}
use Rattle.hook_store_law.specs.OfEffects.Parts.{Filter, filter_of, filters_of, without}
use Rattle.hook_store_law.proofs.OfEdits.OneHandle.{only_filter, around}
use Rattle.desk_needs.specs.Live.{count_of}
use Rattle.desk_needs.specs.Needs.{last_mask}

pub counted : (s : State) (mask : ℕ) → count_of s mask ≡ length (filters_of s mask)
counted s mask = sym (length-map (filter (of_mask mask) s.rows) filter_of)

-- one filter more
pub one_more : (s t : State) (mask other : ℕ) (f : Filter) → filters_of t mask ≡ filters_of s other ++ f ∷ [] → count_of t mask ≡ count_of s other + 1
one_more s t mask other f e =
    counted t mask ∙ ap length e ∙ length-append (filters_of s other) (f ∷ []) ∙ ap (λ n. n + 1) (sym (counted s other))

-- without the filter of its handle a mask has one less
pub one_less : (s : State) (test : Row → Bool) (row : Row) → Sound s → first_where test s.rows ≡ Some row → length (without row.handle (filters_of s row.mask_serial)) + 1 ≡ count_of s row.mask_serial
one_less s test row sound is =
    let a = around row.handle [] (filters_of s row.mask_serial) (filter_of row) (only_filter s test row sound is) in
    let left = ap length a.left ∙ length-append a.earlier a.later in
    let all = counted s row.mask_serial ∙ ap length a.whole ∙ length-append a.earlier (filter_of row ∷ a.later) in
    omega (arith, left, all)

-- ---- the last row
pub last_of : (rows : List Row) (row : Row) → last_mask (rows ++ row ∷ []) ≡ row.mask_serial
last_of [] row = refl
last_of (x ∷ []) row = refl
last_of (x ∷ y ∷ rows) row = last_of (y ∷ rows) row
