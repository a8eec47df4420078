-- What a filter needs that is added.
use Rattle.std.proofs.Common.{◌≡◌, inl, inr, ℕ, ◌+◌, ◌≤◌, ◌&&◌, true, false, List, Some, None, Ok, sym, ◌∙◌, ap, arith}
use Rattle.std.specs.Prelude.{nat_lt, if◌then◌else◌}
use Rattle.std.proofs.lemmas.Bool.Decides.{nat_tests}
use Rattle.filter_state.specs.declared.edit.Edit.{Edit}
use Rattle.filter_state.specs.declared.edit.FilterLine.{FilterLine}
use Rattle.filter_state.specs.declared.refusal.Done.TheVariants as dones
use Rattle.filter_state.specs.States.{Row, State}
use Rattle.filter_state.specs.Sound.{Sound, IsRow}
use Rattle.filter_state.specs.Tables.{in_table, has_mask, mask_row, mask_or_next}
use Rattle.filter_state.specs.Steps.{step, filter_add, replace_or_add}
use Rattle.filter_state.specs.Journals.{state_after}
use Rattle.filter_state.proofs.Pairs.{found}
use Rattle.hook_store_law.proofs.OfEffects.Accepted.{same_filter}
use Rattle.hook_store_law.proofs.OfEffects.Adding.{mask_for, handle_in, new_row, line_filter, adds}
use Rattle.hook_store_law.proofs.OfEffects.Added.{added_to_old}
use Rattle.hook_store_law.specs.OfEdits.Premises.{IsAddOf}
use Rattle.desk_needs.specs.Live.{count_of}
use Rattle.desk_needs.specs.Needs.{made, last_mask, added, replaced, needs_from, needs_of}
use Rattle.desk_needs.specs.OfEditNeeds.Told.{blocks_anew, rows_anew, put_into, put_with}
use Rattle.desk_needs.proofs.OfEditNeeds.Counted.{one_more, last_of}

-- a replace of a filter that isn't there is an add, and needs the same
record IsAdd (s t : State) (y : Edit) (line : FilterLine) (pref handle : ℕ) (serials : List ℕ) : Type 0 where
  steps : filter_add s line ≡ Ok (t, dones.Filter pref handle serials)
  needs : needs_of s y ≡ added s t line.hook (last_mask t.rows)

is_add : (s t : State) (y : Edit) (line : FilterLine) (pref handle : ℕ) (serials : List ℕ) → IsAddOf s line y → step s y ≡ Ok (t, dones.Filter pref handle serials) → IsAdd s t y line pref handle serials
is_add s t y line pref handle serials (inl is) e = record {
  steps = sym (ap (step s) is) ∙ e;
  needs = ap (λ stepped. needs_from s (state_after s stepped) y) e ∙ ap (needs_from s t) is;
}
is_add s t y line pref handle serials (inr (is, none)) e = record {
  steps = sym (ap (replace_or_add s line) none) ∙ sym (ap (step s) is) ∙ e;
  needs = ap (λ stepped. needs_from s (state_after s stepped) y) e ∙ ap (needs_from s t) is ∙ ap (replaced s t line) none;
}

-- the mask of the last row is the one to which the filter went
last_added : (s t : State) (line : FilterLine) (pref handle : ℕ) (serials : List ℕ) → filter_add s line ≡ Ok (t, dones.Filter pref handle serials) → last_mask t.rows ≡ mask_for s line pref
last_added s t line pref handle serials e =
    let a = adds s t line (dones.Filter pref handle serials) e in
    let same = same_filter a.pref pref (handle_in s line a.pref) handle a.r.serials serials a.answer in
    sym (ap (λ (u : State). last_mask u.rows) a.after) ∙ last_of s.rows (new_row s line a.pref a.r.serials) ∙ ap (mask_for s line) same.0

-- ---- into a mask that stands
given_before : (s : State) (line : FilterLine) (pref : ℕ) (row : Row) → Sound s → mask_row line.hook line.chain pref line.mask.words s.rows ≡ Some row → row.mask_serial ≤ s.masks_made
given_before s line pref row sound there = let is = (found (IsRow s) (λ x. in_table line.hook line.chain pref x && has_mask line.mask.words x) s.rows row sound.rows there).0 in is.mask.1

not_new : (made mask : ℕ) → mask ≤ made → nat_lt made mask ≡ false
not_new made mask low = grind (arith, nat_tests)

pub needs_into : (s t : State) (y : Edit) (line : FilterLine) (pref handle : ℕ) (serials : List ℕ) (row : Row) → Sound s → IsAddOf s line y → step s y ≡ Ok (t, dones.Filter pref handle serials) →
    mask_row line.hook line.chain pref line.mask.words s.rows ≡ Some row → needs_of s y ≡ put_into (made s t) (count_of s row.mask_serial)
needs_into s t y line pref handle serials row sound add e there =
    let a = is_add s t y line pref handle serials add e in
    let mask : ℕ = row.mask_serial in
    let last : last_mask t.rows ≡ mask = last_added s t line pref handle serials a.steps ∙ ap (λ o. mask_or_next o s.masks_made) there in
    let change = added_to_old s t line pref handle serials row sound a.steps there in
    let count : count_of t mask ≡ count_of s mask + 1 = one_more s t mask mask (line_filter line handle serials) change.filters in
    let old : nat_lt s.masks_made mask ≡ false = not_new s.masks_made mask (given_before s line pref row sound there) in
    a.needs ∙ ap (added s t line.hook) last
    ∙ ap (λ b. if b then put_with line.hook (made s t) else record {
      blocks = made s t + 1 + blocks_anew (count_of s mask) (count_of t mask);
      rows = rows_anew (count_of s mask) (count_of t mask);
      masks = 0;
      actions = made s t;
      head = None;
    }) old
    ∙ ap (λ n. record {
      blocks = made s t + 1 + blocks_anew (count_of s mask) n;
      rows = rows_anew (count_of s mask) n;
      masks = 0;
      actions = made s t;
      head = None;
    }) count

-- ---- with a mask of its own
is_new : (made : ℕ) → nat_lt made (made + 1) ≡ true
is_new made = grind (arith, nat_tests)

pub needs_with : (s t : State) (y : Edit) (line : FilterLine) (pref handle : ℕ) (serials : List ℕ) → IsAddOf s line y → step s y ≡ Ok (t, dones.Filter pref handle serials) →
    mask_row line.hook line.chain pref line.mask.words s.rows ≡ None → needs_of s y ≡ put_with line.hook (made s t)
needs_with s t y line pref handle serials add e none =
    let a = is_add s t y line pref handle serials add e in
    let mask : ℕ = s.masks_made + 1 in
    let last : last_mask t.rows ≡ mask = last_added s t line pref handle serials a.steps ∙ ap (λ o. mask_or_next o s.masks_made) none in
    a.needs ∙ ap (added s t line.hook) last
    ∙ ap (λ b. if b then put_with line.hook (made s t) else record {
      blocks = made s t + 1 + blocks_anew (count_of s mask) (count_of t mask);
      rows = rows_anew (count_of s mask) (count_of t mask);
      masks = 0;
      actions = made s t;
      head = None;
    }) (is_new s.masks_made)
