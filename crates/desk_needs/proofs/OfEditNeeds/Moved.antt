-- What a filter needs that is replaced: in its place, or with another key or mask.
use Rattle.std.proofs.Common.{◌≡◌, ◌≢◌, ℕ, ◌+◌, ◌-◌, ◌==◌, ◌&&◌, Bool, true, false, List, [], ◌∷◌, ◌++◌, length, Some, Ok, refl, sym, ◌∙◌, ap, subst, arith, eq-eqb, eqb-true, ne_eqb, length-append}
use Rattle.std.specs.Prelude.{if◌then◌else◌}
use Rattle.std.specs.Str.{bytes_eq}
use Rattle.std.proofs.lemmas.Bool.{false_from_ne_true, and_left, and_right, and_from}
use Rattle.tc_base.specs.declared.hook.Hook.{Hook}
use Rattle.filter_state.specs.declared.edit.Edit.TheVariants as edits
use Rattle.filter_state.specs.declared.edit.FilterLine.{FilterLine}
use Rattle.filter_state.specs.declared.refusal.Done.{Done}
use Rattle.filter_state.specs.declared.refusal.Done.TheVariants as dones
use Rattle.filter_state.specs.States.{Row, State}
use Rattle.filter_state.specs.Sound.{Sound}
use Rattle.filter_state.specs.Tables.{mask_row, mask_or_next}
use Rattle.filter_state.specs.Steps.{step, filter_replace, with_row, with_actions, with_new_actions, without_row, mask_serial_for}
use Rattle.filter_state.specs.Journals.{state_after}
use Rattle.state_laws.proofs.Tests.{bytes_eq_true, bytes_eq_from}
use Rattle.hook_store_law.specs.OfEffects.Parts.{Filter, filters_of, without}
use Rattle.hook_store_law.proofs.OfEffects.Adding.{line_filter}
use Rattle.hook_store_law.proofs.OfEffects.Replacing.{replaces, moved_row, exchanged_actions}
use Rattle.hook_store_law.proofs.OfEffects.Moving.{known}
use Rattle.hook_store_law.proofs.OfEffects.Moved.{replaced_key, replaced_mask}
use Rattle.hook_store_law.specs.OfEdits.Premises.{named_row}
use Rattle.desk_needs.specs.Live.{count_of, rows_of}
use Rattle.desk_needs.specs.declared.needs.Needs.{Needs}
use Rattle.desk_needs.specs.Needs.{made, last_mask, exchanged, concerned, moved, replaced, needs_from, needs_of}
use Rattle.desk_needs.specs.Needs as needs
use Rattle.desk_needs.specs.OfEditNeeds.Told.{laid, laid_rows, laid_masks, moved_to}
use Rattle.desk_needs.proofs.OfEditNeeds.Counted.{counted, one_more, one_less, last_of}

-- ---- masks that are laid anew
abbrev over : State → Hook → ℕ → List ℕ → Needs
over t hook made masks = record {
  blocks = made + needs.laid_blocks t masks;
  rows = needs.laid_rows t masks;
  masks = length masks;
  actions = made;
  head = Some hook;
}

module _ (t : State) (hook : Hook) (made to from : ℕ) (some : (count_of t to == 0) ≡ false) where
  abbrev needed : ℕ → ℕ → ℕ → Needs
  needed blocks rows masks = record { blocks = blocks; rows = rows; masks = masks; actions = made; head = Some hook }

  same_needs : (blocks blocks2 rows rows2 masks masks2 : ℕ) → blocks ≡ blocks2 → rows ≡ rows2 → masks ≡ masks2 → needed blocks rows masks ≡ needed blocks2 rows2 masks2
  same_needs blocks blocks2 rows rows2 masks masks2 b r m = ap (λ n. needed n rows masks) b ∙ ap (λ n. needed blocks2 n masks) r ∙ ap (needed blocks2 rows2) m

  blocks_of : laid (count_of t to) ≡ count_of t to + 1
  blocks_of = ap {B = ℕ} (λ b. if b then 0 else count_of t to + 1) some

  rows_of_it : laid_rows (count_of t to) ≡ rows_of t to
  rows_of_it = ap {B = ℕ} (λ b. if b then 0 else rows_of t to) some

  slot_of_it : laid_masks (count_of t to) ≡ 1
  slot_of_it = ap {B = ℕ} (λ b. if b then 0 else 1) some

  pub laid_one : over t hook made (to ∷ []) ≡ moved_to hook made (count_of t to) 0
  laid_one = same_needs _ _ _ _ _ _ (let b = blocks_of in omega (arith, b)) (let r = rows_of_it in omega (arith, r)) (let m = slot_of_it in omega (arith, m))

  laid_case : (b : Bool) → (count_of t from == 0) ≡ b → over t hook made (if b then to ∷ [] else to ∷ from ∷ []) ≡ moved_to hook made (count_of t to) (count_of t from)
  laid_case true none = laid_one ∙ ap (moved_to hook made (count_of t to)) (sym (eqb-true (count_of t from) 0 none))
  laid_case false more = same_needs _ _ _ _ _ _
      (let b = blocks_of in let c = ap {B = ℕ} (λ b. if b then 0 else count_of t from + 1) more in omega (arith, b, c))
      (let r = rows_of_it in let c = ap {B = ℕ} (λ b. if b then 0 else rows_of t from) more in omega (arith, r, c))
      (let m = slot_of_it in let c = ap {B = ℕ} (λ b. if b then 0 else 1) more in omega (arith, m, c))

  pub laid_two : to ≢ from → over t hook made (concerned t to from) ≡ moved_to hook made (count_of t to) (count_of t from)
  laid_two apart = ap (λ b. over t hook made (if b then to ∷ [] else if count_of t from == 0 then to ∷ [] else to ∷ from ∷ [])) (ne_eqb to from apart)
      ∙ laid_case (count_of t from == 0) refl

-- ---- the answer to a replace of a filter that is there
abbrev is_same : FilterLine → Row → Bool
is_same line row = bytes_eq row.mask line.mask.words && bytes_eq row.key line.key.words

no_bytes : (a b : List ℕ) → a ≢ b → bytes_eq a b ≡ false
no_bytes a b differ = false_from_ne_true (bytes_eq a b) (λ e. differ (bytes_eq_true a b e))

module _ (s t : State) (line : FilterLine) (done : Done) (row : Row) (sound : Sound s) (e : step s (edits.FilterReplace line) ≡ Ok (t, done)) (is : named_row s line ≡ Some row) where
  needs_by : (b : Bool) → is_same line row ≡ b → needs_of s (edits.FilterReplace line) ≡ (if b then exchanged s t row else moved s t row)
  needs_by b test = ap (λ stepped. needs_from s (state_after s stepped) (edits.FilterReplace line)) e ∙ ap (replaced s t line) is
      ∙ ap (λ x. if x then exchanged s t row else moved s t row) test

  pub needs_in_place : row.mask ≡ line.mask.words → row.key ≡ line.key.words → needs_of s (edits.FilterReplace line) ≡ exchanged s t row
  needs_in_place mask key = needs_by true (and_from (bytes_eq row.mask line.mask.words) (bytes_eq row.key line.key.words) (bytes_eq_from row.mask line.mask.words mask) (bytes_eq_from row.key line.key.words key))

  answer : dones.Filter row.pref row.handle (replaces s t line row done is e).r.serials ≡ done
  answer = (replaces s t line row done is e).answer

  abbrev serials : List ℕ
  serials = (replaces s t line row done is e).r.serials

  steps : filter_replace s line ≡ Ok (t, dones.Filter row.pref row.handle serials)
  steps = subst (λ d. filter_replace s line ≡ Ok (t, d)) (sym answer) e

  on : row.hook ≡ line.hook
  on = let a = replaces s t line row done is e in let k = known s line row sound is a.agrees a.room in let i = k.is in i.hook

  chained : row.chain ≡ line.chain
  chained = let a = replaces s t line row done is e in let k = known s line row sound is a.agrees a.room in let i = k.is in i.chain

  -- another mask is that of the line in the table, or the next one
  other_serial : row.mask ≢ line.mask.words → mask_serial_for s line row ≡ mask_or_next (mask_row line.hook line.chain row.pref line.mask.words s.rows) s.masks_made
  other_serial differ =
      let serial_at : Hook → ℕ → ℕ = λ hook chain. mask_or_next (mask_row hook chain row.pref line.mask.words s.rows) s.masks_made in
      ap (λ b. if b then row.mask_serial else serial_at row.hook row.chain) (no_bytes row.mask line.mask.words differ)
      ∙ ap (λ hook. serial_at hook row.chain) on ∙ ap (serial_at line.hook) chained

  -- the last row is the filter's
  last : is_same line row ≡ false → last_mask t.rows ≡ mask_serial_for s line row
  last differs =
      let a = replaces s t line row done is e in
      sym (ap (λ (u : State). last_mask u.rows) a.after)
      ∙ ap (λ b. last_mask (with_actions (if b then record s { rows = with_new_actions row a.r.serials s.rows } else with_row (record s { rows = without_row row s.rows }) (moved_row s line row a.r.serials))
      (exchanged_actions row a.r)).rows) differs
      ∙ last_of (without_row row s.rows) (moved_row s line row a.r.serials)

  there : 1 + length (without row.handle (filters_of s row.mask_serial)) ≡ count_of s row.mask_serial
  there = let less = one_less s _ row sound is in omega (arith, less)

  pub needs_of_key : row.mask ≡ line.mask.words → row.key ≢ line.key.words → needs_of s (edits.FilterReplace line) ≡ moved_to line.hook (made s t) (count_of s row.mask_serial) 0
  needs_of_key mask key =
      let m : ℕ = row.mask_serial in
      let differs : is_same line row ≡ false = and_right (bytes_eq row.mask line.mask.words) (bytes_eq row.key line.key.words) (no_bytes row.key line.key.words key) in
      let other : ℕ = mask_or_next (mask_row row.hook row.chain row.pref line.mask.words s.rows) s.masks_made in
      let own : mask_serial_for s line row ≡ m = ap (λ b. if b then m else other) (bytes_eq_from row.mask line.mask.words mask) in
      let change = replaced_key s t line row.pref row.handle serials row sound steps is mask key in
      let filters = change.0.filters_are in
      let count : count_of t m ≡ count_of s m = (let now = counted t m ∙ ap length filters in let before = there in let long = length_one (without row.handle (filters_of s m)) (line_filter line row.handle serials) in omega (arith, now, before, long)) in
      let some : (count_of t m == 0) ≡ false = ne_eqb (count_of t m) 0 (λ none. let before = there in omega (arith, none, count, before)) in
      needs_by false differs
      ∙ ap (λ to. over t row.hook (made s t) (concerned t to m)) (last differs ∙ own)
      ∙ ap (λ b. over t row.hook (made s t) (if b then m ∷ [] else if count_of t m == 0 then m ∷ [] else m ∷ m ∷ [])) (eq-eqb m m refl)
      ∙ laid_one t row.hook (made s t) m m some ∙ ap (λ n. moved_to row.hook (made s t) n 0) count ∙ ap (λ hook. moved_to hook (made s t) (count_of s m) 0) on
    where
      length_one : (fs : List Filter) (f : Filter) → length (fs ++ f ∷ []) ≡ length fs + 1
      length_one fs f = length-append fs (f ∷ [])

  pub needs_of_mask : (target : ℕ) → row.mask ≢ line.mask.words → target ≡ mask_or_next (mask_row line.hook line.chain row.pref line.mask.words s.rows) s.masks_made
      → needs_of s (edits.FilterReplace line) ≡ moved_to line.hook (made s t) (count_of s target + 1) (count_of s row.mask_serial - 1)
  needs_of_mask target mask named =
      let m : ℕ = row.mask_serial in
      let differs : is_same line row ≡ false = and_left (bytes_eq row.mask line.mask.words) (bytes_eq row.key line.key.words) (no_bytes row.mask line.mask.words mask) in
      let change = replaced_mask s t line row.pref row.handle serials row sound steps is mask in
      let to : ℕ = change.0 in
      let apart : to ≢ m = change.1 in
      let same : to ≡ target = change.2 ∙ sym named in
      let more : count_of t to ≡ count_of s to + 1 = one_more s t to to (line_filter line row.handle serials) change.3.0.filters_are in
      let less : count_of t m ≡ count_of s m - 1 = (let now = counted t m ∙ ap length change.3.1 in let before = there in omega (arith, now, before)) in
      let some : (count_of t to == 0) ≡ false = ne_eqb (count_of t to) 0 (λ none. omega (arith, none, more)) in
      needs_by false differs
      ∙ ap (λ to. over t row.hook (made s t) (concerned t to m)) (last differs ∙ other_serial mask ∙ sym change.2)
      ∙ laid_two t row.hook (made s t) to m some apart
      ∙ ap (λ n. moved_to row.hook (made s t) n (count_of t m)) more ∙ ap (λ n. moved_to row.hook (made s t) (count_of s to + 1) n) less
      ∙ ap (λ x. moved_to row.hook (made s t) (count_of s x + 1) (count_of s m - 1)) same ∙ ap (λ hook. moved_to hook (made s t) (count_of s target + 1) (count_of s m - 1)) on
