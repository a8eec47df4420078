-- What is in use and what is needed, against what there is.
use Rattle.std.proofs.Common.{◌≡◌, ◌≢◌, inl, inr, ℕ, ◌+◌, ◌-◌, ◌≤◌, ◌==◌, Bool, true, false, List, [], ◌∷◌, length, Option, Some, None, Ok, refl, sym, ◌∙◌, ap, subst, arith}
use Rattle.std.specs.Prelude.{if◌then◌else◌}
use Rattle.std.specs.Prelude.{filter}
use Rattle.std.specs.Str.{bytes_eq}
use Rattle.std.proofs.lemmas.Bool.{false≢true}
use Rattle.tc_base.specs.declared.hook.Hook.{Hook}
use Rattle.filter_state.specs.declared.edit.Edit.{Edit}
use Rattle.filter_state.specs.declared.edit.Edit.TheVariants as edits
use Rattle.filter_state.specs.declared.edit.FilterLine.{FilterLine}
use Rattle.filter_state.specs.declared.refusal.Done.{Done}
use Rattle.filter_state.specs.declared.refusal.Done.TheVariants as dones
use Rattle.filter_state.specs.States.{Row, State}
use Rattle.filter_state.specs.Sound.{Sound}
use Rattle.filter_state.specs.Order.{of_mask}
use Rattle.filter_state.specs.Tables.{hook_eq, mask_row, mask_or_next}
use Rattle.filter_state.specs.Lines.{IsLine}
use Rattle.filter_state.specs.Steps.{step, filter_add, filter_replace, replace_or_add}
use Rattle.filter_state.specs.Journals.{state_after}
use Rattle.flow_mask.specs.Sizes.{size_of}
use Rattle.filter_state.proofs.Free.{length_filter_le}
use Rattle.state_laws.proofs.Tests.{bytes_eq_true, bytes_eq_from}
use Rattle.hook_store_law.proofs.OfEffects.Adding.{adds, handle_in}
use Rattle.hook_store_law.proofs.OfEffects.Replacing.{replaces}
use Rattle.hook_store_law.proofs.OfEffects.Moved.{replaced_mask}
use Rattle.hook_store_law.proofs.OfEffects.Deleting.{filter_deleted}
use Rattle.hook_store_law.specs.OfEdits.Premises.{IsAddOf, named_row}
use Rattle.desk_needs.specs.declared.needs.Needs.{Needs}
use Rattle.desk_needs.specs.declared.pool.Pool.{Pool}
use Rattle.desk_needs.specs.declared.pool.Pool.TheVariants as pools
use Rattle.desk_needs.specs.Live.{count_of, live_of, size_of_pool}
use Rattle.desk_needs.specs.Needs.{made, nothing, needs_of, needs_from, needed_of, head_needed, behind, same_bucket, later}
use Rattle.desk_needs.specs.OfEditNeeds.Told.{put_into, put_with, moved_to, blocks_anew, rows_anew}
use Rattle.desk_needs.proofs.OfEditNeeds.Added.{needs_into, needs_with}
use Rattle.desk_needs.proofs.OfEditNeeds.Moved.{needs_in_place, needs_of_key, needs_of_mask}
use Rattle.desk_needs.proofs.OfEditNeeds.Gone.{needs_gone}
use Rattle.desk_needs.proofs.OfRoom.Lines.{few_made}
use Rattle.desk_needs.proofs.OfRoom.Sizes.{blocks_anew_small, rows_anew_few, laid_few, laid_rows_few, laid_masks_few}
use Rattle.desk_needs.proofs.OfRoom.Totals.{masks_few, rows_few_in, two_counts}

-- what an edit needs at most
pub record AreFew (needs : Needs) : Type 0 where
  pub blocks : needs.blocks ≤ 7168
  pub rows : needs.rows ≤ 128
  pub masks : needs.masks ≤ 2
  pub actions : needs.actions ≤ 16

pub into_few : (made count : ℕ) → made ≤ 16 → count ≤ 4096 → AreFew (put_into made count)
into_few made count few most =
    let blocks = blocks_anew_small count (count + 1) (omega arith) (omega arith) in
    let rows = rows_anew_few count (count + 1) in
    record { blocks = omega (arith, blocks, few, most); rows = omega (arith, rows); masks = omega arith; actions = few }

pub with_few : (hook : Hook) (made : ℕ) → made ≤ 16 → AreFew (put_with hook made)
with_few hook made few = record { blocks = omega (arith, few); rows = omega arith; masks = omega arith; actions = few }

pub moved_few : (hook : Hook) (made to from : ℕ) → made ≤ 16 → to + from ≤ 4097 → AreFew (moved_to hook made to from)
moved_few hook made to from few most =
    let a = laid_few to in
    let b = laid_few from in
    let c = laid_rows_few to in
    let d = laid_rows_few from in
    let e = laid_masks_few to in
    let f = laid_masks_few from in
    record { blocks = omega (arith, a, b, few, most); rows = omega (arith, c, d); masks = omega (arith, e, f); actions = few }

pub place_few : (made later : ℕ) → made ≤ 16 → later ≤ 4096 → AreFew (record { blocks = made + later + 1; rows = 0; masks = 0; actions = made; head = None })
place_few made later few most = record { blocks = omega (arith, few, most); rows = omega arith; masks = omega arith; actions = few }

pub out_few : (count later : ℕ) → count ≤ 4096 → later ≤ 4096 → AreFew (record nothing { blocks = later + blocks_anew count (count - 1); rows = rows_anew count (count - 1) })
out_few count later most few =
    let blocks = blocks_anew_small count (count - 1) (omega arith) (omega arith) in
    let rows = rows_anew_few count (count - 1) in
    record { blocks = omega (arith, blocks, few, most); rows = omega (arith, rows); masks = omega arith; actions = omega arith }

pub count_few : (s : State) (mask : ℕ) → Sound s → count_of s mask ≤ 4096
count_few s mask sound = let less = length_filter_le (of_mask mask) s.rows in let most = sound.filters in omega (arith, less, most)

head_few : (o : Option Hook) (hook : Hook) → head_needed o hook ≤ 1
head_few None hook = omega arith
head_few (Some changed) hook = step (hook_eq changed hook)
  where
    step : (b : Bool) → (if b then 1 else 0) ≤ 1
    step true = omega arith
    step false = omega arith

pub suffice : (s : State) (y : Edit) (pool : Pool) → Sound s → AreFew (needs_of s y) → live_of s pool + needed_of s y pool ≤ size_of_pool pool
suffice s y pools.Blocks sound few =
    let filters = sound.filters in let masks = masks_few s in let live = sound.live in let blocks = few.blocks in omega (arith, filters, masks, live, blocks)
suffice s y pools.Rows sound few = let filters = sound.filters in let used = rows_few_in s in let rows = few.rows in omega (arith, filters, used, rows)
suffice s y pools.MaskRoots sound few = let filters = sound.filters in let used = masks_few s in let masks = few.masks in omega (arith, filters, used, masks)
suffice s y pools.ActionRoots sound few = let live = sound.live in let actions = few.actions in omega (arith, live, actions)
suffice s y (pools.Head hook) sound few = let needed = head_few (needs_of s y).head hook in omega (arith, needed)

-- ---- what is looked up
behind_less : (handle : ℕ) (rows : List Row) → length (behind handle rows) ≤ length rows
behind_less handle [] = omega arith
behind_less handle (row ∷ rows) = step (row.handle == handle) (behind_less handle rows)
  where
    step : (b : Bool) → length (behind handle rows) ≤ length rows → length (if b then rows else behind handle rows) ≤ length (row ∷ rows)
    step true less = omega arith
    step false less = omega (arith, less)

later_few : (s : State) (row : Row) → Sound s → later s row ≤ 4096
later_few s row sound =
    let mine : List Row = filter (of_mask row.mask_serial) s.rows in
    let less = length_filter_le (same_bucket (size_of (count_of s row.mask_serial)) row.key) (behind row.handle mine) in
    let rest = behind_less row.handle mine in
    let few = count_few s row.mask_serial sound in
    omega (arith, less, rest, few)

-- the filter and its new mask are those of two masks
target_few : (s t : State) (line : FilterLine) (done : Done) (row : Row) → Sound s → filter_replace s line ≡ Ok (t, done) → named_row s line ≡ Some row → row.mask ≢ line.mask.words
    → count_of s (mask_or_next (mask_row line.hook line.chain row.pref line.mask.words s.rows) s.masks_made) + 1 + (count_of s row.mask_serial - 1) ≤ 4097
target_few s t line done row sound e is differ =
    let a = replaces s t line row done is e in
    let change = replaced_mask s t line row.pref row.handle a.r.serials row sound (subst (λ d. filter_replace s line ≡ Ok (t, d)) (sym a.answer) e) is differ in
    let both = two_counts s (mask_or_next (mask_row line.hook line.chain row.pref line.mask.words s.rows) s.masks_made) row.mask_serial (λ same. change.1 (change.2 ∙ same)) in
    let most = sound.filters in
    omega (arith, both, most)

none : AreFew nothing
none = record { blocks = omega arith; rows = omega arith; masks = omega arith; actions = omega arith }

-- ---- by edits
module _ (s t : State) (done : Done) (sound : Sound s) where
  abbrev Few : Edit → Type 0
  Few y = IsLine y → step s y ≡ Ok (t, done) → AreFew (needs_of s y)

  makes_few : (y : Edit) → IsLine y → step s y ≡ Ok (t, done) → made s t ≤ 16
  makes_few y line e = let most = few_made s t y done line e in omega (arith, most)

  -- an add, by whether the mask stands
  by_mask : (y : Edit) (line : FilterLine) (pref handle : ℕ) (serials : List ℕ) (o : Option Row) → IsAddOf s line y → step s y ≡ Ok (t, dones.Filter pref handle serials) → made s t ≤ 16
      → mask_row line.hook line.chain pref line.mask.words s.rows ≡ o → AreFew (needs_of s y)
  by_mask y line pref handle serials (Some row) add e less there =
      subst AreFew (sym (needs_into s t y line pref handle serials row sound add e there)) (into_few (made s t) (count_of s row.mask_serial) less (count_few s row.mask_serial sound))
  by_mask y line pref handle serials None add e less there = subst AreFew (sym (needs_with s t y line pref handle serials add e there)) (with_few line.hook (made s t) less)

  added_few : (y : Edit) (line : FilterLine) → IsAddOf s line y → filter_add s line ≡ Ok (t, done) → step s y ≡ Ok (t, done) → made s t ≤ 16 → AreFew (needs_of s y)
  added_few y line add steps e less =
      let a = adds s t line done steps in
      by_mask y line a.pref (handle_in s line a.pref) a.r.serials (mask_row line.hook line.chain a.pref line.mask.words s.rows) add (e ∙ ap (λ d. Ok (t, d)) (sym a.answer)) less refl

  -- a replace of a filter that is there, by its mask and key
  replaced_few : (line : FilterLine) (row : Row) → step s (edits.FilterReplace line) ≡ Ok (t, done) → named_row s line ≡ Some row → made s t ≤ 16 → AreFew (needs_of s (edits.FilterReplace line))
  replaced_few line row e there less = by_words (bytes_eq row.mask line.mask.words) refl (bytes_eq row.key line.key.words) refl
    where
      differ : (a b : List ℕ) → bytes_eq a b ≡ false → a ≢ b
      differ a b other same = false≢true (sym other ∙ bytes_eq_from a b same)

      own_less : count_of s row.mask_serial + 0 ≤ 4097
      own_less = let few = count_few s row.mask_serial sound in omega (arith, few)

      by_words : (b : Bool) → bytes_eq row.mask line.mask.words ≡ b → (c : Bool) → bytes_eq row.key line.key.words ≡ c → AreFew (needs_of s (edits.FilterReplace line))
      by_words true mask true key = subst AreFew (sym (needs_in_place s t line done row sound e there (bytes_eq_true row.mask line.mask.words mask) (bytes_eq_true row.key line.key.words key)))
          (place_few (made s t) (later s row) less (later_few s row sound))
      by_words true mask false key = subst AreFew (sym (needs_of_key s t line done row sound e there (bytes_eq_true row.mask line.mask.words mask) (differ row.key line.key.words key)))
          (moved_few line.hook (made s t) (count_of s row.mask_serial) 0 less own_less)
      by_words false mask c key =
          let target : ℕ = mask_or_next (mask_row line.hook line.chain row.pref line.mask.words s.rows) s.masks_made in
          let other : row.mask ≢ line.mask.words = differ row.mask line.mask.words mask in
          let both = target_few s t line done row sound e there other in
          subst AreFew (sym (needs_of_mask s t line done row sound e there target other refl)) (moved_few line.hook (made s t) (count_of s target + 1) (count_of s row.mask_serial - 1) less both)

  pub edit_few : (y : Edit) → Few y
  edit_few edits.HookAdd line e = none
  edit_few edits.HookDel line e = none
  edit_few (edits.FilterAdd l) line e = added_few (edits.FilterAdd l) l (inl refl) e e (makes_few (edits.FilterAdd l) line e)
  edit_few (edits.FilterReplace l) line e = by_row (named_row s l) refl
    where
      by_row : (o : Option Row) → named_row s l ≡ o → AreFew (needs_of s (edits.FilterReplace l))
      by_row (Some row) there = replaced_few l row e there (makes_few (edits.FilterReplace l) line e)
      by_row None there = added_few (edits.FilterReplace l) l (inr (refl, there)) (sym (ap (replace_or_add s l) there) ∙ e) e (makes_few (edits.FilterReplace l) line e)
  edit_few (edits.FilterDel hook protocol chain pref (Some handle)) line e =
      let gone = filter_deleted s t hook protocol chain pref handle done sound e in
      subst AreFew (sym (needs_gone s hook gone.0 t protocol chain pref handle done sound e gone.1.0)) (by_count gone.0 (count_of s gone.0.mask_serial == 1))
    where
      by_count : (row : Row) (b : Bool) → AreFew (if b then record nothing { head = Some hook } else record nothing {
        blocks = later s row + blocks_anew (count_of s row.mask_serial) (count_of s row.mask_serial - 1);
        rows = rows_anew (count_of s row.mask_serial) (count_of s row.mask_serial - 1);
      })
      by_count row true = record { blocks = omega arith; rows = omega arith; masks = omega arith; actions = omega arith }
      by_count row false = out_few (count_of s row.mask_serial) (later s row) (count_few s row.mask_serial sound) (later_few s row sound)
  edit_few (edits.FilterDel hook protocol chain pref None) line e = record { blocks = omega arith; rows = omega arith; masks = omega arith; actions = omega arith }
  edit_few (edits.ActionAdd l) line e = record { blocks = omega arith; rows = omega arith; masks = omega arith; actions = omega arith }
  edit_few (edits.ActionChange l) line e =
      let less = makes_few (edits.ActionChange l) line e in
      subst AreFew (sym (ap (λ stepped. needs_from s (state_after s stepped) (edits.ActionChange l)) e)) (record { blocks = omega arith; rows = omega arith; masks = omega arith; actions = less })
  edit_few (edits.ActionDel kind index) line e = none
