-- The filters of a mask, told off the lists, are those of the state as they are stored.
use Rattle.std.proofs.Common.{◌≡◌, ◌∙◌, ℕ, zero, suc, Bool, true, false, cond, List, [], ◌∷◌, length, map, filter, slice_get, Some, refl, sym, ap, subst}
use Rattle.std.specs.Prelude.{All}
use Rattle.std.specs.List.{AllByRecursion}
use Rattle.std.proofs.lemmas.List.Elements.{All-from_recursion}
use Rattle.store_history.specs.declared.history.Commit.{Commit}
use Rattle.filter_index.specs.declared.filter.Filter.{Filter}
use Rattle.filter_state.specs.declared.edit.Edit.{Edit}
use Rattle.filter_state.specs.declared.edit.FilterLine.{FilterLine}
use Rattle.filter_state.specs.States.{Row, State}
use Rattle.filter_state.specs.Order.{of_mask}
use Rattle.filter_state.specs.Sound.{Each, IsRow}
use Rattle.hook_store_law.specs.OfEffects.Parts.{filter_of}
use Rattle.mask_order.specs.Fitting.{FitsBlock}
use Rattle.hook_law.specs.Records.{StatedFilter}
use Rattle.hook_law.specs.Standing.{IsIn}
use Rattle.hook_store_law.specs.Stated.{filter_stated, filters_at}
use Rattle.hook_store_law.specs.Told.{with_slots}
use Rattle.desk_heads.proofs.OfHeadCommits.Places.{map_at}
use Rattle.desk_masks.specs.OfFilterCommits.Edits.{IsOfLine}
use Rattle.desk_masks.proofs.Slotting.{stored_own}
use Rattle.desk_actions.specs.Places.{Placed}
use Rattle.desk_parts.specs.OfFilterNames.Named.{CanBeNamed}
use Rattle.desk_parts.proofs.OfFilterNames.Storable.{few_serials, made_serials, line_stored}
use Rattle.hook_lists.specs.declared.kept.Kept.{Kept}
use Rattle.shared_hook.specs.OfDeskEdits.OfMoves.Tells.{stated, stored_at, CanBeTold, CanTell}

-- ---- keys have fourteen words
long_rows : (s : State) (mask : ℕ) (rows : List Row) → Each (IsRow s) rows → Each (λ (f : StatedFilter). length f.key ≡ 14) (map filter_stated (map filter_of (filter (of_mask mask) rows)))
long_rows s mask [] all = tt
long_rows s mask (row ∷ rows) all = pick (of_mask mask row) (long_rows s mask rows all.1)
  where
    Long : StatedFilter → Type 0
    Long f = length f.key ≡ 14

    pick : (t : Bool) → Each Long (map filter_stated (map filter_of (filter (of_mask mask) rows))) → Each Long (map filter_stated (map filter_of (cond t (row ∷ filter (of_mask mask) rows) (filter (of_mask mask) rows))))
    pick true rest = (all.0.keys.key_count, rest)
    pick false rest = rest

each_in : {X : Type 0} (P : X → Type 0) (xs : List X) (x : X) → Each P xs → IsIn x xs → P x
each_in P [] x all at = let e = at.1 in absurd (cc e)
each_in P (y ∷ ys) x all at = walk at.0 at.1 (each_in P ys x all.1)
  where
    walk : (place : ℕ) → slice_get (y ∷ ys) place ≡ Some x → (IsIn x ys → P x) → P x
    walk zero e rest = let same : y ≡ x = cc e in subst P same all.0
    walk (suc place) e rest = rest (place, e)

module _ (lists : Kept) (placed : Placed) (h : List (Commit Edit)) (s : State) (can : CanTell lists placed h s) (line : FilterLine) (serial : ℕ) where
  -- a filter of the mask, as if a line had given it
  abbrev line_for : Filter → FilterLine
  line_for f = record line { key = f.key }

  module _ (f : Filter) (there : IsIn (stated f) (filters_at s serial)) where
    named_one : CanBeNamed h s placed (stated f)
    named_one = record { sound = can.sound; mask = serial; there = there; slots = can.slots }

    told_one : CanBeTold f
    told_one = record { few = few_serials h s placed (line_for f) f.handle f.actions named_one; made = made_serials h s placed (line_for f) f.handle f.actions named_one }

    long : length f.key.words ≡ 14
    long = each_in (λ (g : StatedFilter). length g.key ≡ 14) (filters_at s serial) (stated f) (long_rows s serial s.rows (let sound = can.sound in sound.rows)) there

    stored_one : IsOfLine h (line_for f) f.handle f.actions (stored_at placed f)
    stored_one = line_stored h s placed (line_for f) f.handle f.actions named_one long

    same_one : with_slots h (stated f) ≡ stored_at placed f
    same_one = ap (with_slots h) (sym stored_one.is) ∙ stored_own h can.base can.low can.keeps (stored_at placed f) stored_one.names

  -- ---- all of them
  abbrev AreThere : List Filter → Type 0
  AreThere fs = (f : Filter) → IsIn f fs → IsIn (stated f) (filters_at s serial)

  later : (f : Filter) (fs : List Filter) → AreThere (f ∷ fs) → AreThere fs
  later f fs all g at = all g (suc at.0, at.1)

  told_each : (fs : List Filter) → AreThere fs → AllByRecursion CanBeTold fs
  told_each [] all = tt
  told_each (f ∷ fs) all = (told_one f (all f (0, refl)), told_each fs (later f fs all))

  same_each : (fs : List Filter) → AreThere fs → map (with_slots h) (map stated fs) ≡ map (stored_at placed) fs
  same_each [] all = refl
  same_each (f ∷ fs) all = let one = same_one f (all f (0, refl)) in let rest = same_each fs (later f fs all) in λ i. one i ∷ rest i

  fit_each : (fs : List Filter) → AreThere fs → AllByRecursion FitsBlock (map (stored_at placed) fs)
  fit_each [] all = tt
  fit_each (f ∷ fs) all = let one = stored_one f (all f (0, refl)) in (one.fit, fit_each fs (later f fs all))

  module _ (fs : List Filter) (are : map stated fs ≡ filters_at s serial) where
    there : AreThere fs
    there f at = (at.0, subst (λ (gs : List StatedFilter). slice_get gs at.0 ≡ Some (stated f)) are (map_at stated fs at.0 f at.1))

    pub can_be_told : AllByRecursion CanBeTold fs
    can_be_told = told_each fs there

    pub told_same : map (with_slots h) (filters_at s serial) ≡ map (stored_at placed) fs
    told_same = ap (map (with_slots h)) (sym are) ∙ same_each fs there

    pub told_fit : All FitsBlock (map (stored_at placed) fs)
    told_fit = All-from_recursion FitsBlock (map (stored_at placed) fs) (fit_each fs there)
