-- Filters that are replaced.
use Rattle.std.proofs.Common.{◌≡◌, ℕ, ◌+◌, ◌≤◌, List, [], ◌∷◌, ◌++◌, Option, Some, None, Ok, length, refl, sym, ◌∙◌, ap, subst, eq-eqb}
use Rattle.tc_base.specs.declared.hook.Hook.{Hook}
use Rattle.store_history.specs.declared.history.Commit.{Commit}
use Rattle.store_history.specs.History.{edits_of}
use Rattle.filter_state.specs.declared.edit.Edit.{Edit}
use Rattle.filter_state.specs.declared.edit.Edit.TheVariants as edits
use Rattle.filter_state.specs.declared.edit.FilterLine.{FilterLine}
use Rattle.filter_state.specs.declared.refusal.Done.{Done}
use Rattle.filter_state.specs.States.{Row, State}
use Rattle.filter_state.specs.Order.{of_mask}
use Rattle.filter_state.specs.Tables.{mask_row, mask_or_next}
use Rattle.filter_state.specs.Steps.{step}
use Rattle.state_laws.proofs.Room.{found_any}
use Rattle.hook_store_law.specs.OfEdits.Premises.{now, IsAccepted, IsOfFilters}
use Rattle.hook_store_law.proofs.OfEdits.Accepted.{sound}
use Rattle.desk_needs.specs.Live.{count_of}
use Rattle.desk_needs.specs.OfEditNeeds.Told.{laid, laid_rows, laid_masks}
use Rattle.desk_pools.specs.declared.pools.Pools.{Pools}
use Rattle.desk_actions.specs.Effects.{IsCounted}
use Rattle.desk_parts.specs.OfLineActions.Gone.{NamesGone}
use Rattle.desk_parts.specs.declared.ways.way.Way.TheVariants as ways
use Rattle.desk_parts.specs.OfWays.Ways.{Replaces, InPlace, OtherKey, OtherMask, IsTarget}
use Rattle.shared_hook.specs.OfDeskEdits.Spent.{made_by, needed, LeftWithActions}
use Rattle.desk_needs.specs.OfLiveCounts.Counts.{FilterMoves}
use Rattle.desk_needs.proofs.OfLiveCounts.Changes.{some_there, none_yet}
use Rattle.desk_needs.proofs.OfLiveCounts.Replaced.{same_mask, other_mask}
use Rattle.shared_hook.specs.OfBalance.Counts.{AreCounted}
use Rattle.shared_hook.proofs.OfBalance.Evens.{all_add_up}
use Rattle.shared_hook.proofs.OfBalance.Balance.{went_after}
use Rattle.shared_hook.proofs.OfBalance.ByKind as kinds

module _ (old new : Pools) (h k : List (Commit Edit)) (b : ℕ) (y : Edit) (t : State) (done : Done) (serials : List ℕ) (all : AreCounted old (now h)) (a : IsAccepted h b y t done)
    (names : NamesGone (now h) y serials) (journal : edits_of k ≡ edits_of h ++ y ∷ []) where
  abbrev s : State
  s = now h

  of_filters : (line : FilterLine) (row : Row) → Replaces h y line row → IsOfFilters y
  of_filters line row r = subst IsOfFilters (sym r.is) tt

  steps : (line : FilterLine) (row : Row) → Replaces h y line row → step s (edits.FilterReplace line) ≡ Ok (t, done)
  steps line row r = sym (ap (step s) r.is) ∙ a.steps

  pub in_place : (slot later : ℕ) → InPlace h y slot later → LeftWithActions old new k serials (needed h y (ways.InPlace slot later)) (later + 1)
      → new ≡ record old { blocks = new.blocks; actions = new.actions } → AreCounted new t
  in_place slot later w left same =
      let kept = same_mask s t w.line done w.row (sound h b y t done a) (steps w.line w.row w.replaces) w.replaces.there w.same_mask in
      let live = went_after h b y t done a (of_filters w.line w.row w.replaces) k serials left.gone names journal left.are_gone in
      all_add_up old new s t (kinds.in_place old new s t (made_by h y) (length left.gone) live left.actions later kept left.blocks same) all

  pub other_key : (hook : Hook) (slot count : ℕ) → OtherKey h y hook slot count → LeftWithActions old new k serials (needed h y (ways.OtherKey hook slot count)) (laid count)
      → IsCounted old.rows new.rows (needed h y (ways.OtherKey hook slot count)).rows (laid_rows count) → IsCounted old.masks new.masks (needed h y (ways.OtherKey hook slot count)).masks (laid_masks count)
      → AreCounted new t
  other_key hook slot count w left rows slots =
      let kept = same_mask s t w.line done w.row (sound h b y t done a) (steps w.line w.row w.replaces) w.replaces.there w.same_mask in
      let live = went_after h b y t done a (of_filters w.line w.row w.replaces) k serials left.gone names journal left.are_gone in
      all_add_up old new s t (kinds.other_key old new s t (made_by h y) (length left.gone) live left.actions hook count kept left.blocks rows slots) all

  -- the target has so many
  of_target : (found : Option Row) (given : Option ℕ) (others : ℕ) → IsTarget h found given others → count_of s (mask_or_next found s.masks_made) ≡ others
  of_target None None others none = none_yet s (sound h b y t done a) ∙ sym none
  of_target (Some row) (Some slot) others is = sym is.counted
  of_target None (Some slot) others is = absurd is
  of_target (Some row) None others is = absurd is

  pub to_other_mask : (hook : Hook) (slot count : ℕ) (given : Option ℕ) (others : ℕ) → OtherMask h y hook slot count given others
      → LeftWithActions old new k serials (needed h y (ways.OtherMask hook slot count given others)) (laid count + laid others)
      → IsCounted old.rows new.rows (needed h y (ways.OtherMask hook slot count given others)).rows (laid_rows count + laid_rows others)
      → IsCounted old.masks new.masks (needed h y (ways.OtherMask hook slot count given others)).masks (laid_masks count + laid_masks others) → AreCounted new t
  to_other_mask hook slot count given others w left rows slots =
      let found : Option Row = mask_row w.line.hook w.line.chain w.row.pref w.line.mask.words s.rows in
      let target : ℕ = mask_or_next found s.masks_made in
      let m : ℕ = w.row.mask_serial in
      let moves = other_mask s t w.line done w.row (sound h b y t done a) (steps w.line w.row w.replaces) w.replaces.there target w.other_mask refl in
      let same : FilterMoves s t count others = subst (λ n. FilterMoves s t n others) (sym w.mask.counted) (subst (FilterMoves s t (count_of s m)) (of_target found given others w.target) moves) in
      let stands = found_any _ (of_mask m) s.rows w.row w.replaces.there (eq-eqb m m refl) in
      let some : 1 ≤ count = subst (λ n. 1 ≤ n) (sym w.mask.counted) (some_there s m stands) in
      let live = went_after h b y t done a (of_filters w.line w.row w.replaces) k serials left.gone names journal left.are_gone in
      all_add_up old new s t (kinds.other_mask old new s t (made_by h y) (length left.gone) live left.actions hook count others some same left.blocks rows slots) all
