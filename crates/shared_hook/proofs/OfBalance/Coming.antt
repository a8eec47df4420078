-- Filters that come.
use Rattle.std.proofs.Common.{◌≡◌, inl, inr, ℕ, ◌+◌, ◌≤◌, ◌&&◌, List, [], length, refl, sym, ◌∙◌, ap, subst, arith, eq-eqb}
use Rattle.tc_base.specs.declared.hook.Hook.{Hook}
use Rattle.store_history.specs.declared.history.Commit.{Commit}
use Rattle.filter_state.specs.declared.edit.Edit.{Edit}
use Rattle.filter_state.specs.declared.edit.FilterLine.{FilterLine}
use Rattle.filter_state.specs.declared.refusal.Done.{Done}
use Rattle.filter_state.specs.States.{State}
use Rattle.filter_state.specs.Order.{of_mask}
use Rattle.filter_state.specs.Tables.{in_table, has_mask}
use Rattle.state_laws.proofs.Room.{found_any}
use Rattle.hook_store_law.specs.OfEdits.Premises.{now, IsAccepted, IsOfFilters, IsAddOf}
use Rattle.hook_store_law.proofs.OfEdits.Accepted.{sound}
use Rattle.desk_needs.specs.OfEditNeeds.Told.{blocks_anew, rows_anew}
use Rattle.desk_pools.specs.declared.pools.Pools.{Pools}
use Rattle.desk_actions.specs.Effects.{IsCounted}
use Rattle.desk_parts.specs.OfLineActions.Gone.{serials_gone, named_by}
use Rattle.desk_parts.specs.declared.ways.way.Way.TheVariants as ways
use Rattle.desk_parts.specs.OfWays.Ways.{IntoMask, WithMask}
use Rattle.shared_hook.specs.OfDeskEdits.Spent.{made_by, needed}
use Rattle.desk_needs.specs.OfLiveCounts.Counts.{FilterComes}
use Rattle.desk_needs.proofs.OfLiveCounts.Changes.{some_there}
use Rattle.desk_needs.proofs.OfLiveCounts.Coming.{into_mask_led, with_mask_led}
use Rattle.shared_hook.specs.OfBalance.Counts.{AreCounted}
use Rattle.shared_hook.proofs.OfBalance.Evens.{all_add_up}
use Rattle.shared_hook.proofs.OfBalance.Balance.{none_went}
use Rattle.shared_hook.proofs.OfBalance.ByKind as kinds

add_is_of_filters : (s : State) (y : Edit) (line : FilterLine) → IsAddOf s line y → IsOfFilters y
add_is_of_filters s y line (inl is) = subst IsOfFilters (sym is) tt
add_is_of_filters s y line (inr both) = subst IsOfFilters (sym both.0) tt

add_names_none : (s : State) (y : Edit) (line : FilterLine) → IsAddOf s line y → serials_gone s y ≡ []
add_names_none s y line (inl is) = ap (serials_gone s) is
add_names_none s y line (inr both) = ap (serials_gone s) both.0 ∙ ap named_by both.1

add_none : {left all : ℕ} → left ≡ all → left + 0 ≡ all
add_none same = omega (arith, same)

module _ (old new : Pools) (h : List (Commit Edit)) (b : ℕ) (y : Edit) (t : State) (done : Done) (all : AreCounted old (now h)) (a : IsAccepted h b y t done) where
  abbrev s : State
  s = now h

  come : (line : FilterLine) → IsAddOf s line y → length t.actions + 0 ≡ length s.actions + made_by h y
  come line add = add_none (none_went h b y t done a (add_is_of_filters s y line add) (add_names_none s y line add))

  pub into : (slot count : ℕ) → IntoMask h y slot count → IsCounted old.blocks new.blocks (needed h y (ways.IntoMask slot count)).blocks (blocks_anew count (count + 1))
      → IsCounted old.rows new.rows (needed h y (ways.IntoMask slot count)).rows (rows_anew (count + 1) count) → IsCounted old.actions new.actions (made_by h y) 0
      → new ≡ record old { blocks = new.blocks; rows = new.rows; actions = new.actions } → AreCounted new t
  into slot count w blocks rows actions same =
      let m : ℕ = w.row.mask_serial in
      let comes = subst (FilterComes s t) (sym w.mask.counted) (into_mask_led s t y w.line w.pref done w.row (sound h b y t done a) w.add a.steps w.chosen w.there) in
      let stands = found_any (λ x. in_table w.line.hook w.line.chain w.pref x && has_mask w.line.mask.words x) (of_mask m) s.rows w.row w.there (eq-eqb m m refl) in
      let some : 1 ≤ count = subst (λ n. 1 ≤ n) (sym w.mask.counted) (some_there s m stands) in
      all_add_up old new s t (kinds.into old new s t (made_by h y) 0 (come w.line w.add) actions count some comes refl blocks rows same) all

  pub with : (hook : Hook) → WithMask h y hook → IsCounted old.blocks new.blocks (needed h y (ways.WithMask hook)).blocks 0 → IsCounted old.rows new.rows 1 0 → IsCounted old.masks new.masks 1 0
      → IsCounted old.actions new.actions (made_by h y) 0 → AreCounted new t
  with hook w blocks rows masks actions =
      let comes = with_mask_led s t y w.line done (sound h b y t done a) w.add a.steps w.none in
      all_add_up old new s t (kinds.with old new s t (made_by h y) 0 (come w.line w.add) actions comes refl blocks rows masks) all
