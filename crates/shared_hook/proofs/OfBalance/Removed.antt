-- Filters that are deleted, and masks that go.
use Rattle.std.proofs.Common.{◌≡◌, ℕ, ◌+◌, ◌-◌, ◌<◌, List, [], ◌∷◌, ◌++◌, map, Option, Some, None, length, refl, sym, ◌∙◌, ap, subst, arith}
use Rattle.std.proofs.lemmas.List.{length-map}
use Rattle.tc_base.specs.declared.hook.Hook.{Hook}
use Rattle.tc_base.specs.declared.hook.Hook.TheVariants as hooks
use Rattle.tc_base.specs.declared.hook.Proto.{Proto}
use Rattle.store_history.specs.declared.history.Commit.{Commit}
use Rattle.store_history.specs.History.{edits_of}
use Rattle.filter_state.specs.declared.edit.Edit.{Edit}
use Rattle.filter_state.specs.declared.edit.Edit.TheVariants as edits
use Rattle.filter_state.specs.declared.refusal.Done.{Done}
use Rattle.filter_state.specs.States.{State}
use Rattle.filter_state.specs.Steps.{step}
use Rattle.hook_store_law.specs.OfEdits.Premises.{now, IsAccepted, IsOfFilters}
use Rattle.hook_store_law.proofs.OfEdits.Accepted.{sound}
use Rattle.desk_pools.specs.OfNumbers.Numbers.{PoolNumbers}
use Rattle.desk_needs.specs.Live.{count_of}
use Rattle.desk_needs.specs.OfEditNeeds.Told.{blocks_anew, rows_anew}
use Rattle.desk_pools.specs.declared.pools.Pools.{Pools}
use Rattle.desk_pools.specs.Steps.{turned}
use Rattle.desk_actions.specs.Effects.{IsCounted}
use Rattle.desk_actions.specs.Places.{Placed, slot_of, block_of}
use Rattle.desk_parts.specs.OfLineActions.Dropped.{AreDropped}
use Rattle.desk_parts.specs.OfLineActions.Gone.{NamesGone}
use Rattle.desk_parts.specs.declared.ways.way.Way.TheVariants as ways
use Rattle.desk_parts.specs.OfWays.Ways.{OutOfMask, Closes, TakesMasks}
use Rattle.shared_hook.specs.OfDeskEdits.Spent.{made_by, needed, LeftWithActions}
use Rattle.shared_hook.specs.OfDeskEdits.Goes.{AreGone}
use Rattle.shared_hook.specs.OfDeskEdits.Parting.{HaveLeft}
use Rattle.desk_needs.specs.OfLiveCounts.Counts.{FilterGoes, MasksGo}
use Rattle.desk_needs.proofs.OfLiveCounts.Removed.{from_mask, last_of_mask, table}
use Rattle.shared_hook.specs.OfBalance.Counts.{AreCounted}
use Rattle.shared_hook.proofs.OfBalance.Evens.{all_add_up}
use Rattle.shared_hook.proofs.OfBalance.Balance.{went_after, none_made}
use Rattle.shared_hook.proofs.OfBalance.ByKind as kinds

no_more : (left gone live made : ℕ) → left + gone ≡ live + made → made ≡ 0 → left + gone ≡ live
no_more left gone live made all none = omega (arith, all, none)

slots_as : {old new : PoolNumbers} {made gone : ℕ} → made ≡ 0 → IsCounted old new 0 gone → IsCounted old new made gone
slots_as {old = old} {new = new} {gone = gone} none slots = subst (λ n. IsCounted old new n gone) (sym none) slots

module _ (old new : Pools) (h k : List (Commit Edit)) (b : ℕ) (y : Edit) (t : State) (done : Done) (serials : List ℕ) (all : AreCounted old (now h)) (a : IsAccepted h b y t done)
    (names : NamesGone (now h) y serials) (journal : edits_of k ≡ edits_of h ++ y ∷ []) where
  abbrev s : State
  s = now h

  of_filters : (hook : Hook) (protocol : Option Proto) (chain pref : ℕ) (handle : Option ℕ) → y ≡ edits.FilterDel hook protocol chain pref handle → IsOfFilters y
  of_filters hook protocol chain pref handle is = subst IsOfFilters (sym is) tt

  -- ---- one filter
  pub out : (slot count later : ℕ) → OutOfMask h y slot count later
      → LeftWithActions old new k serials (needed h y (ways.OutOfMask slot count later)) (later + 1 + blocks_anew count (count - 1))
      → IsCounted old.rows new.rows (needed h y (ways.OutOfMask slot count later)).rows (rows_anew (count - 1) count)
      → new ≡ record old { blocks = new.blocks; rows = new.rows; actions = new.actions } → AreCounted new t
  out slot count later w left rows same =
      let more : 1 < count = w.others in
      let goes = subst (FilterGoes s t) (sym w.mask.counted) (from_mask s t w.hook w.protocol w.chain w.pref w.handle done w.row (sound h b y t done a) (sym (ap (step s) w.is) ∙ a.steps) w.there
      (subst (λ n. 1 < n) w.mask.counted more)) in
      let live = went_after h b y t done a (of_filters w.hook w.protocol w.chain w.pref (Some w.handle) w.is) k serials left.gone names journal left.are_gone in
      let none = none_made h y w.hook w.protocol w.chain w.pref (Some w.handle) w.is in
      all_add_up old new s t (kinds.out old new s t (made_by h y) (length left.gone) live (slots_as none left.actions) count later more goes none left.blocks rows same) all

  -- ---- masks
  turned_same : (hook : Hook) → ((turned hook old).blocks ≡ old.blocks) × ((turned hook old).rows ≡ old.rows) × ((turned hook old).masks ≡ old.masks) × ((turned hook old).actions ≡ old.actions)
  turned_same hooks.Ingress = (refl, refl, refl, refl)
  turned_same hooks.Egress = (refl, refl, refl, refl)

  gone_with : (hook : Hook) (w : Closes h y hook) (masks : List ℕ) → AreGone s t masks → MasksGo s t masks
  gone_with hook w masks are = go w.handle w.is w.takes
    where
      go : (handle : Option ℕ) → y ≡ edits.FilterDel hook w.protocol w.chain w.pref handle → TakesMasks h hook w.chain w.pref handle → MasksGo s t masks
      go None is takes = table s t masks are.different are.each are.all (sound h b y t done a) hook w.protocol w.chain w.pref done (sym (ap (step s) is) ∙ a.steps)
      go (Some handle) is alone =
          last_of_mask s t masks are.different are.each are.all (sound h b y t done a) hook w.protocol w.chain w.pref handle done alone.row (sym (ap (step s) is) ∙ a.steps) alone.there alone.alone

  pub closes : (between : Pools) (placed left : Placed) (base : ℕ) (masks : List ℕ) (hook : Hook) → Closes h y hook → AreGone s t masks → HaveLeft (count_of s) (turned hook old) between masks
      → AreDropped between new placed left k base serials → AreCounted new t
  closes between placed left base masks hook w are parted dropped =
      let go = gone_with hook w masks are in
      let same = turned_same hook in
      let live = went_after h b y t done a (of_filters hook w.protocol w.chain w.pref w.handle w.is) k serials dropped.gone names journal
      (record { once = dropped.once; dead = dropped.dead; all = dropped.all }) in
      let none = none_made h y hook w.protocol w.chain w.pref w.handle w.is in
      let slots : List ℕ = map (slot_of placed) dropped.gone in
      let blocks : List ℕ = map (λ action. block_of placed (slot_of placed action)) dropped.gone in
      all_add_up old new s t (kinds.closes old new s t (turned hook old) between masks slots blocks (length dropped.gone) (no_more (length t.actions) (length dropped.gone) (length s.actions) (made_by h y) live none) go parted same.0 same.1 same.2 same.3
      dropped.slots (length-map dropped.gone (slot_of placed)) dropped.blocks (length-map dropped.gone (λ action. block_of placed (slot_of placed action))) dropped.free_slots dropped.free_blocks dropped.rest) all
