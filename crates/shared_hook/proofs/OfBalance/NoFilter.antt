-- Edits of the qdisc, and of actions apart from filters.
use Rattle.std.proofs.Common.{◌≡◌, inl, inr, ℕ, List, Ok, sym, ◌∙◌, ap, subst}
use Rattle.act_kinds.specs.declared.params.Kind.{Kind}
use Rattle.store_history.specs.declared.history.Commit.{Commit}
use Rattle.filter_state.specs.declared.action_line.ActionLine.{ActionLine}
use Rattle.filter_state.specs.declared.edit.Edit.{Edit}
use Rattle.filter_state.specs.declared.edit.Edit.TheVariants as edits
use Rattle.filter_state.specs.declared.refusal.Done.{Done}
use Rattle.filter_state.specs.States.{State}
use Rattle.filter_state.specs.Steps.{step}
use Rattle.hook_store_law.specs.OfEdits.Premises.{now, IsAccepted, IsOfFilters}
use Rattle.hook_store_law.proofs.OfEdits.Accepted.{sound}
use Rattle.desk_pools.specs.declared.pools.Pools.{Pools}
use Rattle.desk_actions.specs.Effects.{IsCounted}
use Rattle.desk_actions.specs.Kinds.{IsMaking, IsChanging}
use Rattle.desk_parts.specs.OfPlainEdits.Kinds.{IsOfQdisc}
use Rattle.desk_needs.specs.OfLiveCounts.Counts.{StayAsMany, ActionsStay, ActionComes}
use Rattle.desk_needs.proofs.OfLiveCounts.NoFilter.{counts_kept, qdisc, added, made_by_change, changed, deleted}
use Rattle.shared_hook.specs.OfBalance.Counts.{AreCounted}
use Rattle.shared_hook.proofs.OfBalance.Evens.{all_add_up}
use Rattle.shared_hook.proofs.OfBalance.ByKind as kinds

module _ (old new : Pools) (h : List (Commit Edit)) (b : ℕ) (y : Edit) (t : State) (done : Done) (all : AreCounted old (now h)) (a : IsAccepted h b y t done) where
  abbrev s : State
  s = now h

  steps_as : (z : Edit) → y ≡ z → step s z ≡ Ok (t, done)
  steps_as z is = sym (ap (step s) is) ∙ a.steps

  kept : (IsOfFilters y → ⊥) → StayAsMany s t
  kept apart = counts_kept s t y done apart a.steps

  pub marked : IsOfQdisc y → new ≡ old → AreCounted new t
  marked qdisc_is same = all_add_up old new s t (kinds.marked old new s t (kept (not_filters qdisc_is)) (actions_stay qdisc_is) same) all
    where
      not_filters : IsOfQdisc y → IsOfFilters y → ⊥
      not_filters (inl is) filters = subst IsOfFilters is filters
      not_filters (inr is) filters = subst IsOfFilters is filters

      actions_stay : IsOfQdisc y → ActionsStay s t
      actions_stay (inl is) = qdisc s t done (inl (steps_as edits.HookAdd is))
      actions_stay (inr is) = qdisc s t done (inr (steps_as edits.HookDel is))

  pub made : (line : ActionLine) → IsMaking s line y → IsCounted old.blocks new.blocks 1 0 → IsCounted old.actions new.actions 1 0
      → new ≡ record old { blocks = new.blocks; actions = new.actions } → AreCounted new t
  made line making blocks actions same = all_add_up old new s t (kinds.made old new s t (kept (not_filters making)) (comes making) blocks actions same) all
    where
      not_filters : IsMaking s line y → IsOfFilters y → ⊥
      not_filters (inl is) filters = subst IsOfFilters is filters
      not_filters (inr both) filters = subst IsOfFilters both.0 filters

      comes : IsMaking s line y → ActionComes s t
      comes (inl is) = added s t line done (steps_as (edits.ActionAdd line) is)
      comes (inr both) = made_by_change s t line done (steps_as (edits.ActionChange line) both.0) both.1

  pub changed_one : (line : ActionLine) → IsChanging s line y → IsCounted old.blocks new.blocks 1 1 → new ≡ record old { blocks = new.blocks } → AreCounted new t
  changed_one line changing blocks same =
      let stay = changed s t line done (steps_as (edits.ActionChange line) changing.0) changing.1 in
      all_add_up old new s t (kinds.changed old new s t (kept (λ filters. subst IsOfFilters changing.0 filters)) stay blocks same) all

  pub deleted_one : (kind : Kind) (index : ℕ) → y ≡ edits.ActionDel kind index → IsCounted old.blocks new.blocks 0 1 → IsCounted old.actions new.actions 0 1
      → new ≡ record old { blocks = new.blocks; actions = new.actions } → AreCounted new t
  deleted_one kind index is blocks actions same =
      let one = deleted s t kind index done (sound h b y t done a) (steps_as (edits.ActionDel kind index) is) in
      all_add_up old new s t (kinds.deleted old new s t (kept (λ filters. subst IsOfFilters is filters)) one blocks actions same) all
