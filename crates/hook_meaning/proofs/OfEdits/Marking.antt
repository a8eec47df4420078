-- Edits that no walk can see: the qdisc comes or goes, or an action apart from filters is deleted.
use Rattle.std.proofs.Common.{◌≡◌, ◌≢◌, ◌⊎◌, inl, inr, ℕ, ◌+◌, ◌==◌, Bool, true, false, List, Some, None, Ok, refl, sym, ◌∙◌, ap, subst, eqb-true}
use Rattle.std.specs.Option.{option_map}
use Rattle.std.proofs.lemmas.Bool.{eqb-false}
use Rattle.store_history.specs.declared.history.Commit.{Commit}
use Rattle.filter_state.specs.declared.edit.Edit.{Edit}
use Rattle.filter_state.specs.declared.edit.Edit.TheVariants as edits
use Rattle.filter_state.specs.declared.refusal.Done.{Done}
use Rattle.filter_state.specs.declared.refusal.Done.TheVariants as dones
use Rattle.filter_state.specs.States.{State}
use Rattle.filter_state.specs.Actions.{has_serial}
use Rattle.filter_state.specs.Tables.{first_where}
use Rattle.filter_state.specs.Refusals.{or_else, no_hook, hook_exists, hook_in_use}
use Rattle.filter_state.specs.Steps.{Stepped, step}
use Rattle.filter_state.specs.Journals.{state_after}
use Rattle.filter_state.specs.Sound.{Sound}
use Rattle.edit_effects.specs.OfEffects.Parts.{params_at}
use Rattle.hook_law.specs.Places.{marker_root}
use Rattle.hook_law.specs.Meaning.{point_of}
use Rattle.hook_law.specs.Changes.{LeavesMasks}
use Rattle.hook_law.specs.Keeping.{IsAtRest}
use Rattle.hook_law.specs.Numbered.{Marks}
use Rattle.hook_meaning.specs.Stated.{action_stated, action_at, hook_meaning}
use Rattle.hook_meaning.specs.Blocks.{hook_codec}
use Rattle.edit_effects.proofs.OfEffects.Shared.{deleted_action}
use Rattle.hook_meaning.specs.OfEdits.Premises.{now, next, IsAccepted, IsUnseen, NoneComes}
use Rattle.hook_meaning.proofs.OfEdits.Accepted.{lawful, sound, at_next}
use Rattle.hook_meaning.proofs.OfEdits.Stepping.{unless_refused}
use Rattle.hook_meaning.proofs.OfEdits.Stating.{rows_stay}
use Rattle.hook_meaning.proofs.OfEdits.Acting.{Goes, goes, gone, same_action, as_before, not_come}
use Rattle.hook_meaning.proofs.OfEdits.Unfiltered.{same_rows}

-- what the law asks of such an edit's states
pub record IsUnseenFrom (s t : State) : Type 0 where
  pub leaves : LeavesMasks hook_meaning s t
  pub none_comes : NoneComes s t

-- ---- the qdisc
same_actions : (s t : State) → t.rows ≡ s.rows → t.actions ≡ s.actions → IsUnseenFrom s t
same_actions s t rows actions =
    let stay = rows_stay s t rows in
    let same : (serial : ℕ) → action_at t serial ≡ action_at s serial = λ serial. ap (λ xs. option_map action_stated (first_where (has_serial serial) xs)) actions in record {
      leaves = record { heads = stay.heads; words = stay.words; filters = stay.filters; params = λ serial terms is. inl (same serial ∙ is) };
      none_comes = λ serial live none. live (same serial ∙ none);
    }

abbrev KeepsActionsOf : State → Stepped → Type 0
KeepsActionsOf s stepped = (state_after s stepped).actions ≡ s.actions

-- ---- an action
either_kept : (s t : State) (serial other : ℕ) (b : Bool) → Goes s t → (other == serial) ≡ b → params_at t serial ≡ None → (other ≢ serial → params_at t other ≡ params_at s other)
    → (action_at t other ≡ action_at s other) ⊎ (action_at t other ≡ None)
either_kept s t serial other true g at none others = inr (gone t other (ap (params_at t) (eqb-true other serial at) ∙ none))
either_kept s t serial other false g at none others = inl (same_action s t other g (others (eqb-false other serial at)))

one_gone : (s t : State) (serial : ℕ) → Goes s t → t.rows ≡ s.rows → params_at t serial ≡ None → ((other : ℕ) → other ≢ serial → params_at t other ≡ params_at s other) → IsUnseenFrom s t
one_gone s t serial g rows none others =
    let stay = rows_stay s t rows in
    let each : (other : ℕ) → (action_at t other ≡ action_at s other) ⊎ (action_at t other ≡ None) = λ other. either_kept s t serial other (other == serial) g refl none (others other) in record {
      leaves = record { heads = stay.heads; words = stay.words; filters = stay.filters; params = λ other terms is. as_before s t other terms is (each other) };
      none_comes = λ other live was. not_come s t other was (each other) live;
    }

unseen_from : (s t : State) (y : Edit) (done : Done) → Sound s → IsUnseen y → step s y ≡ Ok (t, done) → IsUnseenFrom s t
unseen_from s t edits.HookAdd done s_sound is e =
    same_actions s t (same_rows s t edits.HookAdd done (λ no. no) e)
    (sym (ap (λ stepped. (state_after s stepped).actions) e) ∙ unless_refused (KeepsActionsOf s) (λ refusal. refl) (hook_exists s) (Ok (record s { hooked = true }, dones.Hooked)) refl)
unseen_from s t edits.HookDel done s_sound is e =
    same_actions s t (same_rows s t edits.HookDel done (λ no. no) e)
    (sym (ap (λ stepped. (state_after s stepped).actions) e) ∙ unless_refused (KeepsActionsOf s) (λ refusal. refl) (or_else (no_hook s) (hook_in_use s)) (Ok (record s { hooked = false }, dones.Unhooked)) refl)
unseen_from s t (edits.ActionDel kind index) done s_sound is e =
    let left = deleted_action s t kind index done s_sound e in
    one_gone s t left.0.serial (goes s t (edits.ActionDel kind index) done s_sound e) (same_rows s t (edits.ActionDel kind index) done (λ no. no) e) left.2 left.3
unseen_from s t (edits.FilterAdd line) done s_sound is e = absurd is
unseen_from s t (edits.FilterReplace line) done s_sound is e = absurd is
unseen_from s t (edits.FilterDel hook protocol chain pref handle) done s_sound is e = absurd is
unseen_from s t (edits.ActionAdd line) done s_sound is e = absurd is
unseen_from s t (edits.ActionChange line) done s_sound is e = absurd is

-- ---- after commits
module _ (h : List (Commit Edit)) (b : ℕ) (y : Edit) (t : State) (done : Done) (a : IsAccepted h b y t done) where
  unseen : IsUnseen y → IsUnseenFrom (now h) (next h y)
  unseen is = at_next h b y t done a (IsUnseenFrom (now h)) (unseen_from (now h) t y done (sound h b y t done a) is a.steps)

  pub leaves_masks : IsUnseen y → LeavesMasks hook_meaning (now h) (next h y)
  leaves_masks is = let u = unseen is in u.leaves

  pub makes_none : IsUnseen y → NoneComes (now h) (next h y)
  makes_none is = let u = unseen is in u.none_comes

  pub qdisc_unseen : (y ≡ edits.HookAdd) ⊎ (y ≡ edits.HookDel) → IsUnseen y
  qdisc_unseen (inl is) = subst IsUnseen (sym is) tt
  qdisc_unseen (inr is) = subst IsUnseen (sym is) tt

-- the whole record of the commit
pub marks : (h : List (Commit Edit)) (b : ℕ) (c : Commit Edit) (y : Edit) (t : State) (done : Done) → IsAccepted h b y t done → IsUnseen y
    → IsAtRest hook_meaning hook_codec h → c.root ≡ marker_root → c.edit ≡ Some (point_of h + 1, y) → c.named.stamp ≡ point_of h + 1
    → Marks hook_meaning hook_codec h c y
marks h b c y t done a is rest root number stamp = record {
  rest = rest;
  root = root;
  carries = record { number = number; stamp = stamp; lawful = lawful h b y t done a };
  leaves = leaves_masks h b y t done a is;
  none_made = makes_none h b y t done a is;
}
