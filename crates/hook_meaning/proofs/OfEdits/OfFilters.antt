-- What an accepted edit of filters does to actions.
use Rattle.std.proofs.Common.{◌≡◌, inl, inr, ℕ, List, [], Option, None, Ok, refl, subst}
use Rattle.tc_base.specs.declared.hook.Hook.{Hook}
use Rattle.tc_base.specs.declared.hook.Proto.{Proto}
use Rattle.tc_base.specs.declared.hook.Proto.TheVariants as protocols
use Rattle.store_history.specs.declared.history.Commit.{Commit}
use Rattle.filter_state.specs.declared.edit.Edit.{Edit}
use Rattle.filter_state.specs.declared.edit.Edit.TheVariants as edits
use Rattle.filter_state.specs.declared.edit.FilterLine.{FilterLine}
use Rattle.filter_state.specs.declared.refusal.Done.{Done}
use Rattle.filter_state.specs.States.{State}
use Rattle.filter_state.specs.Steps.{step}
use Rattle.filter_state.specs.Sound.{Sound}
use Rattle.hook_law.specs.Changes.{KeepsParams}
use Rattle.hook_meaning.specs.Stated.{hook_meaning}
use Rattle.edit_effects.specs.OfEffects.Effects.{KeepsActions}
use Rattle.edit_effects.proofs.OfEffects.FilterActions.{filters_keep, delete_makes_none}
use Rattle.hook_meaning.specs.OfEdits.Premises.{now, next, IsAccepted, IsOfFilters, NoneComes, NewOnesCome}
use Rattle.hook_meaning.proofs.OfEdits.Accepted.{leads, sound, next_sound, at_next}
use Rattle.hook_meaning.proofs.OfEdits.Acting.{goes, keeps_params, new_ones, none_comes}

-- `filters_keep` asks for a line and for a table, whichever of the three edits it is
any_line : Hook → FilterLine
any_line hook = record { hook = hook; protocol = protocols.All; chain = 0; pref = None; handle = None; mask = record { words = [] }; key = record { words = [] }; actions = [] }

kept_by : (s t : State) (y : Edit) (done : Done) → Sound s → IsOfFilters y → step s y ≡ Ok (t, done) → KeepsActions s t
kept_by s t (edits.FilterAdd line) done s_sound is e = filters_keep s t (edits.FilterAdd line) done line line.hook None 0 0 None s_sound e (inl refl)
kept_by s t (edits.FilterReplace line) done s_sound is e = filters_keep s t (edits.FilterReplace line) done line line.hook None 0 0 None s_sound e (inr (inl refl))
kept_by s t (edits.FilterDel hook protocol chain pref handle) done s_sound is e =
    filters_keep s t (edits.FilterDel hook protocol chain pref handle) done (any_line hook) hook protocol chain pref handle s_sound e (inr (inr refl))
kept_by s t edits.HookAdd done s_sound is e = absurd is
kept_by s t edits.HookDel done s_sound is e = absurd is
kept_by s t (edits.ActionAdd line) done s_sound is e = absurd is
kept_by s t (edits.ActionChange line) done s_sound is e = absurd is
kept_by s t (edits.ActionDel kind index) done s_sound is e = absurd is

module _ (h : List (Commit Edit)) (b : ℕ) (y : Edit) (t : State) (done : Done) (a : IsAccepted h b y t done) (is : IsOfFilters y) where
  kept : KeepsActions (now h) t
  kept = kept_by (now h) t y done (sound h b y t done a) is a.steps

  -- as a step leads there
  pub params_to : KeepsParams hook_meaning (now h) t
  params_to = keeps_params (now h) t (goes (now h) t y done (sound h b y t done a) a.steps) kept

  pub params_kept : KeepsParams hook_meaning (now h) (next h y)
  params_kept = at_next h b y t done a (KeepsParams hook_meaning (now h)) params_to

  pub new_ones_come : NewOnesCome (now h) (next h y)
  new_ones_come = at_next h b y t done a (NewOnesCome (now h)) (new_ones (now h) t (subst Sound (leads h b y t done a) (next_sound h b y t done a)) kept)

pub deletion_makes_none : (h : List (Commit Edit)) (b : ℕ) (hook : Hook) (protocol : Option Proto) (chain pref : ℕ) (handle : Option ℕ) (t : State) (done : Done)
    → IsAccepted h b (edits.FilterDel hook protocol chain pref handle) t done → NoneComes (now h) (next h (edits.FilterDel hook protocol chain pref handle))
deletion_makes_none h b hook protocol chain pref handle t done a =
    let y : Edit = edits.FilterDel hook protocol chain pref handle in
    at_next h b y t done a (NoneComes (now h))
    (none_comes (now h) t (delete_makes_none (now h) t done hook protocol chain pref handle (sound h b y t done a) a.steps))
