-- What an accepted edit does to actions, read with their indexes.
use Rattle.std.proofs.Common.{◌≡◌, ◌⊎◌, inl, inr, ℕ, ◌<◌, ◌≤◌, Option, Some, None, Ok, refl, sym, ◌∙◌, ap, subst, arith, eqb-true}
use Rattle.std.specs.Option.{option_map}
use Rattle.std.proofs.lemmas.Option.{none-some, same_Some}
use Rattle.act_kinds.specs.declared.params.Params.{Params}
use Rattle.filter_state.specs.declared.edit.Edit.{Edit}
use Rattle.filter_state.specs.declared.refusal.Done.{Done}
use Rattle.filter_state.specs.States.{Action, State}
use Rattle.filter_state.specs.Actions.{has_serial}
use Rattle.filter_state.specs.Tables.{first_where}
use Rattle.filter_state.specs.Steps.{step}
use Rattle.filter_state.specs.Journals.{state_after}
use Rattle.filter_state.specs.Sound.{Sound, IsAction}
use Rattle.filter_state.proofs.Pairs.{found}
use Rattle.edit_effects.specs.OfEffects.Parts.{params_at}
use Rattle.hook_law.specs.Meaning.{IsLive}
use Rattle.hook_law.specs.Changes.{KeepsParams}
use Rattle.hook_meaning.specs.Stated.{ActionTerms, action_stated, action_at, hook_meaning}
use Rattle.edit_effects.specs.OfEffects.Effects.{KeepsActions, MakesNoAction}
use Rattle.hook_meaning.specs.OfEdits.Premises.{NoneComes, NewOnesCome}
use Rattle.hook_meaning.proofs.OfEdits.Indexes.{HasOldIndex, HaveOldIndexes, index_in, indexes_stay}

abbrev pub at : State → ℕ → Option Action
at s serial = first_where (has_serial serial) s.actions

abbrev pub params_of : Option Action → Option Params
params_of o = option_map (λ (x : Action). x.params) o

abbrev pub terms_of : Option Action → Option ActionTerms
terms_of o = option_map action_stated o

-- ---- an action is there or not, whatever is read of it
no_terms : (o : Option Action) → params_of o ≡ None → terms_of o ≡ None
no_terms None e = refl
no_terms (Some x) e = absurd (none-some x.params (sym e))

no_params : (o : Option Action) → terms_of o ≡ None → params_of o ≡ None
no_params None e = refl
no_params (Some x) e = absurd (none-some (action_stated x) (sym e))

pub gone : (t : State) (serial : ℕ) → params_at t serial ≡ None → action_at t serial ≡ None
gone t serial = no_terms (at t serial)

pub not_there : (s : State) (serial : ℕ) → action_at s serial ≡ None → params_at s serial ≡ None
not_there s serial = no_params (at s serial)

-- ---- from one sound state to another by a step
pub record Goes (s t : State) : Type 0 where
  pub sound : Sound s
  pub indexes : HaveOldIndexes s.actions_made s.actions t.actions

pub goes : (s t : State) (y : Edit) (done : Done) → Sound s → step s y ≡ Ok (t, done) → Goes s t
goes s t y done sound e =
    record { sound = sound; indexes = subst (λ (u : State). HaveOldIndexes s.actions_made s.actions u.actions) (ap (state_after s) e) (indexes_stay s sound y) }

-- a live action has a serial that was given
pub serial_given : (s : State) (serial : ℕ) (x : Action) → Sound s → at s serial ≡ Some x → (x.serial ≡ serial) × (serial ≤ s.actions_made)
serial_given s serial x sound is =
    let has = found (IsAction s) (has_serial serial) s.actions x sound.actions is in
    let same = eqb-true x.serial serial has.1 in
    let range = has.0.serial in (same, subst (λ n. n ≤ s.actions_made) same range.1)

old_index : (s : State) (x y : Action) (serial : ℕ) → y.serial ≡ serial → serial ≤ s.actions_made → at s serial ≡ Some x → HasOldIndex s.actions_made s.actions y → y.index ≡ x.index
old_index s x y serial same low is (inl new) = absurd (omega (arith, same, low, new))
old_index s x y serial same low is (inr old) =
    same_Some y.index x.index (sym old ∙ ap (index_in s.actions) same ∙ ap (option_map (λ (a : Action). a.index)) is)

pub index_kept : (s t : State) (serial : ℕ) (x y : Action) → Goes s t → at s serial ≡ Some x → at t serial ≡ Some y → y.index ≡ x.index
index_kept s t serial x y g was is =
    let given = serial_given s serial x g.sound was in
    let has = found (HasOldIndex s.actions_made s.actions) (has_serial serial) t.actions y g.indexes is in
    old_index s x y serial (eqb-true y.serial serial has.1) given.1 was has.0

-- ---- the same parameters are the same action
abbrev pub with_terms : ℕ → Params → Option ActionTerms
with_terms index params = Some (record { index = index; params = params })

both : (s t : State) (serial : ℕ) (o p : Option Action) → Goes s t → at s serial ≡ o → at t serial ≡ p → params_of p ≡ params_of o → terms_of p ≡ terms_of o
both s t serial None None g was is same = refl
both s t serial None (Some y) g was is same = absurd (none-some y.params (sym same))
both s t serial (Some x) None g was is same = absurd (none-some x.params same)
both s t serial (Some x) (Some y) g was is same =
    ap (λ i. with_terms i y.params) (index_kept s t serial x y g was is) ∙ ap (λ p. with_terms x.index p) (same_Some y.params x.params same)

pub same_action : (s t : State) (serial : ℕ) → Goes s t → params_at t serial ≡ params_at s serial → action_at t serial ≡ action_at s serial
same_action s t serial g same = both s t serial (at s serial) (at t serial) g refl refl same

-- ---- what stays, and what comes
-- where an action is as it was or gone, it keeps its terms or goes, and doesn't come
pub as_before : (s t : State) (serial : ℕ) (terms : ActionTerms) → action_at s serial ≡ Some terms → (action_at t serial ≡ action_at s serial) ⊎ (action_at t serial ≡ None)
    → (action_at t serial ≡ Some terms) ⊎ (action_at t serial ≡ None)
as_before s t serial terms is (inl same) = inl (same ∙ is)
as_before s t serial terms is (inr none) = inr none

pub not_come : (s t : State) (serial : ℕ) → action_at s serial ≡ None → (action_at t serial ≡ action_at s serial) ⊎ (action_at t serial ≡ None) → IsLive hook_meaning t serial → ⊥
not_come s t serial was (inl same) live = live (same ∙ was)
not_come s t serial was (inr none) live = live none

stays_case : (s t : State) (serial : ℕ) (o : Option Action) (terms : ActionTerms) → Goes s t → KeepsActions s t → at s serial ≡ o → terms_of o ≡ Some terms
    → (action_at t serial ≡ Some terms) ⊎ (action_at t serial ≡ None)
stays_case s t serial None terms g k was is = absurd (none-some terms is)
stays_case s t serial (Some x) terms g k was is = left_or_gone (k.stays serial x.params (ap params_of was))
  where
    left_or_gone : (params_at t serial ≡ Some x.params) ⊎ (params_at t serial ≡ None) → (action_at t serial ≡ Some terms) ⊎ (action_at t serial ≡ None)
    left_or_gone (inl same) = inl (same_action s t serial g (same ∙ sym (ap params_of was)) ∙ ap terms_of was ∙ is)
    left_or_gone (inr none) = inr (gone t serial none)

pub keeps_params : (s t : State) → Goes s t → KeepsActions s t → KeepsParams hook_meaning s t
keeps_params s t g k serial terms is = stays_case s t serial (at s serial) terms g k refl is

abbrev IsNewIn : State → State → ℕ → Type 0
IsNewIn s t serial = (s.actions_made < serial) × (serial ≤ t.actions_made)

new_serial : (s t : State) (serial : ℕ) (o : Option Action) → Sound t → KeepsActions s t → params_at s serial ≡ None → at t serial ≡ o → IsLive hook_meaning t serial → IsNewIn s t serial
new_serial s t serial None sound k none is live = absurd (live (ap terms_of is))
new_serial s t serial (Some x) sound k none is live = (k.comes serial none (λ gone_too. live (gone t serial gone_too)), (serial_given t serial x sound is).1)

new_case : (s t : State) (serial : ℕ) (o : Option ActionTerms) → Sound t → KeepsActions s t → action_at s serial ≡ o → IsLive hook_meaning t serial
    → IsLive hook_meaning s serial ⊎ IsNewIn s t serial
new_case s t serial None sound k was live = inr (new_serial s t serial (at t serial) sound k (not_there s serial was) refl live)
new_case s t serial (Some terms) sound k was live = inl (λ none. none-some terms (sym none ∙ was))

pub new_ones : (s t : State) → Sound t → KeepsActions s t → NewOnesCome s t
new_ones s t sound k serial live = new_case s t serial (action_at s serial) sound k refl live

pub none_comes : (s t : State) → MakesNoAction s t → NoneComes s t
none_comes s t makes serial live none = live (gone t serial (makes serial (not_there s serial none)))
