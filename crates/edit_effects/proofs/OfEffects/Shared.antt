-- An action apart from filters is made, changed or deleted.
use Rattle.std.proofs.Common.{◌≡◌, ◌≢◌, ℕ, ◌+◌, Bool, true, false, not, cond, List, [], ◌∷◌, Option, Some, None, Ok, refl, sym, ◌∙◌, ap, subst, arith, eqb-true}
use Rattle.std.specs.Prelude.{filter}
use Rattle.std.specs.List.{list_any}
use Rattle.std.specs.Option.{unwrap_or}
use Rattle.std.proofs.lemmas.Bool.{ne_eqb, not-true}
use Rattle.std.proofs.lemmas.Option.{none-some, same_Some}
use Rattle.act_kinds.specs.declared.params.Kind.{Kind}
use Rattle.act_kinds.specs.declared.params.Params.{Params}
use Rattle.filter_state.specs.declared.action_line.ActionLine.{ActionLine}
use Rattle.filter_state.specs.declared.refusal.Done.{Done}
use Rattle.filter_state.specs.declared.refusal.Done.TheVariants as dones
use Rattle.filter_state.specs.declared.refusal.Refusal.TheVariants as refusals
use Rattle.filter_state.specs.States.{Action, State}
use Rattle.filter_state.specs.Actions.{is_named, is_live, has_serial, serial_of, index_or_free, Made, made_more}
use Rattle.filter_state.specs.Tables.{first_where}
use Rattle.filter_state.specs.Refusals.{or_else, action_exists, no_such_action, action_bound, actions_full, counters_full}
use Rattle.filter_state.specs.Steps.{made_of, with_actions, with_params, make_given, action_add, change_given, action_change, action_del}
use Rattle.filter_state.specs.Sound.{Sound, IsAction, Each}
use Rattle.state_laws.proofs.Answers.{not_refused, not_not, neither, err_ok}
use Rattle.filter_state.proofs.Pairs.{each_weaker, any_first}
use Rattle.state_laws.proofs.Names.{named_by_serial, serial_there}
use Rattle.walk_rules.proofs.Listed.{kept_have}
use Rattle.edit_effects.specs.OfEffects.Parts.{params_at}
use Rattle.edit_effects.specs.OfEffects.Effects.{ChangesAction}
use Rattle.edit_effects.proofs.OfEffects.Accepted.{not_unless, same_step}
use Rattle.edit_effects.proofs.OfEffects.Kept.{spared}
use Rattle.edit_effects.proofs.OfEffects.Params.{params_same, params_none, params_before, params_last, params_given, params_spared}

-- ---- one made
-- a serial that wasn't given yet is of no action
not_given : (s : State) → Sound s → Each (λ x. has_serial (s.actions_made + 1) x ≡ false) s.actions
not_given s sound =
    each_weaker (IsAction s) (λ x. has_serial (s.actions_made + 1) x ≡ false)
    (λ x is. let low = is.serial in ne_eqb x.serial (s.actions_made + 1) (λ e. absurd (omega (arith, low.1, e)))) s.actions sound.actions

made_changes : (s : State) (params : Params) (index : ℕ) → Sound s → ChangesAction (s.actions_made + 1) params s (with_actions s (made_more (made_of s) params index 0))
made_changes s params index sound =
    let new : Action = record { serial = s.actions_made + 1; index = index; params = params; references = 1; binds = 0 } in
    record { here = params_last s.actions new (not_given s sound); others = λ other differs. params_before other s.actions new differs }

-- what an action that is made says
abbrev Makes : ActionLine → ℕ → State → State → Type 0
Makes line serial s t = (serial ≡ s.actions_made + 1) × ((params : Params) × (line.params ≡ Some params) × ChangesAction serial params s t)

same_made : (index index' serial serial' : ℕ) → dones.ActionMade index serial ≡ dones.ActionMade index' serial' → serial ≡ serial'
same_made index index' serial serial' e = cc

given_made : (s t : State) (line : ActionLine) (o : Option Params) (index serial : ℕ) → Sound s → line.params ≡ o → make_given s line o ≡ Ok (t, dones.ActionMade index serial) → Makes line serial s t
given_made s t line (Some params) index serial sound is e =
    let at : ℕ = index_or_free line.index line.kind s.actions in
    let next : Made = made_more (made_of s) params at 0 in
    let step = not_unless (or_else (actions_full next) (counters_full next)) (Ok (with_actions s next, dones.ActionMade at (s.actions_made + 1))) (t, dones.ActionMade index serial) e in
    let both = same_step (with_actions s next) t (dones.ActionMade at (s.actions_made + 1)) (dones.ActionMade index serial) step.1 in
    let same = same_made at index (s.actions_made + 1) serial both.1 in
    (sym same, (params, is, subst (λ u. ChangesAction serial params s u) both.0 (subst (λ n. ChangesAction n params s (with_actions s next)) same (made_changes s params at sound))))
given_made s t line None index serial sound is e = absurd (err_ok (refusals.NoSuchAction line.kind (unwrap_or line.index 0)) (t, dones.ActionMade index serial) e)

pub added_action : (s t : State) (line : ActionLine) (index serial : ℕ) → Sound s → action_add s line ≡ Ok (t, dones.ActionMade index serial) → Makes line serial s t
added_action s t line index serial sound e =
    given_made s t line line.params index serial sound refl (not_unless (action_exists s line.kind line.index) (make_given s line line.params) (t, dones.ActionMade index serial) e).1

not_changed : (index serial : ℕ) → dones.ActionChanged ≡ dones.ActionMade index serial → ⊥
not_changed index serial e = cc

changed_given : (s t : State) (line : ActionLine) (index : ℕ) (given : Option Params) (done : Done) → change_given s line index given ≡ Ok (t, done) →
    (params : Params) × (given ≡ Some params) × (with_params s line.kind index params ≡ t) × (dones.ActionChanged ≡ done)
changed_given s t line index (Some params) done e = let both = same_step (with_params s line.kind index params) t dones.ActionChanged done e in (params, refl, both.0, both.1)
changed_given s t line index None done e = absurd (err_ok (refusals.NoSuchAction line.kind index) (t, done) e)

made_by_change : (s t : State) (line : ActionLine) (b : Bool) (index serial : ℕ) → Sound s →
    cond b (change_given s line (unwrap_or line.index 0) line.params) (make_given s line line.params) ≡ Ok (t, dones.ActionMade index serial) → Makes line serial s t
made_by_change s t line true index serial sound e =
    absurd (not_changed index serial (changed_given s t line (unwrap_or line.index 0) line.params (dones.ActionMade index serial) e).3)
made_by_change s t line false index serial sound e = given_made s t line line.params index serial sound refl e

pub changed_in : (s t : State) (line : ActionLine) (index serial : ℕ) → Sound s → action_change s line ≡ Ok (t, dones.ActionMade index serial) → Makes line serial s t
changed_in s t line index serial = made_by_change s t line (is_live line.kind (unwrap_or line.index 0) s.actions) index serial

-- ---- the one with a name, and with a serial
serial_step : (b : Bool) (x action : Action) (rest : Option Action) (serial : Option ℕ) → (rest ≡ Some action → serial ≡ Some action.serial) → cond b (Some x) rest ≡ Some action →
    cond b (Some x.serial) serial ≡ Some action.serial
serial_step true x action rest serial more e = ap (λ (a : Action). Some a.serial) (same_Some x action e)
serial_step false x action rest serial more e = more e

serial_first : (kind : Kind) (index : ℕ) (xs : List Action) (action : Action) → first_where (is_named kind index) xs ≡ Some action → serial_of kind index xs ≡ Some action.serial
serial_first kind index [] action e = absurd (none-some action e)
serial_first kind index (x ∷ xs) action e =
    serial_step (is_named kind index x) x action (first_where (is_named kind index) xs) (serial_of kind index xs) (serial_first kind index xs action) e

-- its name and its serial tell it alike
abbrev NamedBy : Kind → ℕ → ℕ → Action → Type 0
NamedBy kind index serial x = is_named kind index x ≡ has_serial serial x

told_alike : (s : State) (kind : Kind) (index : ℕ) (action : Action) → Sound s → first_where (is_named kind index) s.actions ≡ Some action →
    Each (NamedBy kind index action.serial) s.actions × (list_any (has_serial action.serial) s.actions ≡ true)
told_alike s kind index action sound first =
    let serial = serial_first kind index s.actions action first in
    (named_by_serial kind index action.serial s.actions sound.apart serial, serial_there kind index action.serial s.actions serial)

not_named : (kind : Kind) (index serial other : ℕ) → other ≢ serial → (x : Action) → NamedBy kind index serial x → has_serial other x ≡ true → is_named kind index x ≡ false
not_named kind index serial other differs x alike at = alike ∙ ne_eqb x.serial serial (λ e. differs (sym (eqb-true x.serial other at) ∙ e))

-- ---- one changed
changes_named : (s : State) (kind : Kind) (index : ℕ) (params : Params) (action : Action) → Sound s → first_where (is_named kind index) s.actions ≡ Some action →
    ChangesAction action.serial params s (with_params s kind index params)
changes_named s kind index params action sound first = let alike = told_alike s kind index action sound first in record {
  here = params_given (is_named kind index) params action.serial s.actions alike.0 alike.1;
  others = λ other differs. params_spared (is_named kind index) params other s.actions
      (each_weaker (NamedBy kind index action.serial) (λ x. has_serial other x ≡ true → is_named kind index x ≡ false) (not_named kind index action.serial other differs) s.actions alike.0);
}

abbrev Changes : ActionLine → ℕ → State → State → Type 0
Changes line index s t = (action : Action) × (params : Params) × (first_where (is_named line.kind index) s.actions ≡ Some action) × (line.params ≡ Some params) × ChangesAction action.serial params s t

not_made : (index serial : ℕ) → dones.ActionMade index serial ≡ dones.ActionChanged → ⊥
not_made index serial e = cc

given_not_changed : (s t : State) (line : ActionLine) (given : Option Params) → make_given s line given ≡ Ok (t, dones.ActionChanged) → ⊥
given_not_changed s t line (Some params) e =
    let at : ℕ = index_or_free line.index line.kind s.actions in
    let next : Made = made_more (made_of s) params at 0 in
    let done : Done = dones.ActionMade at (s.actions_made + 1) in
    let step = not_unless (or_else (actions_full next) (counters_full next)) (Ok (with_actions s next, done)) (t, dones.ActionChanged) e in
    not_made at (s.actions_made + 1) (same_step (with_actions s next) t done dones.ActionChanged step.1).1
given_not_changed s t line None e = err_ok (refusals.NoSuchAction line.kind (unwrap_or line.index 0)) (t, dones.ActionChanged) e

changed_case : (s t : State) (line : ActionLine) (index : ℕ) (b : Bool) → is_live line.kind index s.actions ≡ b → Sound s →
    cond b (change_given s line index line.params) (make_given s line line.params) ≡ Ok (t, dones.ActionChanged) → Changes line index s t
changed_case s t line index true live sound e =
    let first = any_first (is_named line.kind index) s.actions live in
    let given = changed_given s t line index line.params dones.ActionChanged e in
    (first.0, given.0, first.1, given.1, subst (λ u. ChangesAction first.0.serial given.0 s u) given.2 (changes_named s line.kind index given.0 first.0 sound first.1))
changed_case s t line index false live sound e = absurd (given_not_changed s t line line.params e)

pub changed_action : (s t : State) (line : ActionLine) → Sound s → action_change s line ≡ Ok (t, dones.ActionChanged) → Changes line (unwrap_or line.index 0) s t
changed_action s t line = changed_case s t line (unwrap_or line.index 0) (is_live line.kind (unwrap_or line.index 0) s.actions) refl

-- ---- one deleted
abbrev Loses : Kind → ℕ → State → State → Type 0
Loses kind index s t = (action : Action) × (first_where (is_named kind index) s.actions ≡ Some action) × (params_at t action.serial ≡ None)
    × ((other : ℕ) → other ≢ action.serial → params_at t other ≡ params_at s other)

loses_named : (s : State) (kind : Kind) (index : ℕ) (action : Action) → Sound s → first_where (is_named kind index) s.actions ≡ Some action →
    Loses kind index s (record s { actions = filter (λ x. not (is_named kind index x)) s.actions })
loses_named s kind index action sound first =
    let alike = (told_alike s kind index action sound first).0 in
    let stay : Action → Bool = λ x. not (is_named kind index x) in (
      action,
      first,
      params_none action.serial (filter stay s.actions)
          (kept_have (NamedBy kind index action.serial) (λ x. has_serial action.serial x ≡ false) stay (λ x stays named. sym named ∙ not-true (is_named kind index x) stays) s.actions alike),
      λ other differs. params_same other (filter stay s.actions) s.actions (spared (has_serial other) (is_named kind index) s.actions
          (each_weaker (NamedBy kind index action.serial) (λ x. is_named kind index x ≡ true → has_serial other x ≡ false)
          (λ x named is. ne_eqb x.serial other (λ e. differs (sym e ∙ eqb-true x.serial action.serial (sym named ∙ is)))) s.actions alike)),
    )

pub deleted_action : (s t : State) (kind : Kind) (index : ℕ) (done : Done) → Sound s → action_del s kind index ≡ Ok (t, done) → Loses kind index s t
deleted_action s t kind index done sound e =
    let next : State = record s { actions = filter (λ x. not (is_named kind index x)) s.actions } in
    let step = not_unless (or_else (no_such_action s kind index) (action_bound s kind index)) (Ok (next, dones.ActionGone)) (t, done) e in
    let live = not_not (is_live kind index s.actions) (not_refused (not (is_live kind index s.actions)) (refusals.NoSuchAction kind index) (neither (no_such_action s kind index) (action_bound s kind index) step.0).0) in
    let first = any_first (is_named kind index) s.actions live in
    subst (λ u. Loses kind index s u) (same_step next t dones.ActionGone done step.1).0 (loses_named s kind index first.0 sound first.1)
