-- Actions apart from filters are made, changed and taken out.
use Rattle.std.proofs.Common.{◌≡◌, ℕ, ◌+◌, ◌≤◌, inr, Bool, true, false, not, if◌then◌else◌, List, length, Option, Some, None, Ok, IsSomeAnd, IsSome, refl, subst, arith, ltb-false}
use Rattle.std.specs.Prelude.{filter, nat_lt}
use Rattle.std.specs.Option.{unwrap_or}
use Rattle.act_kinds.specs.declared.params.Kind.{Kind}
use Rattle.act_kinds.specs.declared.params.Params.{Params}
use Rattle.filter_state.specs.declared.action_line.ActionLine.{ActionLine}
use Rattle.filter_state.specs.declared.refusal.Refusal.TheVariants as refusals
use Rattle.filter_state.specs.declared.refusal.Done.TheVariants as dones
use Rattle.filter_state.specs.States.{State, Action}
use Rattle.filter_state.specs.Lines.{IsInFull, IsSharedAction, GoesToNoChain, control_of}
use Rattle.filter_state.specs.Actions.{is_named, is_live, change_where, index_or_free, Made, made_more}
use Rattle.filter_state.specs.Refusals.{or_else, actions_full, counters_full, action_exists, no_such_action, action_bound}
use Rattle.filter_state.specs.Steps.{made_of, with_actions, action_made, make_given, action_add, change_given, action_change, action_del}
use Rattle.filter_state.specs.Sound.{Sound, Each, places}
use Rattle.state_laws.proofs.Answers.{not_refused, neither, SoundAfter, unless_sound}
use Rattle.filter_state.proofs.Pairs.{none_any}
use Rattle.filter_state.proofs.Free.{length_filter_le}
use Rattle.state_laws.proofs.Free.{free_index_unused, length_mapped}
use Rattle.state_laws.proofs.Held.{AreHeld, held_more, names_none}
use Rattle.state_laws.proofs.Changes.{put_params, held_params}
use Rattle.state_laws.proofs.Unbinding.{held_without}
use Rattle.state_laws.proofs.Resolving.{chosen_index}
use Rattle.state_laws.proofs.Whole.{rows_of, held_of, sound_from}

-- ---- other actions, with the same places
pub actions_sound : (s : State) (actions : List Action) (made : ℕ) → Sound s → AreHeld (places s.rows) made actions → length actions ≤ 1024 → made ≤ 16384
    → Sound (record s { actions = actions; actions_made = made })
actions_sound s actions made sound held live most = sound_from (record s { actions = actions; actions_made = made }) (rows_of s sound) held sound.hooked live most

-- ---- one made
abbrev pub IsFree : State → Kind → ℕ → Type 0
IsFree s kind index = Each (λ x. is_named kind index x ≡ false) s.actions

pub made_sound : (s : State) (action : ActionLine) (params : Params) → Sound s → IsInFull action params → IsFree s action.kind (index_or_free action.index action.kind s.actions)
    → SoundAfter s (action_made s params (index_or_free action.index action.kind s.actions))
made_sound s action params sound full free =
    let index : ℕ = index_or_free action.index action.kind s.actions in
    let next : Made = made_more (made_of s) params index 0 in
    let few = sound.live in
    unless_sound s (or_else (actions_full next) (counters_full next)) (Ok (with_actions s next, dones.ActionMade index (s.actions_made + 1))) sound
    (λ e.
    let room = neither (actions_full next) (counters_full next) e in
    actions_sound s next.actions next.made sound
    (held_more (places s.rows) (places s.rows) s.actions_made index 0 params s.actions (held_of s sound) (names_none (places s.rows) (s.actions_made + 1))
    (chosen_index action.index action.kind s.actions full.2 (omega arith)) full.1 (inr refl) (subst (λ kind. IsFree s kind index) full.0 free))
    (ltb-false 1024 (length next.actions) (not_refused (nat_lt 1024 (length next.actions)) refusals.ActionsFull room.0))
    (ltb-false 16384 next.made (not_refused (nat_lt 16384 next.made) refusals.CountersFull room.1)))

abbrev pub IsShared : ActionLine → Option Params → Type 0
IsShared action given = IsSomeAnd given (λ params. IsInFull action params × GoesToNoChain (control_of params))

given_sound : (s : State) (action : ActionLine) (given : Option Params) → Sound s → IsShared action given → IsFree s action.kind (index_or_free action.index action.kind s.actions)
    → SoundAfter s (make_given s action given)
given_sound s action (Some params) sound shared free = made_sound s action params sound shared.0 free
given_sound s action None sound shared free = sound

free_for : (s : State) (kind : Kind) (given : Option ℕ) → action_exists s kind given ≡ None → IsFree s kind (index_or_free given kind s.actions)
free_for s kind (Some index) e = none_any (is_named kind index) s.actions (not_refused (is_live kind index s.actions) refusals.ActionExists e)
free_for s kind None e = none_any (is_named kind (index_or_free None kind s.actions)) s.actions (free_index_unused kind s.actions)

pub action_add_sound : (s : State) (action : ActionLine) → Sound s → IsSharedAction action → SoundAfter s (action_add s action)
action_add_sound s action sound shared =
    unless_sound s (action_exists s action.kind action.index) (make_given s action action.params) sound
    (λ e. given_sound s action action.params sound shared (free_for s action.kind action.index e))

-- ---- one changed, or made where it isn't there
changed_sound : (s : State) (action : ActionLine) (index : ℕ) (given : Option Params) → Sound s → IsShared action given → SoundAfter s (change_given s action index given)
changed_sound s action index (Some params) sound shared =
    let long = length_mapped (λ (x : Action). if is_named action.kind index x then put_params params x else x) s.actions in
    let few = sound.live in
    actions_sound s (change_where (is_named action.kind index) (put_params params) s.actions) s.actions_made sound
    (held_params (places s.rows) s.actions_made action.kind index params s.actions shared.0.0 shared.0.1 (held_of s sound)) (omega arith) sound.made
changed_sound s action index None sound shared = sound

free_at : (s : State) (kind : Kind) (given : Option ℕ) → IsSome given → is_live kind (unwrap_or given 0) s.actions ≡ false → IsFree s kind (index_or_free given kind s.actions)
free_at s kind (Some index) some is = none_any (is_named kind index) s.actions is
free_at s kind None some is = none_any (is_named kind (index_or_free None kind s.actions)) s.actions (free_index_unused kind s.actions)

change_case : (s : State) (action : ActionLine) (index : ℕ) (b : Bool) → Sound s → IsSharedAction action → (b ≡ false → IsFree s action.kind (index_or_free action.index action.kind s.actions))
    → SoundAfter s (if b then change_given s action index action.params else make_given s action action.params)
change_case s action index true sound shared free = changed_sound s action index action.params sound shared
change_case s action index false sound shared free = given_sound s action action.params sound shared (free refl)

pub action_change_sound : (s : State) (action : ActionLine) → Sound s → IsSharedAction action → IsSome action.index → SoundAfter s (action_change s action)
action_change_sound s action sound shared some =
    change_case s action (unwrap_or action.index 0) (is_live action.kind (unwrap_or action.index 0) s.actions) sound shared (free_at s action.kind action.index some)

-- ---- one taken out
pub action_del_sound : (s : State) (kind : Kind) (index : ℕ) → Sound s → SoundAfter s (action_del s kind index)
action_del_sound s kind index sound =
    let keep : Action → Bool = λ action. not (is_named kind index action) in
    let less = length_filter_le keep s.actions in
    let few = sound.live in
    unless_sound s (or_else (no_such_action s kind index) (action_bound s kind index)) (Ok (record s { actions = filter keep s.actions }, dones.ActionGone)) sound
    (λ e. actions_sound s (filter keep s.actions) s.actions_made sound
    (held_without (places s.rows) s.actions_made kind index s.actions (held_of s sound) (neither (no_such_action s kind index) (action_bound s kind index) e).1) (omega arith) sound.made)
