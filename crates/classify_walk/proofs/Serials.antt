-- The action of a serial among the entries that lists keep.
use Rattle.std.proofs.Common.{◌≡◌, ◌∙◌, ℕ, ◌<◌, ◌||◌, Bool, true, false, cond, List, [], ◌∷◌, Option, Some, None, option_map, refl, sym, ap, arith}
use Rattle.std.specs.Prelude.{find, IfSome}
use Rattle.std.specs.List.{list_any}
use Rattle.std.specs.Option.{ForSome}
use Rattle.std.proofs.lemmas.Bool.{false≢true}
use Rattle.std.proofs.lemmas.Option.{none-some, same_Some}
use Rattle.act_kinds.specs.declared.params.VlanOp.{VlanOp}
use Rattle.act_kinds.specs.declared.params.VlanOp.TheVariants as ops
use Rattle.act_kinds.specs.declared.params.Params.{Params}
use Rattle.act_kinds.specs.declared.params.Params.TheVariants as params
use Rattle.act_kinds.specs.Ranges.{IsVlanPriority, IsVlanOp, AreParams}
use Rattle.act_kinds.specs.Acts.{FitsTag, FitsFrames}
use Rattle.act_registry.specs.declared.entry.Entry.{Entry}
use Rattle.act_registry.specs.Entries as entries
use Rattle.action_plan.specs.Entries.{action_of, actions_of}
use Rattle.filter_state.specs.States.{Action, State}
use Rattle.filter_state.specs.Actions.{has_serial}
use Rattle.filter_state.specs.Tables.{first_where}
use Rattle.filter_state.specs.Sound.{IsAction}
use Rattle.hook_lists.specs.declared.kept.Kept.{Kept}
use Rattle.hook_lists.specs.States.{state_of, AreKept}
use Rattle.filter_lists.specs.Spells.{Spells}
use Rattle.walk_rules.specs.Questions.{params_of, told_params}
use Rattle.walk_rules.specs.Answers.{params_answer, answer_of}
use Rattle.walk_rules.proofs.OtherOrder.{answers_same}
use Rattle.classify_walk.specs.Answered.{StandsAction}
use Rattle.classify_walk.proofs.StandingFilters.{each_mapped, found_holds}

-- the entry of a serial
abbrev pub entry_of : ℕ → List (Entry Params) → Option (Entry Params)
entry_of serial es = find (entries.has_serial serial) es

first_step : (b : Bool) (e : Entry Params) (o : Option Action) (p : Option (Entry Params)) → o ≡ option_map action_of p →
    cond b (Some (action_of e)) o ≡ option_map action_of (cond b (Some e) p)
first_step true e o p same = refl
first_step false e o p same = same

pub first_action : (serial : ℕ) (es : List (Entry Params)) → first_where (has_serial serial) (actions_of es) ≡ option_map action_of (entry_of serial es)
first_action serial [] = refl
first_action serial (e ∷ es) = first_step (entries.has_serial serial e) e (first_where (has_serial serial) (actions_of es)) (entry_of serial es) (first_action serial es)

pub params_answered : (kept : Kept) (serial : ℕ) (entry : Entry Params) (s : State) → entry_of serial kept.actions.entries ≡ Some entry → Spells kept s →
    answer_of s (params_of serial) ≡ Some (told_params entry.params)
params_answered kept serial entry s found spelled =
    sym (answers_same (state_of kept) s (params_of serial) spelled)
    ∙ ap params_answer (first_action serial kept.actions.entries ∙ ap (option_map action_of) found)

-- ---- an action that stands has an entry
none_step : (b any : Bool) (e : Entry Params) (o : Option (Entry Params)) → (any ≡ true → o ≡ None → ⊥) → (b || any) ≡ true → cond b (Some e) o ≡ None → ⊥
none_step true any e o later stands none = none-some e (sym none)
none_step false any e o later stands none = later stands none

has_entry : (serial : ℕ) (es : List (Entry Params)) → list_any (has_serial serial) (actions_of es) ≡ true → entry_of serial es ≡ None → ⊥
has_entry serial [] stands none = false≢true stands
has_entry serial (e ∷ es) stands none =
    none_step (entries.has_serial serial e) (list_any (has_serial serial) (actions_of es)) e (entry_of serial es) (has_entry serial es) stands none

pub entry_stands : (kept : Kept) (serial : ℕ) → StandsAction kept serial → entry_of serial kept.actions.entries ≡ None → ⊥
entry_stands kept serial stands none = has_entry serial kept.actions.entries stands none

-- ---- parameters in their ranges fit frames
priority_fits : (priority : Option ℕ) → IfSome priority IsVlanPriority → ForSome priority (λ p. p < 8)
priority_fits None range = λ p given. absurd (none-some p given)
priority_fits (Some n) range = λ p given. let same = same_Some n p given in omega (arith, range, same)

tag_fits : (op : VlanOp) → IsVlanOp op → FitsTag op
tag_fits (ops.Push tpid id priority) range = (omega (arith, range.1), omega (arith, range.2))
tag_fits ops.Pop range = tt
tag_fits (ops.Modify tpid id priority) range = (omega (arith, range.1), priority_fits priority range.2)

params_fit : (given : Params) → AreParams given → FitsFrames given
params_fit (params.Gact control) range = tt
params_fit (params.Vlan op control) range = tag_fits op range.0
params_fit (params.Skbedit priority mark queue control) range = tt

pub entry_fits : (kept : Kept) (serial : ℕ) (entry : Entry Params) → AreKept kept → entry_of serial kept.actions.entries ≡ Some entry → FitsFrames entry.params
entry_fits kept serial entry is found =
    let sound = is.sound in
    let action : IsAction (state_of kept) (action_of entry) =
    found_holds (λ e. IsAction (state_of kept) (action_of e)) (entries.has_serial serial) kept.actions.entries entry found
    (each_mapped (IsAction (state_of kept)) action_of kept.actions.entries sound.actions) in
    params_fit entry.params action.params
