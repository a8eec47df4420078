-- What a past that remembers a journal answers.
use Rattle.act_registry.specs.Entries as entries
use Rattle.filter_state.specs.declared.limits.TheConstants.{LINE_ACTIONS_MAX}
use Rattle.std.proofs.Common.{◌≡◌, ◌∙◌, inl, inr, ℕ, ◌+◌, ◌<◌, ◌≤◌, Bool, true, false, List, [], length, Option, Some, None, option_map, refl, sym, ap, subst, arith}
use Rattle.std.specs.Prelude.{◌&&◌, find, IfSome, if◌then◌else◌}
use Rattle.std.specs.List.{list_any}
use Rattle.std.specs.Option.{ForSome}
use Rattle.std.proofs.lemmas.Bool.{cases_lt}
use Rattle.std.proofs.lemmas.Option.{none-some, same_Some}
use Rattle.std.proofs.lemmas.List.{take_all}
use Rattle.flow_fields.specs.Values.{values_of}
use Rattle.flow_mask.specs.Masks.{each_and}
use Rattle.act_kinds.specs.declared.params.VlanOp.{VlanOp}
use Rattle.act_kinds.specs.declared.params.VlanOp.TheVariants as ops
use Rattle.act_kinds.specs.declared.params.Params.{Params}
use Rattle.act_kinds.specs.declared.params.Params.TheVariants as params
use Rattle.act_kinds.specs.Ranges.{IsVlanPriority, IsVlanOp, AreParams}
use Rattle.act_kinds.specs.Acts.{FitsTag, FitsFrames}
use Rattle.act_registry.specs.declared.entry.Entry.{Entry}
use Rattle.act_registry.specs.Kept as registries
use Rattle.action_plan.specs.Entries.{action_of}
use Rattle.action_plan.proofs.Mapped.{first_mapped}
use Rattle.filter_state.specs.declared.edit.Edit.{Edit}
use Rattle.filter_state.specs.States.{Row, Action, State, no_state}
use Rattle.filter_state.specs.Journals.{state_from, state_at}
use Rattle.filter_state.specs.Actions.{has_serial}
use Rattle.filter_state.specs.Order.{of_mask}
use Rattle.filter_state.specs.Sound.{Sound, IsRow, IsAction}
use Rattle.filter_state.specs.Tables.{first_where}
use Rattle.filter_state.proofs.Pairs.{found, any_first, none_any}
use Rattle.state_past_laws.specs.OfChanges.Among.{Has}
use Rattle.state_past_laws.proofs.OfChanges.Among.{each_has, first_has}
use Rattle.state_laws.proofs.Steps.{journal_sound}
use Rattle.hook_lists.specs.declared.kept.Kept.{Kept}
use Rattle.filter_lists.specs.Spells.{Spells}
use Rattle.edit_effects.specs.OfEffects.Parts.{Stands, filters_of, words_in, words_of, params_at}
use Rattle.walk_rules.specs.Questions.{Answer, told_params}
use Rattle.walk_rules.specs.Questions as questions
use Rattle.walk_rules.specs.Answers.{meets, actions_or_none, params_answer, answer_of}
use Rattle.edit_effects.specs.OfMaskAnswers.Searched.{IsSearched, searched_told}
use Rattle.edit_effects.proofs.OfMaskAnswers.Searching.{search_answers}
use Rattle.slot_pasts.specs.declared.past.Change.{Change}
use Rattle.slot_pasts.specs.Pasts.{value_at, stood}
use Rattle.slot_pasts.specs.Names.{past_of}
use Rattle.state_past_laws.specs.Slots.{is_slot, actions_or, slot_in, is_taken, actions_in}
use Rattle.state_past_laws.specs.Telling.{Tells}
use Rattle.state_past_laws.proofs.Longer.{settled}
use Rattle.state_past_laws.proofs.Searched.{slot_searched}
use Rattle.state_past.specs.declared.past.StatePast.{StatePast}
use Rattle.slot_pasts.specs.Serials.{past_at}
use Rattle.state_past.specs.Told.{words_told, named_slot}
use Rattle.state_past.specs.Remembering.{Remembers}

-- ---- behind the journal's end nothing changes
pub told_anywhere : {V W : Type 0} (has : State → W) (read : Option V → W) (past : List (Change V)) (journal : List Edit) → Tells has read past journal → (point : ℕ)
    → has (state_at point journal) ≡ read (value_at point past)
told_anywhere has read past journal tells point = elim (cases_lt point (length journal + 1)) [
  | inl less ↦ tells.told point (omega (arith, less))
  | inr most ↦ ap (λ (js : List Edit). has (state_from no_state js)) (take_all point journal (omega (arith, most)) ∙ sym (take_all (length journal) journal (omega arith)))
      ∙ tells.told (length journal) (omega arith) ∙ ap read (sym (settled (length journal) point past tells.up_to (omega (arith, most))))
]

-- ---- actions
pub params_told : (s : State) (serial : ℕ) → answer_of s (questions.params_of serial) ≡ option_map told_params (params_at s serial)
params_told s serial = pick (first_where (has_serial serial) s.actions)
  where
    pick : (o : Option Action) → params_answer o ≡ option_map told_params (option_map (λ (action : Action). action.params) o)
    pick (Some action) = refl
    pick None = refl

priority_fits : (priority : Option ℕ) → IfSome priority IsVlanPriority → ForSome priority (λ p. p < 8)
priority_fits None range = λ p given. absurd (none-some p given)
priority_fits (Some n) range = λ p given. let same = same_Some n p given in omega (arith, range, same)

tag_fits : (op : VlanOp) → IsVlanOp op → FitsTag op
tag_fits (ops.Push tpid id priority) range = (omega (arith, range.1), omega (arith, range.2))
tag_fits ops.Pop range = tt
tag_fits (ops.Modify tpid id priority) range = (omega (arith, range.1), priority_fits priority range.2)

params_fit : (given : Params) → AreParams given → FitsFrames given
params_fit (params.Gact control) range = tt
params_fit (params.Vlan op control) range = tag_fits op range.0
params_fit (params.Skbedit priority mark queue control) range = tt

pub live_fits : (s : State) (serial : ℕ) (given : Params) → Sound s → params_at s serial ≡ Some given → FitsFrames given
live_fits s serial given sound is = pick (first_where (has_serial serial) s.actions) refl is
  where
    pick : (o : Option Action) → first_where (has_serial serial) s.actions ≡ o → option_map (λ (action : Action). action.params) o ≡ Some given → FitsFrames given
    pick (Some action) first same = let own = found (IsAction s) (has_serial serial) s.actions action sound.actions first in
        subst FitsFrames (same_Some action.params given same) (params_fit action.params (own.0).params)
    pick None first same = absurd (none-some given same)

-- the parameters that lists have
mapped_params : (o : Option (Entry Params)) → option_map (λ (action : Action). action.params) (option_map action_of o) ≡ option_map (λ (e : Entry Params). e.params) o
mapped_params (Some e) = refl
mapped_params None = refl

pub params_kept : (kept : Kept) (s : State) (serial : ℕ) (registry : registries.Kept Params) → registry ≡ kept.actions → Spells kept s
    → option_map (λ (e : Entry Params). e.params) (find (entries.has_serial serial) registry.entries) ≡ params_at s serial
params_kept kept s serial registry same spells =
    ap (λ (r : registries.Kept Params). option_map (λ (e : Entry Params). e.params) (find (entries.has_serial serial) r.entries)) same
    ∙ (sym (mapped_params (find (entries.has_serial serial) kept.actions.entries))
    ∙ (ap (option_map (λ (action : Action). action.params)) (first_mapped action_of (entries.has_serial serial) (has_serial serial) (λ e. refl) kept.actions.entries)
    ∙ ap (λ (xs : List Action). option_map (λ (action : Action). action.params) (first_where (has_serial serial) xs)) spells.actions))

any_false : (test : Row → Bool) (rows : List Row) → list_any test rows ≡ false → (row : Row) → Has row rows → test row ≡ false
any_false test rows none row has = each_has (λ x. test x ≡ false) rows row (none_any test rows none) has

-- ---- masks
no_words : (row : Row) (s : State) → IsRow s row → row.mask ≡ [] → ⊥
no_words row s is none = let keys = is.keys in let count = keys.mask_count in let length_none : length row.mask ≡ 0 = ap length none in absurd (omega (arith, count, length_none))

stands_by : (s : State) (mask : ℕ) (b : Bool) → list_any (of_mask mask) s.rows ≡ b → Sound s → (b ≡ true → words_of s mask ≡ [] → ⊥)
stands_by s mask b is sound at none =
    let first = any_first (of_mask mask) s.rows (is ∙ at) in let own = found (IsRow s) (of_mask mask) s.rows first.0 sound.rows first.1 in
    no_words first.0 s own.0 (sym (ap words_in first.1) ∙ none)

-- a mask without words doesn't answer
pub unanswered : (s : State) (mask table : ℕ) (values : List ℕ) → Sound s → words_of s mask ≡ [] → answer_of s (questions.filter_of table mask values) ≡ None
unanswered s mask table values sound none = pick (list_any (of_mask mask) s.rows) refl
  where
    pick : (b : Bool) → list_any (of_mask mask) s.rows ≡ b → answer_of s (questions.filter_of table mask values) ≡ None
    pick true is = absurd (stands_by s mask true is sound refl none)
    pick false is = ap (λ (b : Bool). if b then Some (actions_or_none (first_where (λ row. of_mask mask row && meets values row) s.rows)) else None) is

none_first : (test : Row → Bool) (rows : List Row) → list_any test rows ≡ false → first_where test rows ≡ None
none_first test rows none = pick (first_where test rows) refl
  where
    pick : (o : Option Row) → first_where test rows ≡ o → o ≡ None
    pick None first = refl
    pick (Some row) first = let own = first_has test rows row first in absurd (cc (any_false test rows none row own.0, own.1))

-- one with words stands
pub standing : (s : State) (mask : ℕ) (words : List ℕ) → words_of s mask ≡ words → length words ≡ 14 → Stands s mask
standing s mask words is count = pick (list_any (of_mask mask) s.rows) refl
  where
    pick : (b : Bool) → list_any (of_mask mask) s.rows ≡ b → Stands s mask
    pick true any = any
    pick false any = let none : words_of s mask ≡ [] = ap words_in (none_first (of_mask mask) s.rows any) in let empty : length words ≡ 0 = ap length (sym is ∙ none) in absurd (omega (arith, count, empty))

-- ---- slots
pub few_actions : (s : State) (mask : ℕ) (key actions : List ℕ) → Sound s → slot_in s.rows mask key ≡ Some actions → length actions ≤ LINE_ACTIONS_MAX
few_actions s mask key actions sound is = pick (first_where (is_slot mask key) s.rows) refl is
  where
    pick : (o : Option Row) → first_where (is_slot mask key) s.rows ≡ o → actions_or o ≡ Some actions → length actions ≤ LINE_ACTIONS_MAX
    pick (Some row) first same = let own = found (IsRow s) (is_slot mask key) s.rows row sound.rows first in
        subst (λ (ns : List ℕ). length ns ≤ LINE_ACTIONS_MAX) (same_Some row.actions actions same) (own.0).most
    pick None first same = absurd (none-some actions same)

pub slot_answers : (s : State) (mask table : ℕ) (words mask_words : List ℕ) (o : Option (List ℕ)) → Sound s → words_of s mask ≡ mask_words → length mask_words ≡ 14 → length words ≡ 14
    → slot_in s.rows mask (each_and words mask_words) ≡ o → answer_of s (questions.filter_of table mask (values_of words)) ≡ Some (searched_told (is_taken o) (actions_in o))
slot_answers s mask table words mask_words o sound are count long is =
    search_answers s mask table words (is_taken o) (actions_in o) sound (standing s mask mask_words are count) long
    (subst (λ (ws : List ℕ). IsSearched (filters_of s mask) (each_and words ws) (is_taken o) (actions_in o)) (sym are)
    (subst (λ (p : Option (List ℕ)). IsSearched (filters_of s mask) (each_and words mask_words) (is_taken p) (actions_in p)) is (slot_searched s mask (each_and words mask_words))))

-- ---- all of these, by what a past remembers
module _ (past : StatePast) (journal : List Edit) (remembers : Remembers past journal) (point : ℕ) where
  pub sound_there : Sound (state_at point journal)
  sound_there = journal_sound journal point remembers.lawful

  pub slot_there : (mask : ℕ) (key : List ℕ) → slot_in (state_at point journal).rows mask key ≡ stood (value_at point (past_of past.slots (named_slot mask key)))
  slot_there mask key = told_anywhere (λ (s : State). slot_in s.rows mask key) stood (past_of past.slots (named_slot mask key)) journal (remembers.slots mask key) point

  pub words_there : (mask : ℕ) → words_of (state_at point journal) mask ≡ words_told (value_at point (past_at past.masks mask))
  words_there mask = told_anywhere (λ (s : State). words_of s mask) words_told (past_at past.masks mask) journal (remembers.masks mask) point

  pub params_there : (serial : ℕ) → params_at (state_at point journal) serial ≡ stood (value_at point (past_at past.actions serial))
  params_there serial = told_anywhere (λ (s : State). params_at s serial) stood (past_at past.actions serial) journal (remembers.actions serial) point
