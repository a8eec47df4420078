-- What is found over a change's answers is found over its states.
use Rattle.std.proofs.Common.{◌≡◌, ◌∙◌, ℕ, ◌≤◌, Bool, List, length, Option, Some, refl, sym, ap, subst}
use Rattle.std.specs.Prelude.{nat_lt, take}
use Rattle.tc_base.specs.declared.hook.Hook.{Hook}
use Rattle.filter_state.specs.declared.edit.Edit.{Edit}
use Rattle.filter_state.specs.States.{State}
use Rattle.filter_state.specs.Sound.{Sound}
use Rattle.filter_state.specs.Journals.{state_at, IsLawful}
use Rattle.state_laws.proofs.Steps.{journal_sound}
use Rattle.walk_rules.specs.Questions.{Answer}
use Rattle.walk_rules.specs.Plain.{plain_walk}
use Rattle.walk_rules.specs.Steps.{Standing}
use Rattle.filter_origins.specs.Entries.{edits_of}
use Rattle.walk_fate_laws.specs.declared.limits.TheConstants.{WAYS_MAX}
use Rattle.walk_fate_laws.specs.declared.kinds.When.{When}
use Rattle.walk_fate_laws.specs.declared.kinds.Kind.{Kind}
use Rattle.walk_fate_laws.specs.Fates.{Fate, fate_of}
use Rattle.walk_fate_laws.specs.Ways.{Way}
use Rattle.walk_fate_laws.specs.Walks.{ways_of}
use Rattle.walk_fate_laws.specs.Told.{Told, first_fates, told_fates, has_more}
use Rattle.walk_fate_laws.specs.Stays.{fate_there, IsAnsweredAt, IsAnsweredAs}
use Rattle.walk_fate_laws.specs.Times.{whens_at}
use Rattle.walk_fate_laws.specs.Kinds.{kind_at}
use Rattle.walk_fate_laws.proofs.Staying.{plain_there}
use Rattle.walk_fate_laws.proofs.Timing.{whens_agree, kinds_agree}
use Rattle.change_lines.specs.Passed.{HookChange, answer_in}
use Rattle.change_lines.proofs.Passed.{as_states, ways_same}
use Rattle.change_fates.specs.Told.{ChangeAt, hook_change, answers_in, told_in, whens_in, kind_in, more_in, ways_in}

module _ (change : ChangeAt) (bytes : List ℕ) where
  pub same_ways : ways_of (answer_in (hook_change change)) change.before (length change.entries) change.hook bytes ≡ ways_of (answers_in change) change.before (length change.entries) change.hook bytes
  same_ways = ways_same (hook_change change) (length change.entries) bytes

  pub same_told : told_fates (answer_in (hook_change change)) change.before (length change.entries) change.hook bytes ≡ told_in change bytes
  same_told = ap (λ (ways : List (Way Standing Answer)). first_fates (take WAYS_MAX ways)) same_ways

  pub same_more : has_more (answer_in (hook_change change)) change.before (length change.entries) change.hook bytes ≡ more_in change bytes
  same_more = ap (λ (ways : List (Way Standing Answer)). nat_lt WAYS_MAX (length ways)) same_ways

  pub same_count : length (take WAYS_MAX (ways_of (answer_in (hook_change change)) change.before (length change.entries) change.hook bytes)) ≡ ways_in change bytes
  same_count = ap (λ (ways : List (Way Standing Answer)). length (take WAYS_MAX ways)) same_ways

  module _ (lawful : IsLawful (edits_of change.entries)) (within : change.before ≤ length change.entries) where
    abbrev state : ℕ → State
    state point = state_at point (edits_of change.entries)

    sound : (point : ℕ) → Sound (state point)
    sound point = journal_sound (edits_of change.entries) point lawful

    plain : (point : ℕ) → change.before ≤ point → fate_there (answer_in (hook_change change)) change.hook bytes point ≡ Some (fate_of (plain_walk (state point) change.hook bytes))
    plain point since =
        plain_there (answer_in (hook_change change)) point change.hook (state point)
        (record { tables = as_states (hook_change change) point since; filters = λ table mask values. refl; actions = λ serial. refl }) bytes (sound point)

    plain_over : (point : ℕ) → fate_there (answers_in change) change.hook bytes point ≡ Some (fate_of (plain_walk (state point) change.hook bytes))
    plain_over point =
        plain_there (answers_in change) point change.hook (state point)
        (record { tables = refl; filters = λ table mask values. refl; actions = λ serial. refl }) bytes (sound point)

    -- each state answers what a walk asks
    pub answered : (point : ℕ) → change.before ≤ point → point ≤ length change.entries → IsAnsweredAt (answer_in (hook_change change)) change.hook bytes point
    answered point since until = (fate_of (plain_walk (state point) change.hook bytes), plain point since)

    same_there : (point : ℕ) → change.before ≤ point → point ≤ length change.entries → fate_there (answer_in (hook_change change)) change.hook bytes point ≡ fate_there (answers_in change) change.hook bytes point
    same_there point since until = plain point since ∙ sym (plain_over point)

    pub same_whens : whens_at (answer_in (hook_change change)) change.before (length change.entries) change.hook bytes ≡ whens_in change bytes
    same_whens = whens_agree (answer_in (hook_change change)) (answers_in change) change.before (length change.entries) change.hook bytes within same_there same_told

    pub same_kind : kind_at (answer_in (hook_change change)) change.before (length change.entries) change.hook bytes ≡ kind_in change bytes
    same_kind = kinds_agree (answer_in (hook_change change)) (answers_in change) change.before (length change.entries) change.hook bytes within same_there same_told same_more

-- ---- by whom and between which points it is asked
pub record Asked : Type 0 where
  pub by : HookChange
  pub hook : Hook
  pub before : ℕ
  pub after : ℕ

abbrev pub asked_with : HookChange → Hook → ℕ → ℕ → Asked
asked_with by hook before after = record { by = by; hook = hook; before = before; after = after }

abbrev pub asked_of : ChangeAt → Asked
asked_of change = asked_with (hook_change change) change.hook change.before (length change.entries)

pub asked_is : (change : ChangeAt) (by : HookChange) (hook : Hook) (before after : ℕ) → by ≡ hook_change change → hook ≡ change.hook → before ≡ change.before → after ≡ length change.entries
    → asked_with by hook before after ≡ asked_of change
asked_is change by hook before after a b c d =
    ap (λ (x : HookChange). asked_with x hook before after) a
    ∙ ap (λ (h : Hook). asked_with (hook_change change) h before after) b
    ∙ ap (λ (n : ℕ). asked_with (hook_change change) change.hook n after) c
    ∙ ap (λ (n : ℕ). asked_with (hook_change change) change.hook change.before n) d

abbrev pub told_by : List ℕ → Asked → List Told
told_by bytes a = told_fates (answer_in a.by) a.before a.after a.hook bytes

abbrev pub whens_by : List ℕ → Asked → List When
whens_by bytes a = whens_at (answer_in a.by) a.before a.after a.hook bytes

abbrev pub kind_by : List ℕ → Asked → Kind
kind_by bytes a = kind_at (answer_in a.by) a.before a.after a.hook bytes

abbrev pub more_by : List ℕ → Asked → Bool
more_by bytes a = has_more (answer_in a.by) a.before a.after a.hook bytes

abbrev pub ways_by : List ℕ → Asked → ℕ
ways_by bytes a = length (take WAYS_MAX (ways_of (answer_in a.by) a.before a.after a.hook bytes))

abbrev pub AreAnswered : List ℕ → Asked → Type 0
AreAnswered bytes a = (point : ℕ) → a.before ≤ point → point ≤ a.after → IsAnsweredAt (answer_in a.by) a.hook bytes point

module _ (change : ChangeAt) (bytes : List ℕ) (a : Asked) (is : a ≡ asked_of change) where
  pub told_is : told_by bytes a ≡ told_in change bytes
  told_is = ap (told_by bytes) is ∙ same_told change bytes

  pub more_is : more_by bytes a ≡ more_in change bytes
  more_is = ap (more_by bytes) is ∙ same_more change bytes

  pub ways_is : ways_by bytes a ≡ ways_in change bytes
  ways_is = ap (ways_by bytes) is ∙ same_count change bytes

  module _ (lawful : IsLawful (edits_of change.entries)) (within : change.before ≤ length change.entries) where
    pub are_answered : AreAnswered bytes a
    are_answered = subst (AreAnswered bytes) (sym is) (answered change bytes lawful within)

    pub whens_is : whens_by bytes a ≡ whens_in change bytes
    whens_is = ap (whens_by bytes) is ∙ same_whens change bytes lawful within

    pub kind_is : kind_by bytes a ≡ kind_in change bytes
    kind_is = ap (kind_by bytes) is ∙ same_kind change bytes lawful within
