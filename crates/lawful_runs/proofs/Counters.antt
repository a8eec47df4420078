-- The actions that a journal ever makes have the serials from 1 on, in order, and so have the counters.
use Rattle.std.proofs.Common.{◌≡◌, ◌∙◌, ℕ, ◌+◌, List, [], ◌∷◌, ◌++◌, length, map, Ok, Err, refl, sym, ap, arith}
use Rattle.std.specs.List.{range_with_len}
use Rattle.std.proofs.lemmas.List.{length-map, map-append}
use Rattle.std.proofs.lemmas.List.FromFn.{length-range_with_len}
use Rattle.filter_state.specs.declared.edit.Edit.{Edit}
use Rattle.filter_state.specs.States.{State, no_state}
use Rattle.filter_state.specs.Steps.{Stepped, step}
use Rattle.filter_state.specs.Sound.{Sound}
use Rattle.filter_state.specs.Journals.{state_after, state_from, Accepts, IsLawful, IsLawfulFrom}
use Rattle.state_laws.proofs.Steps.{step_sound}
use Rattle.state_laws.proofs.Whole.{start_sound}
use Rattle.batch_run.specs.declared.made_action.MadeAction.{MadeAction}
use Rattle.batch_run.specs.Made.{made_since}
use Rattle.batch_run.proofs.NewSerials.{IsNumbered, logged_serials, range_append}
use Rattle.batch_run.proofs.Numbered.{StepsNumbered, step_numbered}
use Rattle.run_report.specs.declared.counters.CounterLine.{CounterLine}
use Rattle.run_report.specs.declared.rounds.RoundRecord.{RoundRecord}
use Rattle.lawful_runs.specs.Lawful.{made_by, counter_of, counters_of, executed_in, outcomes_in}

abbrev serials : List MadeAction → List ℕ
serials made = map (λ (action : MadeAction). action.serial) made

-- the actions that edits make from a state on are those that it counts more at the end
record AreNumbered (s : State) (edits : List Edit) : Type 0 where
  pub many : ℕ
  pub count : (state_from s edits).actions_made ≡ s.actions_made + many
  pub given : serials (made_by s edits) ≡ range_with_len (s.actions_made + 1) many

-- ---- edits, one after the other
accepted : (s : State) (edit : Edit) (stepped : Stepped) → Accepts s edit stepped → StepsNumbered s stepped
    → IsNumbered s.actions_made (state_after s stepped).actions_made (state_after s stepped).actions
accepted s edit (Ok (next, done)) accepts is = is
accepted s edit (Err refusal) accepts is = absurd accepts

numbered : (edits : List Edit) (s : State) → Sound s → IsLawfulFrom s edits → AreNumbered s edits
numbered [] s sound lawful = record { many = 0; count = omega arith; given = refl }
numbered (edit ∷ edits) s sound lawful =
    let next : State = state_after s (step s edit) in
    let one : IsNumbered s.actions_made next.actions_made next.actions = accepted s edit (step s edit) lawful.1 (step_numbered s edit sound lawful.0) in
    let rest = numbered edits next (step_sound s edit sound lawful.0) lawful.2 in
    let here = one.count in
    let there = rest.count in
    let at : next.actions_made + 1 ≡ s.actions_made + 1 + one.many = omega (arith, here) in
    record {
      many = one.many + rest.many;
      count = omega (arith, here, there);
      given = map-append (λ (action : MadeAction). action.serial) (made_since s next) (made_by next edits)
          ∙ ap (λ (ns : List ℕ). ns ++ serials (made_by next edits)) (logged_serials s.actions_made next.actions ∙ one.given)
          ∙ ap (λ (ns : List ℕ). range_with_len (s.actions_made + 1) one.many ++ ns) (rest.given ∙ ap (λ (n : ℕ). range_with_len n rest.many) at)
          ∙ range_append (s.actions_made + 1) one.many rest.many;
    }

-- ---- the counters of a run
counted_serials : (executed : List (ℕ × ℕ)) (made : List MadeAction) → map (λ (c : CounterLine). c.serial) (map (counter_of executed) made) ≡ serials made
counted_serials executed [] = refl
counted_serials executed (action ∷ made) = ap (λ (ns : List ℕ). action.serial ∷ ns) (counted_serials executed made)

pub record AreCounters (journal : List Edit) (counters : List CounterLine) : Type 0 where
  pub many : length counters ≡ (state_from no_state journal).actions_made
  pub each : map (λ (c : CounterLine). c.serial) counters ≡ range_with_len 1 (length counters)

pub are_counters : (journal : List Edit) (rounds : List RoundRecord) → IsLawful journal → AreCounters journal (counters_of journal rounds)
are_counters journal rounds lawful =
    let all = numbered journal no_state start_sound lawful in
    let counters : List CounterLine = counters_of journal rounds in
    let given : map (λ (c : CounterLine). c.serial) counters ≡ range_with_len 1 all.many = counted_serials (executed_in (outcomes_in rounds)) (made_by no_state journal) ∙ all.given in
    let long : length counters ≡ all.many = sym (length-map counters (λ (c : CounterLine). c.serial)) ∙ ap length given ∙ length-range_with_len 1 all.many in
    let made = all.count in
    record { many = omega (arith, long, made); each = given ∙ ap (range_with_len 1) (sym long) }
