-- How far a run has come: what comes of the lines that are left comes of the whole.
use Rattle.std.proofs.Common.{◌≡◌, ◌∙◌, ℕ, ◌+◌, ◌≤◌, true, false, List, [], ◌∷◌, ◌++◌, length, Option, Some, None, refl, sym, ap, subst, arith, inl, inr}
use Rattle.std.specs.Prelude.{◌==◌}
use Rattle.tc_words.specs.Lines.{words_of}
use Rattle.filter_state.specs.States.{Action, State, no_state}
use Rattle.filter_state.specs.Steps.{Stepped}
use Rattle.action_plan.specs.Entries.{actions_of}
use Rattle.filter_lists.specs.Passed.{Kept}
use Rattle.filter_lists.specs.Spells.{Spells}
use Rattle.batch_run.specs.declared.made_action.MadeAction.{MadeAction}
use Rattle.batch_run.specs.declared.stop.Stop.{Stop}
use Rattle.batch_run.specs.declared.stop.Stop.TheVariants as stops
use Rattle.batch_run.specs.Commands.{Command, commands_from}
use Rattle.batch_run.specs.Made.{later_names, made_since}
use Rattle.batch_run.specs.Runs.{SoFar, Ran, one_more, ended, IsAfter, IsRunFrom, IsRun}
use Rattle.batch_run.specs.Applied.{IsApplied}
use Rattle.batch_run.proofs.CommandLines.{command_at, is_blank, is_one}
use Rattle.batch_run.proofs.Counts.{IsNear, StepsNear, step_near}

-- a state that the lists spell stands before the line of that number: each accepted edit made one table and
-- one mask at most, and the edits that were accepted and the commands that are left have room
pub record Reached (lists : Kept) (so_far : SoFar) (number : ℕ) (texts : List (List ℕ)) (all : List Command) : Type 0 where
  pub state : State
  pub spells : Spells lists state
  pub tables : state.tables_made ≤ so_far.accepted
  pub masks : state.masks_made ≤ so_far.accepted
  pub edits : so_far.accepted + length (commands_from number texts) ≤ 262144
  pub rest : (ran : Ran) → IsRunFrom state so_far (commands_from number texts) ran → IsRun no_state 0 all ran

-- what the batch leaves
abbrev pub Left : Kept → SoFar → Option Stop → List Command → Type 0
Left lists so_far stop all = (ran : Ran) × Spells lists ran.state × (so_far.accepted ≡ ran.accepted) × (so_far.made ≡ ran.made) × (stop ≡ ran.stop) × IsRun no_state 0 all ran

-- a blank line changes nothing but the number
pub blank : (lists : Kept) (so_far : SoFar) (number : ℕ) (text : List ℕ) (texts : List (List ℕ)) (all : List Command) → (length (words_of text) == 0) ≡ true
    → Reached lists so_far number (text ∷ texts) all → Reached lists so_far (number + 1) texts all
blank lists so_far number text texts all is at =
    let same = is_blank number text texts is in
    record {
      state = at.state;
      spells = at.spells;
      tables = at.tables;
      masks = at.masks;
      edits = subst (λ (cs : List Command). so_far.accepted + length cs ≤ 262144) same at.edits;
      rest = λ ran run. at.rest ran (subst (λ (cs : List Command). IsRunFrom at.state so_far cs ran) (sym same) run);
    }

-- the entries that the lists made in between are the actions that the edit made
since : (lists new : Kept) (s next : State) → Spells lists s → Spells new next → later_names lists.actions.made (actions_of new.actions.entries) ≡ made_since s next
since lists new s next before after =
    ap (λ (made : ℕ). later_names made (actions_of new.actions.entries)) before.actions_made ∙ ap (λ (actions : List Action). later_names s.actions_made actions) after.actions

-- what was done once a command was accepted, by what was put into the log
abbrev pub counted : SoFar → Kept → Kept → SoFar
counted so_far lists new = record { accepted = so_far.accepted + 1; made = so_far.made ++ later_names lists.actions.made (actions_of new.actions.entries) }

counted_is : (lists new : Kept) (so_far : SoFar) (s next : State) → Spells lists s → Spells new next → one_more so_far s next ≡ counted so_far lists new
counted_is lists new so_far s next before after =
    ap (λ (names : List MadeAction). record { accepted = so_far.accepted + 1; made = so_far.made ++ names }) (sym (since lists new s next before after))

-- a command that is accepted
pub accepted_one : (lists new : Kept) (so_far : SoFar) (number : ℕ) (text : List ℕ) (texts : List (List ℕ)) (all : List Command) → (length (words_of text) == 0) ≡ false
    → (at : Reached lists so_far number (text ∷ texts) all) → IsApplied at.state new (words_of text) number None → Reached new (counted so_far lists new) (number + 1) texts all
accepted_one lists new so_far number text texts all is at (edit, gives, next, done, stepped, spells) =
    let near : IsNear at.state next = subst (StepsNear at.state) stepped (step_near at.state edit) in
    let tables = at.tables in
    let masks = at.masks in
    let edits : so_far.accepted + length (command_at number text ∷ commands_from (number + 1) texts) ≤ 262144 =
    subst (λ (cs : List Command). so_far.accepted + length cs ≤ 262144) (is_one number text texts is) at.edits in
    record {
      state = next;
      spells = spells;
      tables = omega arith;
      masks = omega arith;
      edits = omega arith;
      rest = λ ran run.
          let goes : IsRunFrom next (one_more so_far at.state next) (commands_from (number + 1) texts) ran =
          subst (λ (then : SoFar). IsRunFrom next then (commands_from (number + 1) texts) ran) (sym (counted_is lists new so_far at.state next at.spells spells)) run in
          at.rest ran (subst (λ (cs : List Command). IsRunFrom at.state so_far cs ran) (sym (is_one number text texts is))
          (inl (edit, gives, subst (λ (it : Stepped). IsAfter (λ following then. IsRunFrom following then (commands_from (number + 1) texts) ran) at.state so_far number it ran) (sym stepped) goes)));
    }

-- a command at which the batch stops
pub stopped_at : (lists new : Kept) (so_far : SoFar) (number : ℕ) (text : List ℕ) (texts : List (List ℕ)) (all : List Command) (stop : Stop) → (length (words_of text) == 0) ≡ false
    → (at : Reached lists so_far number (text ∷ texts) all) → IsApplied at.state new (words_of text) number (Some stop) → Left new so_far (Some stop) all
stopped_at lists new so_far number text texts all (stops.Refused line refusal) is at (edit, gives, stepped, same, spells) =
    let ran : Ran = ended at.state so_far (Some (stops.Refused number refusal)) in (
      ran,
      spells,
      refl,
      refl,
      ap (λ (n : ℕ). Some (stops.Refused n refusal)) same,
      at.rest ran (subst (λ (cs : List Command). IsRunFrom at.state so_far cs ran) (sym (is_one number text texts is))
          (inl (edit, gives, subst (λ (it : Stepped). IsAfter (λ following then. IsRunFrom following then (commands_from (number + 1) texts) ran) at.state so_far number it ran) (sym stepped) refl))),
    )
stopped_at lists new so_far number text texts all (stops.Syntax line word) is at (bad, same, spells) =
    let ran : Ran = ended at.state so_far (Some (stops.Syntax number word)) in (
      ran,
      spells,
      refl,
      refl,
      ap (λ (n : ℕ). Some (stops.Syntax n word)) same,
      at.rest ran (subst (λ (cs : List Command). IsRunFrom at.state so_far cs ran) (sym (is_one number text texts is))
          (inr (word, bad, refl))),
    )

-- no line is left
pub at_last : (lists : Kept) (so_far : SoFar) (number : ℕ) (all : List Command) → Reached lists so_far number [] all → Left lists so_far None all
at_last lists so_far number all at =
    let ran : Ran = ended at.state so_far None in
    (ran, at.spells, refl, refl, refl, at.rest ran refl)
