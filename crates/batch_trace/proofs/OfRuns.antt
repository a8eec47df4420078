-- The accepted edits are those that the run of the same commands goes by.
use Rattle.std.proofs.Common.{◌≡◌, ◌∙◌, suc, ◌+◌, List, [], ◌∷◌, length, Ok, Err, refl, sym, ap, subst, arith, inl, inr}
use Rattle.std.proofs.lemmas.List.{take_all, length-map}
use Rattle.filter_state.specs.declared.edit.Edit.{Edit}
use Rattle.filter_state.specs.States.{State, no_state}
use Rattle.filter_state.specs.Steps.{Stepped, step}
use Rattle.filter_state.specs.Journals.{state_after, state_from, state_at}
use Rattle.tc_batch.proofs.Runs.{one_edit, no_fault}
use Rattle.batch_run.specs.Commands.{Command}
use Rattle.batch_run.specs.Runs.{SoFar, Ran, one_more, IsAfter, IsRunFrom, IsRun}
use Rattle.filter_origins.specs.Entries.{Entry, edits_of}
use Rattle.batch_trace.specs.Accepted.{AreBehind, AreAcceptedFrom, AreAccepted}

record IsOf (s : State) (so_far : SoFar) (ran : Ran) (entries : List Entry) : Type 0 where
  state : ran.state ≡ state_from s (edits_of entries)
  accepted : ran.accepted ≡ so_far.accepted + length entries

ends : (s : State) (so_far : SoFar) (ran : Ran) (entries : List Entry) → ran.state ≡ s → ran.accepted ≡ so_far.accepted → entries ≡ [] → IsOf s so_far ran entries
ends s so_far ran entries state accepted none =
    let long : length entries ≡ 0 = ap length none in
    record { state = state ∙ sym (ap (λ (es : List Entry). state_from s (edits_of es)) none); accepted = omega (arith, accepted, long) }

goes_on : (s : State) (so_far : SoFar) (command : Command) (commands : List Command) (edit : Edit) (ran : Ran) (entries : List Entry) (it : Stepped) → step s edit ≡ it
    → ((next : State) (then : SoFar) (rest : List Entry) → IsRunFrom next then commands ran → AreAcceptedFrom next commands rest → IsOf next then ran rest)
    → IsAfter (λ next then. IsRunFrom next then commands ran) s so_far command.line it ran → AreBehind (λ next rest. AreAcceptedFrom next commands rest) command.line edit it entries → IsOf s so_far ran entries
goes_on s so_far command commands edit ran entries (Ok (next, done)) is goes run (rest, same, are) =
    let it = goes next (one_more so_far s next) rest run are in
    let accepted = it.accepted in
    let long : length entries ≡ suc (length rest) = ap length same in
    record {
      state = it.state
          ∙ sym (ap (λ (es : List Entry). state_from s (edits_of es)) same ∙ ap (λ (t : Stepped). state_from (state_after s t) (edits_of rest)) is);
      accepted = omega (arith, accepted, long);
    }
goes_on s so_far command commands edit ran entries (Err refusal) is goes run none =
    ends s so_far ran entries (ap (λ (r : Ran). r.state) run) (ap (λ (r : Ran). r.accepted) run) none

of_run : (s : State) (so_far : SoFar) (commands : List Command) (ran : Ran) (entries : List Entry) → IsRunFrom s so_far commands ran → AreAcceptedFrom s commands entries → IsOf s so_far ran entries
of_run s so_far [] ran entries run none = ends s so_far ran entries (ap (λ (r : Ran). r.state) run) (ap (λ (r : Ran). r.accepted) run) none
of_run s so_far (command ∷ commands) ran entries (inl (edit, gives, run)) (inl (other, says, are)) =
    goes_on s so_far command commands edit ran entries (step s edit) refl (λ next then rest r a. of_run next then commands ran rest r a) run
    (subst (λ (e : Edit). AreBehind (λ next rest. AreAcceptedFrom next commands rest) command.line e (step s e) entries) (one_edit command.words other edit says gives) are)
of_run s so_far (command ∷ commands) ran entries (inl (edit, gives, run)) (inr (at, bad, none)) = absurd (no_fault command.words edit at gives bad)
of_run s so_far (command ∷ commands) ran entries (inr (at, bad, run)) (inl (edit, gives, are)) = absurd (no_fault command.words edit at gives bad)
of_run s so_far (command ∷ commands) ran entries (inr (at, bad, run)) (inr (other, worse, none)) =
    ends s so_far ran entries (ap (λ (r : Ran). r.state) run) (ap (λ (r : Ran). r.accepted) run) none

pub run_of : (commands : List Command) (ran : Ran) (entries : List Entry) → IsRun no_state 0 commands ran → AreAccepted commands entries
    → (ran.state ≡ state_at (length entries) (edits_of entries)) × (ran.accepted ≡ length entries)
run_of commands ran entries run are =
    let it = of_run no_state (record { accepted = 0; made = [] }) commands ran entries run are in
    let long = length-map entries (λ (entry : Entry). entry.edit) in
    (it.state ∙ ap (state_from no_state) (sym (take_all (length entries) (edits_of entries) (omega (arith, long)))), (let accepted = it.accepted in omega (arith, accepted)))
