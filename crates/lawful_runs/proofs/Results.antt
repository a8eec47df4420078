-- The edits of a round's events: the state accepts them one after the other, and they are as many as accepted
-- events.
use Rattle.std.proofs.Common.{◌≡◌, ◌∙◌, ℕ, ◌+◌, List, [], ◌∷◌, ◌++◌, length, sym, ap, subst, arith}
use Rattle.std.specs.Prelude.{if◌then◌else◌}
use Rattle.std.proofs.lemmas.List.{length-append}
use Rattle.std.proofs.lemmas.List.Sums.{sum_by-cons}
use Rattle.filter_state.specs.declared.edit.Edit.{Edit}
use Rattle.filter_state.specs.States.{State}
use Rattle.filter_state.specs.Journals.{IsLawfulFrom}
use Rattle.line_range_laws.proofs.Lines.{says}
use Rattle.run_report.specs.declared.events.Event.{Event}
use Rattle.run_report.specs.declared.events.EventKind.{EventKind}
use Rattle.run_report.specs.declared.events.EventKind.TheVariants as kinds
use Rattle.run_report.specs.Counts.{is_accepted, accepted_count}
use Rattle.lawful_runs.specs.Given.{GivenBatch}
use Rattle.lawful_runs.specs.Events.{IsResult, AreResults}
use Rattle.lawful_runs.proofs.Journals.{lawful_cons}

-- ---- one event, and those behind it
result_lawful : (s : State) (words : List (List ℕ)) (kind : EventKind) (next : State) (first rest : List Edit) → IsResult s words kind next first → IsLawfulFrom next rest → IsLawfulFrom s (first ++ rest)
result_lawful s words (kinds.Accepted done) next first rest (edit, gives, stepped, is) after =
    subst (λ (edits : List Edit). IsLawfulFrom s (edits ++ rest)) (sym is) (lawful_cons s next done edit rest (says words edit gives) stepped after)
result_lawful s words (kinds.Refused refusal) next first rest (edit, gives, stepped, same, is) after =
    subst (λ (edits : List Edit). IsLawfulFrom s (edits ++ rest)) (sym is) (subst (λ (state : State). IsLawfulFrom state rest) same after)
result_lawful s words (kinds.Syntax word) next first rest (bad, same, is) after =
    subst (λ (edits : List Edit). IsLawfulFrom s (edits ++ rest)) (sym is) (subst (λ (state : State). IsLawfulFrom state rest) same after)

pub result_counted : (s : State) (words : List (List ℕ)) (kind : EventKind) (next : State) (first : List Edit) → IsResult s words kind next first → length first ≡ (if is_accepted kind then 1 else 0)
result_counted s words (kinds.Accepted done) next first (edit, gives, stepped, is) = ap length is
result_counted s words (kinds.Refused refusal) next first (edit, gives, stepped, same, is) = ap length is
result_counted s words (kinds.Syntax word) next first (bad, same, is) = ap length is

-- ---- all events of a round
pub results_lawful : (batches : List GivenBatch) (s : State) (events : List Event) (edits : List Edit) → AreResults batches s events edits → IsLawfulFrom s edits
results_lawful batches s [] edits is = subst (IsLawfulFrom s) (sym is) tt
results_lawful batches s (event ∷ events) edits (words, next, first, rest, line, result, more, is) =
    subst (IsLawfulFrom s) (sym is) (result_lawful s words event.kind next first rest result (results_lawful batches next events rest more))

pub results_counted : (batches : List GivenBatch) (s : State) (events : List Event) (edits : List Edit) → AreResults batches s events edits → length edits ≡ accepted_count events
results_counted batches s [] edits is = ap length is
results_counted batches s (event ∷ events) edits (words, next, first, rest, line, result, more, is) =
    let one = result_counted s words event.kind next first result in
    let others = results_counted batches next events rest more in
    let whole : length edits ≡ length first + length rest = ap length is ∙ length-append first rest in
    let counts : accepted_count (event ∷ events) ≡ (if is_accepted event.kind then 1 else 0) + accepted_count events =
    sum_by-cons (λ (e : Event). if is_accepted e.kind then 1 else 0) event events in
    omega (arith, one, others, whole, counts)
