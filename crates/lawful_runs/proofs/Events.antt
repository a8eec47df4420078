-- The result of each event of a run, on the state before it.
use Rattle.std.proofs.Common.{◌≡◌, ◌∙◌, ℕ, zero, suc, ◌+◌, List, [], ◌∷◌, ◌++◌, length, take, drop, Some, refl, sym, ap, subst, append_assoc, arith}
use Rattle.std.specs.List.{slice_get}
use Rattle.std.specs.Prelude.{if◌then◌else◌}
use Rattle.std.proofs.Math.Seq.{take-append_seam, drop-append_seam}
use Rattle.std.proofs.lemmas.List.{length-append}
use Rattle.std.proofs.lemmas.List.Sums.{sum_by-cons}
use Rattle.filter_state.specs.declared.edit.Edit.{Edit}
use Rattle.filter_state.specs.States.{State, no_state}
use Rattle.filter_state.specs.Steps.{Stepped, step}
use Rattle.filter_state.specs.Journals.{state_after, state_from, state_at}
use Rattle.run_report.specs.declared.events.Event.{Event}
use Rattle.run_report.specs.declared.events.EventKind.{EventKind}
use Rattle.run_report.specs.declared.events.EventKind.TheVariants as kinds
use Rattle.run_report.specs.declared.rounds.RoundRecord.{RoundRecord}
use Rattle.run_report.specs.Counts.{is_accepted, accepted_count, edits_in}
use Rattle.lawful_runs.specs.Given.{GivenBatch, GivenRound}
use Rattle.lawful_runs.specs.Events.{IsLineOf, IsResult, AreResults, IsMetAt}
use Rattle.lawful_runs.specs.Lawful.{AreRounds}
use Rattle.lawful_runs.proofs.Results.{result_counted}
use Rattle.lawful_runs.proofs.Played.{played_at}

-- ---- states behind edits
pub state_from-append : (s : State) (edits more : List Edit) → state_from s (edits ++ more) ≡ state_from (state_from s edits) more
state_from-append s [] more = refl
state_from-append s (edit ∷ edits) more = state_from-append (state_after s (step s edit)) edits more

pub leads : (s : State) (words : List (List ℕ)) (kind : EventKind) (next : State) (first : List Edit) → IsResult s words kind next first → state_from s first ≡ next
leads s words (kinds.Accepted done) next first (edit, gives, stepped, is) = ap (state_from s) is ∙ ap (λ (after : Stepped). state_after s after) stepped
leads s words (kinds.Refused refusal) next first (edit, gives, stepped, same, is) = ap (state_from s) is ∙ sym same
leads s words (kinds.Syntax word) next first (bad, same, is) = ap (state_from s) is ∙ sym same

-- ---- an event of some
-- the edits before it, its own, and the rest
pub record HasResult (batches : List GivenBatch) (s : State) (edits : List Edit) (event : Event) (count : ℕ) : Type 0 where
  pub words : List (List ℕ)
  pub next : State
  pub before : List Edit
  pub own : List Edit
  pub rest : List Edit
  pub line : IsLineOf batches event words
  pub result : IsResult (state_from s before) words event.kind next own
  pub whole : edits ≡ before ++ (own ++ rest)
  pub counted : length before ≡ count

result_at : (batches : List GivenBatch) (s : State) (events : List Event) (edits : List Edit) (place : ℕ) (event : Event) → AreResults batches s events edits → slice_get events place ≡ Some event
    → HasResult batches s edits event (accepted_count (take place events))
result_at batches s [] edits place event are is = absurd (cc is)
result_at batches s (first ∷ events) edits zero event (words, next, own, rest, line, result, more, whole) is =
    let same : first ≡ event = cc in
    record {
      words = words;
      next = next;
      before = [];
      own = own;
      rest = rest;
      line = subst (λ (e : Event). IsLineOf batches e words) same line;
      result = subst (λ (e : Event). IsResult s words e.kind next own) same result;
      whole = whole;
      counted = refl;
    }
result_at batches s (first ∷ events) edits (suc place) event (words, next, own, rest, line, result, more, whole) is =
    let later = result_at batches next events rest place event more is in
    let here = leads s words first.kind next own result in
    let one = result_counted s words first.kind next own result in
    let both = length-append own later.before in
    let others = later.counted in
    let counts : accepted_count (first ∷ take place events) ≡ (if is_accepted first.kind then 1 else 0) + accepted_count (take place events) =
    sum_by-cons (λ (e : Event). if is_accepted e.kind then 1 else 0) first (take place events) in
    record {
      words = later.words;
      next = later.next;
      before = own ++ later.before;
      own = later.own;
      rest = later.rest;
      line = later.line;
      result = subst (λ (state : State). IsResult state later.words event.kind later.next later.own)
          (sym (state_from-append s own later.before ∙ ap (λ (state : State). state_from state later.before) here)) later.result;
      whole = whole ∙ ap (λ (es : List Edit). own ++ es) later.whole ∙ sym (append_assoc own later.before (later.own ++ later.rest));
      counted = omega (arith, one, both, others, counts);
    }

-- ---- in the journal of a run
-- what stands between the edits before an event and those behind its round
regrouped : (start before own rest last : List Edit) → (start ++ (before ++ (own ++ rest))) ++ last ≡ (start ++ before) ++ (own ++ (rest ++ last))
regrouped start before own rest last = simp append_assoc

met_at : (batches : List GivenBatch) (start edits last journal : List Edit) (event : Event) (count point : ℕ) → journal ≡ (start ++ edits) ++ last → length start + count ≡ point
    → HasResult batches (state_from no_state start) edits event count → IsMetAt journal point batches event
met_at batches start edits last journal event count point whole sum has =
    let front : List Edit = start ++ has.before in
    let back : List Edit = has.own ++ (has.rest ++ last) in
    let split : journal ≡ front ++ back = whole ∙ ap (λ (es : List Edit). (start ++ es) ++ last) has.whole ∙ regrouped start has.before has.own has.rest last in
    let long = length-append start has.before in
    let counted = has.counted in
    let at : point ≡ length front = omega (arith, long, counted, sum) in
    let taken : take point journal ≡ front = ap (λ (n : ℕ). take n journal) at ∙ ap (take (length front)) split ∙ take-append_seam front back in
    let left : drop point journal ≡ back = ap (λ (n : ℕ). drop n journal) at ∙ ap (drop (length front)) split ∙ drop-append_seam front back in
    let state : state_at point journal ≡ state_from (state_from no_state start) has.before = ap (state_from no_state) taken ∙ state_from-append no_state start has.before in
    record {
      words = has.words;
      next = has.next;
      own = has.own;
      rest = has.rest ++ last;
      line = has.line;
      result = subst (λ (s : State). IsResult s has.words event.kind has.next has.own) (sym state) has.result;
      behind = left;
    }

pub event_met : (workers : ℕ) (rounds : List GivenRound) (its : List RoundRecord) (journal : List Edit) (round place : ℕ) (given : GivenRound) (it : RoundRecord) (event : Event)
    → AreRounds workers rounds [] [] its journal → slice_get rounds round ≡ Some given → slice_get its round ≡ Some it → slice_get it.events place ≡ Some event
    → IsMetAt journal (edits_in (take round its) + accepted_count (take place it.events)) given.batches event
event_met workers rounds its journal round place given it event are here is at =
    let played = played_at workers rounds [] [] its journal round it are is in
    let same : played.round ≡ given = let there = played.there in cc in
    let count = played.count in
    subst (λ (g : GivenRound). IsMetAt journal (edits_in (take round its) + accepted_count (take place it.events)) g.batches event) same
    (met_at played.round.batches played.start played.edits played.rest journal event (accepted_count (take place it.events)) (edits_in (take round its) + accepted_count (take place it.events))
    played.whole (omega (arith, count)) (result_at played.round.batches (state_from no_state played.start) it.events played.edits place event played.lawful.results at))
