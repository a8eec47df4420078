-- One round more at the end of a run.
use Rattle.std.proofs.Common.{ℕ, List, [], ◌∷◌, ◌++◌, sym, ap, subst, append_assoc, append-nil}
use Rattle.filter_state.specs.declared.edit.Edit.{Edit}
use Rattle.run_report.specs.declared.outcomes.Outcome.{Outcome}
use Rattle.run_report.specs.declared.rounds.RoundRecord.{RoundRecord}
use Rattle.lawful_runs.specs.Given.{GivenRound}
use Rattle.lawful_runs.specs.Lawful.{IsRound, AreRounds, outcomes_in}

pub rounds_further : (workers : ℕ) (rounds : List GivenRound) (round : GivenRound) (before : List Edit) (earlier : List Outcome) (its : List RoundRecord)
    (it : RoundRecord) (journal edits : List Edit)
    → AreRounds workers rounds before earlier its journal → IsRound workers round journal (earlier ++ outcomes_in its) it edits
    → AreRounds workers (rounds ++ round ∷ []) before earlier (its ++ it ∷ []) (journal ++ edits)
rounds_further workers [] round before earlier [] it journal edits same one = (
  edits,
  subst (λ (seen : List Outcome). IsRound workers round before seen it edits) (append-nil earlier)
      (subst (λ (es : List Edit). IsRound workers round es (earlier ++ []) it edits) same one),
  ap (λ (es : List Edit). es ++ edits) same,
)
rounds_further workers [] round before earlier (first ∷ its) it journal edits are one = absurd are
rounds_further workers (next ∷ rounds) round before earlier [] it journal edits are one = absurd are
rounds_further workers (next ∷ rounds) round before earlier (first ∷ its) it journal edits (own, here, more) one = (
  own,
  here,
  rounds_further workers rounds round (before ++ own) (earlier ++ first.outcomes) its it journal edits more
      (subst (λ (seen : List Outcome). IsRound workers round journal seen it edits) (sym (append_assoc earlier first.outcomes (outcomes_in its))) one),
)
