-- Which lines may come next in a round.
use Rattle.std.proofs.Common.{◌≡◌, ◌∙◌, ℕ, ◌+◌, List, [], ◌∷◌, ◌++◌, length, Some, None, refl, sym, ap, subst, ◌⊎◌, inl, inr}
use Rattle.std.specs.List.{slice_get}
use Rattle.filter_state.specs.declared.edit.Edit.{Edit}
use Rattle.filter_state.specs.Sound.{Each}
use Rattle.run_report.specs.declared.events.Event.{Event}
use Rattle.run_report.specs.declared.rounds.RoundRecord.{RoundRecord}
use Rattle.run_report.specs.Counts.{accepted_count, edits_in}
use Rattle.run_report.specs.EventTexts.{event_line}
use Rattle.lawful_runs.specs.declared.loaded.LoadedJob.{LoadedJob}
use Rattle.lawful_runs.specs.Given.{GivenRound, IsLoaded, given_rounds}
use Rattle.lawful_runs.specs.Events.{AreInOrder}
use Rattle.filter_state.proofs.Places.{each_at}
use Rattle.report_laws.specs.Begun.{AreBegun}
use Rattle.report_laws.specs.OfNextLines.Left.{IsLeft, NoneLeft}
use Rattle.report_laws.specs.Stands.{Stand, start, inside, with_event, Takes, TakesIn, TakesPacket, TakesEnd, IsNextEvent, IsPath}
use Rattle.report_laws.specs.OfNextLines.Left.{IsNextOf}
use Rattle.lawful_runs.proofs.GivenCommands.{AreGiven, all_given}
use Rattle.report_laws.proofs.OfNextLines.Next.{all_told, not_all_told, may_come, only_these}

module _ (loaded : LoadedJob) (round : GivenRound) (its : List RoundRecord) (before : List Edit) (it : RoundRecord) (edits : List Edit) (is : IsLoaded loaded) (there : slice_get (given_rounds loaded) (length its) ≡ Some round) where
  given : AreGiven round.batches
  given = each_at (λ (g : GivenRound). AreGiven g.batches) (given_rounds loaded) (length its) round (all_given loaded is.job) there

  -- a control's next command, with its result, may come next
  pub takes_next : (event : Event) (own : List Edit) → it.outcomes ≡ [] → AreBegun round.batches it.events → IsNextOf round before it edits event own
      → Takes loaded (inside its before it edits) (event_line (edits_in its + accepted_count it.events) event) (inside its before (with_event it event) (edits ++ own))
  takes_next event own unwalked begun next =
      (round, there, inl (record { event = event; own = own; is_next = may_come round before it edits event own given unwalked begun next; text = refl; then = refl }))

  -- as long as a control has a command left, nothing else may
  pub takes_no_other : (line : List ℕ) (next : Stand) → IsLeft round.batches it.events → Takes loaded (inside its before it edits) line next
      → (event : Event) × (own : List Edit) × IsNextOf round before it edits event own × (line ≡ event_line (edits_in its + accepted_count it.events) event) × (next ≡ inside its before (with_event it event) (edits ++ own))
  takes_no_other line next left (other, here, inl takes) =
      let same : other ≡ round = cc in
      (takes.event, takes.own, only_these round before it edits takes.event takes.own given (subst (λ (r : GivenRound). IsNextEvent r before it edits takes.event takes.own) same takes.is_next), takes.text, takes.then)
  takes_no_other line next left (other, here, inr (inl takes)) =
      let same : other ≡ round = cc in
      absurd (not_all_told round.batches it.events left (subst (λ (r : GivenRound). AreInOrder r.batches it.events) same takes.is_next.all))
  takes_no_other line next left (other, here, inr (inr takes)) =
      let same : other ≡ round = cc in
      absurd (not_all_told round.batches it.events left (subst (λ (r : GivenRound). AreInOrder r.batches it.events) same takes.whole.all))
