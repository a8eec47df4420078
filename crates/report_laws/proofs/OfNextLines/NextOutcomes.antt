-- Which lines may come next in a round whose events are all told.
use Rattle.std.proofs.Common.{◌≡◌, ◌∙◌, ℕ, zero, suc, ◌+◌, ◌<◌, ◌≤◌, List, [], ◌∷◌, ◌++◌, length, Some, None, refl, sym, ap, subst, arith, ◌⊎◌, inl, inr}
use Rattle.std.specs.Prelude.{max, codes}
use Rattle.std.specs.List.{slice_get}
use Rattle.filter_state.specs.declared.edit.Edit.{Edit}
use Rattle.filter_state.specs.Sound.{Each}
use Rattle.walk_rules.specs.Walks.{Outcome as WalkOutcome}
use Rattle.run_report.specs.declared.outcomes.Outcome.{Outcome}
use Rattle.run_report.specs.declared.rounds.RoundRecord.{RoundRecord}
use Rattle.run_report.specs.PacketTexts.{packet_line}
use Rattle.run_report.specs.Reports.{numbered_line}
use Rattle.lawful_runs.specs.declared.loaded.LoadedJob.{LoadedJob}
use Rattle.lawful_runs.specs.Given.{Arrival, GivenRound, IsLoaded, given_rounds}
use Rattle.lawful_runs.specs.Points.{seen_by}
use Rattle.lawful_runs.specs.Outcomes.{IsWalked}
use Rattle.lawful_runs.specs.Events.{AreInOrder}
use Rattle.lawful_runs.specs.Lawful.{outcomes_in}
use Rattle.filter_state.proofs.Places.{each_at}
use Rattle.report_laws.specs.OfNextLines.Left.{NoneLeft}
use Rattle.report_laws.specs.OfNextLines.Walks.{recorded_by, WalksAt, floor_for, IsNextWalk}
use Rattle.report_laws.specs.Stands.{Stand, inside, with_outcome, settled, IsNextEvent, Takes, TakesEvent, TakesPacket, TakesEnd}
use Rattle.lawful_runs.proofs.GivenCommands.{AreGiven, all_given}
use Rattle.report_laws.proofs.OfNextLines.Next.{only_these}
use Rattle.report_laws.proofs.OfNextLines.NextPackets.{is_walked, walks_at}

within : {X : Type 0} (xs : List X) (n : ℕ) (x : X) → slice_get xs n ≡ Some x → n < length xs
within [] n x is = absurd (cc is)
within (y ∷ xs) zero x is = omega arith
within (y ∷ xs) (suc n) x is = let rest = within xs n x is in omega (arith, rest)

module _ (loaded : LoadedJob) (round : GivenRound) (its : List RoundRecord) (before : List Edit) (it : RoundRecord) (edits : List Edit) (is : IsLoaded loaded) (there : slice_get (given_rounds loaded) (length its) ≡ Some round) where
  given : AreGiven round.batches
  given = each_at (λ (g : GivenRound). AreGiven g.batches) (given_rounds loaded) (length its) round (all_given loaded is.job) there

  same_round : (other : GivenRound) → slice_get (given_rounds loaded) (length its) ≡ Some other → other ≡ round
  same_round other here = cc

  no_event : NoneLeft round.batches it.events → (line : List ℕ) (next : Stand) → TakesEvent round its before it edits line next → ⊥
  no_event none line next takes =
      let next_is = only_these round before it edits takes.event takes.own given takes.is_next in
      cc (sym (none next_is.batch next_is.given) ∙ next_is.next)

  -- the walk of the next packet at lawful points may come next
  pub takes_walk : (worker : ℕ) (arrival : Arrival) (points : List ℕ) (walk : WalkOutcome) → AreInOrder round.batches it.events → IsNextWalk loaded.job.workers round its before it edits worker arrival points walk
      → Takes loaded (inside its before it edits) (packet_line (1 + length it.outcomes) (recorded_by worker points walk)) (inside its before (with_outcome it (recorded_by worker points walk)) edits)
  takes_walk worker arrival points walk order next = (
    round,
    there,
    inr (inl (record {
      outcome = recorded_by worker points walk;
      is_next = record {
        arrival = arrival;
        all = order;
        there = next.there;
        least = next.least;
        most = next.most;
        walked = is_walked (before ++ edits) (floor_for its before it worker) (length (before ++ edits)) worker arrival points walk next.walks;
      };
      text = refl;
      then = refl;
    })),
  )

  -- as long as a packet is left, nothing else may
  pub takes_walk_alone : (line : List ℕ) (next : Stand) (arrival : Arrival) → NoneLeft round.batches it.events → slice_get round.arrivals (length it.outcomes) ≡ Some arrival → Takes loaded (inside its before it edits) line next
      → (worker : ℕ) × (points : List ℕ) × (walk : WalkOutcome) × IsNextWalk loaded.job.workers round its before it edits worker arrival points walk
      × (line ≡ packet_line (1 + length it.outcomes) (recorded_by worker points walk)) × (next ≡ inside its before (with_outcome it (recorded_by worker points walk)) edits)
  takes_walk_alone line next arrival none left (other, here, inl takes) =
      absurd (no_event none line next (subst (λ (r : GivenRound). TakesEvent r its before it edits line next) (same_round other here) takes))
  takes_walk_alone line next arrival none left (other, here, inr (inl takes)) =
      let mine : TakesPacket loaded round its before it edits line next = subst (λ (r : GivenRound). TakesPacket loaded r its before it edits line next) (same_round other here) takes in
      let n = mine.is_next in
      let outcome : Outcome = mine.outcome in
      let one : n.arrival ≡ arrival = let a = n.there in cc in
      let walked : IsWalked (before ++ edits) (floor_for its before it outcome.worker) (length (before ++ edits)) arrival outcome =
      subst (λ (a : Arrival). IsWalked (before ++ edits) (floor_for its before it outcome.worker) (length (before ++ edits)) a outcome) one n.walked in
      let at = walks_at (before ++ edits) (floor_for its before it outcome.worker) (length (before ++ edits)) arrival outcome walked in (
        outcome.worker,
        outcome.points,
        at.0,
        record { there = left; least = n.least; most = n.most; walks = at.1 },
        mine.text ∙ ap (packet_line (1 + length it.outcomes)) at.2,
        mine.then ∙ ap (λ (o : Outcome). inside its before (with_outcome it o) edits) at.2,
      )
  takes_walk_alone line next arrival none left (other, here, inr (inr takes)) =
      let mine : TakesEnd loaded round its before it edits line next = subst (λ (r : GivenRound). TakesEnd loaded r its before it edits line next) (same_round other here) takes in
      let each = mine.whole.each in
      let less = within round.arrivals (length it.outcomes) arrival left in
      absurd (omega (arith, each, less))

  -- and behind the last packet the round's end alone
  pub takes_end_alone : (line : List ℕ) (next : Stand) → NoneLeft round.batches it.events → length it.outcomes ≡ length round.arrivals → Takes loaded (inside its before it edits) line next
      → (line ≡ numbered_line (codes "end round ") (length its + 1)) × (next ≡ settled loaded (its ++ (it ∷ [])) (before ++ edits))
  takes_end_alone line next none all (other, here, inl takes) =
      absurd (no_event none line next (subst (λ (r : GivenRound). TakesEvent r its before it edits line next) (same_round other here) takes))
  takes_end_alone line next none all (other, here, inr (inl takes)) =
      let mine : TakesPacket loaded round its before it edits line next = subst (λ (r : GivenRound). TakesPacket loaded r its before it edits line next) (same_round other here) takes in
      let less = within round.arrivals (length it.outcomes) mine.is_next.arrival mine.is_next.there in
      absurd (omega (arith, all, less))
  takes_end_alone line next none all (other, here, inr (inr takes)) = (takes.text, takes.then)
