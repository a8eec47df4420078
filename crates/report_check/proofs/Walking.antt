-- The line of the next packet.
use Rattle.std.proofs.Common.{◌≡◌, ◌∙◌, ℕ, ◌+◌, ◌-◌, ◌^◌, ◌<◌, ◌≤◌, List, [], ◌∷◌, ◌++◌, length, Option, Some, None, refl, sym, ap, subst, arith}
use Rattle.std.specs.Prelude.{max, slice_get, IfSome}
use Rattle.tc_base.specs.declared.hook.Hook.{Hook}
use Rattle.filter_state.specs.declared.edit.Edit.{Edit}
use Rattle.filter_state.specs.Sound.{Each}
use Rattle.walk_rules.specs.Steps.{Standing, begun}
use Rattle.walk_rules.specs.Walks.{Outcome as WalkOutcome, outcome_of}
use Rattle.point_walks.specs.Visits.{IsWalkAt}
use Rattle.run_report.specs.declared.outcomes.Outcome.{Outcome}
use Rattle.run_report.specs.PacketTexts.{packet_line}
use Rattle.lawful_runs.specs.Given.{Arrival}
use Rattle.lawful_runs.specs.Points.{seen_by}
use Rattle.lawful_runs.specs.Lawful.{outcomes_in}
use Rattle.lawful_runs.proofs.Places.{each_from}
use Rattle.lawful_runs.proofs.Walks.{point_within}
use Rattle.report_laws.specs.Stands.{Stand, Takes}
use Rattle.report_laws.specs.OfWholePaths.FirstBadLines.{IsOpen}
use Rattle.report_laws.specs.OfNextLines.Walks.{answers_of, recorded_by, WalksAt}
use Rattle.report_laws.proofs.OfNextLines.Walked.{walked}
use Rattle.report_laws.proofs.OfNextLines.NextPackets.{is_walked}
use Rattle.report_laws.proofs.OfNextLines.NextOutcomes.{takes_walk, takes_walk_alone}
use Rattle.report_check.specs.OfReading.Packets.{IsSmall}
use Rattle.report_check.proofs.OfReading.PacketParts.{shows_packet}
use Rattle.report_check.specs.declared.events.cursor.Cursor.{Cursor}
use Rattle.journal_replay.specs.declared.replay.Replay.{Replay}
use Rattle.report_check.specs.OfEvents.Cursors.{IsNextLine, IsAt, MustBe}
use Rattle.report_check.proofs.OfEvents.Turning.{short_journal, unended}
use Rattle.report_check.specs.declared.walkers.Walkers.{Walkers}
use Rattle.report_check.specs.Walks.{ShowsWalk, WalksTo}
use Rattle.report_check.specs.declared.walker.Walker.{Walker}
use Rattle.report_check.specs.Walked.{IsWalker}
use Rattle.report_check.specs.Rounds.{ToldRound, journal_of, record_with, stand_with, IsNextPacket}
use Rattle.report_check.proofs.Stuck.{MayNot}

-- the walk that a line shows
record IsShown (told : ToldRound) (outcomes : List Outcome) (hook : Hook) (frame : List ℕ) (line : List ℕ) : Type 0 where
  worker : ℕ
  points : List ℕ
  ended : WalkOutcome
  end : Standing
  least : 1 ≤ worker
  most : worker ≤ told.loaded.job.workers
  walks : WalksTo (journal_of told) hook frame (max (length told.before) (seen_by worker (outcomes_in told.its ++ outcomes))) points end
  ended_is : outcome_of end ≡ Some ended
  text : line ≡ packet_line (1 + length outcomes) (recorded_by worker points ended)
  small : IsSmall (recorded_by worker points ended)

small_points : (journal : List Edit) (floor : ℕ) (arrival : Arrival) (worker : ℕ) (points : List ℕ) (ended : WalkOutcome) → length journal ≤ 262144 → WalksAt journal floor (length journal) arrival points ended → Each (λ (point : ℕ). point < 2 ^ 32) points
small_points journal floor arrival worker points ended few at =
    let it = is_walked journal floor (length journal) worker arrival points ended at in
    each_from (λ (point : ℕ). point < 2 ^ 32) points (λ place point is. let most = (point_within journal floor (length journal) arrival (recorded_by worker points ended) it place point is).1 in omega (arith, most, few))

-- a walk that has ended, with what it came to
pub record HasEnded (end : Standing) : Type 0 where
  pub ended : WalkOutcome
  pub is : outcome_of end ≡ Some ended

module _ (told : ToldRound) (bytes : List ℕ) (cursor : Cursor) (replay : Replay) (walkers : Walkers) (least place : ℕ) (hook : Hook) (frame : List ℕ) (it : IsNextPacket told bytes cursor replay walkers least place hook frame) where
  abbrev outcomes : List Outcome
  outcomes = it.walked.outcomes

  pub few_edits : length (journal_of told) ≤ 262144
  few_edits = short_journal told.loaded bytes cursor told.its told.before (record_with told outcomes) told.edits it.of.is_loaded it.walked.is_at

  pub is_open : IsOpen (stand_with told outcomes)
  is_open = unended told.its told.before (record_with told outcomes) told.edits

  pub arrives : slice_get told.round.arrivals (length outcomes) ≡ Some it.packet.arrival
  arrives = ap (slice_get told.round.arrivals) it.walked.place_is ∙ it.packet.there

  moved : (floor : ℕ) (points : List ℕ) (end : Standing) → IsWalkAt (answers_of (journal_of told)) it.packet.arrival.hook it.packet.arrival.packet.bytes (record { floor = floor; ceiling = length (journal_of told) }) points end
      → WalksTo (journal_of told) hook frame floor points end
  moved floor points end walks =
      subst (λ (bs : List ℕ). IsWalkAt (answers_of (journal_of told)) hook bs (record { floor = floor; ceiling = length (journal_of told) }) points end) it.packet.frame_is
      (subst (λ (h : Hook). IsWalkAt (answers_of (journal_of told)) h it.packet.arrival.packet.bytes (record { floor = floor; ceiling = length (journal_of told) }) points end) it.packet.hook_is walks)

  back : (floor : ℕ) (points : List ℕ) (end : Standing) → WalksTo (journal_of told) hook frame floor points end
      → IsWalkAt (answers_of (journal_of told)) it.packet.arrival.hook it.packet.arrival.packet.bytes (record { floor = floor; ceiling = length (journal_of told) }) points end
  back floor points end walks =
      subst (λ (h : Hook). IsWalkAt (answers_of (journal_of told)) h it.packet.arrival.packet.bytes (record { floor = floor; ceiling = length (journal_of told) }) points end) (sym it.packet.hook_is)
      (subst (λ (bs : List ℕ). IsWalkAt (answers_of (journal_of told)) hook bs (record { floor = floor; ceiling = length (journal_of told) }) points end) (sym it.packet.frame_is) walks)

  -- whatever line may come shows a walk
  shown : (line : List ℕ) (next : Stand) → Takes told.loaded (stand_with told outcomes) line next → IsShown told outcomes hook frame line
  shown line next takes =
      let alone = takes_walk_alone told.loaded told.round told.its told.before (record_with told outcomes) told.edits it.of.is_loaded it.of.there line next it.packet.arrival it.of.none arrives takes in
      let at = alone.3.walks in
      let floor = max (length told.before) (seen_by alone.0 (outcomes_in told.its ++ outcomes)) in
      let few = alone.3.most in
      let eight = it.of.is_loaded.job.1 in
      record {
        worker = alone.0;
        points = alone.1;
        ended = alone.2;
        end = at.end;
        least = alone.3.least;
        most = alone.3.most;
        walks = moved floor alone.1 at.end (record { stands = at.stands; over = at.over; lawful = at.lawful });
        ended_is = at.outcome;
        text = alone.4;
        small = record { worker = omega (arith, few, eight); points = small_points (journal_of told) floor it.packet.arrival alone.0 alone.1 alone.2 few_edits at };
      }

  -- a line that shows no worker isn't taken, nor one whose worker there isn't
  pub none_shown : (points : List ℕ) → ShowsWalk bytes cursor None points → MayNot told.loaded bytes cursor (stand_with told outcomes)
  none_shown points shows line next is_next takes =
      let it = shown line next takes in
      let both = shows line (1 + length outcomes) it.worker it.points is_next (shows_packet line (1 + length outcomes) (recorded_by it.worker it.points it.ended) it.small it.text) in
      cc both.0

  same_worker : (one other : ℕ) → ◌≡◌ {A = Option ℕ} (Some one) (Some other) → one ≡ other
  same_worker one other is = cc

  pub no_worker : (worker : ℕ) (points : List ℕ) → ShowsWalk bytes cursor (Some worker) points → (1 ≤ worker → worker ≤ told.loaded.job.workers → ⊥) → MayNot told.loaded bytes cursor (stand_with told outcomes)
  no_worker worker points shows never line next is_next takes =
      let it = shown line next takes in
      let both = shows line (1 + length outcomes) it.worker it.points is_next (shows_packet line (1 + length outcomes) (recorded_by it.worker it.points it.ended) it.small it.text) in
      let same = same_worker worker it.worker both.0 in
      let least = it.least in
      let most = it.most in
      never (omega (arith, same, least)) (omega (arith, same, most))

  -- what is shown is a walk at the points that are read
  walks_shown : (worker floor : ℕ) (points : List ℕ) → ShowsWalk bytes cursor (Some worker) points → floor ≡ max (length told.before) (seen_by worker (outcomes_in told.its ++ outcomes)) → (line : List ℕ) (next : Stand) → IsNextLine bytes cursor line
      → Takes told.loaded (stand_with told outcomes) line next
      → (end : Standing) × (ended : WalkOutcome) × WalksTo (journal_of told) hook frame floor points end × (outcome_of end ≡ Some ended) × (line ≡ packet_line (1 + length outcomes) (recorded_by worker points ended))
  walks_shown worker floor points shows floor_is line next is_next takes =
      let it = shown line next takes in
      let both = shows line (1 + length outcomes) it.worker it.points is_next (shows_packet line (1 + length outcomes) (recorded_by it.worker it.points it.ended) it.small it.text) in
      let by = same_worker worker it.worker both.0 in
      let floors : floor ≡ max (length told.before) (seen_by it.worker (outcomes_in told.its ++ outcomes)) = floor_is ∙ ap (λ (w : ℕ). max (length told.before) (seen_by w (outcomes_in told.its ++ outcomes))) by in (
        it.end,
        it.ended,
        subst (λ (f : ℕ). WalksTo (journal_of told) hook frame f points it.end) (sym floors) (subst (λ (ps : List ℕ). WalksTo (journal_of told) hook frame (max (length told.before) (seen_by it.worker (outcomes_in told.its ++ outcomes))) ps it.end) (sym both.1) it.walks),
        it.ended_is,
        it.text ∙ ap (λ (w : ℕ). packet_line (1 + length outcomes) (recorded_by w it.points it.ended)) (sym by) ∙ ap (λ (ps : List ℕ). packet_line (1 + length outcomes) (recorded_by worker ps it.ended)) (sym both.1),
      )

  pub no_walk : (worker floor : ℕ) (points : List ℕ) → ShowsWalk bytes cursor (Some worker) points → floor ≡ max (length told.before) (seen_by worker (outcomes_in told.its ++ outcomes))
      → ((end : Standing) → WalksTo (journal_of told) hook frame floor points end → ⊥) → MayNot told.loaded bytes cursor (stand_with told outcomes)
  no_walk worker floor points shows floor_is never line next is_next takes =
      let it = walks_shown worker floor points shows floor_is line next is_next takes in
      never it.0 it.2

  -- ---- the walk that was found
  pub has_ended : (floor : ℕ) (points : List ℕ) (end : Standing) → WalksTo (journal_of told) hook frame floor points end → HasEnded end
  has_ended floor points end walks =
      let it = walked (journal_of told) (begun hook frame) end points refl refl walks.stands walks.over in
      record { ended = it.walk; is = it.outcome }

  pub walks_here : (worker floor : ℕ) (points : List ℕ) (end : Standing) (ended : WalkOutcome) → floor ≡ max (length told.before) (seen_by worker (outcomes_in told.its ++ outcomes))
      → WalksTo (journal_of told) hook frame floor points end → outcome_of end ≡ Some ended
      → WalksAt (journal_of told) (max (length told.before) (seen_by worker (outcomes_in told.its ++ outcomes))) (length (journal_of told)) it.packet.arrival points ended
  walks_here worker floor points end ended floor_is walks is =
      let at = back floor points end walks in
      subst (λ (f : ℕ). WalksAt (journal_of told) f (length (journal_of told)) it.packet.arrival points ended) floor_is (record { end = end; stands = at.stands; over = at.over; outcome = is; lawful = at.lawful })

  takes_here : (worker floor : ℕ) (points : List ℕ) (end : Standing) (ended : WalkOutcome) → 1 ≤ worker → worker ≤ told.loaded.job.workers → floor ≡ max (length told.before) (seen_by worker (outcomes_in told.its ++ outcomes))
      → WalksTo (journal_of told) hook frame floor points end → outcome_of end ≡ Some ended
      → Takes told.loaded (stand_with told outcomes) (packet_line (1 + length outcomes) (recorded_by worker points ended)) (stand_with told (outcomes ++ (recorded_by worker points ended ∷ [])))
  takes_here worker floor points end ended low high floor_is walks is =
      takes_walk told.loaded told.round told.its told.before (record_with told outcomes) told.edits it.of.is_loaded it.of.there worker it.packet.arrival points ended it.of.order (record {
        there = arrives;
        least = low;
        most = high;
        walks = walks_here worker floor points end ended floor_is walks is;
      })

  -- its line may come
  pub at_walk : (worker floor : ℕ) (points : List ℕ) (end : Standing) (ended : WalkOutcome) → 1 ≤ worker → worker ≤ told.loaded.job.workers → floor ≡ max (length told.before) (seen_by worker (outcomes_in told.its ++ outcomes))
      → WalksTo (journal_of told) hook frame floor points end → outcome_of end ≡ Some ended → (text : List ℕ) → text ≡ packet_line (place + 1) (recorded_by worker points ended) → (now : Cursor)
      → ((stand next : Stand) → IsAt told.loaded bytes cursor stand → Takes told.loaded stand text next → IsAt told.loaded bytes now next)
      → IsAt told.loaded bytes now (stand_with told (outcomes ++ (recorded_by worker points ended ∷ [])))
  at_walk worker floor points end ended low high floor_is walks is text text_is now moves =
      let numbers : 1 + length outcomes ≡ place + 1 = (let same = it.walked.place_is in omega (arith, same)) in
      let same : packet_line (1 + length outcomes) (recorded_by worker points ended) ≡ text = ap (λ (n : ℕ). packet_line n (recorded_by worker points ended)) numbers ∙ sym text_is in
      moves (stand_with told outcomes) (stand_with told (outcomes ++ (recorded_by worker points ended ∷ []))) it.walked.is_at
      (subst (λ (t : List ℕ). Takes told.loaded (stand_with told outcomes) t (stand_with told (outcomes ++ (recorded_by worker points ended ∷ [])))) same (takes_here worker floor points end ended low high floor_is walks is))

  same_end : (one other : Standing) (a b : WalkOutcome) → one ≡ other → outcome_of one ≡ Some a → outcome_of other ≡ Some b → a ≡ b
  same_end one other a b same first second = let both : ◌≡◌ {A = Option WalkOutcome} (Some a) (Some b) = sym first ∙ ap outcome_of same ∙ second in cc both

  -- and no other line of these points
  pub must_be : (worker floor : ℕ) (points : List ℕ) (end : Standing) (ended : WalkOutcome) → ShowsWalk bytes cursor (Some worker) points → floor ≡ max (length told.before) (seen_by worker (outcomes_in told.its ++ outcomes))
      → WalksTo (journal_of told) hook frame floor points end → outcome_of end ≡ Some ended → (text : List ℕ) → text ≡ packet_line (place + 1) (recorded_by worker points ended) → MustBe told.loaded bytes cursor (stand_with told outcomes) text
  must_be worker floor points end ended shows floor_is walks is text text_is = λ line next is_next takes.
      let other = walks_shown worker floor points shows floor_is line next is_next takes in
      let numbers : 1 + length outcomes ≡ place + 1 = (let same = it.walked.place_is in omega (arith, same)) in
      let ends : other.0 ≡ end = (let both : ◌≡◌ {A = Option Standing} (Some other.0) (Some end) = sym other.2.stands ∙ walks.stands in cc both) in
      let same : other.1 ≡ ended = same_end other.0 end other.1 ended ends other.3 is in
      other.4 ∙ ap (λ (w : WalkOutcome). packet_line (1 + length outcomes) (recorded_by worker points w)) same ∙ ap (λ (n : ℕ). packet_line n (recorded_by worker points ended)) numbers ∙ sym text_is

  -- ---- the worker
  own_number : (worker : ℕ) → 1 ≤ worker → worker - 1 + 1 ≡ worker
  own_number worker low = omega (arith, low)

  pub walker_of : (worker : ℕ) (walker : Walker) → 1 ≤ worker → slice_get walkers.each.items (worker - 1) ≡ Some walker → IsWalker (journal_of told) (outcomes_in told.its ++ outcomes) worker walker
  walker_of worker walker low there =
      subst (λ (n : ℕ). IsWalker (journal_of told) (outcomes_in told.its ++ outcomes) n walker) (own_number worker low) (it.walked.are.stand (worker - 1) walker there)

  pub floor_of : (worker : ℕ) (walker : Walker) → 1 ≤ worker → slice_get walkers.each.items (worker - 1) ≡ Some walker → max least walker.seen ≡ max (length told.before) (seen_by worker (outcomes_in told.its ++ outcomes))
  floor_of worker walker low there = ap (λ (n : ℕ). max n walker.seen) it.before_is ∙ ap (λ (n : ℕ). max (length told.before) n) (walker_of worker walker low there).seen

  pub worker_most : (worker : ℕ) → 1 ≤ worker → worker - 1 < length walkers.each.items → worker ≤ told.loaded.job.workers
  worker_most worker low less = let many = it.walked.are.many in omega (arith, low, less, many)

pub some_holds : {X : Type 0} (P : X → Type 0) (o : Option X) (x : X) → o ≡ Some x → IfSome o P → P x
some_holds P None x is holds = absurd (cc is)
some_holds P (Some y) x is holds = let same : y ≡ x = cc is in subst P same holds
