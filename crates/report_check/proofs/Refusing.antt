-- Why the line of the next packet may not come.
use Rattle.std.proofs.Common.{◌≡◌, ◌∙◌, ℕ, ◌+◌, ◌≤◌, Bool, true, false, List, ◌++◌, length, Option, Some, None, Ok, Err, refl, sym, ap, subst, arith, inl, inr}
use Rattle.std.specs.Prelude.{max, Result, IfOk}
use Rattle.tc_base.specs.declared.hook.Hook.{Hook}
use Rattle.filter_state.specs.declared.edit.Edit.{Edit}
use Rattle.walk_rules.specs.Steps.{Standing}
use Rattle.walk_rules.specs.Walks.{Outcome as WalkOutcome, outcome_of}
use Rattle.point_walks.specs.Faults.{IsFault}
use Rattle.run_report.specs.PacketTexts.{packet_line}
use Rattle.lawful_runs.specs.Points.{seen_by}
use Rattle.lawful_runs.specs.Lawful.{outcomes_in}
use Rattle.report_laws.specs.OfNextLines.Walks.{answers_of, recorded_by}
use Rattle.tool_words.specs.declared.reason.Reason.{Reason}
use Rattle.tool_words.specs.declared.reason.Reason.TheVariants as reasons
use Rattle.report_check.specs.Reasons.{IsReason, PacketReason, ShownReason, FaultReason, ending_reason, parting}
use Rattle.report_check.specs.OfReading.Packets.{ShowsPoints}
use Rattle.report_check.specs.declared.events.cursor.Cursor.{Cursor}
use Rattle.journal_replay.specs.declared.replay.Replay.{Replay}
use Rattle.report_check.specs.declared.walkers.Walkers.{Walkers}
use Rattle.report_check.specs.OfEvents.Cursors.{IsNextLine, IsRefused}
use Rattle.report_check.specs.Walks.{ShowsWalk, WalksTo, FaultsBy, IsRefusedShown}
use Rattle.report_check.specs.Rounds.{ToldRound, journal_of, record_with, stand_with, IsNextPacket}
use Rattle.report_check.proofs.Stuck.{MayNot}
use Rattle.report_check.proofs.Walking.{none_shown, arrives, walks_here}

same_some : (one other : ℕ) → ◌≡◌ {A = Option ℕ} (Some one) (Some other) → one ≡ other
same_some one other is = cc is

-- a call that refuses doesn't go on
pub never_on : {E : Type 0} (result : Result Bool E) → result ≡ Ok true → IfOk result (λ (on : Bool). on ≡ false) → ⊥
never_on (Ok on) is off = (let on_is : on ≡ true = cc is in cc (sym on_is ∙ off))
never_on (Err e) is off = absurd (cc is)

-- what is read of the next line
pub shows_next : {E : Type 0} (result : Result (Option ℕ) E) (bytes : List ℕ) (cursor : Cursor) (line points : List ℕ) → IsNextLine bytes cursor line
    → IfOk result (λ (worker : Option ℕ). (number other : ℕ) (shown : List ℕ) → ShowsPoints line number other shown → (worker ≡ Some other) × (points ≡ shown)) → IfOk result (λ (worker : Option ℕ). ShowsWalk bytes cursor worker points)
shows_next (Ok worker) bytes cursor line points next all = λ same number other shown is_next shows.
    let lines : line ≡ same = cc (sym next.first ∙ is_next.first) in
    all number other shown (subst (λ (l : List ℕ). ShowsPoints l number other shown) (sym lines) shows)
shows_next (Err e) bytes cursor line points next all = tt

module _ (told : ToldRound) (bytes : List ℕ) (cursor : Cursor) (replay : Replay) (walkers : Walkers) (least place : ℕ) (hook : Hook) (frame : List ℕ) (it : IsNextPacket told bytes cursor replay walkers least place hook frame) where
  number_is : place + 1 ≡ 1 + length it.walked.outcomes
  number_is = let same = it.walked.place_is in omega (arith, same)

  packet_reason : (line : List ℕ) (reason : Reason) → PacketReason told.loaded.job.workers told.its told.before (record_with told it.walked.outcomes) told.edits it.packet.arrival line reason
      → IsReason told.loaded (stand_with told it.walked.outcomes) line reason
  packet_reason line reason why =
      (told.round, it.of.there, inr (inl (it.of.none, (it.packet.arrival, arrives told bytes cursor replay walkers least place hook frame it, why))))

  none_reason : (line : List ℕ) → ((other : ℕ) (shown : List ℕ) → ShowsPoints line (place + 1) other shown → ⊥) → IsReason told.loaded (stand_with told it.walked.outcomes) line reasons.Packet
  none_reason line unshown = packet_reason line reasons.Packet
      (inl ((λ other shown shows. unshown other shown (subst (λ (n : ℕ). ShowsPoints line n other shown) (sym number_is) shows)), refl))

  -- the line shows no packet
  pub refused_none : (points : List ℕ) → ShowsWalk bytes cursor None points → IsRefused told.loaded bytes cursor (stand_with told it.walked.outcomes) reasons.Packet
  refused_none points shows = λ line next. (
    (λ behind takes. none_shown told bytes cursor replay walkers least place hook frame it points shows line behind next takes),
    none_reason line (λ other shown is. let both = shows line (place + 1) other shown next is in cc both.0),
  )

  -- it shows this worker and these points, or no packet
  pub refused_shown : (worker : ℕ) (points : List ℕ) (reason : Reason) → ShowsWalk bytes cursor (Some worker) points → MayNot told.loaded bytes cursor (stand_with told it.walked.outcomes)
      → ((line : List ℕ) → IsNextLine bytes cursor line → ShownReason told.loaded.job.workers told.its told.before (record_with told it.walked.outcomes) told.edits it.packet.arrival line worker points reason)
      → IsRefusedShown told.loaded bytes cursor (stand_with told it.walked.outcomes) (place + 1) worker points reason
  refused_shown worker points reason shows never why = record {
    never = λ line next behind takes. never line behind next takes;
    shown = λ line next is. packet_reason line reason (inr (worker, points, subst (λ (n : ℕ). ShowsPoints line n worker points) number_is is, why line next));
    none = λ line next unshown. none_reason line (λ other shown is.
        let both = shows line (place + 1) other shown next is in
        let by = same_some worker other both.0 in
        unshown (subst (λ (w : ℕ). ShowsPoints line (place + 1) w points) (sym by) (subst (λ (ps : List ℕ). ShowsPoints line (place + 1) other ps) (sym both.1) is)));
  }

  -- ---- what is wrong with the points
  fault_reason : (worker floor : ℕ) (points : List ℕ) (reason : Reason) → floor ≡ max (length told.before) (seen_by worker (outcomes_in told.its ++ it.walked.outcomes)) → FaultsBy (journal_of told) hook frame floor points reason
      → FaultReason told.its told.before (record_with told it.walked.outcomes) told.edits it.packet.arrival worker points reason
  fault_reason worker floor points reason floor_is (fault, is, same) =
      let At : ℕ → Hook → List ℕ → Type 0 = λ (f : ℕ) (h : Hook) (bs : List ℕ). IsFault (answers_of (journal_of told)) h bs (record { floor = f; ceiling = length (journal_of told) }) points fault in (
        fault,
        subst (λ (f : ℕ). At f it.packet.arrival.hook it.packet.arrival.packet.bytes) floor_is
            (subst (λ (h : Hook). At floor h it.packet.arrival.packet.bytes) (sym it.packet.hook_is) (subst (λ (bs : List ℕ). At floor hook bs) (sym it.packet.frame_is) is)),
        same,
      )

  pub shown_fault : (worker floor : ℕ) (points : List ℕ) (reason : Reason) (line : List ℕ) → 1 ≤ worker → worker ≤ told.loaded.job.workers → floor ≡ max (length told.before) (seen_by worker (outcomes_in told.its ++ it.walked.outcomes))
      → FaultsBy replay.journal.items hook frame floor points reason
      → ShownReason told.loaded.job.workers told.its told.before (record_with told it.walked.outcomes) told.edits it.packet.arrival line worker points reason
  shown_fault worker floor points reason line low high floor_is faults =
      inr (low, high, inl (fault_reason worker floor points reason floor_is (subst (λ (js : List Edit). FaultsBy js hook frame floor points reason) it.of.journal_is faults)))

  -- ---- another line than the walk's
  pub shown_other : (worker floor : ℕ) (points : List ℕ) (end : Standing) (ended : WalkOutcome) (text line : List ℕ) (reason : Reason) → 1 ≤ worker → worker ≤ told.loaded.job.workers
      → floor ≡ max (length told.before) (seen_by worker (outcomes_in told.its ++ it.walked.outcomes))
      → WalksTo (journal_of told) hook frame floor points end → outcome_of end ≡ Some ended → text ≡ packet_line (place + 1) (recorded_by worker points ended) → reason ≡ ending_reason (parting line text)
      → ShownReason told.loaded.job.workers told.its told.before (record_with told it.walked.outcomes) told.edits it.packet.arrival line worker points reason
  shown_other worker floor points end ended text line reason low high floor_is walks is text_is reason_is =
      let same : text ≡ packet_line (1 + length it.walked.outcomes) (recorded_by worker points ended) = text_is ∙ ap (λ (n : ℕ). packet_line n (recorded_by worker points ended)) number_is in
      inr (low, high, inr (ended, walks_here told bytes cursor replay walkers least place hook frame it worker floor points end ended floor_is walks is, reason_is ∙ ap (λ (t : List ℕ). ending_reason (parting line t)) same))
