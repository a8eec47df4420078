-- A line that can't come has one reason.
use Rattle.std.proofs.Common.{◌≡◌, ◌∙◌, ℕ, ◌+◌, List, [], ◌∷◌, ◌++◌, length, Option, Some, refl, sym, ap, subst, arith, inl, inr}
use Rattle.filter_state.specs.declared.edit.Edit.{Edit}
use Rattle.walk_rules.specs.Steps.{Standing}
use Rattle.walk_rules.specs.Walks.{Outcome as WalkOutcome, outcome_of}
use Rattle.point_walks.proofs.OneFault.{one_fault, fault_or_walk}
use Rattle.run_report.specs.PacketTexts.{packet_line}
use Rattle.run_report.specs.declared.rounds.RoundRecord.{RoundRecord}
use Rattle.lawful_runs.specs.declared.loaded.LoadedJob.{LoadedJob}
use Rattle.lawful_runs.specs.Given.{Arrival, GivenRound, IsLoaded}
use Rattle.report_laws.specs.Stands.{Stand, start, opening, inside, closing, IsPath}
use Rattle.report_laws.specs.OfNextLines.Walks.{WalksAt, answers_of, floor_for, recorded_by}
use Rattle.report_laws.proofs.OnePath.{one_path}
use Rattle.report_laws.proofs.OfNextLines.Next.{not_all_told}
use Rattle.tool_words.specs.declared.reason.Reason.{Reason}
use Rattle.report_check.specs.Reasons.{EventReason, FaultReason, WalkReason, ShownReason, PacketReason, RoundReason, IsReason, IsWhy, IsReasonAt, reason_of, ending_reason, parting}
use Rattle.report_check.proofs.LastLines.{short_path}
use Rattle.report_check.proofs.OfReading.PacketParts.{shows_one}
use Rattle.report_check.proofs.OfEvents.Turning.{got_within}

event_one : (round : GivenRound) (before : List Edit) (it : RoundRecord) (edits : List Edit) (line : List ℕ) (one other : Reason) → EventReason round before it edits line one → EventReason round before it edits line other → one ≡ other
event_one round before it edits line one other (inl a) (inl b) = a.1 ∙ sym b.1
event_one round before it edits line one other (inr a) (inr b) = a.1 ∙ sym b.1
event_one round before it edits line one other (inl a) (inr ((event, own, is_next, named), b)) =
    absurd (a.0 is_next.batch is_next.command is_next.given is_next.next (named ∙ ap (λ (n : ℕ). Some n) is_next.control))
event_one round before it edits line one other (inr ((event, own, is_next, named), a)) (inl b) =
    absurd (b.0 is_next.batch is_next.command is_next.given is_next.next (named ∙ ap (λ (n : ℕ). Some n) is_next.control))

module _ (workers : ℕ) (its : List RoundRecord) (before : List Edit) (it : RoundRecord) (edits : List Edit) (arrival : Arrival) where
  fault_no_walk : (worker : ℕ) (points line : List ℕ) (one other : Reason) → FaultReason its before it edits arrival worker points one → WalkReason its before it edits arrival line worker points other → ⊥
  fault_no_walk worker points line one other (fault, is, a) (walk, walks, b) =
      fault_or_walk (answers_of (before ++ edits)) arrival.hook arrival.packet.bytes (record { floor = floor_for its before it worker; ceiling = length (before ++ edits) }) points fault walks.end is
      (record { stands = walks.stands; over = walks.over; lawful = walks.lawful })

  one_walk : (worker : ℕ) (points : List ℕ) (walk other : WalkOutcome) → WalksAt (before ++ edits) (floor_for its before it worker) (length (before ++ edits)) arrival points walk
      → WalksAt (before ++ edits) (floor_for its before it worker) (length (before ++ edits)) arrival points other → walk ≡ other
  one_walk worker points walk other a b =
      let ends : ◌≡◌ {A = Option Standing} (Some a.end) (Some b.end) = sym a.stands ∙ b.stands in
      let same : a.end ≡ b.end = cc ends in
      let both : ◌≡◌ {A = Option WalkOutcome} (Some walk) (Some other) = sym a.outcome ∙ ap outcome_of same ∙ b.outcome in
      cc both

  shown_one : (line : List ℕ) (worker : ℕ) (points : List ℕ) (one other : Reason) → ShownReason workers its before it edits arrival line worker points one → ShownReason workers its before it edits arrival line worker points other → one ≡ other
  shown_one line worker points one other (inl a) (inl b) = a.1 ∙ sym b.1
  shown_one line worker points one other (inl a) (inr b) = absurd (a.0 b.0 b.1)
  shown_one line worker points one other (inr a) (inl b) = absurd (b.0 a.0 a.1)
  shown_one line worker points one other (inr (low, high, inl (fault, is, a))) (inr (least, most, inl (found, was, b))) =
      a ∙ ap reason_of (one_fault (answers_of (before ++ edits)) arrival.hook arrival.packet.bytes (record { floor = floor_for its before it worker; ceiling = length (before ++ edits) }) points fault found is was) ∙ sym b
  shown_one line worker points one other (inr (low, high, inl a)) (inr (least, most, inr b)) = absurd (fault_no_walk worker points line one other a b)
  shown_one line worker points one other (inr (low, high, inr a)) (inr (least, most, inl b)) = absurd (fault_no_walk worker points line other one b a)
  shown_one line worker points one other (inr (low, high, inr (walk, walks, a))) (inr (least, most, inr (found, does, b))) =
      a ∙ ap (λ (w : WalkOutcome). ending_reason (parting line (packet_line (1 + length it.outcomes) (recorded_by worker points w)))) (one_walk worker points walk found walks does) ∙ sym b

  packet_one : (line : List ℕ) (one other : Reason) → PacketReason workers its before it edits arrival line one → PacketReason workers its before it edits arrival line other → one ≡ other
  packet_one line one other (inl a) (inl b) = a.1 ∙ sym b.1
  packet_one line one other (inl a) (inr (worker, points, shows, b)) = absurd (a.0 worker points shows)
  packet_one line one other (inr (worker, points, shows, a)) (inl b) = absurd (b.0 worker points shows)
  packet_one line one other (inr (worker, points, shows, a)) (inr (number, others, shown, b)) =
      let same = shows_one line (1 + length it.outcomes) worker number points others shows shown in
      shown_one line worker points one other a
      (subst (λ (w : ℕ). ShownReason workers its before it edits arrival line w points other) (sym same.0) (subst (λ (ps : List ℕ). ShownReason workers its before it edits arrival line number ps other) (sym same.1) b))

round_one : (workers : ℕ) (round : GivenRound) (its : List RoundRecord) (before : List Edit) (it : RoundRecord) (edits : List Edit) (line : List ℕ) (one other : Reason) → RoundReason workers round its before it edits line one
    → RoundReason workers round its before it edits line other → one ≡ other
round_one workers round its before it edits line one other (inl a) (inl b) = event_one round before it edits line one other a.1 b.1
round_one workers round its before it edits line one other (inl a) (inr (inl b)) = absurd (cc (sym a.0.next ∙ b.0 a.0.batch a.0.given))
round_one workers round its before it edits line one other (inr (inl a)) (inl b) = absurd (cc (sym b.0.next ∙ a.0 b.0.batch b.0.given))
round_one workers round its before it edits line one other (inl a) (inr (inr b)) = absurd (not_all_told round.batches it.events a.0 b.0.all)
round_one workers round its before it edits line one other (inr (inr a)) (inl b) = absurd (not_all_told round.batches it.events b.0 a.0.all)
round_one workers round its before it edits line one other (inr (inl (none, (arrival, there, a)))) (inr (inl (same, (found, here, b)))) =
    let both : ◌≡◌ {A = Option Arrival} (Some arrival) (Some found) = sym there ∙ here in
    let is : arrival ≡ found = cc both in
    packet_one workers its before it edits arrival line one other a (subst (λ (o : Arrival). PacketReason workers its before it edits o line other) (sym is) b)
round_one workers round its before it edits line one other (inr (inl (none, (arrival, there, a)))) (inr (inr (whole, b))) =
    let within = got_within round.arrivals (length it.outcomes) arrival there in
    let each = whole.each in
    absurd (omega (arith, within, each))
round_one workers round its before it edits line one other (inr (inr (whole, a))) (inr (inl (none, (arrival, there, b)))) =
    let within = got_within round.arrivals (length it.outcomes) arrival there in
    let each = whole.each in
    absurd (omega (arith, within, each))
round_one workers round its before it edits line one other (inr (inr a)) (inr (inr b)) = a.1 ∙ sym b.1

reason_one : (loaded : LoadedJob) (stand : Stand) (line : List ℕ) (one other : Reason) → IsReason loaded stand line one → IsReason loaded stand line other → one ≡ other
reason_one loaded start line one other a b = a ∙ sym b
reason_one loaded (opening its journal) line one other a b = a ∙ sym b
reason_one loaded (closing run journal left) line one other a b = a ∙ sym b
reason_one loaded (inside its before it edits) line one other (round, there, a) (found, here, b) =
    let both : ◌≡◌ {A = Option GivenRound} (Some round) (Some found) = sym there ∙ here in
    let is : round ≡ found = cc both in
    round_one loaded.job.workers round its before it edits line one other a (subst (λ (r : GivenRound). RoundReason loaded.job.workers r its before it edits line other) (sym is) b)

why_one : (loaded : LoadedJob) (stand : Stand) (left : List (List ℕ)) (one other : Reason) → IsWhy loaded stand left one → IsWhy loaded stand left other → one ≡ other
why_one loaded stand [] one other a b = a ∙ sym b
why_one loaded stand (line ∷ left) one other a b = reason_one loaded stand line one other a b

-- ---- the same lines before it
same_split : (xs zs ys ws : List (List ℕ)) → length xs ≡ length zs → xs ++ ys ≡ zs ++ ws → (xs ≡ zs) × (ys ≡ ws)
same_split [] [] ys ws count is = (refl, is)
same_split [] (z ∷ zs) ys ws count is = absurd (cc count)
same_split (x ∷ xs) [] ys ws count is = absurd (cc count)
same_split (x ∷ xs) (z ∷ zs) ys ws count is =
    let first : x ≡ z = cc is in
    let rest : xs ++ ys ≡ zs ++ ws = cc is in
    let fewer : length xs ≡ length zs = omega (arith, count) in
    let both = same_split xs zs ys ws fewer rest in
    (ap (λ (l : List ℕ). l ∷ xs) first ∙ ap (λ (ls : List (List ℕ)). z ∷ ls) both.0, both.1)

pub one_reason : (loaded : LoadedJob) (bytes : List ℕ) (line : ℕ) (one other : Reason) → IsLoaded loaded → IsReasonAt loaded bytes line one → IsReasonAt loaded bytes line other → one ≡ other
one_reason loaded bytes line one other is a b =
    let first = a.count in
    let second = b.count in
    let lines = same_split a.before b.before a.left b.left (omega (arith, first, second)) (sym a.whole ∙ b.whole) in
    let stand : a.stand ≡ b.stand = one_path loaded start a.stand b.stand a.before is (short_path loaded a.stand a.before is a.path) a.path (subst (λ (ls : List (List ℕ)). IsPath loaded start ls b.stand) (sym lines.0) b.path) in
    why_one loaded a.stand a.left one other a.why
    (subst (λ (s : Stand). IsWhy loaded s a.left other) (sym stand) (subst (λ (ls : List (List ℕ)). IsWhy loaded b.stand ls other) (sym lines.1) b.why))
