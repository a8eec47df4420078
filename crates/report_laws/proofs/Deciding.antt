-- A line leads to one stand: it tells which event or which packet it is of, and what else it stands for
-- follows from the stand.
use Rattle.std.proofs.Common.{◌≡◌, ◌∙◌, ℕ, suc, ◌+◌, ◌<◌, ◌≤◌, ◌^◌, Bool, true, false, List, [], ◌∷◌, ◌++◌, length, take, Some, Ok, Err, refl, sym, ap, subst, arith, ◌⊎◌, inl, inr}
use Rattle.std.specs.Prelude.{max, codes, ◌||◌}
use Rattle.std.specs.List.{slice_get}
use Rattle.filter_state.specs.declared.edit.Edit.{Edit}
use Rattle.filter_state.specs.declared.refusal.Done.{Done}
use Rattle.filter_state.specs.States.{State, no_state}
use Rattle.filter_state.specs.Steps.{Stepped, step}
use Rattle.filter_state.specs.Journals.{state_from, state_at}
use Rattle.tc_batch.proofs.Runs.{one_edit, no_fault}
use Rattle.batch_run.specs.Commands.{Command}
use Rattle.batch_run.proofs.Outcomes.{one_fault}
use Rattle.walk_rules.specs.Steps.{begun}
use Rattle.walk_rules.specs.Walks.{Outcome as WalkOutcome}
use Rattle.walk_rules.proofs.Agreeing.{GoAlong, same_points, outcomes_agree}
use Rattle.run_report.specs.declared.events.Event.{Event}
use Rattle.run_report.specs.declared.events.EventKind.{EventKind}
use Rattle.run_report.specs.declared.events.EventKind.TheVariants as kinds
use Rattle.run_report.specs.declared.outcomes.Outcome.{Outcome}
use Rattle.run_report.specs.declared.rounds.RoundRecord.{RoundRecord}
use Rattle.run_report.specs.Counts.{is_accepted, accepted_count, edits_in}
use Rattle.run_report.specs.EventTexts.{event_line}
use Rattle.lawful_runs.specs.declared.loaded.LoadedJob.{LoadedJob}
use Rattle.lawful_runs.specs.Given.{GivenBatch, Arrival, GivenRound, IsLoaded, given_rounds}
use Rattle.lawful_runs.specs.Points.{seen_by}
use Rattle.lawful_runs.specs.Outcomes.{IsRecordOf, IsWalked}
use Rattle.lawful_runs.specs.Events.{GoesOn, IsLineOf, IsResult, events_of}
use Rattle.lawful_runs.specs.Lawful.{outcomes_in}
use Rattle.filter_state.proofs.Places.{each_at}
use Rattle.lawful_runs.proofs.Walks.{walk_over, point_within}
use Rattle.report_laws.specs.OfLineCuts.Numbers.{AreShort}
use Rattle.report_laws.specs.Begun.{IsBegun, AreBegun}
use Rattle.report_laws.specs.Stands.{Stand, start, opening, inside, closing, with_event, with_outcome, IsNextEvent, IsNextOutcome, TakesEvent, TakesPacket, TakesIn, Takes, journal_length}
use Rattle.report_laws.proofs.OneControl.{events_of-append, all_own}
use Rattle.lawful_runs.proofs.GivenCommands.{AreGiven, all_given, one_words, control_small}
use Rattle.report_laws.proofs.LineTexts.{kind_head, packet_head, end_head, control_told, IsToldBy, outcome_told, first_of, second_of}

-- ---- one result
abbrev pub AreSame : EventKind → EventKind → List Edit → List Edit → Type 0
AreSame kind other own more = (kind ≡ other) × (own ≡ more)

done_of : (next other : State) (done again : Done) (stepped : Stepped) → stepped ≡ Ok (next, done) → stepped ≡ Ok (other, again) → done ≡ again
done_of next other done again stepped is at = let both : ◌≡◌ {A = State × Done} (next, done) (other, again) = cc in ap (λ (pair : State × Done). pair.1) both

pub one_kind : (s : State) (words : List (List ℕ)) (kind other : EventKind) (next later : State) (own more : List Edit) → IsResult s words kind next own → IsResult s words other later more → AreSame kind other own more
one_kind s words (kinds.Accepted done) (kinds.Accepted again) next later own more (edit, gives, stepped, is) (second, says, goes, are) =
    let same : edit ≡ second = one_edit words edit second gives says in
    (ap kinds.Accepted (done_of next later done again (step s edit) stepped (ap (step s) same ∙ goes)), is ∙ ap (λ (e : Edit). e ∷ []) same ∙ sym are)
one_kind s words (kinds.Accepted done) (kinds.Refused refusal) next later own more (edit, gives, stepped, is) (second, says, goes, kept, are) =
    let same : edit ≡ second = one_edit words edit second gives says in
    absurd (cc (sym stepped ∙ ap (step s) same ∙ goes))
one_kind s words (kinds.Accepted done) (kinds.Syntax word) next later own more (edit, gives, stepped, is) (bad, kept, are) = absurd (no_fault words edit word gives bad)
one_kind s words (kinds.Refused refusal) (kinds.Accepted again) next later own more (edit, gives, stepped, kept, is) (second, says, goes, are) =
    let same : edit ≡ second = one_edit words edit second gives says in
    absurd (cc (sym stepped ∙ ap (step s) same ∙ goes))
one_kind s words (kinds.Refused refusal) (kinds.Refused again) next later own more (edit, gives, stepped, kept, is) (second, says, goes, still, are) =
    let same : edit ≡ second = one_edit words edit second gives says in
    let both : ◌≡◌ {A = Stepped} (Err refusal) (Err again) = sym stepped ∙ ap (step s) same ∙ goes in
    (ap kinds.Refused (cc both), is ∙ sym are)
one_kind s words (kinds.Refused refusal) (kinds.Syntax word) next later own more (edit, gives, stepped, kept, is) (bad, still, are) = absurd (no_fault words edit word gives bad)
one_kind s words (kinds.Syntax word) (kinds.Accepted again) next later own more (bad, kept, is) (second, says, goes, are) = absurd (no_fault words second word says bad)
one_kind s words (kinds.Syntax word) (kinds.Refused again) next later own more (bad, kept, is) (second, says, goes, still, are) = absurd (no_fault words second word says bad)
one_kind s words (kinds.Syntax word) (kinds.Syntax again) next later own more (bad, kept, is) (worse, still, are) = (ap kinds.Syntax (one_fault words word again bad worse), is ∙ sym are)

-- ---- the next command of a control
next_by : (force b : Bool) (commands : List Command) (xs : List Event) (one other : Event)
    → (IsBegun force commands (xs ++ (one ∷ [])) → IsBegun force commands (xs ++ (other ∷ [])) → one.line ≡ other.line)
    → GoesOn b (IsBegun force commands (xs ++ (one ∷ []))) (xs ++ (one ∷ [])) → GoesOn b (IsBegun force commands (xs ++ (other ∷ []))) (xs ++ (other ∷ [])) → one.line ≡ other.line
next_by force true commands xs one other rest first second = rest first second
next_by force false commands [] one other rest first second = absurd (cc first)
next_by force false commands (x ∷ xs) one other rest first second = absurd (cc first)

next_line : (force : Bool) (commands : List Command) (xs : List Event) (one other : Event) → IsBegun force commands (xs ++ (one ∷ [])) → IsBegun force commands (xs ++ (other ∷ [])) → one.line ≡ other.line
next_line force [] [] one other first second = absurd first
next_line force [] (x ∷ xs) one other first second = absurd first
next_line force (command ∷ commands) [] one other first second = first.0 ∙ sym second.0
next_line force (command ∷ commands) (x ∷ xs) one other first second =
    next_by force (force || is_accepted x.kind) commands xs one other (λ a b. next_line force commands xs one other a b) first.1 second.1

pushed : (control : ℕ) (events : List Event) (event : Event) → event.control ≡ control → events_of control (events ++ (event ∷ [])) ≡ events_of control events ++ (event ∷ [])
pushed control events event is = events_of-append control events (event ∷ []) ∙ ap (λ (es : List Event). events_of control events ++ es) (all_own control (event ∷ []) (is, tt))

same_line : (batches : List GivenBatch) (events : List Event) (one other : Event) (words : List (List ℕ)) → IsLineOf batches one words → one.control ≡ other.control
    → AreBegun batches (events ++ (one ∷ [])) → AreBegun batches (events ++ (other ∷ [])) → one.line ≡ other.line
same_line batches events one other words line by first second =
    let b : GivenBatch = line.batch in
    let mine : one.control ≡ b.control = sym line.control in
    next_line b.force b.commands (events_of b.control events) one other
    (subst (IsBegun b.force b.commands) (pushed b.control events one mine) (first b line.given))
    (subst (IsBegun b.force b.commands) (pushed b.control events other (sym by ∙ mine)) (second b line.given))

-- ---- one event
event_from : (one other : Event) → one.control ≡ other.control → one.line ≡ other.line → one.kind ≡ other.kind → one ≡ other
event_from one other control line kind =
    ap (λ (n : ℕ). record { control = n; line = one.line; kind = one.kind }) control
    ∙ ap (λ (n : ℕ). record { control = other.control; line = n; kind = one.kind }) line
    ∙ ap (λ (k : EventKind). record { control = other.control; line = other.line; kind = k }) kind

abbrev SameEvent : Event → Event → List Edit → List Edit → Type 0
SameEvent one other own more = (one ≡ other) × (own ≡ more)

one_event : (round : GivenRound) (before : List Edit) (it : RoundRecord) (edits : List Edit) (count : ℕ) (one other : Event) (own more : List Edit) → AreGiven round.batches
    → IsNextEvent round before it edits one own → IsNextEvent round before it edits other more → event_line count one ≡ event_line count other → SameEvent one other own more
one_event round before it edits count one other own more given first second text =
    let low = control_small round.batches one first.words given first.line in
    let small = control_small round.batches other second.words given second.line in
    let control = control_told count one.control other.control one.line other.line one.kind other.kind (omega (arith, low)) (omega (arith, small)) text in
    let line = same_line round.batches it.events one other first.words first.line control first.order second.order in
    let words = one_words round.batches one other first.words second.words given control line first.line second.line in
    let result = subst (λ (w : List (List ℕ)). IsResult (state_from no_state (before ++ edits)) w other.kind second.after more) (sym words) second.result in
    let kind = one_kind (state_from no_state (before ++ edits)) first.words one.kind other.kind first.after second.after own more first.result result in
    (event_from one other control line kind.0, kind.1)

-- ---- one outcome
points_short : (most : ℕ) (points : List ℕ) → most < 2 ^ 64 → ((place point : ℕ) → slice_get points place ≡ Some point → point ≤ most) → AreShort points
points_short most [] few within = tt
points_short most (p ∷ points) few within =
    let own = within 0 p refl in
    (omega (arith, own, few), points_short most points few (λ place point is. within (suc place) point is))

outcome_from : (one other : Outcome) (walk : WalkOutcome) → IsRecordOf one walk → IsRecordOf other walk → IsToldBy one other → one ≡ other
outcome_from one other walk first second told =
    let verdict = first.verdict ∙ sym second.verdict in
    let bytes = first.bytes ∙ sym second.bytes in
    let meta = first.meta ∙ sym second.meta in
    let executed = first.executed ∙ sym second.executed in
    ap (λ w. record { worker = w; verdict = one.verdict; bytes = one.bytes; meta = one.meta; points = one.points; executed = one.executed }) told.worker
    ∙ ap (λ v. record { worker = other.worker; verdict = v; bytes = one.bytes; meta = one.meta; points = one.points; executed = one.executed }) verdict
    ∙ ap (λ b. record { worker = other.worker; verdict = other.verdict; bytes = b; meta = one.meta; points = one.points; executed = one.executed }) bytes
    ∙ ap (λ m. record { worker = other.worker; verdict = other.verdict; bytes = other.bytes; meta = m; points = one.points; executed = one.executed }) meta
    ∙ ap (λ p. record { worker = other.worker; verdict = other.verdict; bytes = other.bytes; meta = other.meta; points = p; executed = one.executed }) told.points
    ∙ ap (λ e. record { worker = other.worker; verdict = other.verdict; bytes = other.bytes; meta = other.meta; points = other.points; executed = e }) executed

one_outcome : (workers number : ℕ) (round : GivenRound) (its : List RoundRecord) (before : List Edit) (it : RoundRecord) (edits : List Edit) (one other : Outcome) → workers ≤ 8 → length (before ++ edits) < 2 ^ 64
    → IsNextOutcome workers round its before it edits one → IsNextOutcome workers round its before it edits other → IsToldBy one other → one ≡ other
one_outcome workers number round its before it edits one other few short first second told =
    let journal : List Edit = before ++ edits in
    let ceiling : ℕ = length journal in
    let arrival : first.arrival ≡ second.arrival = let a = first.there in let b = second.there in cc in
    let Walked : Arrival → Type 0 = λ (a : Arrival). IsWalked journal (max (length before) (seen_by other.worker (outcomes_in its ++ it.outcomes))) ceiling a other in
    let again : Walked first.arrival = subst Walked (sym arrival) second.walked in
    let floor : ℕ → ℕ = λ (w : ℕ). max (length before) (seen_by w (outcomes_in its ++ it.outcomes)) in
    let here = walk_over journal (floor one.worker) ceiling first.arrival one first.walked in
    let there = walk_over journal (floor other.worker) ceiling first.arrival other again in
    let states : ℕ → State = λ (p : ℕ). state_at p journal in
    let walk : first.walked.walk ≡ again.walk =
    outcomes_agree states states one.points other.points (begun first.arrival.hook first.arrival.packet.bytes) first.walked.walk again.walk
    (subst (λ (ps : List ℕ). GoAlong (λ p q. states p ≡ states q) one.points ps) told.points (same_points (λ p q. states p ≡ states q) (λ p. refl) one.points)) here there in
    outcome_from one other again.walk (subst (IsRecordOf one) walk first.walked.recorded) again.recorded told

-- ---- one line
differ : (x y a b : List ℕ) {A : Type 0} → take 2 x ≡ a → take 2 y ≡ b → x ≡ y → (a ≡ b → ⊥) → A
differ x y a b first second same never = absurd (never (sym first ∙ ap (take 2) same ∙ second))

event_or : (count : ℕ) (event : Event) (y b : List ℕ) {A : Type 0} → (codes "ed" ≡ b → ⊥) → (codes "re" ≡ b → ⊥) → take 2 y ≡ b → event_line count event ≡ y → A
event_or count event y b not_edit not_refused head same = by_head (kind_head count event.control event.line event.kind)
  where
    by_head : {A : Type 0} → (take 2 (event_line count event) ≡ codes "ed") ⊎ (take 2 (event_line count event) ≡ codes "re") → A
    by_head (inl first) = differ (event_line count event) y (codes "ed") b first head same not_edit
    by_head (inr first) = differ (event_line count event) y (codes "re") b first head same not_refused

module _ (loaded : LoadedJob) (round : GivenRound) (its : List RoundRecord) (before : List Edit) (it : RoundRecord) (edits : List Edit) (line : List ℕ) (a b : Stand)
    (is : IsLoaded loaded) (given : AreGiven round.batches) (short : length (before ++ edits) < 2 ^ 64) where
  two_events : TakesEvent round its before it edits line a → TakesEvent round its before it edits line b → a ≡ b
  two_events first second =
      let same = one_event round before it edits (edits_in its + accepted_count it.events) first.event second.event first.own second.own given first.is_next second.is_next (sym first.text ∙ second.text) in
      first.then ∙ ap (λ (e : Event). inside its before (with_event it e) (edits ++ first.own)) same.0 ∙ ap (λ (own : List Edit). inside its before (with_event it second.event) (edits ++ own)) same.1 ∙ sym second.then

  two_packets : TakesPacket loaded round its before it edits line a → TakesPacket loaded round its before it edits line b → a ≡ b
  two_packets first second =
      let one = first.is_next in
      let other = second.is_next in
      let few : loaded.job.workers ≤ 8 = is.job.1 in
      let low = one.most in
      let small = other.most in
      let told = outcome_told (1 + length it.outcomes) first.outcome second.outcome (omega (arith, low, few)) (omega (arith, small, few))
      (points_short (length (before ++ edits)) first.outcome.points short (λ place point at. (point_within (before ++ edits) _ (length (before ++ edits)) one.arrival first.outcome one.walked place point at).1))
      (points_short (length (before ++ edits)) second.outcome.points short (λ place point at. (point_within (before ++ edits) _ (length (before ++ edits)) other.arrival second.outcome other.walked place point at).1))
      (sym first.text ∙ second.text) in
      let same = one_outcome loaded.job.workers (1 + length it.outcomes) round its before it edits first.outcome second.outcome few short one other told in
      first.then ∙ ap (λ (o : Outcome). inside its before (with_outcome it o) edits) same ∙ sym second.then

  pub one_inside : TakesIn loaded round its before it edits line a → TakesIn loaded round its before it edits line b → a ≡ b
  one_inside (inl first) (inl second) = two_events first second
  one_inside (inl first) (inr (inl second)) =
      event_or (edits_in its + accepted_count it.events) first.event line (codes "pa") (λ e. let same = first_of 101 100 112 97 e in omega (arith, same)) (λ e. let same = first_of 114 101 112 97 e in omega (arith, same)) (ap (take 2) second.text ∙ packet_head (1 + length it.outcomes) second.outcome) (sym first.text)
  one_inside (inl first) (inr (inr second)) =
      event_or (edits_in its + accepted_count it.events) first.event line (codes "en") (λ e. let same = second_of 101 100 101 110 e in omega (arith, same)) (λ e. let same = first_of 114 101 101 110 e in omega (arith, same)) (ap (take 2) second.text ∙ end_head (length its + 1)) (sym first.text)
  one_inside (inr (inl first)) (inl second) =
      event_or (edits_in its + accepted_count it.events) second.event line (codes "pa") (λ e. let same = first_of 101 100 112 97 e in omega (arith, same)) (λ e. let same = first_of 114 101 112 97 e in omega (arith, same)) (ap (take 2) first.text ∙ packet_head (1 + length it.outcomes) first.outcome) (sym second.text)
  one_inside (inr (inr first)) (inl second) =
      event_or (edits_in its + accepted_count it.events) second.event line (codes "en") (λ e. let same = second_of 101 100 101 110 e in omega (arith, same)) (λ e. let same = first_of 114 101 101 110 e in omega (arith, same)) (ap (take 2) first.text ∙ end_head (length its + 1)) (sym second.text)
  one_inside (inr (inl first)) (inr (inl second)) = two_packets first second
  one_inside (inr (inl first)) (inr (inr second)) =
      differ line line (codes "pa") (codes "en") (ap (take 2) first.text ∙ packet_head (1 + length it.outcomes) first.outcome) (ap (take 2) second.text ∙ end_head (length its + 1)) refl (λ e. let same = first_of 112 97 101 110 e in omega (arith, same))
  one_inside (inr (inr first)) (inr (inl second)) =
      differ line line (codes "en") (codes "pa") (ap (take 2) first.text ∙ end_head (length its + 1)) (ap (take 2) second.text ∙ packet_head (1 + length it.outcomes) second.outcome) refl (λ e. let same = first_of 101 110 112 97 e in omega (arith, same))
  one_inside (inr (inr first)) (inr (inr second)) = first.then ∙ sym second.then

-- ---- of stands whose journal has fewer edits than a number of 64 bits counts
pub one_next : (loaded : LoadedJob) (stand a b : Stand) (line : List ℕ) → IsLoaded loaded → journal_length stand < 2 ^ 64 → Takes loaded stand line a → Takes loaded stand line b → a ≡ b
one_next loaded start a b line is short first second = first.1 ∙ sym second.1
one_next loaded (opening its journal) a b line is short first second = first.1 ∙ sym second.1
one_next loaded (inside its before it edits) a b line is short (round, given, first) (other, again, second) =
    let same : other ≡ round = cc in
    let are : AreGiven round.batches = each_at (λ (g : GivenRound). AreGiven g.batches) (given_rounds loaded) (length its) round (all_given loaded is.job) given in
    one_inside loaded round its before it edits line a b is are short first (subst (λ (r : GivenRound). TakesIn loaded r its before it edits line b) same second)
one_next loaded (closing run journal []) a b line is short first second = absurd first
one_next loaded (closing run journal (l ∷ left)) a b line is short first second = first.1 ∙ sym second.1
