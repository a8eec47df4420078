-- Counts over one more.
use Rattle.std.proofs.Common.{◌≡◌, ◌∙◌, ℕ, ◌+◌, ◌<◌, ◌≤◌, Bool, true, false, List, length, take, get_or, Some, ap, arith}
use Rattle.std.specs.Prelude.{if◌then◌else◌, slice_get}
use Rattle.std.proofs.lemmas.Option.{slice_get_within, get_or_from_slice_get}
use Rattle.walk_ends.specs.Passing.{is_pass}
use Rattle.run_report.specs.declared.outcomes.Outcome.{Outcome}
use Rattle.std.proofs.lemmas.List.Sums.{sum_by_more, sum_by_more_le_part, count_by-le-length}
use Rattle.run_report.specs.declared.events.Event.{Event}
use Rattle.run_report.specs.declared.rounds.RoundRecord.{RoundRecord}
use Rattle.run_report.specs.Counts.{is_accepted, accepted_count, passed_count, events_in, edits_in}

-- one event more
pub accepted_more : (events : List Event) (k : ℕ) (event : Event) (before edits one : ℕ) → get_or events k event ≡ event → k < length events →
    edits ≡ before + accepted_count (take k events) → one ≡ (if is_accepted event.kind then 1 else 0) → edits + one ≡ before + accepted_count (take (k + 1) events)
accepted_more events k event before edits one is within so_far this =
    let more : accepted_count (take (k + 1) events) ≡ accepted_count (take k events) + (if is_accepted event.kind then 1 else 0) =
    sum_by_more (λ (e : Event). if is_accepted e.kind then 1 else 0) events k event within
    ∙ ap (λ (e : Event). accepted_count (take k events) + (if is_accepted e.kind then 1 else 0)) is in
    omega (arith, more, so_far, this)

-- one round more
pub edits_more : (rounds : List RoundRecord) (k : ℕ) (round : RoundRecord) (edits after : ℕ) → get_or rounds k round ≡ round → k < length rounds →
    edits ≡ edits_in (take k rounds) → after ≡ edits + accepted_count round.events → after ≡ edits_in (take (k + 1) rounds)
edits_more rounds k round edits after is within so_far this =
    let more : edits_in (take (k + 1) rounds) ≡ edits_in (take k rounds) + accepted_count round.events =
    sum_by_more (λ (r : RoundRecord). accepted_count r.events) rounds k round within
    ∙ ap (λ (r : RoundRecord). edits_in (take k rounds) + accepted_count r.events) is in
    omega (arith, more, so_far, this)

-- the edits so far and the events of the next round are no more than all events
pub room_for_round : (rounds : List RoundRecord) (k : ℕ) (round : RoundRecord) (edits most : ℕ) → get_or rounds k round ≡ round → k < length rounds →
    edits ≡ edits_in (take k rounds) → events_in rounds < most → edits + length round.events < most
room_for_round rounds k round edits most is within so_far few =
    let part : edits_in (take k rounds) + length (get_or rounds k round).events ≤ events_in rounds =
    sum_by_more_le_part (λ (r : RoundRecord). accepted_count r.events) (λ (r : RoundRecord). length r.events) rounds k round within
    (λ (r : RoundRecord). count_by-le-length (λ (e : Event). is_accepted e.kind) r.events) in
    let same : length (get_or rounds k round).events ≡ length round.events = ap (λ (r : RoundRecord). length r.events) is in
    omega (arith, part, same, so_far, few)

-- ---- packets that passed
pub at_most_one : (b : Bool) → (if b then 1 else 0) ≤ 1
at_most_one true = omega arith
at_most_one false = omega arith

-- one packet more
pub passed_more : (outcomes : List Outcome) (place : ℕ) (outcome : Outcome) (count one : ℕ) → slice_get outcomes place ≡ Some outcome → count ≡ passed_count (take place outcomes)
    → one ≡ (if is_pass outcome.verdict then 1 else 0) → count + one ≡ passed_count (take (place + 1) outcomes)
passed_more outcomes place outcome count one there so_far is =
    let more : passed_count (take (place + 1) outcomes) ≡ passed_count (take place outcomes) + (if is_pass outcome.verdict then 1 else 0) =
    sum_by_more (λ (o : Outcome). if is_pass o.verdict then 1 else 0) outcomes place outcome (slice_get_within outcomes place outcome there)
    ∙ ap (λ (o : Outcome). passed_count (take place outcomes) + (if is_pass o.verdict then 1 else 0)) (get_or_from_slice_get outcomes place outcome outcome there) in
    omega (arith, more, so_far, is)
