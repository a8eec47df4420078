-- What is counted in the rounds of a run (this project's own).
use Rattle.std.specs.Prelude.{ℕ, ◌-◌, Bool, true, false, List, length, sum_by, count_by}
use Rattle.walk_ends.specs.Passing.{is_pass}
use Rattle.walk_texts.specs.declared.summary.Summary.{Summary}
use Rattle.run_report.specs.declared.events.EventKind.{EventKind}
use Rattle.run_report.specs.declared.events.EventKind.TheVariants as kinds
use Rattle.run_report.specs.declared.events.Event.{Event}
use Rattle.run_report.specs.declared.outcomes.Outcome.{Outcome}
use Rattle.run_report.specs.declared.rounds.RoundRecord.{RoundRecord}

abbrev pub is_accepted : EventKind → Bool
is_accepted (kinds.Accepted done) = true
is_accepted (kinds.Refused refusal) = false
is_accepted (kinds.Syntax word) = false

-- how many of these events are accepted edits
abbrev pub accepted_count : List Event → ℕ
accepted_count events = count_by (λ (event : Event). is_accepted event.kind) events

-- how many of these packets passed
abbrev pub passed_count : List Outcome → ℕ
passed_count outcomes = count_by (λ (outcome : Outcome). is_pass outcome.verdict) outcomes

-- ---- over rounds
abbrev pub events_in : List RoundRecord → ℕ
events_in rounds = sum_by (λ (round : RoundRecord). length round.events) rounds

abbrev pub edits_in : List RoundRecord → ℕ
edits_in rounds = sum_by (λ (round : RoundRecord). accepted_count round.events) rounds

abbrev pub packets_in : List RoundRecord → ℕ
packets_in rounds = sum_by (λ (round : RoundRecord). length round.outcomes) rounds

abbrev pub passed_in : List RoundRecord → ℕ
passed_in rounds = sum_by (λ (round : RoundRecord). passed_count round.outcomes) rounds

-- what the rounds came to: an event that is no accepted edit is a refused line, and a packet that didn't pass
-- was dropped
abbrev pub summary_of : List RoundRecord → Summary
summary_of rounds = record {
  edits = edits_in rounds;
  refused = events_in rounds - edits_in rounds;
  passed = passed_in rounds;
  dropped = packets_in rounds - passed_in rounds;
}
