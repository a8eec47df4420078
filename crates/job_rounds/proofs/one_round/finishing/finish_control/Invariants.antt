use Rattle.std.proofs.Common.{◌≡◌, ◌≢◌, ℕ}
use Rattle.lawful_runs.specs.Events.{events_of}
use Rattle.job_rounds.proofs.one_round.finishing.finish_control.Given as goal

-- the others' events are as they were
abbrev pub invariant-loop : goal.invariant-loop
invariant-loop g l = (other : ℕ) → other ≢ l.control
    → events_of other l.state.events ≡ events_of other l.initial.state.events
