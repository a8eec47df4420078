-- A run that has come so far (this project's own).
use Rattle.batch_run.specs.declared.limit.TheConstants.{COMMANDS_MAX}
use Rattle.walk_ends.specs.declared.limits.TheConstants.{PACKETS_MAX}
use Rattle.walk_rules.specs.declared.limits.TheConstants.{VISITS_MAX}
use Rattle.std.specs.Prelude.{◌≡◌, ℕ, ◌+◌, ◌*◌, ◌^◌, ◌<◌, ◌≤◌, List, [], ◌++◌, length, map, take, Option, Some, slice_get}
use Rattle.std.specs.Prelude.{option_map}
use Rattle.std.specs.List.{flat_map}
use Rattle.tc_base.specs.declared.ear.EventName.{EventName}
use Rattle.pin_store.specs.Calls.{IsSeatAt, IsOutside, pin_of}
use Rattle.filter_state.specs.Sound.{Each}
use Rattle.filter_state.specs.States.{no_state}
use Rattle.walk_steps.specs.Told.{IsShortRun}
use Rattle.batch_run.specs.declared.made_action.MadeAction.{MadeAction}
use Rattle.run_report.specs.declared.outcomes.Outcome.{Outcome}
use Rattle.lawful_runs.specs.declared.loaded.LoadedJob.{LoadedJob}
use Rattle.lawful_runs.specs.Given.{given_rounds, captures_named}
use Rattle.lawful_runs.specs.Lawful.{AreRounds, outcomes_in, made_by}
use Rattle.lawful_runs.specs.OfLogs.Logs.{ArePointsTo}
use Rattle.round_terms.specs.Hearing.{EarView}
use Rattle.worker_rounds.specs.declared.worker.Worker.{Worker}
use Rattle.job_rounds.specs.OfRoundState.Views.{journal}
use Rattle.job_rounds.specs.OfRoundState.Rounds.{StoreName, IsDeskOf}
use Rattle.std.specs.Prelude.{vec_len, vec_capacity}
use Rattle.job_rounds.specs.declared.course.Course.{Course}
use Rattle.job_rounds.specs.declared.course.Past.{Past}
use Rattle.job_rounds.specs.Names.{names_in}
use Rattle.job_rounds.specs.Left.{commands_left, packets_left}
use Rattle.job_rounds.specs.Visited.{visits_by}

-- THE WORKER AT A PLACE between two rounds: outside, with room for as many walks as packets are left, with all
-- points of its outcomes seen, and with a visit made for each
pub record IsBetween (store : StoreName) (left : ℕ) (earlier : List Outcome) (at : ℕ) (worker : Worker)
    : Type 0 where
  pub number : worker.number ≡ at + 1
  pub own : IsSeatAt store.table store.shape worker.reader.place
  pub outside : IsOutside worker.reader.place
  pub few : pin_of worker.reader.place + 2 * left < 2 ^ 63
  pub seen : (place : ℕ) (outcome : Outcome) → slice_get earlier place ≡ Some outcome
      → outcome.worker ≡ worker.number → ArePointsTo worker.reader.latest outcome.points
  pub visited : worker.reader.visits ≡ visits_by (at + 1) earlier

abbrev pub all_made : List (List MadeAction) → List MadeAction
all_made made = flat_map (λ (actions : List MadeAction). actions) made

-- there is room for so many rounds more
abbrev pub HasRoom : ℕ → Past → Type 0
HasRoom more past = (vec_len past.rounds + more ≤ vec_capacity past.rounds)
    × (vec_len past.made + more ≤ vec_capacity past.made)

-- A RUN BEHIND SO MANY ROUNDS of a job
pub record IsSoFar {E : Type 0} (name : E → ℕ) (heard : E → Option (List EventName)) (spare : E → ℕ)
    (store : StoreName) (loaded : LoadedJob) (first : EarView) (rounds : ℕ) (course : Course E)
    : Type 0 where
  pub lawful : AreRounds loaded.job.workers (take rounds (given_rounds loaded)) [] [] course.past.rounds.items
      (journal course.desk)
  pub desk : IsDeskOf store course.desk
  pub many : length course.workers.items ≡ loaded.job.workers
  pub workers : (at : ℕ) (worker : Worker) → slice_get course.workers.items at ≡ Some worker
      → IsBetween store (packets_left loaded rounds) (outcomes_in course.past.rounds.items) at worker
  pub made : all_made (map (λ made. made.items) course.past.made.items) ≡ made_by no_state (journal course.desk)
  pub captures : course.captures ≡ captures_named (take rounds loaded.job.rounds)
  pub of_run : length (outcomes_in course.past.rounds.items) + packets_left loaded rounds ≤ PACKETS_MAX
  pub short : Each (λ (outcome : Outcome). IsShortRun outcome.executed) (outcomes_in course.past.rounds.items)
  pub brief : Each (λ (outcome : Outcome). length outcome.points ≤ VISITS_MAX) (outcomes_in course.past.rounds.items)
  pub few : length (journal course.desk) + commands_left loaded rounds ≤ COMMANDS_MAX
  pub room : commands_left loaded rounds ≤ spare course.ear
  pub name_is : name course.ear ≡ first.name
  pub heard_is : heard course.ear ≡ option_map (λ names. names ++ names_in course.past.rounds.items) first.heard
