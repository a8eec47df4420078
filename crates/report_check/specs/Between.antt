-- Between the rounds of a report (this project's own).
use Rattle.std.specs.Prelude.{◌≡◌, ℕ, ◌+◌, ◌≤◌, List, length, take}
use Rattle.run_report.specs.declared.rounds.RoundRecord.{RoundRecord}
use Rattle.run_report.specs.Counts.{edits_in, events_in}
use Rattle.lawful_runs.specs.declared.loaded.LoadedJob.{LoadedJob}
use Rattle.lawful_runs.specs.Given.{captures_named, packet_count}
use Rattle.lawful_runs.specs.Lawful.{outcomes_in}
use Rattle.report_laws.specs.Stands.{settled}
use Rattle.report_check.specs.declared.events.cursor.Cursor.{Cursor}
use Rattle.journal_replay.specs.declared.replay.Replay.{Replay}
use Rattle.report_check.specs.OfEvents.Cursors.{IsAt}
use Rattle.journal_replay.specs.Placed.{places_in}
use Rattle.journal_replay.specs.Replays.{IsKept}
use Rattle.report_check.specs.declared.rounds.Progress.{Progress}
use Rattle.report_check.specs.declared.walkers.Walkers.{Walkers}
use Rattle.report_check.specs.Walked.{AreWalkers}
use Rattle.report_check.specs.Rounds.{ToldRound, IsToldRound, AreWalked}

-- SO MANY ROUNDS are told, and nothing of the next one: the replay and the walkers are behind them
pub record IsBetween (loaded : LoadedJob) (bytes : List ℕ) (count : ℕ) (progress : Progress) : Type 0 where
  pub its : List RoundRecord
  pub count_is : length its ≡ count
  pub is_at : IsAt loaded bytes progress.cursor (settled loaded its progress.replay.journal.items)
  pub kept : IsKept progress.replay
  pub placed : progress.replay.places.items ≡ places_in its
  pub edits : edits_in its ≡ length progress.replay.journal.items
  pub refused : progress.replay.refused + edits_in its ≡ events_in its
  pub fewer : progress.replay.refused ≤ progress.cursor.line
  pub are : AreWalkers loaded.job.workers progress.replay.journal.items (outcomes_in its) progress.walkers
  pub captures_is : progress.captures ≡ captures_named (take count loaded.job.rounds)
  pub packets_is : progress.walkers.passed + progress.walkers.dropped
      ≡ packet_count (take progress.captures loaded.captures)

-- the events of the round of that number are told, and no packet
pub record IsAtCapture (told : ToldRound) (loaded : LoadedJob) (bytes : List ℕ) (number : ℕ) (cursor : Cursor)
    (replay : Replay) (walkers : Walkers) (before : ℕ) : Type 0 where
  pub loaded_is : told.loaded ≡ loaded
  pub number_is : number ≡ length told.its + 1
  pub of : IsToldRound told replay
  pub walked : AreWalked told bytes cursor walkers 0
  pub before_is : before ≡ length told.before
