-- What is said of the lines of reports and of replays, passed on: who stands above needs no other crate for
-- it.
pub use Rattle.journal_replay.specs.declared.replay.Replay.{Replay}
pub use Rattle.journal_replay.specs.Placed.{place_of, places_of, places_in}
pub use Rattle.journal_replay.specs.Replays.{IsKept}
pub use Rattle.report_laws.specs.OfLineCuts.Cuts.{cut}
pub use Rattle.report_laws.specs.OfNextLines.Walks.{AgreesFrom, answers_of}
pub use Rattle.report_laws.specs.Stands.{IsPath, Stand, closing, start}
