-- Laws of accepted edits, passed on.
pub use Rattle.capture_walk.proofs.Walked.{short-at}
pub use Rattle.filter_origins.proofs.Whole.{edits_are, entries_long}
pub use Rattle.tc_report.proofs.Lines.{flat_mapped, text_more}
