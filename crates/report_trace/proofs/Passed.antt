-- Laws of reports and of traces of batches, passed on.
pub use Rattle.report_check.proofs.OneCheck.{one_answer}
pub use Rattle.report_check.proofs.Passed.{events_few, packets_few}
pub use Rattle.report_check.proofs.Passed.{frame_short}
pub use Rattle.batch_trace.proofs.Parts.{told_is_trace}
