-- What the commands say of reports, and of the traces of batches, passed on: who stands above needs no other
-- crate for it.
pub use Rattle.report_check.specs.declared.check.Check.{Check}
pub use Rattle.report_check.specs.declared.check.Check.TheVariants as checks
pub use Rattle.report_check.specs.Passed.{Replay}
pub use Rattle.report_check.specs.declared.rechecking.Replayed.{Replayed}
pub use Rattle.report_check.specs.declared.rechecking.Replayed.TheVariants as replayed
pub use Rattle.report_check.specs.Checks.{IsCheckOf}
pub use Rattle.report_check.specs.Replayed.{IsReplayedOf}
pub use Rattle.batch_trace.specs.Accepted.{AreAccepted}
pub use Rattle.batch_trace.specs.Traced.{told_trace, IsTraceOf as IsBatchTraceOf}
