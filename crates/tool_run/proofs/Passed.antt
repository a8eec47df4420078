-- Laws of short runs, passed on.
pub use Rattle.report_trace.proofs.Passed.{events_few, packets_few}
