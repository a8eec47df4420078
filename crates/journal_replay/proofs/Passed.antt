-- Laws of command lines and of what becomes of them, passed on.
pub use Rattle.lawful_runs.proofs.Events.{state_from-append}
pub use Rattle.lawful_runs.proofs.Results.{result_counted, results_counted}
pub use Rattle.round_terms.proofs.Coming.{come_among, come_further, come_over, come_short, events_own, results_further}
