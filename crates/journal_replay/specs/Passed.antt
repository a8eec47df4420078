-- What is said of command lines and of what becomes of them, passed on: who stands above needs no other crate
-- for it.
pub use Rattle.lawful_runs.specs.Events.{AreInOrder, AreResults, IsLineOf, IsResult, IsThrough, events_of}
pub use Rattle.lawful_runs.specs.Given.{GivenBatch}
pub use Rattle.lawful_runs.specs.Lawful.{made_by}
pub use Rattle.round_terms.specs.Coming.{HasCome}
pub use Rattle.round_terms.specs.Underway.{IsMet}
pub use Rattle.run_report.specs.Counts.{accepted_count, is_accepted}
pub use Rattle.run_report.specs.EventTexts.{event_line, event_lines}
unfoldable pub use Rattle.run_report.specs.PacketTexts.{points_text}
pub use Rattle.run_report.specs.declared.events.Event.{Event}
pub use Rattle.run_report.specs.declared.events.EventKind.{EventKind}
pub use Rattle.run_report.specs.declared.events.EventKind.TheVariants as event_kinds
pub use Rattle.state_past.specs.Remembering.{Remembers}
