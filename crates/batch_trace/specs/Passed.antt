-- What is said of accepted edits and of their names, passed on: who stands above needs no other crate for it.
pub use Rattle.filter_origins.specs.Entries.{Entry, edits_of, entries_of}
pub use Rattle.filter_origins.specs.Knows.{Knows}
pub use Rattle.filter_origins.specs.Origins.{brought_of}
pub use Rattle.filter_origins.specs.declared.brought.Brought.{Brought}
pub use Rattle.filter_origins.specs.declared.origins.Origins.{Origins}
pub use Rattle.journal_names.specs.Decided.{decided_line}
pub use Rattle.journal_names.specs.Known.{AreKnown, answers_in, names_of}
pub use Rattle.state_past.specs.OfJournals.Answered.{Answerer, answer_by}
pub use Rattle.state_past.specs.Remembering.{Remembers}
