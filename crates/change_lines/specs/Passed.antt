-- What a change is, who answers for its states, and what is kept of it, passed on: who stands above needs no
-- other crate for it.
pub use Rattle.change_fate_laws.specs.Changes.{Changed, IsChanged, first_point, journal_of, last_point}
pub use Rattle.change_points.specs.Answers.{HookChange, answer_in}
pub use Rattle.change_points.specs.Heads.{KnowsHeads}
pub use Rattle.journal_replay.specs.Passed.{Remembers, made_by}
unfoldable pub use Rattle.journal_replay.specs.Passed.{points_text}
pub use Rattle.journal_replay.specs.Replays.{IsKept}
