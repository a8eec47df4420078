-- A walk of a packet as contracts see it (this project's own).
use Rattle.std.specs.Prelude.{ℕ, List, [], length, Option, None, unwrap_or}
use Rattle.frame_edit.specs.declared.meta.Meta.{Meta}
use Rattle.frame_edit.specs.Metadata.{no_meta}
use Rattle.walk_rules.specs.declared.verdict.Verdict.{Verdict}
use Rattle.walk_rules.specs.declared.verdict.Verdict.TheVariants as verdicts
use Rattle.walk_rules.specs.Steps.{Execution}
use Rattle.walk_rules.specs.Walks.{Outcome}

-- what a walk left: its verdict, the bytes of the frame where an action came that changes bytes, its
-- metadata, and what ran on it
pub record Walked : Type 0 where
  pub verdict : Verdict
  pub edited : Option (List ℕ)
  pub meta : Meta
  pub executed : List Execution

-- no packet was walked: as after one that passed and met nothing
abbrev pub no_walk : Walked
no_walk = record { verdict = verdicts.Pass; edited = None; meta = no_meta; executed = [] }

-- how the walk of a frame that came with these bytes ended
abbrev pub walked_from : List ℕ → Walked → Outcome
walked_from came walked = record {
  verdict = walked.verdict;
  frame = record { bytes = unwrap_or walked.edited came; loaded = length came; meta = walked.meta };
  executed = walked.executed;
}
