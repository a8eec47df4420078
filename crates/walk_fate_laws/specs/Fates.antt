-- What becomes of a packet (this project's own).
use Rattle.std.specs.Prelude.{ℕ, ◌==◌, ◌&&◌, Bool, true, false, List}
use lib.Pointwise.{pointwise}
use Rattle.std.specs.Prelude.{nat_eq}
use Rattle.frame_edit.specs.declared.meta.Meta.{Meta}
use Rattle.frame_edit.specs.EditedFrame.{EditedFrame}
use Rattle.walk_rules.specs.declared.verdict.Verdict.{Verdict}
use Rattle.walk_rules.specs.declared.verdict.Verdict.TheVariants as verdicts
use Rattle.walk_rules.specs.Walks.{Outcome}

-- it is let go, and nothing of it is left; or it goes on with these bytes and this metadata
pub data Fate : Type 0 where
  dropped : Fate
  passed : (bytes : List ℕ) (meta : Meta) → Fate

abbrev pub fate_by : Verdict → EditedFrame → Fate
fate_by verdicts.Drop frame = dropped
fate_by verdicts.Pass frame = passed frame.bytes frame.meta

-- THE FATE of a packet whose walk ended so; how often actions ran is no part of it
abbrev pub fate_of : Outcome → Fate
fate_of outcome = fate_by outcome.verdict outcome.frame

abbrev pub same_meta : Meta → Meta → Bool
same_meta one other = one.priority == other.priority && one.mark == other.mark && one.queue == other.queue

-- whether two fates are one
abbrev pub same_fate : Fate → Fate → Bool
same_fate dropped dropped = true
same_fate (passed bytes meta) (passed others other) = pointwise nat_eq bytes others && same_meta meta other
same_fate one other = false
