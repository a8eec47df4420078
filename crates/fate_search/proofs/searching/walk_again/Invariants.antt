use Rattle.std.proofs.Common.{◌≡◌, List, take, drop}
use Rattle.walk_steps.specs.Walking.{progress_of}
use Rattle.fate_search.specs.Paths.{WalkTurn}
use Rattle.fate_search.specs.Searched.{sought_by, IsGone}
use Rattle.fate_search.proofs.Along.{IsAlong}
use Rattle.fate_search.proofs.searching.walk_again.Given as goal

-- it was gone so far
abbrev pub invariant-loop-branch : goal.invariant-loop-branch
invariant-loop-branch g l = record {
  going : l.progress ≡ progress_of l.walk.standing;
  along : (turns : List WalkTurn) → IsGone (sought_by (g.A.PointAnswers.answer l.packet.answers.now) l.packet) turns l.path
      → IsAlong (sought_by (g.A.PointAnswers.answer l.packet.answers.now) l.packet) turns (take l.branch-index l.path)
      (drop l.branch-index l.path) l.walk.standing l.bounds;
}
