use Rattle.std.proofs.Common.{◌≡◌, take}
use Rattle.filter_state.specs.States.{State}
use Rattle.filter_lists.specs.Spells.{Spells}
use Rattle.capture_walk.specs.Captures.{AreFew}
use Rattle.capture_walk.proofs.Walked.{IsWalked}
use Rattle.capture_walk.proofs.walking.walk_capture.Given as goal

abbrev pub invariant-loop-index : goal.invariant-loop-index
invariant-loop-index l = record {
  walked : (s : State) → Spells l.lists s → IsWalked s l.hook l.capture (take l.index l.capture.packets) l.leaving;
  few : AreFew l.index l.leaving.counts.items;
  of : l.leaving.output.of ≡ l.capture;
}
