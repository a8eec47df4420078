use Rattle.std.proofs.Common.{ℕ, ◌∙◌, sym, ap, subst, map, take, List, arith}
use Rattle.std.proofs.lemmas.List.{take_all}
use Rattle.filter_state.specs.Sound.{Each}
use Rattle.walk_steps.specs.Told.{execution}
use Rattle.walk_ends.specs.declared.counts.Count.{Count}
use Rattle.capture_walk.specs.Captures.{each_added}
use Rattle.capture_walk.specs.Room.{HasRoom}
use Rattle.capture_walk.proofs.Counting.{added-none, added-more, run-taken, room-left}
use Rattle.capture_walk.proofs.counts.add_executed.Goals as goal

pub loop-serial-init : goal.loop-serial-init
loop-serial-init c = sym (added-none 1 c.args.counts.now)

pub add_one-requires : goal.add_one-requires
add_one-requires c =
    subst (λ (counts : List Count). Each HasRoom counts) (sym c.loop-serial.invariant)
    (room-left c.args.counts.now (take c.loop-serial.serial-index c.args.executed.now) c.requires.room
    (run-taken c.loop-serial.serial-index c.args.executed.now c.requires.short))

pub loop-serial-preserved : goal.loop-serial-preserved
loop-serial-preserved c =
    added-more c.args.counts.now c.add_one.new.counts c.args.executed.now c.loop-serial.serial-index (0, 0) c.loop-serial-test.true
    (rw (← c.loop-serial.invariant) c.add_one.ensures)

pub returns : goal.returns
returns c =
    c.loop-serial.invariant
    ∙ ap (λ (run : List (ℕ × ℕ)). each_added 1 c.args.counts.now (map execution run)) (take_all c.loop-serial.serial-index c.args.executed.now (omega arith))
