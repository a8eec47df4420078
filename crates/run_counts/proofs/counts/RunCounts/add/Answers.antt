use Rattle.std.proofs.Common.{◌^◌, get_or, ap, arith}
use Rattle.walk_ends.specs.declared.counts.Count.{Count}
use Rattle.run_counts.proofs.Tallies.{part_most, run_small}
use Rattle.run_counts.proofs.counts.RunCounts.add.Goals as goal

pub add_one-requires-clause-bytes : goal.add_one-requires-clause-bytes
add_one-requires-clause-bytes c =
    let l = c.loop-serial in
    let runs = c.args.executed.now in
    let serial = (get_or runs l.serial-index (0, 0)).0 in
    let is = ap (λ (n : Count). n.bytes) (l.invariant serial) in
    let part = part_most runs l.serial-index serial c.requires.short in
    let few = c.requires.few serial in
    let own = run_small runs l.serial-index c.requires.short.1 in
    omega (arith, is, part, few, own)
