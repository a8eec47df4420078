use Rattle.std.proofs.Common.{arith}
use Rattle.pin_store.proofs.Noting.{all_clear_from}
use Rattle.pin_store.proofs.scan.Scan.of_notes.Goals as goal

pub returns : goal.returns
returns c = all_clear_from c.args.notes.now (λ j l. c.loop-i.invariant j (omega arith))
