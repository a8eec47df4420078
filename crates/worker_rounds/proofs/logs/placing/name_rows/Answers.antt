use Rattle.std.proofs.Common.{◌<◌, length, get_or, arith}
use Rattle.worker_rounds.specs.OfLogs.Named.{IsNamed}
use Rattle.worker_rounds.proofs.OfLogs.Naming.{row_named, row_kept, all_taken}
use Rattle.worker_rounds.proofs.logs.placing.name_rows.Goals as goal

pub loop-row-preserved : goal.loop-row-preserved
loop-row-preserved c =
    let numbers = c.args.numbers.now in
    let at_row = c.loop-row.row in
    let less : at_row < length numbers = omega arith in
    let below = c.requires.below at_row 0 less in
    let within : get_or numbers at_row 0 < length c.loop-row.places = omega (arith, below) in
    record {
      named = λ all listed. row_named all c.loop-row.places c.args.list at_row numbers less within listed (c.loop-row.invariant.named all listed);
      kept = λ all listed number before. row_kept all c.loop-row.places c.args.list at_row numbers less within listed number (c.loop-row.invariant.kept all listed number before);
    }

pub returns-clause-named : goal.returns-clause-named
returns-clause-named c = λ all listed. all_taken (IsNamed all c.loop-row.places) c.args.numbers.now c.loop-row.row (omega arith) (c.loop-row.invariant.named all listed)
