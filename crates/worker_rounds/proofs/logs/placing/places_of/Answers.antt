use Rattle.std.proofs.Common.{◌≡◌, ◌∙◌, ◌<◌, ◌++◌, length, map, take, drop, ap, arith}
use Rattle.worker_rounds.specs.OfLogs.Rows.{numbers_of}
use Rattle.worker_rounds.specs.OfLogs.Named.{IsNamed}
use Rattle.worker_rounds.proofs.OfLogs.Naming.{below_log, log_named, logs_taken, written}
use Rattle.worker_rounds.proofs.logs.placing.places_of.Goals as goal

pub name_rows-requires-clause-below : goal.name_rows-requires-clause-below
name_rows-requires-clause-below c =
    let less : c.loop-list.list < length c.args.logs.now = omega arith in
    below_log c.args.logs.now c.loop-list.list c.index-logs-list.result c.numbers.result.now less c.index-logs-list.is c.numbers.ensures c.args.count (length c.deref_mut.result.now)
    (ap length c.deref_mut.ensures.value ∙ c.loop-list.invariant.many) c.requires.below

pub loop-list-preserved : goal.loop-list-preserved
loop-list-preserved c =
    let less : c.loop-list.list < length c.args.logs.now = omega arith in
    let seen = ap length c.deref_mut.ensures.value in
    let same : length c.name_rows.new.places ≡ length c.loop-list.places.items = c.name_rows.auto.places ∙ seen in
    let back = written c.name_rows.new.places c.loop-list.places.items c.loop-list.places.len same c.loop-list.places.ok.0 in
    record {
      many = ap length back ∙ same ∙ c.loop-list.invariant.many;
      named = log_named c.args.logs.now c.loop-list.list c.index-logs-list.result c.numbers.result.now less c.index-logs-list.is c.numbers.ensures
          c.loop-list.places.items c.deref_mut.result.now c.name_rows.new.places (take c.loop-list.places.len (c.name_rows.new.places ++ drop (length c.name_rows.new.places) c.loop-list.places.items))
          c.deref_mut.ensures.value back c.loop-list.invariant.named c.name_rows.ensures.named c.name_rows.ensures.kept;
    }

pub returns-clause-named : goal.returns-clause-named
returns-clause-named c = logs_taken (IsNamed (map numbers_of c.args.logs.now) c.loop-list.places.items) c.args.logs.now c.loop-list.list (omega arith) c.loop-list.invariant.named
