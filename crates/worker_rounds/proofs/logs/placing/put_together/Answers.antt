use Rattle.std.proofs.Common.{◌<◌, ◌≤◌, ◌^◌, List, length, sym, subst, arith}
use Rattle.std.specs.Prelude.{All, flat_map}
use Rattle.lawful_runs.specs.OfLogs.Logs.{LogRow}
use Rattle.worker_rounds.specs.OfLogs.Rows.{numbers_of}
use Rattle.worker_rounds.proofs.OfLogs.Placed.{below_count, few_rows, lists_there, lists_placed, lists_many}
use Rattle.worker_rounds.proofs.logs.placing.put_together.Goals as goal

pub places_of-requires-clause-below : goal.places_of-requires-clause-below
places_of-requires-clause-below c =
    subst (λ (logs : List (List LogRow)). All (λ number. number < c.args.count) (flat_map numbers_of logs)) (sym c.deref.ensures.value)
    (below_count c.args.count (flat_map numbers_of c.args.logs.items) c.requires.numbers)

pub places_of-requires-clause-each_few : goal.places_of-requires-clause-each_few
places_of-requires-clause-each_few c =
    let within : c.args.count ≤ 2 ^ 32 = omega arith in
    subst (λ (logs : List (List LogRow)). All (λ (rows : List LogRow). length rows ≤ 2 ^ 32) logs) (sym c.deref.ensures.value)
    (few_rows c.args.count (2 ^ 32) c.args.logs.items within c.requires.numbers)

pub of_lists-requires : goal.of_lists-requires
of_lists-requires c =
    lists_there c.args.logs.items c.deref.result.now c.in_ok-lists.lists.items c.in_ok-places.places.items c.args.count c.deref.ensures.value c.in_ok-lists.ensures c.requires.numbers
    c.in_ok-places.ensures.many c.in_ok-places.ensures.named

pub returns-clause-placed : goal.returns-clause-placed
returns-clause-placed c =
    lists_placed c.args.logs.items c.deref.result.now c.in_ok-lists.lists.items c.in_ok-places.places.items c.args.count c.deref.ensures.value c.in_ok-lists.ensures c.requires.numbers
    c.in_ok-places.ensures.many c.in_ok-places.ensures.named c.of_lists.result c.of_lists.ensures

pub returns-clause-many : goal.returns-clause-many
returns-clause-many c =
    lists_many c.args.logs.items c.deref.result.now c.in_ok-lists.lists.items c.in_ok-places.places.items c.args.count c.deref.ensures.value c.in_ok-lists.ensures c.requires.numbers
    c.in_ok-places.ensures.many c.in_ok-places.ensures.named c.of_lists.result c.of_lists.ensures
