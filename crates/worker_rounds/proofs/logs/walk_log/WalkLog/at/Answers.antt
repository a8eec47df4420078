use Rattle.std.proofs.Common.{◌∙◌, ◌<◌, length, refl, sym, ap, arith}
use Rattle.std.specs.List.{slice_get}
use Rattle.std.proofs.lemmas.Option.{slice_get_read}
use Rattle.run_report.specs.Kept.{outcome_seen}
use Rattle.worker_rounds.proofs.OfLogs.Logged.{rows_many, row_at}
use Rattle.worker_rounds.proofs.logs.walk_log.WalkLog.at.Goals as goal

pub index-requires : goal.index-requires
index-requires c =
    let within = c.requires in
    let seen = ap length c.self.view_is in
    let many = rows_many c.self.inside.numbers.items c.self.inside.outcomes c.self.invariant in
    let own = c.self.inside.numbers.ok.0 in
    omega (arith, within, seen, many, own)

pub at-requires : goal.at-requires
at-requires c =
    let within = c.requires in
    let seen = ap length c.self.view_is in
    let many = rows_many c.self.inside.numbers.items c.self.inside.outcomes c.self.invariant in
    let same = c.self.invariant in
    omega (arith, within, seen, many, same)

pub returns : goal.returns
returns c =
    let numbers = c.self.inside.numbers.items in
    let within = c.requires in
    let seen = ap length c.self.view_is in
    let many = rows_many numbers c.self.inside.outcomes c.self.invariant in
    let less : c.args.place < length numbers = omega (arith, within, seen, many) in
    let numbered = slice_get_read numbers (length numbers) c.args.place c.index.result.now refl less c.index.ensures in
    ap (λ rows. slice_get rows c.args.place) (sym c.self.view_is)
    ∙ row_at numbers c.self.inside.outcomes c.args.place c.index.result.now (outcome_seen c.at.result) numbered c.at.ensures
