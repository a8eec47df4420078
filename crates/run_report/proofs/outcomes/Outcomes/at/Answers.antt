use Rattle.std.proofs.Common.{arith}
use Rattle.run_report.specs.Kept.{outcome_seen}
use Rattle.run_report.proofs.Places.{many_seen, within_list, within_rows, read_at}
use Rattle.run_report.proofs.outcomes.Outcomes.at.Goals as goal

pub index-there-requires : goal.index-there-requires
index-there-requires c =
    let many = many_seen c.self.inside.lists.items c.self.inside.places.items c.args.self.now c.self.invariant c.self.view_is in
    let within = c.requires in
    let own = c.self.inside.places.ok.0 in
    omega (arith, many, within, own)

pub index-requires : goal.index-requires
index-requires c =
    let place = within_list c.self.inside.lists.items c.self.inside.places.items c.args.self.now c.self.invariant c.self.view_is c.args.place c.index-there.result.now c.requires c.index-there.ensures in
    let less = place.first in
    let own = c.self.inside.lists.ok.0 in
    omega (arith, less, own)

pub at-requires : goal.at-requires
at-requires c =
    within_rows c.self.inside.lists.items c.self.inside.places.items c.args.self.now c.self.invariant c.self.view_is c.args.place c.index-there.result.now c.requires c.index-there.ensures
    c.index.result.now c.index.ensures

pub returns : goal.returns
returns c =
    read_at c.self.inside.lists.items c.self.inside.places.items c.args.self.now c.self.invariant c.self.view_is c.args.place c.index-there.result.now c.requires c.index-there.ensures
    c.index.result.now c.index.ensures (outcome_seen c.at.result) c.at.ensures
