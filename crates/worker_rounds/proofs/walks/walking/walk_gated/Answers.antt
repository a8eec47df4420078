use Rattle.std.proofs.Common.{arith}
use Rattle.worker_rounds.proofs.OfPoints.Follows.{none_visited}
use Rattle.worker_rounds.proofs.OfWalks.Reading.{read_all, walked_by, kept_through}
use Rattle.worker_rounds.proofs.walks.walking.walk_gated.Goals as goal

pub returns : goal.returns
returns g c =
    let r = c.run.ensures in
    let old = c.args.visits.now in
    let new = c.run.new.visits in
    let read = read_all (λ v. v.walking.reader.now) _ old.walking.reader.now.latest (λ before now question answer point told. told.0) c.args.hook c.args.bytes.now r.0 old new _ r.1 c.begin.ensures.standing
    (none_visited old.walking.reader.now c.requires.first) (omega arith) r.2 in
    record {
      store = kept_through (λ v. v.walking.store) _ (λ before now question answer point told. told.1) r.0 old new _ r.1 r.2;
      same = kept_through (λ v. v.walking.reader.ghost_name) _ (λ before now question answer point told. told.2) r.0 old new _ r.1 r.2;
      pin = (read.same.number, read.same.pin);
      walked = walked_by old.walking.reader.now new.walking.reader.now c.args.hook c.args.bytes.now r.0 r.1 c.run.new.walk r.4 r.3 read;
    }
