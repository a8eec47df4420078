use Rattle.worker_rounds.proofs.OfWalks.Reading.{whole_walk}
use Rattle.worker_rounds.proofs.walks.walking.walk_packet.Goals as goal

pub returns-clause-walked : goal.returns-clause-walked
returns-clause-walked g c = whole_walk c.args.reader.now c.enter_walk.new.self c.walk_inside.new.reader c.leave_walk.new.self c.args.hook c.args.bytes.now c.walk_inside.new.walk
    c.enter_walk.ensures.longer c.enter_walk.ensures.same c.walk_inside.ensures.walked c.leave_walk.ensures.seen c.leave_walk.ensures.same
