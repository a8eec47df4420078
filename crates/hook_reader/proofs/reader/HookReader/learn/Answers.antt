use Rattle.std.proofs.Common.{ap, arith}
use Rattle.pin_store.specs.Calls.{seen_by, start_in}
use Rattle.hook_reader.specs.Seats.{first_head_of}
use Rattle.hook_reader.proofs.Reading.{point_longer, outside_reading}
use Rattle.hook_reader.proofs.Copies.{heads_longer}
use Rattle.kept_records.proofs.Kept.{records_longer}
use Rattle.hook_reader.proofs.reader.HookReader.learn.Goals as goal

pub invariant_of-self : goal.invariant_of-self
invariant_of-self c = let s = c.self.inside in let e = c.learn.ensures in let q = c.learn.new.self.place in let start = ap start_in e.same.floor in
    let own = point_longer (seen_by s.reader.place) (seen_by q) e.longer in let late = c.self.invariant.0.late in
    let other = point_longer (seen_by c.args.receipt.receipt.place) (seen_by q) e.learnt in let at = c.args.receipt.at in let most = c.max.ensures in (
      outside_reading s.reader.place q s.visits s.latest c.max.result (first_head_of s.head) s.points c.self.invariant.0
          e.longer (omega (arith, start)) (omega (arith, most)) (omega (arith, most, own, late, other, at)),
      heads_longer (seen_by s.reader.place) (seen_by q) s.ingress s.egress e.longer c.self.invariant.1,
      records_longer (seen_by s.reader.place) (seen_by q) s.records e.longer c.self.invariant.2,
    )
