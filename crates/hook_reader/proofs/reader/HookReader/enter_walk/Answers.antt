use Rattle.pin_store.specs.Calls.{seen_by}
use Rattle.hook_reader.proofs.Reading.{entered_reading}
use Rattle.hook_reader.proofs.Copies.{heads_longer}
use Rattle.kept_records.proofs.Kept.{records_longer}
use Rattle.hook_reader.proofs.reader.HookReader.enter_walk.Goals as goal

pub invariant_of-self : goal.invariant_of-self
invariant_of-self c = let s = c.self.inside in let e = c.enter.ensures in (
  entered_reading s.reader.place c.enter.new.self.place s.visits s.latest c.forget.new.self e.longer e.recent c.self.invariant.0.late c.forget.ensures,
  heads_longer (seen_by s.reader.place) (seen_by c.enter.new.self.place) s.ingress s.egress e.longer c.self.invariant.1,
  records_longer (seen_by s.reader.place) (seen_by c.enter.new.self.place) s.records e.longer c.self.invariant.2,
)
