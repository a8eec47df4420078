use Rattle.filter_tables.proofs.Sieved.{lets_more, covers_also}
use Rattle.filter_tables.proofs.mask_list.MaskList.put.Goals as goal

pub invariant_of-self : goal.invariant_of-self
invariant_of-self c = (
  c.add.ensures.looks c.self.inside.mask.words c.self.invariant.0,
  lets_more c.self.inside.sieve c.add.new.self c.self.inside.filters.filters c.push.new.self.filters c.args.filter c.self.invariant.1 c.add.ensures.marks
      c.push.ensures.filters,
  covers_also c.self.inside.mask.words c.self.inside.filters.filters c.push.new.self.filters c.args.filter c.self.inside.is_covered c.covers.result
      c.self.invariant.2 c.covers.ensures.within c.push.ensures.filters,
)
