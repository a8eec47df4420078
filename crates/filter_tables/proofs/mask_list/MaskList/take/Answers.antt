use Rattle.filter_tables.proofs.Sieved.{lets_fewer, covers_fewer}
use Rattle.filter_tables.proofs.mask_list.MaskList.take.Goals as goal

pub invariant_of-self : goal.invariant_of-self
invariant_of-self c = (
  c.self.invariant.0,
  lets_fewer c.self.inside.sieve c.self.inside.filters.filters c.take.new.self.filters c.args.handle c.self.invariant.1 c.take.ensures.filters,
  λ covered. covers_fewer c.self.inside.mask.words c.self.inside.filters.filters c.take.new.self.filters c.args.handle (c.self.invariant.2 covered) c.take.ensures.filters,
)
