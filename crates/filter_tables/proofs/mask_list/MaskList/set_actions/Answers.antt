use Rattle.filter_tables.proofs.Sieved.{lets_acting, covers_acting}
use Rattle.filter_tables.proofs.mask_list.MaskList.set_actions.Goals as goal

pub invariant_of-self : goal.invariant_of-self
invariant_of-self c = (
  c.self.invariant.0,
  lets_acting c.self.inside.sieve c.self.inside.filters.filters c.set_actions.new.self.filters c.args.handle c.args.actions c.self.invariant.1
      c.set_actions.ensures.filters,
  λ covered.
      covers_acting c.self.inside.mask.words c.self.inside.filters.filters c.set_actions.new.self.filters c.args.handle c.args.actions (c.self.invariant.2 covered)
      c.set_actions.ensures.filters,
)
