use Rattle.filter_tables.proofs.Sieved.{lets_none, lets_more, within_none, covers_more}
use Rattle.filter_tables.proofs.mask_list.MaskList.new.Goals as goal

pub invariant_of-result : goal.invariant_of-result
invariant_of-result c = (
  c.add.ensures.looks c.args.mask.words c.new-sieve.ensures.looks,
  lets_more c.new-sieve.result c.add.new.self c.args.filters.filters c.push.new.self.filters c.args.filter
      (lets_none c.new-sieve.result c.args.filters.filters c.requires.empty) c.add.ensures.marks c.push.ensures.filters,
  λ covered.
      covers_more c.args.mask.words c.args.filters.filters c.push.new.self.filters c.args.filter (c.covers-is_covered.ensures.fits covered)
      (within_none c.args.mask.words c.args.filters.filters c.requires.empty) (c.covers-is_covered.ensures.within covered) c.push.ensures.filters,
)
