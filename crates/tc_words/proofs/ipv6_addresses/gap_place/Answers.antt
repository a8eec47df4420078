use Rattle.std.proofs.Common.{◌∙◌, sym, arith, below_more}
use Rattle.tc_words.proofs.Ipv6Parts.{gap_found, no_gap}
use Rattle.tc_words.proofs.ipv6_addresses.gap_place.Goals as goal

pub returns-then-are_colons_at-clause-value : goal.returns-then-are_colons_at-clause-value
returns-then-are_colons_at-clause-value c =
    sym (gap_found c.args.text.now c.loop-at.at c.loop-at-test.true c.loop-at.invariant.before (sym c.are_colons_at.ensures ∙ c.if-are_colons_at.true))

pub loop-at-preserved : goal.loop-at-preserved
loop-at-preserved c = record {
  inside = omega (arith, c.loop-at-test.true);
  before = below_more _ _ c.loop-at.invariant.before (sym c.are_colons_at.ensures ∙ c.if-are_colons_at.false);
}

pub returns-clause-value : goal.returns-clause-value
returns-clause-value c = sym (no_gap c.args.text.now c.loop-at.at c.loop-at-test.false c.loop-at.invariant.before)
