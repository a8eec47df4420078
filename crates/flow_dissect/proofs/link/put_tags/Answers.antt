use Rattle.flow_dissect.proofs.Tagged.{no_tag, one_tag, two_tags}
use Rattle.flow_dissect.proofs.link.put_tags.Goals as goal

-- src/link.rt:105:9
pub returns-then-start-lt18-clause-values : goal.returns-then-start-lt18-clause-values
returns-then-start-lt18-clause-values c = no_tag c.args.bytes.now _ c.args.start c.if-start-lt18.true

-- src/link.rt:98:1
pub returns-then-start-eq22-clause-values : goal.returns-then-start-eq22-clause-values
returns-then-start-eq22-clause-values c = two_tags c.args.bytes.now _ _ _ c.args.start c.if-start-eq22.true c.put_first_tag.ensures.values c.put_second_tag.ensures.values

-- src/link.rt:98:1
pub returns-then-start-eq22-clause-tidy : goal.returns-then-start-eq22-clause-tidy
returns-then-start-eq22-clause-tidy c = λ tidy. c.put_second_tag.ensures.tidy (c.put_first_tag.ensures.tidy tidy)

-- src/link.rt:98:1
pub returns-else-start-eq22-clause-values : goal.returns-else-start-eq22-clause-values
returns-else-start-eq22-clause-values c = one_tag c.args.bytes.now _ _ c.args.start c.if-start-lt18.false c.if-start-eq22.false c.put_first_tag.ensures.values

-- src/link.rt:98:1
pub returns-else-start-eq22-clause-tidy : goal.returns-else-start-eq22-clause-tidy
returns-else-start-eq22-clause-tidy c = λ tidy. c.put_first_tag.ensures.tidy tidy
