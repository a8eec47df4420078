use Rattle.walk_fate_laws.proofs.Timing.{means_before, means_after, means_both, means_between, means_mixed}
use Rattle.walk_fate_laws.proofs.laws.whens_mean.Goals as goal

pub returns-clause-before : goal.returns-clause-before
returns-clause-before c = λ states before ceiling hook bytes fate sound order.
    means_before states before ceiling hook bytes sound order fate

pub returns-clause-after : goal.returns-clause-after
returns-clause-after c = λ states before ceiling hook bytes fate sound order.
    means_after states before ceiling hook bytes sound order fate

pub returns-clause-both : goal.returns-clause-both
returns-clause-both c = λ states before ceiling hook bytes fate sound order.
    means_both states before ceiling hook bytes sound order fate

pub returns-clause-between : goal.returns-clause-between
returns-clause-between c = λ states before ceiling hook bytes fate sound order.
    means_between states before ceiling hook bytes sound order fate

pub returns-clause-mixed : goal.returns-clause-mixed
returns-clause-mixed c = λ states before ceiling hook bytes fate sound order.
    means_mixed states before ceiling hook bytes sound order fate
