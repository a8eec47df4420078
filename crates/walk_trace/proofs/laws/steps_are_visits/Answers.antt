use Rattle.std.proofs.Common.{get_or, sym, subst}
use Rattle.walk_rules.specs.declared.limits.TheConstants.{VISITS_MAX}
use Rattle.walk_rules.specs.Answers.{answer_of}
use Rattle.walk_rules.specs.Steps.{begun}
use Rattle.trace_lines.specs.Steps.{steps_of}
use Rattle.walk_trace.specs.Visited.{AreVisits}
use Rattle.walk_trace.proofs.Walks.{all_traced}
use Rattle.walk_trace.proofs.laws.steps_are_visits.Goals as goal

pub returns-clause-visits : goal.returns-clause-visits
returns-clause-visits c = λ states hook bytes points visits outcome walk.
    let traced = all_traced states hook bytes points visits outcome walk in
    subst (AreVisits (steps_of (λ point. answer_of (states point)) (λ k. get_or points k 0) VISITS_MAX (begun hook bytes))) (sym traced.behind) traced.same

pub returns-clause-outcome : goal.returns-clause-outcome
returns-clause-outcome c = λ states hook bytes points visits outcome walk. (all_traced states hook bytes points visits outcome walk).ends
