use Rattle.std.proofs.Common.{rules, ◌≡◌, ◌∙◌, ◌++◌, ◌∷◌, [], ap}
use Rattle.run_report.specs.Kept.{outcome_seen}
use Rattle.worker_rounds.specs.OfLogs.Rows.{row_of, rows_in}
use Rattle.worker_rounds.proofs.OfLogs.Logged.{rows_pushed}
use Rattle.worker_rounds.proofs.logs.walk_log.WalkLog.push.Goals as goal

pub returns-clause-put : goal.returns-clause-put
returns-clause-put c =
    let numbers = c.self.inside.numbers.items in
    let outcomes = c.self.inside.outcomes in
    let pushed : c.push_reserved.new.self.items ≡ numbers ++ c.args.number ∷ [] = search rules in
    let put : c.push.new.self ≡ outcomes ++ outcome_seen c.args.outcome.now ∷ [] = c.in_ok-push.ensures.put in
    ap (λ ns. rows_in ns c.push.new.self) pushed
    ∙ ap (λ os. rows_in (numbers ++ c.args.number ∷ []) os) put
    ∙ rows_pushed numbers outcomes c.args.number (outcome_seen c.args.outcome.now) c.self.invariant
    ∙ ap (λ rows. rows ++ row_of c.args.number (outcome_seen c.args.outcome.now) ∷ []) c.self.view_is
