use Rattle.std.proofs.Common.{◌≡◌, ◌∙◌, ℕ, List, [], ◌∷◌, ◌++◌, ap, arith}
use Rattle.run_report.specs.declared.outcomes.Outcome.{Outcome}
use Rattle.run_report.specs.declared.outcome_list.Row.{Row}
use Rattle.run_report.specs.Kept.{first_ends, ends_of, outcomes_in, outcome_seen, AreRowsUpTo}
use Rattle.run_report.proofs.Buffers.{row_of, put_behind}
use Rattle.run_report.proofs.outcome_list.OutcomeList.push.Goals as goal
use Rattle.run_report.proofs.outcome_list.OutcomeList.push.Goals.{After-push_reserved}

-- the outcome stands behind the others, and its parts behind theirs
placed : (c : After-push_reserved)
    → (outcomes_in c.put.new.list.items c.put-2.new.list.items c.put-3.new.list.items first_ends c.push_reserved.new.self.items
    ≡ outcomes_in c.self.inside.bytes.items c.self.inside.points.items c.self.inside.executed.items first_ends c.self.inside.rows.items ++ outcome_seen c.args.outcome.now ∷ [])
    × AreRowsUpTo (ends_of c.put.new.list.items c.put-2.new.list.items c.put-3.new.list.items) first_ends c.push_reserved.new.self.items
placed c =
    let outcome : Outcome = outcome_seen c.args.outcome.now in
    let row : Row = row_of outcome (record { bytes = c.len.result; points = c.len-2.result; executed = c.len-3.result }) in
    put_behind c.self.inside.bytes.items c.self.inside.points.items c.self.inside.executed.items outcome c.self.inside.rows.items
    c.put.new.list.items c.put-2.new.list.items c.put-3.new.list.items c.push_reserved.new.self.items c.len.result c.len-2.result c.len-3.result c.self.invariant
    (c.put.ensures ∙ ap (λ (xs : List ℕ). xs ++ outcome.bytes) c.reserve.ensures.items)
    (c.put-2.ensures ∙ ap (λ (xs : List ℕ). xs ++ outcome.points) c.reserve-2.ensures.items)
    (c.put-3.ensures ∙ ap (λ (xs : List (ℕ × ℕ)). xs ++ outcome.executed) c.reserve-3.ensures.items)
    (omega (arith, c.len.ensures)) (omega (arith, c.len-2.ensures)) (omega (arith, c.len-3.ensures))
    (c.push_reserved.ensures.items ∙ ap (λ (rows : List Row). rows ++ row ∷ []) c.reserve-4.ensures.items)

pub returns-clause-put : goal.returns-clause-put
returns-clause-put c =
    let at = goal.at.returns-clause-put c in
    (placed at.After-push_reserved).0 ∙ ap (λ (os : List Outcome). os ++ outcome_seen c.args.outcome.now ∷ []) c.self.view_is

pub invariant_of-self-2 : goal.invariant_of-self-2
invariant_of-self-2 c =
    let at = goal.at.invariant_of-self-2 c in
    (placed at.After-push_reserved).1
