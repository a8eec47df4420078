use Rattle.std.proofs.Common.{◌≡◌, ◌∙◌, ◌≤◌, ℕ, List, length, Some, refl, sym, ap, subst}
use Rattle.filter_state.specs.Sound.{Each}
use Rattle.walk_rules.specs.Steps.{Standing, begun}
use Rattle.walk_rules.specs.Walks.{IsWalk}
use Rattle.walk_rules.proofs.Agreeing.{few_points}
use Rattle.classify_walk.specs.declared.still.Still.{Still}
use Rattle.classify_walk.proofs.StillWalks.{told_still, still_is_plain, all_at_point}
use Rattle.classify_walk.proofs.running.walk_still.Goals as goal
use Rattle.classify_walk.proofs.running.walk_still.Goals.{After-run}

abbrev still_of : After-run → Still
still_of c = record { lists = c.args.lists; point = c.args.point }

abbrev WalksFrom : After-run → Standing → Type 0
WalksFrom c st = IsWalk told_still (still_of c) st c.run.ensures.0 c.run.new.visits c.run.ensures.1

walked : (c : After-run) → WalksFrom c (begun c.args.hook c.args.bytes.now)
walked c = subst (WalksFrom c) c.begin.ensures.standing c.run.ensures.2

pub returns-clause-plain : goal.returns-clause-plain
returns-clause-plain c = λ s spelled.
    c.run.ensures.3
    ∙ ap Some (still_is_plain c.args.hook c.args.bytes.now c.run.ensures.0 (still_of c) c.run.new.visits c.run.ensures.1 (walked c) s spelled)

pub returns-clause-points : goal.returns-clause-points
returns-clause-points c =
    subst (Each (λ (visited : ℕ). visited ≡ c.args.point)) (sym c.run.ensures.4)
    (all_at_point c.args.point c.run.ensures.0 (still_of c) c.run.new.visits (begun c.args.hook c.args.bytes.now) c.run.ensures.1 refl (walked c))

pub returns-clause-few : goal.returns-clause-few
returns-clause-few c =
    subst (λ (points : List ℕ). length points ≤ 65536) (sym c.run.ensures.4)
    (few_points told_still c.args.hook c.args.bytes.now c.run.ensures.0 (still_of c) c.run.new.visits c.run.ensures.1 (walked c))
