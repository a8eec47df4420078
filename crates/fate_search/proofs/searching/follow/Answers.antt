use Rattle.std.proofs.Common.{◌∙◌, List, sym, subst}
use Rattle.point_walks.proofs.Moves.{is_going}
use Rattle.fate_search.specs.declared.branch_points.Branch.{Branch}
use Rattle.fate_search.specs.Paths.{IsThrough}
use Rattle.fate_search.specs.Searched.{sought_by}
use Rattle.fate_search.proofs.Following.{at_start, asks_from, went_on, went_by, is_stuck, visits_fall, asks_nothing}
use Rattle.fate_search.proofs.Following.{not_longer, longer_still, has_stuck, has_come}
use Rattle.fate_search.proofs.searching.follow.Goals as goal

pub walk_again-requires-clause-path : goal.walk_again-requires-clause-path
walk_again-requires-clause-path g c =
    let come = c.requires.path.1 in (come.turns, record { kept = c.deref.ensures.value ∙ come.kept; are = come.are })

pub loop-progress-init : goal.loop-progress-init
loop-progress-init g c =
    let s = sought_by (g.A.PointAnswers.answer c.args.packet.now.answers.now) c.args.packet.now in
    let path = c.args.room.now.path.items in let first = c.requires.path.1 in
    record {
      going = (c.in_ok-progress.ensures first.turns (record { kept = c.deref.ensures.value ∙ first.kept; are = first.are })).0;
      at = λ ways come. at_start s path c.args.from c.walk_again.new.walk.standing c.walk_again.new.bounds ways come
          (subst (λ (p : List Branch). IsThrough s come.turns p c.walk_again.new.walk.standing c.walk_again.new.bounds)
          c.deref.ensures.value (c.in_ok-progress.ensures come.turns
          (record { kept = c.deref.ensures.value ∙ come.kept; are = come.are })).1);
      longer = not_longer path c.args.from;
    }

pub go_on-requires : goal.go_on-requires
go_on-requires g c =
    let s = sought_by (g.A.PointAnswers.answer c.args.packet.now.answers.now) c.args.packet.now in
    let room = c.loop-progress.room in let st = room.walk.standing in let inv = c.loop-progress.invariant in
    let asks = is_going st (sym c.in-Going.is ∙ inv.going) in let ways = c.requires.path.0 in
    asks_from s c.loop-progress.from room.path.items st room.bounds ways asks.0 (inv.at ways c.requires.path.1) asks.1

pub loop-progress-preserved : goal.loop-progress-preserved
loop-progress-preserved g c =
    let answers = g.A.PointAnswers.answer c.args.packet.now.answers.now in
    let s = sought_by answers c.args.packet.now in let from = c.loop-progress.from in
    let old = c.loop-progress.room in let now = c.go_on.new.room in let inv = c.loop-progress.invariant in
    let went = went_by answers from s.ceiling old now _ c.in-Some.next c.in-Some.is c.in_ok-next.ensures in
    let first = c.requires.path in
    record {
      going = went.going;
      at = λ ways come. went_on s from old now c.in-Some.next ways (inv.at ways come) went;
      longer = longer_still s from old now c.in-Some.next first.0 _ (inv.at first.0 first.1) went inv.longer;
    }

pub loop-progress-smaller : goal.loop-progress-smaller
loop-progress-smaller g c =
    let answers = g.A.PointAnswers.answer c.args.packet.now.answers.now in
    let s = sought_by answers c.args.packet.now in let from = c.loop-progress.from in
    let old = c.loop-progress.room in let now = c.go_on.new.room in
    visits_fall answers from s.ceiling old now c.in-Some.next
    (went_by answers from s.ceiling old now _ c.in-Some.next c.in-Some.is c.in_ok-next.ensures)

pub returns-in-None : goal.returns-in-None
returns-in-None g c = λ ways come.
    let answers = g.A.PointAnswers.answer c.args.packet.now.answers.now in
    let s = sought_by answers c.args.packet.now in let from = c.loop-progress.from in
    let old = c.loop-progress.room in let now = c.go_on.new.room in let inv = c.loop-progress.invariant in
    has_stuck s c.args.room.now.path.items c.args.from from old now ways (inv.at ways come)
    (is_stuck answers from s.ceiling old now _ c.in-None.is c.in_ok-next.ensures) inv.longer

pub returns : goal.returns
returns g c = λ ways come.
    let answers = g.A.PointAnswers.answer c.args.packet.now.answers.now in
    let s = sought_by answers c.args.packet.now in let room = c.loop-progress.room in
    let inv = c.loop-progress.invariant in
    has_come s c.args.room.now.path.items c.args.from c.loop-progress.from room.path.items room.walk.standing room.bounds
    ways (inv.at ways come) (asks_nothing room.walk.standing c.loop-progress.progress inv.going c.in_default.not-Going)
    inv.longer
