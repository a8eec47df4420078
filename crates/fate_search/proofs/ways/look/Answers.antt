use Rattle.std.proofs.Common.{◌∙◌, true, false, List, ap, arith}
use Rattle.fate_search.specs.Found.{found_with, noted}
use Rattle.fate_search.specs.declared.branch_points.Branch.{Branch}
use Rattle.fate_search.specs.Paths.{points_of}
use Rattle.fate_search.specs.Searched.{sought_by}
use Rattle.fate_search.proofs.Whole.{way_noted, none_noted, one_more, as_come}
use Rattle.fate_search.proofs.ways.look.Goals as goal

pub follow-requires-clause-path : goal.follow-requires-clause-path
follow-requires-clause-path g c = (c.requires.looked.rest, c.requires.looked.come)

pub returns-then-not-is_end : goal.returns-then-not-is_end
returns-then-not-is_end g c =
    let s = sought_by (g.A.PointAnswers.answer c.args.packet.now.answers.now) c.args.packet.now in
    let old = c.args.room.now.path.items in let room = c.follow.new.room in let it = c.requires.looked in
    none_noted s c.args.from old room.path.items c.args.ways c.args.fates.now room.walk.standing it
    (as_come s old c.args.from room.path.items room.walk.standing it.rest c.in_ok-is_end.is_end false
    c.if-not-is_end.true (c.in_ok-is_end.ensures it.rest it.come))

pub returns-then-ways-eq-WAYS_MAX : goal.returns-then-ways-eq-WAYS_MAX
returns-then-ways-eq-WAYS_MAX g c =
    let s = sought_by (g.A.PointAnswers.answer c.args.packet.now.answers.now) c.args.packet.now in
    let old = c.args.room.now.path.items in let room = c.follow.new.room in let it = c.requires.looked in
    one_more s c.args.from old room.path.items c.args.ways c.args.fates.now room.walk.standing it
    (as_come s old c.args.from room.path.items room.walk.standing it.rest c.in_ok-is_end.is_end true
    c.if-not-is_end.false (c.in_ok-is_end.ensures it.rest it.come)) (omega arith)

pub returns : goal.returns
returns g c =
    let s = sought_by (g.A.PointAnswers.answer c.args.packet.now.answers.now) c.args.packet.now in
    let old = c.args.room.now.path.items in let room = c.follow.new.room in let it = c.requires.looked in
    let few = it.few in
    way_noted s c.args.from old room.path.items c.args.ways c.args.fates.now c.note.new.self room.walk.standing
    c.verdict.result c.frame.result.now it
    (as_come s old c.args.from room.path.items room.walk.standing it.rest c.in_ok-is_end.is_end true
    c.if-not-is_end.false (c.in_ok-is_end.ensures it.rest it.come)) (omega (arith, few)) c.verdict.ensures c.frame.ensures
    (c.in_ok-note.ensures ∙ ap (λ (p : List Branch). noted c.args.fates.now (found_with (points_of p) c.verdict.result
    c.frame.result.now)) c.deref.ensures.value)
