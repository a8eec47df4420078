use Rattle.std.proofs.Common.{◌∙◌, not, ap}
use Rattle.fate_search.proofs.Whole.{looked_first, looked_on, told_back, falls, as_look, as_more, sought_of}
use Rattle.fate_search.proofs.ways.search.Goals as goal

pub loop-now-init : goal.loop-now-init
loop-now-init g c =
    let s = sought_of (g.A.PointAnswers.answer c.args.answers.now) c.args.hook c.args.bytes.now c.args.before c.args.ceiling in
    looked_first s c.clear-2.new.self.items c.clear.new.self c.clear-2.ensures.items c.clear.ensures

pub loop-now-preserved : goal.loop-now-preserved
loop-now-preserved g c =
    let s = sought_of (g.A.PointAnswers.answer c.args.answers.now) c.args.hook c.args.bytes.now c.args.before c.args.ceiling in
    let from = c.loop-now.from in let old = c.loop-now.room.path.items in let path = c.look.new.room.path.items in
    let it = as_look s from old path c.loop-now.ways c.look.new.fates _ c.in-Some.now c.in-Some.is c.in_ok-now.ensures in
    looked_on s from old path c.turn_back-from.new.path.items c.in-Some.now c.look.new.fates c.turn_back-from.result it
    (c.is_none.ensures ∙ ap not c.if-is_none.false) (c.turn_back-from.ensures.turned s it.rest it.behind)

pub loop-now-smaller : goal.loop-now-smaller
loop-now-smaller g c =
    let s = sought_of (g.A.PointAnswers.answer c.args.answers.now) c.args.hook c.args.bytes.now c.args.before c.args.ceiling in
    let from = c.loop-now.from in let old = c.loop-now.room.path.items in let path = c.look.new.room.path.items in
    let it = as_look s from old path c.loop-now.ways c.look.new.fates _ c.in-Some.now c.in-Some.is c.in_ok-now.ensures in
    falls s from old path c.turn_back-from.new.path.items c.in-Some.now c.look.new.fates c.turn_back-from.result it
    (c.is_none.ensures ∙ ap not c.if-is_none.false) (c.turn_back-from.ensures.higher s it.rest it.behind)

-- ---- no further way
pub returns-then-is_none-clause-fates : goal.returns-then-is_none-clause-fates
returns-then-is_none-clause-fates g c =
    let s = sought_of (g.A.PointAnswers.answer c.args.answers.now) c.args.hook c.args.bytes.now c.args.before c.args.ceiling in
    let from = c.loop-now.from in let old = c.loop-now.room.path.items in let path = c.look.new.room.path.items in
    let it = as_look s from old path c.loop-now.ways c.look.new.fates _ c.in-Some.now c.in-Some.is c.in_ok-now.ensures in
    (told_back s from old path c.turn_back-from.new.path.items c.in-Some.now c.look.new.fates c.turn_back-from.result it
    (c.is_none.ensures ∙ ap not c.if-is_none.true) (c.turn_back-from.ensures.turned s it.rest it.behind)).told

pub returns-then-is_none-clause-ways : goal.returns-then-is_none-clause-ways
returns-then-is_none-clause-ways g c =
    let s = sought_of (g.A.PointAnswers.answer c.args.answers.now) c.args.hook c.args.bytes.now c.args.before c.args.ceiling in
    let from = c.loop-now.from in let old = c.loop-now.room.path.items in let path = c.look.new.room.path.items in
    let it = as_look s from old path c.loop-now.ways c.look.new.fates _ c.in-Some.now c.in-Some.is c.in_ok-now.ensures in
    (told_back s from old path c.turn_back-from.new.path.items c.in-Some.now c.look.new.fates c.turn_back-from.result it
    (c.is_none.ensures ∙ ap not c.if-is_none.true) (c.turn_back-from.ensures.turned s it.rest it.behind)).looked

pub returns-then-is_none-clause-more : goal.returns-then-is_none-clause-more
returns-then-is_none-clause-more g c =
    let s = sought_of (g.A.PointAnswers.answer c.args.answers.now) c.args.hook c.args.bytes.now c.args.before c.args.ceiling in
    let from = c.loop-now.from in let old = c.loop-now.room.path.items in let path = c.look.new.room.path.items in
    let it = as_look s from old path c.loop-now.ways c.look.new.fates _ c.in-Some.now c.in-Some.is c.in_ok-now.ensures in
    (told_back s from old path c.turn_back-from.new.path.items c.in-Some.now c.look.new.fates c.turn_back-from.result it
    (c.is_none.ensures ∙ ap not c.if-is_none.true) (c.turn_back-from.ensures.turned s it.rest it.behind)).left

-- ---- more than are looked at
pub returns-clause-fates : goal.returns-clause-fates
returns-clause-fates g c =
    let s = sought_of (g.A.PointAnswers.answer c.args.answers.now) c.args.hook c.args.bytes.now c.args.before c.args.ceiling in
    (as_more s c.loop-now.from c.loop-now.room.path.items c.look.new.room.path.items c.loop-now.ways c.look.new.fates _
    c.in_default.not-Some c.in_ok-now.ensures).told

pub returns-clause-ways : goal.returns-clause-ways
returns-clause-ways g c =
    let s = sought_of (g.A.PointAnswers.answer c.args.answers.now) c.args.hook c.args.bytes.now c.args.before c.args.ceiling in
    (as_more s c.loop-now.from c.loop-now.room.path.items c.look.new.room.path.items c.loop-now.ways c.look.new.fates _
    c.in_default.not-Some c.in_ok-now.ensures).looked
