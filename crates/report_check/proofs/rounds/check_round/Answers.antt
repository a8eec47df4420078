use Rattle.std.proofs.Common.{rules, ◌≡◌, ◌∙◌, ◌+◌, ◌-◌, ◌++◌, ◌∷◌, [], Bool, true, false, Ok, refl, ap, arith}
use Rattle.report_laws.specs.Stands.{opening, inside, no_round, settled}
use Rattle.report_check.proofs.OfEvents.Turning.{unended}
use Rattle.report_check.specs.Rounds.{journal_of, record_with, stand_with}
use Rattle.report_check.proofs.Captures.{count_most, captures_few}
use Rattle.report_check.proofs.Rounding.{is_opening, opening_open, first_must_be, first_takes, has_begun, told_of, is_told, at_capture, last_takes, last_must_be, last_reason, is_between}
use Rattle.report_check.proofs.rounds.check_round.Goals as goal

pub returns-then-not-branch-clause-stuck : goal.returns-then-not-branch-clause-stuck
returns-then-not-branch-clause-stuck c = λ is.
    let loaded = c.args.job.now in
    let p = c.args.progress.now in
    let b = c.requires.between in
    let o = is_opening loaded c.args.report.now c.args.number p c.requires.round.0 c.requires.round.1 b in
    let no : c.in_ok-take_numbered.field-0 ≡ false = search rules in
    c.in_ok-take_numbered.ensures.stuck (ap (λ (t : Bool). Ok t) no) loaded (opening b.its p.replay.journal.items) o.is_at (opening_open b.its p.replay.journal.items)
    (first_must_be loaded c.args.report.now p.cursor b.its p.replay.journal.items c.from.result (c.from.ensures ∙ o.number_is)) (λ line. refl)

pub check_events-requires-clause-begun : goal.check_events-requires-clause-begun
check_events-requires-clause-begun c =
    let loaded = c.args.job.now in
    let p = c.args.progress.now in
    let b = c.requires.between in
    let o = is_opening loaded c.args.report.now c.args.number p c.requires.round.0 c.requires.round.1 b in
    let yes : c.in_ok-take_numbered.field-0 ≡ true = search rules in
    let at = c.in_ok-take_numbered.ensures.taken (ap (λ (t : Bool). Ok t) yes) loaded (opening b.its p.replay.journal.items) (inside b.its p.replay.journal.items no_round []) o.is_at
    (first_takes loaded b.its p.replay.journal.items c.from.result (c.from.ensures ∙ o.number_is)) in
    (b.its, o.given, has_begun loaded c.args.report.now c.args.number p b o c.take_numbered.new.cursor at (c.in_ok-take_numbered.ensures.further (ap (λ (t : Bool). Ok t) yes)))

pub check_capture-requires-clause-told : goal.check_capture-requires-clause-told
check_capture-requires-clause-told c =
    let loaded = c.args.job.now in
    let r = c.args.report.now in
    let p = c.args.progress.now in
    let b = c.requires.between in
    let o = is_opening loaded r c.args.number p c.requires.round.0 c.requires.round.1 b in
    let yes : c.in_ok-take_numbered.field-0 ≡ true = search rules in
    let at = c.in_ok-take_numbered.ensures.taken (ap (λ (t : Bool). Ok t) yes) loaded (opening b.its p.replay.journal.items) (inside b.its p.replay.journal.items no_round []) o.is_at
    (first_takes loaded b.its p.replay.journal.items c.from.result (c.from.ensures ∙ o.number_is)) in
    let begun = has_begun loaded r c.args.number p b o c.take_numbered.new.cursor at (c.in_ok-take_numbered.ensures.further (ap (λ (t : Bool). Ok t) yes)) in
    let went : c.in_ok-check_events.field-0 ≡ true = search rules in
    let over = c.in_ok-check_events.ensures.over (ap (λ (t : Bool). Ok t) went) b.its o.given begun in (
      told_of loaded r b.its o.given p.replay c.check_events.new.cursor c.check_events.new.replay over,
      at_capture loaded r b.its o.given p.replay c.check_events.new.cursor c.check_events.new.replay over c.requires.loaded o.there c.args.number p.walkers c.point-least.result o.number_is b.are (c.point-least.ensures ∙ b.kept.remembers.point),
    )

pub returns-then-not-branch-3-clause-stuck : goal.returns-then-not-branch-3-clause-stuck
returns-then-not-branch-3-clause-stuck c = λ is.
    let loaded = c.args.job.now in
    let r = c.args.report.now in
    let p = c.args.progress.now in
    let b = c.requires.between in
    let o = is_opening loaded r c.args.number p c.requires.round.0 c.requires.round.1 b in
    let yes : c.in_ok-take_numbered.field-0 ≡ true = search rules in
    let at = c.in_ok-take_numbered.ensures.taken (ap (λ (t : Bool). Ok t) yes) loaded (opening b.its p.replay.journal.items) (inside b.its p.replay.journal.items no_round []) o.is_at
    (first_takes loaded b.its p.replay.journal.items c.from.result (c.from.ensures ∙ o.number_is)) in
    let begun = has_begun loaded r c.args.number p b o c.take_numbered.new.cursor at (c.in_ok-take_numbered.ensures.further (ap (λ (t : Bool). Ok t) yes)) in
    let went : c.in_ok-check_events.field-0 ≡ true = search rules in
    let over = c.in_ok-check_events.ensures.over (ap (λ (t : Bool). Ok t) went) b.its o.given begun in
    let told = told_of loaded r b.its o.given p.replay c.check_events.new.cursor c.check_events.new.replay over in
    let held = at_capture loaded r b.its o.given p.replay c.check_events.new.cursor c.check_events.new.replay over c.requires.loaded o.there c.args.number p.walkers c.point-least.result o.number_is b.are (c.point-least.ensures ∙ b.kept.remembers.point) in
    let no : c.in_ok-check_capture.field-0 ≡ false = search rules in
    c.in_ok-check_capture.ensures.stuck (ap (λ (t : Bool). Ok t) no) told held

pub overflow_add-captures : goal.overflow_add-captures
overflow_add-captures c =
    let loaded = c.args.job.now in
    let b = c.requires.between in
    let o = is_opening loaded c.args.report.now c.args.number c.args.progress.now c.requires.round.0 c.requires.round.1 b in
    let few = captures_few loaded.job.rounds (c.args.number - 1) in
    let is = b.captures_is in
    let one = count_most o.round.capture in
    let own = c.captures_in.ensures o.round o.there_job in
    let most = c.requires.loaded.rounds in
    let high = c.requires.round.1 in
    omega (arith, few, is, one, own, most, high)

pub returns-clause-through : goal.returns-clause-through
returns-clause-through c = λ is.
    let loaded = c.args.job.now in
    let r = c.args.report.now in
    let p = c.args.progress.now in
    let b = c.requires.between in
    let o = is_opening loaded r c.args.number p c.requires.round.0 c.requires.round.1 b in
    let yes : c.in_ok-take_numbered.field-0 ≡ true = search rules in
    let at = c.in_ok-take_numbered.ensures.taken (ap (λ (t : Bool). Ok t) yes) loaded (opening b.its p.replay.journal.items) (inside b.its p.replay.journal.items no_round []) o.is_at
    (first_takes loaded b.its p.replay.journal.items c.from.result (c.from.ensures ∙ o.number_is)) in
    let begun = has_begun loaded r c.args.number p b o c.take_numbered.new.cursor at (c.in_ok-take_numbered.ensures.further (ap (λ (t : Bool). Ok t) yes)) in
    let went : c.in_ok-check_events.field-0 ≡ true = search rules in
    let over = c.in_ok-check_events.ensures.over (ap (λ (t : Bool). Ok t) went) b.its o.given begun in
    let behind = c.check_events.new.cursor in
    let replay = c.check_events.new.replay in
    let told = told_of loaded r b.its o.given p.replay behind replay over in
    let held = at_capture loaded r b.its o.given p.replay behind replay over c.requires.loaded o.there c.args.number p.walkers c.point-least.result o.number_is b.are (c.point-least.ensures ∙ b.kept.remembers.point) in
    let through : c.in_ok-check_capture.field-0 ≡ true = search rules in
    let walked = c.in_ok-check_capture.ensures.taken (ap (λ (t : Bool). Ok t) through) told held in
    let onward = c.in_ok-check_capture.ensures.onward (ap (λ (t : Bool). Ok t) through) in
    let further = c.take_numbered-2.ensures.further is in
    let end = c.take_numbered-2.ensures.taken is loaded (stand_with told walked.outcomes) (settled loaded (b.its ++ (record_with told walked.outcomes ∷ [])) (journal_of told)) walked.is_at
    (last_takes told replay (is_told loaded r b.its o.given p.replay behind replay over c.requires.loaded o.there) walked.outcomes walked.place_is c.from-2.result (c.from-2.ensures ∙ o.number_is)) in
    is_between loaded r c.args.number p b o behind replay over c.check_capture.new.walkers c.check_capture.new.cursor c.take_numbered-2.new.cursor c.requires.loaded c.requires.round.0 walked end (omega (arith, onward, further))
    (p.captures + c.captures_in.result) (ap (λ n. p.captures + n) (c.captures_in.ensures o.round o.there_job))

pub returns-clause-stuck : goal.returns-clause-stuck
returns-clause-stuck c = λ is.
    let loaded = c.args.job.now in
    let r = c.args.report.now in
    let p = c.args.progress.now in
    let b = c.requires.between in
    let o = is_opening loaded r c.args.number p c.requires.round.0 c.requires.round.1 b in
    let yes : c.in_ok-take_numbered.field-0 ≡ true = search rules in
    let at = c.in_ok-take_numbered.ensures.taken (ap (λ (t : Bool). Ok t) yes) loaded (opening b.its p.replay.journal.items) (inside b.its p.replay.journal.items no_round []) o.is_at
    (first_takes loaded b.its p.replay.journal.items c.from.result (c.from.ensures ∙ o.number_is)) in
    let begun = has_begun loaded r c.args.number p b o c.take_numbered.new.cursor at (c.in_ok-take_numbered.ensures.further (ap (λ (t : Bool). Ok t) yes)) in
    let went : c.in_ok-check_events.field-0 ≡ true = search rules in
    let over = c.in_ok-check_events.ensures.over (ap (λ (t : Bool). Ok t) went) b.its o.given begun in
    let behind = c.check_events.new.cursor in
    let replay = c.check_events.new.replay in
    let told = told_of loaded r b.its o.given p.replay behind replay over in
    let held = at_capture loaded r b.its o.given p.replay behind replay over c.requires.loaded o.there c.args.number p.walkers c.point-least.result o.number_is b.are (c.point-least.ensures ∙ b.kept.remembers.point) in
    let through : c.in_ok-check_capture.field-0 ≡ true = search rules in
    let walked = c.in_ok-check_capture.ensures.taken (ap (λ (t : Bool). Ok t) through) told held in
    c.take_numbered-2.ensures.stuck is loaded (stand_with told walked.outcomes) walked.is_at (unended b.its p.replay.journal.items (record_with told walked.outcomes) over.told.edits)
    (last_must_be told replay (is_told loaded r b.its o.given p.replay behind replay over c.requires.loaded o.there) walked.outcomes walked.place_is r c.check_capture.new.cursor c.from-2.result (c.from-2.ensures ∙ o.number_is))
    (λ line. last_reason told replay (is_told loaded r b.its o.given p.replay behind replay over c.requires.loaded o.there) walked.outcomes walked.place_is line)
