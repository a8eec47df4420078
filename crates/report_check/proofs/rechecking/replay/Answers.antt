use Rattle.std.proofs.Common.{rules, ◌≡◌, ◌∙◌, ◌+◌, ℕ, [], true, false, Ok, refl, ap, subst}
use Rattle.report_laws.specs.Stands.{start, settled}
use Rattle.report_laws.specs.OfWholePaths.FirstBadLines.{IsFirstBadLine}
use Rattle.report_check.specs.declared.check.Check.{Check}
use Rattle.report_check.specs.Reasons.{IsReasonAt}
use Rattle.report_check.specs.declared.events.cursor.Cursor.{Cursor}
use Rattle.report_check.proofs.LastLines.{at_title, title_must_be, title_takes, start_open, titled, first_between, first_bad, reason_at}
use Rattle.report_check.proofs.rechecking.replay.Goals as goal

pub returns-then-not-demand-clause-replayed : goal.returns-then-not-demand-clause-replayed
returns-then-not-demand-clause-replayed c =
    let no : c.demand.result ≡ false = search rules in
    let stuck = c.demand.ensures.stuck no c.args.job.now start (at_title c.args.job.now c.args.report.now c.start-cursor.result c.start-cursor.ensures) start_open (title_must_be c.args.job.now c.args.report.now c.start-cursor.result) (λ line next other. refl) in
    subst (λ (n : ℕ). IsFirstBadLine c.args.job.now c.args.report.now (n + 1) × IsReasonAt c.args.job.now c.args.report.now (n + 1) c.demand.new.self.reason) (c.demand.ensures.stays no ∙ ap (λ (cursor : Cursor). cursor.line) c.start-cursor.ensures)
    (first_bad c.args.job.now c.args.report.now c.demand.new.self c.requires stuck, reason_at c.args.job.now c.args.report.now c.demand.new.self stuck)

pub judge-requires-clause-between : goal.judge-requires-clause-between
judge-requires-clause-between c =
    let loaded = c.args.job.now in
    let yes : c.demand.result ≡ true = search rules in
    let at = c.demand.ensures.taken yes loaded start (settled loaded [] []) (at_title loaded c.args.report.now c.start-cursor.result c.start-cursor.ensures) (title_takes loaded) in
    first_between loaded c.args.report.now (record { cursor = c.demand.new.self; replay = c.new-2.result; walkers = c.in_ok-walkers.walkers; captures = 0 }) at c.new-2.ensures.kept c.new-2.ensures.journal c.new-2.ensures.places c.new-2.ensures.refused c.in_ok-walkers.ensures refl

-- the first line was the title
pub returns-in_err-walkers-clause-untitled : goal.returns-in_err-walkers-clause-untitled
returns-in_err-walkers-clause-untitled c = λ untitled.
    let yes : c.demand.result ≡ true = search rules in
    absurd (titled c.args.report.now c.start-cursor.result c.start-cursor.ensures (c.demand.ensures.next yes) untitled)

pub returns-in_err-check-clause-untitled : goal.returns-in_err-check-clause-untitled
returns-in_err-check-clause-untitled c = λ untitled.
    let yes : c.demand.result ≡ true = search rules in
    absurd (titled c.args.report.now c.start-cursor.result c.start-cursor.ensures (c.demand.ensures.next yes) untitled)

pub returns-clause-untitled : goal.returns-clause-untitled
returns-clause-untitled c = λ untitled.
    let yes : c.demand.result ≡ true = search rules in
    absurd (titled c.args.report.now c.start-cursor.result c.start-cursor.ensures (c.demand.ensures.next yes) untitled)

pub returns-clause-replayed : goal.returns-clause-replayed
returns-clause-replayed c =
    c.handed_on.ensures.replayed c.args.job.now c.args.report.now c.in_ok-check.ensures.check (λ is. c.in_ok-check.ensures.lawful (ap (λ (t : Check). Ok t) is))
