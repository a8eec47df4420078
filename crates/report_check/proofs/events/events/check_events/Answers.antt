use Rattle.std.proofs.Common.{rules, ◌≡◌, Bool, true, false, Ok, refl, ap}
use Rattle.std.specs.Prelude.{replicate}
use Rattle.round_terms.proofs.Beginning.{start_place}
use Rattle.report_laws.specs.Stands.{inside}
use Rattle.report_check.specs.OfEvents.Told.{IsTurn}
use Rattle.report_check.proofs.OfEvents.Turning.{round_within, places_within, goes_first, refused_here, over_here, unended}
use Rattle.report_check.proofs.events.events.check_events.Goals as goal

pub first_file-first-requires-clause-round : goal.first_file-first-requires-clause-round
first_file-first-requires-clause-round c =
    let b = c.requires.begun in
    round_within c.args.job.now c.args.number b.0 b.1 c.args.replay.now.journal.items b.2.of

pub loop-next-init : goal.loop-next-init
loop-next-init c =
    let all : c.as_mut_slice-places.result.now ≡ replicate c.args.job.now.job.controls start_place = search rules in
    record {
      within = c.requires.cursor;
      going = λ its round begun. goes_first c.args.job.now c.args.report.now c.args.number c.args.job.now.job.controls its round c.args.cursor.now c.args.replay.now c.as_mut_slice-places.result.now c.requires.loaded begun all refl;
    }

pub named_line-requires-clause-round : goal.named_line-requires-clause-round
named_line-requires-clause-round c =
    let b = c.requires.begun in
    round_within c.args.job.now c.args.number b.0 b.1 c.args.replay.now.journal.items b.2.of

pub named_line-requires-clause-places : goal.named_line-requires-clause-places
named_line-requires-clause-places c =
    let b = c.requires.begun in
    let l = c.loop-next in
    places_within c.args.job.now c.args.report.now c.args.number b.0 b.1 c.args.replay.now l.cursor l.replay l.places (l.invariant.going b.0 b.1 b.2)

pub take_event-requires-clause-turn : goal.take_event-requires-clause-turn
take_event-requires-clause-turn c =
    let b = c.requires.begun in
    (c.args.job.now, c.args.number, b.0, b.1, c.args.replay.now, record { is_loaded = c.requires.loaded; goes = c.loop-next.invariant.going b.0 b.1 b.2; names = c.in-Some.ensures.some })

pub returns-then-not-branch-clause-stuck : goal.returns-then-not-branch-clause-stuck
returns-then-not-branch-clause-stuck c = λ is.
    let b = c.requires.begun in
    let turn : IsTurn c.args.job.now c.args.report.now c.args.number b.0 b.1 c.args.replay.now c.loop-next.cursor c.loop-next.replay c.loop-next.places c.in-Some.next = record { is_loaded = c.requires.loaded; goes = c.loop-next.invariant.going b.0 b.1 b.2; names = c.in-Some.ensures.some } in
    let no : c.in_ok-take_event.field-0 ≡ false = search rules in
    c.in_ok-take_event.ensures.stuck (ap (λ (b : Bool). Ok b) no) c.args.job.now c.args.number b.0 b.1 c.args.replay.now turn

pub loop-next-preserved : goal.loop-next-preserved
loop-next-preserved c = record {
  within = c.in_ok-take_event.ensures.within;
  going = λ its round begun.
      let turn : IsTurn c.args.job.now c.args.report.now c.args.number its round c.args.replay.now c.loop-next.cursor c.loop-next.replay c.loop-next.places c.in-Some.next = record { is_loaded = c.requires.loaded; goes = c.loop-next.invariant.going its round begun; names = c.in-Some.ensures.some } in
      let yes : c.in_ok-take_event.field-0 ≡ true = search rules in
      c.in_ok-take_event.ensures.taken (ap (λ (b : Bool). Ok b) yes) c.args.job.now c.args.number its round c.args.replay.now turn;
}

pub some_left-requires-clause-round : goal.some_left-requires-clause-round
some_left-requires-clause-round c =
    let b = c.requires.begun in
    round_within c.args.job.now c.args.number b.0 b.1 c.args.replay.now.journal.items b.2.of

pub some_left-requires-clause-places : goal.some_left-requires-clause-places
some_left-requires-clause-places c =
    let b = c.requires.begun in
    let l = c.loop-next in
    places_within c.args.job.now c.args.report.now c.args.number b.0 b.1 c.args.replay.now l.cursor l.replay l.places (l.invariant.going b.0 b.1 b.2)

pub returns-clause-over : goal.returns-clause-over
returns-clause-over c = λ is its round begun.
    let l = c.loop-next in
    let no : c.some_left.result ≡ false = search rules in
    over_here c.args.job.now c.args.report.now c.args.number its round c.args.replay.now l.cursor l.replay l.places c.requires.loaded (l.invariant.going its round begun) (c.some_left.ensures.none no)

pub returns-then-some_left-clause-stuck : goal.returns-then-some_left-clause-stuck
returns-then-some_left-clause-stuck c = λ is.
    let b = c.requires.begun in
    let l = c.loop-next in
    let yes : c.some_left.result ≡ true = search rules in
    let goes = l.invariant.going b.0 b.1 b.2 in
    c.refuse.ensures.stuck c.args.job.now (inside b.0 c.args.replay.now.journal.items goes.told.it goes.told.edits) goes.told.is_at (λ none. unended b.0 c.args.replay.now.journal.items goes.told.it goes.told.edits)
    (refused_here c.args.job.now c.args.report.now c.args.number b.0 b.1 c.args.replay.now l.cursor l.replay l.places c.requires.loaded goes (c.some_left.ensures.left yes) c.in_default.ensures.none)
