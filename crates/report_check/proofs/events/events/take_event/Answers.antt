use Rattle.std.proofs.Common.{◌≡◌, ◌∙◌, ◌++◌, true, false, List, ℕ, refl, ap, arith}
use Rattle.run_report.specs.declared.events.Event.{Event}
use Rattle.run_report.specs.EventTexts.{event_line}
use Rattle.report_laws.specs.Stands.{inside}
use Rattle.report_check.proofs.OfEvents.Turning.{journal_fits, named_place, unended, placed_one, goes_further, no_other, other_result}
use Rattle.report_check.proofs.events.events.take_event.Goals as goal

pub meet-requires-clause-short : goal.meet-requires-clause-short
meet-requires-clause-short c =
    let t = c.requires.turn in
    journal_fits t.0 c.args.report.now t.1 t.2 t.3 t.4 c.args.cursor.now c.args.replay.now c.args.places.now t.5.is_loaded t.5.goes

pub push_event_line-requires : goal.push_event_line-requires
push_event_line-requires c =
    let t = c.requires.turn in
    let few = journal_fits t.0 c.args.report.now t.1 t.2 t.3 t.4 c.args.cursor.now c.args.replay.now c.args.places.now t.5.is_loaded t.5.goes in
    let point = t.5.goes.told.kept.remembers.point in
    let is = c.point-before.ensures in
    omega (arith, few, point, is)

pub overflow_sub-named : goal.overflow_sub-named
overflow_sub-named c =
    let t = c.requires.turn in
    (named_place t.0 c.args.report.now t.1 t.2 t.3 t.4 c.args.cursor.now c.args.replay.now c.args.places.now c.args.named t.5).least

pub bounds-places-named : goal.bounds-places-named
bounds-places-named c =
    let t = c.requires.turn in
    (named_place t.0 c.args.report.now t.1 t.2 t.3 t.4 c.args.cursor.now c.args.replay.now c.args.places.now c.args.named t.5).within

pub returns-clause-taken : goal.returns-clause-taken
returns-clause-taken c = λ is loaded number its round first turn.
    let yes : c.demand.result ≡ true = cc is in
    let event : Event = record { control = c.args.named.control; line = c.args.named.next.line; kind = c.in_ok-kind.kind } in
    let text = c.as_slice.ensures.value ∙ c.in_ok-push_event_line.ensures ∙ ap (λ (before : List ℕ). before ++ event_line c.point-before.result event) c.new-text.ensures.items in
    goes_further loaded c.args.report.now number its round first c.args.cursor.now c.args.replay.now c.args.places.now c.args.named turn c.meet.new.self.journal.items c.in_ok-kind.kind c.in_ok-kind.ensures.met
    c.demand.new.self c.meet.new.self c.goes_on-goes.result c.as_slice.result.now c.point-before.result refl c.in_ok-kind.ensures.kept
    (placed_one c.in_ok-kind.kind c.args.named.control c.args.named.next.line c.args.replay.now.places.items c.meet.new.self.places.items c.in_ok-kind.ensures.placed c.in_ok-kind.ensures.unplaced) c.in_ok-kind.ensures.refused c.goes_on-goes.ensures text
    (c.point-before.ensures ∙ turn.goes.told.kept.remembers.point) (λ stand next at takes. c.demand.ensures.taken yes loaded stand next at takes) (c.demand.ensures.further yes)

pub returns-clause-stuck : goal.returns-clause-stuck
returns-clause-stuck c = λ is loaded number its round first turn.
    let no : c.demand.result ≡ false = cc is in
    let event : Event = record { control = c.args.named.control; line = c.args.named.next.line; kind = c.in_ok-kind.kind } in
    let text = c.as_slice.ensures.value ∙ c.in_ok-push_event_line.ensures ∙ ap (λ (before : List ℕ). before ++ event_line c.point-before.result event) c.new-text.ensures.items in
    let told = turn.goes.told in
    c.demand.ensures.stuck no loaded (inside its first.journal.items told.it told.edits) told.is_at (unended its first.journal.items told.it told.edits)
    (no_other loaded c.args.report.now number its round first c.args.cursor.now c.args.replay.now c.args.places.now c.args.named turn c.meet.new.self.journal.items c.in_ok-kind.kind c.in_ok-kind.ensures.met
    c.as_slice.result.now c.point-before.result text (c.point-before.ensures ∙ told.kept.remembers.point))
    (λ line next other. other_result loaded c.args.report.now number its round first c.args.cursor.now c.args.replay.now c.args.places.now c.args.named turn c.meet.new.self.journal.items c.in_ok-kind.kind c.in_ok-kind.ensures.met line next)
