use Rattle.std.proofs.Common.{rules, ◌≡◌, ◌∙◌, ◌+◌, ◌++◌, ℕ, true, false, refl, sym, ap, arith}
use Rattle.journal_replay.specs.Passed.{event_line}
use Rattle.change_lines.proofs.BatchReach.{opening_begun, opening_blank, is_short, opening_more, opening_stopped, opening_ended}
use Rattle.change_lines.proofs.opening.apply_batch.Goals as goal

pub loop-text-init : goal.loop-text-init
loop-text-init c = record {
  opening = opening_begun c.args.texts.now c.new-replay.result c.new-stop.result.items c.new-replay.ensures.kept (record { journal = c.new-replay.ensures.journal; places = c.new-replay.ensures.places; refused = c.new-replay.ensures.refused }) (search rules);
  numbered = refl;
}

pub loop-text-preserved-then-not-is_command : goal.loop-text-preserved-then-not-is_command
loop-text-preserved-then-not-is_command c =
    let l = c.loop-text in
    record {
      opening = opening_blank c.args.texts.now l.text-index l.replay l.stop.items l.invariant.opening c.loop-text-test.true (sym c.is_command.ensures ∙ c.if-not-is_command.true);
      numbered = ap (λ (n : ℕ). n + 1) l.invariant.numbered;
    }

pub meet_line-requires-clause-short : goal.meet_line-requires-clause-short
meet_line-requires-clause-short c =
    let l = c.loop-text in
    (is_short c.args.texts.now l.text-index l.replay l.stop.items l.invariant.opening c.requires c.loop-text-test.true (sym c.is_command.ensures ∙ c.if-not-is_command.false)).journal

pub meet_line-requires-clause-few : goal.meet_line-requires-clause-few
meet_line-requires-clause-few c =
    let l = c.loop-text in
    (is_short c.args.texts.now l.text-index l.replay l.stop.items l.invariant.opening c.requires c.loop-text-test.true (sym c.is_command.ensures ∙ c.if-not-is_command.false)).refused

pub push_event_line-requires : goal.push_event_line-requires
push_event_line-requires c =
    let l = c.loop-text in
    let short = (is_short c.args.texts.now l.text-index l.replay l.stop.items l.invariant.opening c.requires c.loop-text-test.true (sym c.is_command.ensures ∙ c.if-not-is_command.false)).journal in
    let point = c.point-before.ensures in
    let is = l.invariant.opening.reached.kept.remembers.point in
    omega (arith, point, is, short)

pub meet_line-requires-clause-kept : goal.meet_line-requires-clause-kept
meet_line-requires-clause-kept c = c.loop-text.invariant.opening.reached.kept

pub returns-then-not-goes_on : goal.returns-then-not-goes_on
returns-then-not-goes_on c =
    let l = c.loop-text in
    let stops : c.goes_on.result ≡ false = search rules in
    let point = c.point-before.ensures ∙ l.invariant.opening.reached.kept.remembers.point in (
      _,
      opening_stopped c.args.texts.now l.text-index l.replay l.stop.items l.invariant.opening (record { replay = c.meet_line.new.replay; stop = c.push_event_line.new.out }) c.in_ok-event.event l.number c.goes_on.result
          c.loop-text-test.true (sym c.is_command.ensures ∙ c.if-not-is_command.false) l.invariant.numbered c.goes_on.ensures stops c.in_ok-event.ensures
          (c.in_ok-push_event_line.ensures ∙ ap (λ (n : ℕ). l.stop.items ++ event_line n c.in_ok-event.event) point),
    )

pub loop-text-preserved : goal.loop-text-preserved
loop-text-preserved c =
    let l = c.loop-text in
    let goes : c.goes_on.result ≡ true = search rules in
    record {
      opening = opening_more c.args.texts.now l.text-index l.replay l.stop.items l.invariant.opening c.meet_line.new.replay c.in_ok-event.event l.number c.goes_on.result c.loop-text-test.true
          (sym c.is_command.ensures ∙ c.if-not-is_command.false) l.invariant.numbered c.goes_on.ensures goes c.in_ok-event.ensures;
      numbered = ap (λ (n : ℕ). n + 1) l.invariant.numbered;
    }

pub returns : goal.returns
returns c =
    let l = c.loop-text in
    (_, opening_ended c.args.texts.now l.text-index (record { replay = l.replay; stop = l.stop }) l.stop.items l.invariant.opening c.loop-text-test.false refl)
