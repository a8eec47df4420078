use Rattle.std.proofs.Common.{rules, ◌≡◌, ◌∙◌, ◌+◌, ℕ, Bool, true, false, length, sym, ap, subst, arith}
use Rattle.batch_run.specs.Commands.{commands_in}
use Rattle.batch_run.proofs.CommandLines.{words_at}
use Rattle.filter_origins.proofs.Whole.{entries_long}
use Rattle.batch_trace.specs.Meeting.{entries_in, IsMet}
use Rattle.batch_trace.proofs.Reaching.{after_blank, room_for, after_command, at_stop, at_end, unmoved}
use Rattle.batch_trace.proofs.traced_batch.accepted_edits.Goals as goal

pub loop-text-preserved-then-not-is_command : goal.loop-text-preserved-then-not-is_command
loop-text-preserved-then-not-is_command c =
    let l = c.loop-text in
    record {
      reached = after_blank (entries_in l.accepted) l.text-index c.args.texts.now (commands_in c.args.texts.now) c.loop-text-test.true (sym c.is_command.ensures ∙ c.if-not-is_command.true) l.invariant.reached;
      kept = l.invariant.kept;
      numbered = ap (λ (n : ℕ). n + 1) l.invariant.numbered;
    }

pub meet-requires-clause-few : goal.meet-requires-clause-few
meet-requires-clause-few c =
    let l = c.loop-text in
    let room = room_for (entries_in l.accepted) l.text-index c.args.texts.now (commands_in c.args.texts.now) c.loop-text-test.true (sym c.is_command.ensures ∙ c.if-not-is_command.false) l.invariant.reached in
    let long = entries_long l.accepted.places.items l.accepted.journal.items l.invariant.kept.each in
    omega (arith, room, long)

pub returns-then-not-goes_on-clause-few : goal.returns-then-not-goes_on-clause-few
returns-then-not-goes_on-clause-few c =
    let l = c.loop-text in
    let room = room_for (entries_in l.accepted) l.text-index c.args.texts.now (commands_in c.args.texts.now) c.loop-text-test.true (sym c.is_command.ensures ∙ c.if-not-is_command.false) l.invariant.reached in
    let stops : c.in_ok-goes_on.goes_on ≡ false = search rules in
    let same = unmoved (entries_in l.accepted) (entries_in c.meet.new.self) (words_at c.args.texts.now l.text-index) (l.number + 1)
    (subst (λ (b : Bool). IsMet (entries_in l.accepted) (entries_in c.meet.new.self) (words_at c.args.texts.now l.text-index) (l.number + 1) b) stops c.in_ok-goes_on.ensures.met) in
    let long = entries_long c.meet.new.self.places.items c.meet.new.self.journal.items c.in_ok-goes_on.ensures.kept.each in
    let counts : length (entries_in c.meet.new.self) ≡ length (entries_in l.accepted) = ap length same in
    omega (arith, room, long, counts)

pub returns-then-not-goes_on-clause-accepted : goal.returns-then-not-goes_on-clause-accepted
returns-then-not-goes_on-clause-accepted c =
    let l = c.loop-text in
    let stops : c.in_ok-goes_on.goes_on ≡ false = search rules in
    at_stop (entries_in l.accepted) (entries_in c.meet.new.self) l.text-index l.number c.args.texts.now (commands_in c.args.texts.now) c.loop-text-test.true
    (sym c.is_command.ensures ∙ c.if-not-is_command.false) l.invariant.numbered l.invariant.reached
    (subst (λ (b : Bool). IsMet (entries_in l.accepted) (entries_in c.meet.new.self) (words_at c.args.texts.now l.text-index) (l.number + 1) b) stops c.in_ok-goes_on.ensures.met)

pub loop-text-preserved : goal.loop-text-preserved
loop-text-preserved c =
    let l = c.loop-text in
    let goes : c.in_ok-goes_on.goes_on ≡ true = search rules in
    record {
      reached = after_command (entries_in l.accepted) (entries_in c.meet.new.self) l.text-index l.number c.args.texts.now (commands_in c.args.texts.now) c.loop-text-test.true
          (sym c.is_command.ensures ∙ c.if-not-is_command.false) l.invariant.numbered l.invariant.reached
          (subst (λ (b : Bool). IsMet (entries_in l.accepted) (entries_in c.meet.new.self) (words_at c.args.texts.now l.text-index) (l.number + 1) b) goes c.in_ok-goes_on.ensures.met);
      kept = c.in_ok-goes_on.ensures.kept;
      numbered = ap (λ (n : ℕ). n + 1) l.invariant.numbered;
    }

pub returns-clause-few : goal.returns-clause-few
returns-clause-few c =
    let l = c.loop-text in
    let few = l.invariant.reached.few in
    let long = entries_long l.accepted.places.items l.accepted.journal.items l.invariant.kept.each in
    omega (arith, few, long)

pub returns-clause-accepted : goal.returns-clause-accepted
returns-clause-accepted c =
    let l = c.loop-text in
    at_end (entries_in l.accepted) l.text-index c.args.texts.now (commands_in c.args.texts.now) c.loop-text-test.false l.invariant.reached
