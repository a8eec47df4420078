use Rattle.std.proofs.Common.{◌≡◌, ◌+◌, ◌++◌, ◌∷◌, [], List, length, sym, ap, ◌∙◌, append_assoc, arith}
use Rattle.std.proofs.lemmas.List.{append-nil, length_push}
use Rattle.tc_base.proofs.Appends.{Appended-then, AppendsUpTo-then, AppendsUpTo-front, AppendsUpTo-all}
use Rattle.capture_walk.specs.declared.ends.PacketEnd.{PacketEnd}
use Rattle.tool_run.proofs.Lines.{packets_more, packets_rest}
use Rattle.tool_run.proofs.PacketLines.{line_of}
use Rattle.tool_run.proofs.text.write_packets.Goals as goal

pub returns-in_err-turn_to-clause-up_to : goal.returns-in_err-turn_to-clause-up_to
returns-in_err-turn_to-clause-up_to g c =
    let before = c.loop-end.invariant in
    let walked = c.loop-end.yielded in
    let whole = before.whole ∙ ap (λ (rest : List PacketEnd). walked ++ rest) c.in-Some.ensures.steps in
    rw (whole, packets_rest walked c.in-Some.end c.next.new.self)
    (AppendsUpTo-front _ _ _ _ before.wrote)

pub returns-in_err-write_all-clause-up_to : goal.returns-in_err-write_all-clause-up_to
returns-in_err-write_all-clause-up_to g c =
    let before = c.loop-end.invariant in
    let walked = c.loop-end.yielded in
    let end = c.in-Some.end in
    let turned = c.in_ok-turn_to.ensures in
    let number : c.loop-end.line.number + 1 ≡ 1 + length walked = omega (arith, before.number) in
    let line = line_of c.turn_to.new.self.text.items _ (1 + length walked) _ end turned.line.text
    (turned.number ∙ number) turned.end in
    let whole = before.whole ∙ ap (λ (rest : List PacketEnd). walked ++ rest) c.in-Some.ensures.steps in
    rw (whole, packets_rest walked c.in-Some.end c.next.new.self)
    (AppendsUpTo-then _ _ _ _ _ _ before.wrote (rw (c.deref.ensures.value
    ∙ line) at c.write_all.ensures.up_to))

pub loop-end-preserved : goal.loop-end-preserved
loop-end-preserved g c =
    let before = c.loop-end.invariant in
    let walked = c.loop-end.yielded in
    let end = c.in-Some.end in
    let turned = c.in_ok-turn_to.ensures in
    let number : c.loop-end.line.number + 1 ≡ 1 + length walked = omega (arith, before.number) in
    let line = line_of c.turn_to.new.self.text.items _ (1 + length walked) _ end turned.line.text
    (turned.number ∙ number) turned.end in
    record {
      whole = before.whole ∙ ap (λ (rest : List PacketEnd). walked ++ rest) c.in-Some.ensures.steps
          ∙ sym (append_assoc walked (end ∷ []) c.next.new.self);
      number = omega (arith, turned.number, before.number, length_push walked end);
      line = turned.line;
      wrote = rw (packets_more walked end)
          (Appended-then _ _ _ _ _ before.wrote (rw (c.deref.ensures.value
          ∙ line) at c.in_ok-write_all.ensures.all));
      later = omega (arith, c.write_all.ensures.counts.later, before.later);
    }

pub returns-clause-up_to : goal.returns-clause-up_to
returns-clause-up_to g c =
    let before = c.loop-end.invariant in
    let walked = c.loop-end.yielded in
    let whole : c.args.ends.now ≡ walked =
    before.whole ∙ ap (λ (rest : List PacketEnd). walked ++ rest) c.in-None.ensures.steps.0
    ∙ append-nil walked in
    rw whole (AppendsUpTo-all _ _ _ before.wrote)
