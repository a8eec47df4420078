use Rattle.std.proofs.Common.{◌≡◌, ◌+◌, ◌-◌, ◌<◌, ◌≤◌, suc, length, get_or, set, refl, sym, ap, ap₂, ◌∙◌}
use Rattle.std.proofs.Common.{subst, arith}
use Rattle.std.specs.Prelude.{decimal}
use Rattle.std.proofs.lemmas.List.{get_or_default}
use Rattle.walk_texts.specs.Texts.{counted}
use Rattle.batch_walk.specs.Texts.{packet_line}
use Rattle.tool_run.specs.Endings.{ending_of}
use Rattle.run_report.proofs.Counting.{IsCarriedIn, begins, in_text, carries, counts, as_long}
use Rattle.tool_run.proofs.PacketLines.{label, length_counted, line_in_three}
use Rattle.tool_run.proofs.packet_line.PacketLine.count_up.Goals as goal

pub loop-at-init : goal.loop-at-init
loop-at-init c =
    let was = c.args.self.now in
    record {
      carried = begins label (decimal was.number) (ending_of was.end) was.text.items was.digits_end
          (c.requires.line.text ∙ line_in_three was.number was.end)
          (c.requires.line.digits ∙ length_counted was.number);
      number = refl;
      end = refl;
      digits = refl;
    }

pub returns-then-index-lt57-clause-line : goal.returns-then-index-lt57-clause-line
returns-then-index-lt57-clause-line c = λ yes.
    let was = c.args.self.now in
    let items = c.loop-at.self.text.items in
    let at = c.loop-at.at - 1 in
    let before : c.loop-at.at ≡ suc at = omega (arith, c.loop-at-test.true) in
    let behind : 7 ≤ at = omega (arith, c.loop-at-test.true) in
    let so_far = subst (IsCarriedIn label (decimal was.number) (ending_of was.end) items) before
    c.loop-at.invariant.carried in
    let there = in_text label (decimal was.number) (ending_of was.end) items at so_far behind in
    let below : get_or items at 0 < 57 = subst (λ d. d < 57) (c.index.ensures
    ∙ get_or_default items at c.index.result.now 0 there) c.if-index-lt57.true in
    record {
      text = ap (λ d. set items at (d + 1)) (c.index_mut.ensures.value
          ∙ get_or_default items at c.index_mut.result.now 0 there)
          ∙ counts label (decimal was.number) (ending_of was.end) items at so_far behind was.number below
          c.requires.more refl
          ∙ sym (line_in_three (was.number + 1) was.end)
          ∙ ap₂ (λ n e. packet_line (n + 1) e) (sym c.loop-at.invariant.number) (sym c.loop-at.invariant.end);
      digits = c.loop-at.invariant.digits ∙ c.requires.line.digits ∙ length_counted was.number
          ∙ ap (λ k. 7 + k) (sym (as_long label (decimal was.number) (ending_of was.end) items at so_far
          behind was.number below c.requires.more refl))
          ∙ sym (length_counted (was.number + 1)) ∙ ap (λ n. length (counted label (n + 1))) (sym
          c.loop-at.invariant.number);
    }

pub loop-at-preserved : goal.loop-at-preserved
loop-at-preserved c =
    let was = c.args.self.now in
    let items = c.loop-at.self.text.items in
    let at = c.loop-at.at - 1 in
    let before : c.loop-at.at ≡ suc at = omega (arith, c.loop-at-test.true) in
    let behind : 7 ≤ at = omega (arith, c.loop-at-test.true) in
    let so_far = subst (IsCarriedIn label (decimal was.number) (ending_of was.end) items) before
    c.loop-at.invariant.carried in
    let there = in_text label (decimal was.number) (ending_of was.end) items at so_far behind in
    record {
      carried = carries label (decimal was.number) (ending_of was.end) items at so_far behind
          (subst (λ d. 57 ≤ d) (c.index.ensures ∙ get_or_default items at c.index.result.now 0 there)
          c.if-index-lt57.false);
      number = c.loop-at.invariant.number;
      end = c.loop-at.invariant.end;
      digits = c.loop-at.invariant.digits;
    }
