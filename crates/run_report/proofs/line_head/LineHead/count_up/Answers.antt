use Rattle.std.proofs.Common.{◌≡◌, ◌∙◌, ◌+◌, ◌-◌, ◌<◌, ◌≤◌, suc, [], length, get_or, set, refl, sym, ap, subst, arith}
use Rattle.std.specs.Prelude.{decimal}
use Rattle.std.proofs.lemmas.List.{get_or_default}
use Rattle.walk_texts.specs.Texts.{counted}
use Rattle.run_report.proofs.Counting.{IsCarriedIn, begins, in_text, carries, counts}
use Rattle.run_report.proofs.Heads.{label, head_is, length_head}
use Rattle.run_report.proofs.line_head.LineHead.count_up.Goals as goal

pub loop-at-init : goal.loop-at-init
loop-at-init c =
    let was = c.args.self.now in
    let place : c.len-at.result ≡ 7 + length (decimal was.number) =
    omega (arith, c.len-at.ensures, was.text.ok.0, ap length c.requires.head, length_head was.number) in
    record {
      carried = begins label (decimal was.number) [] was.text.items c.len-at.result (c.requires.head ∙ head_is was.number) place;
      number = refl;
    }

pub returns-then-index-lt57-clause-head : goal.returns-then-index-lt57-clause-head
returns-then-index-lt57-clause-head c = λ yes.
    let was = c.args.self.now in
    let items = c.loop-at.self.text.items in
    let at = c.loop-at.at - 1 in
    let before : c.loop-at.at ≡ suc at = omega (arith, c.loop-at-test.true) in
    let behind : 7 ≤ at = omega (arith, c.loop-at-test.true) in
    let so_far = subst (IsCarriedIn label (decimal was.number) [] items) before c.loop-at.invariant.carried in
    let there = in_text label (decimal was.number) [] items at so_far behind in
    let below : get_or items at 0 < 57 = subst (λ d. d < 57) (c.index.ensures ∙ get_or_default items at c.index.result.now 0 there) c.if-index-lt57.true in
    ap (λ d. set items at (d + 1)) (c.index_mut.ensures.value ∙ get_or_default items at c.index_mut.result.now 0 there)
    ∙ counts label (decimal was.number) [] items at so_far behind was.number below c.requires.more refl
    ∙ sym (head_is (was.number + 1))
    ∙ ap (λ n. counted label (n + 1)) (sym c.loop-at.invariant.number)

pub loop-at-preserved : goal.loop-at-preserved
loop-at-preserved c =
    let was = c.args.self.now in
    let items = c.loop-at.self.text.items in
    let at = c.loop-at.at - 1 in
    let before : c.loop-at.at ≡ suc at = omega (arith, c.loop-at-test.true) in
    let behind : 7 ≤ at = omega (arith, c.loop-at-test.true) in
    let so_far = subst (IsCarriedIn label (decimal was.number) [] items) before c.loop-at.invariant.carried in
    let there = in_text label (decimal was.number) [] items at so_far behind in
    record {
      carried = carries label (decimal was.number) [] items at so_far behind
          (subst (λ d. 57 ≤ d) (c.index.ensures ∙ get_or_default items at c.index.result.now 0 there) c.if-index-lt57.false);
      number = c.loop-at.invariant.number;
    }
