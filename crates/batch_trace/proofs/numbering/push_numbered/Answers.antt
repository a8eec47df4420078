use Rattle.std.proofs.Common.{◌∙◌, ◌++◌, [], ◌∷◌, ℕ, List, drop, refl, sym, ap, append_assoc}
use Rattle.std.proofs.lemmas.List.{append-nil}
use Rattle.batch_trace.specs.Kept.{behind_head}
use Rattle.batch_trace.proofs.Cutting.{cut_shorter, none_left, one_less}
use Rattle.batch_trace.proofs.numbering.push_numbered.Goals as goal

pub loop-line-init : goal.loop-line-init
loop-line-init c = λ ends are is. (ends, are, is, refl)

pub loop-line-smaller : goal.loop-line-smaller
loop-line-smaller c = cut_shorter c.loop-line.left.now c.cut_at.result c.in-Some.line c.in-Some.behind c.cut_at.ensures c.in-Some.is

pub loop-line-preserved : goal.loop-line-preserved
loop-line-preserved c = λ ends are is.
    let before = c.loop-line.invariant ends are is in
    let head = c.args.head.now in
    let next = one_less c.loop-line.left.now c.cut_at.result c.in-Some.line c.in-Some.behind before.0 head before.1 before.2 c.cut_at.ensures c.in-Some.is in
    let end = ap (λ (t : List ℕ). c.loop-line.text.items ++ ((head ++ t) ++ (10 ∷ []))) c.end_of.ensures in (
      next.0,
      next.1,
      next.2,
      ap (λ (t : List ℕ). t ++ behind_head head next.0) (c.in_ok-push_line.ensures ∙ end)
          ∙ append_assoc c.loop-line.text.items ((head ++ drop 4 c.in-Some.line.now) ++ (10 ∷ [])) (behind_head head next.0)
          ∙ ap (λ (t : List ℕ). c.loop-line.text.items ++ t) (sym next.3) ∙ before.3,
    )

pub returns : goal.returns
returns c = λ ends are is.
    let before = c.loop-line.invariant ends are is in
    let none = none_left c.cut_at.result before.0 c.loop-line.left.now before.1 before.2 c.cut_at.ensures c.in_default.is in
    sym (append-nil c.loop-line.text.items) ∙ ap (λ (left : List (List ℕ)). c.loop-line.text.items ++ behind_head c.args.head.now left) (sym none)
    ∙ before.3
