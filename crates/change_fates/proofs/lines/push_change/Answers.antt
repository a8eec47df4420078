use Rattle.std.proofs.Common.{◌∙◌, ◌++◌, ℕ, ap}
use Rattle.std.specs.Prelude.{codes}
use Rattle.std.proofs.lemmas.Result.{on_ok_weaker}
use Rattle.walk_texts.specs.Texts.{counted}
use Rattle.change_fates.specs.Texts.{change_line}
use Rattle.change_fates.proofs.Pieces.{three}
use Rattle.change_fates.proofs.lines.push_change.Goals as goal

pub returns : goal.returns
unfolding change_line
returns c =
    on_ok_weaker c.push_text.result (three c.args.out.now.items c.push_count.new.out.items c.push_count-2.new.out.items c.push_text.new.out.items (counted (codes "change from ") c.args.before) (counted (codes " to ") c.args.after) (codes "\n")
    (c.in_ok-push_count.ensures ∙ ap (λ (n : ℕ). c.args.out.now.items ++ counted (codes "change from ") n) c.from.ensures)
    (c.in_ok-push_count-2.ensures ∙ ap (λ (n : ℕ). c.push_count.new.out.items ++ counted (codes " to ") n) c.from-2.ensures)) c.push_text.ensures
