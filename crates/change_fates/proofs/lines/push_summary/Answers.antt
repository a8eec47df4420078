use Rattle.std.proofs.Common.{◌≡◌, ◌++◌}
use Rattle.std.specs.Prelude.{codes}
use Rattle.std.proofs.lemmas.Result.{on_ok_weaker}
use Rattle.walk_texts.specs.Texts.{counted}
use Rattle.change_fates.specs.Texts.{summary_line, kinds_text}
use Rattle.change_fates.proofs.Pieces.{three}
use Rattle.change_fates.proofs.lines.push_summary.Goals as goal

pub returns : goal.returns
unfolding summary_line
returns c =
    on_ok_weaker c.push_text.result (three c.args.out.now.items c.push_count.new.out.items c.push_kinds.new.out.items c.push_text.new.out.items (counted (codes "foreseen packets ") c.args.packets) (kinds_text c.args.counts) (codes "\n") c.in_ok-push_count.ensures c.in_ok-push_kinds.ensures) c.push_text.ensures
