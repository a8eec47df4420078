use Rattle.std.proofs.Common.{◌≡◌, take}
use Rattle.std.specs.Prelude.{fold}
use Rattle.tc_print.specs.ActionWords.{list_words}
use Rattle.tc_print.specs.Texts.{onto}
use Rattle.tc_print.proofs.actions.push_actions.Given as goal

abbrev pub invariant-loop-action : goal.invariant-loop-action
invariant-loop-action l = l.out.items ≡ fold onto l.fn.out.items (list_words (take l.action-index l.actions))
