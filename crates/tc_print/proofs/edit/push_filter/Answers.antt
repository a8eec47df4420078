use Rattle.std.proofs.Common.{◌++◌, Some}
use Rattle.tc_print.proofs.Chained.{grown}
use Rattle.tc_print.specs.EditWords.{hook_words, option_words, body_words}
use Rattle.tc_print.proofs.edit.push_filter.Goals as goal

-- src/edit.rt:47:1
pub returns : goal.returns
returns c =
    let line = c.args.line.now in
    let options = option_words (Some line.protocol) line.pref line.chain line.handle in
    let hook = c.push_hook.new.out.items in
    let new = c.push_body.new.out.items in
    grown c.push_body.result c.args.out.now.items hook new (hook_words c.args.verb.now line.hook) (options ++ body_words line) c.in_ok-push_hook.ensures
    (grown c.push_body.result hook c.push_options.new.out.items new options (body_words line) c.in_ok-push_options.ensures c.push_body.ensures)
