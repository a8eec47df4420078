use Rattle.std.proofs.Common.{rules, ◌≡◌, ◌∙◌, true, false}
use Rattle.change_fates.specs.Told.{is_neither}
use Rattle.change_fates.specs.Views.{fate_seen}
use Rattle.change_fates.proofs.FateLines.{line_alone, line_and_met}
use Rattle.change_fates.proofs.fates.Room.put_fate.Goals as goal

pub returns-then-not-is_neither : goal.returns-then-not-is_neither
returns-then-not-is_neither c =
    line_alone c.args.known.now c.args.number c.args.bytes.now c.args.when (fate_seen c.args.fate) c.args.self.now.page c.push_text.new.self (search rules) (search rules)

pub returns : goal.returns
returns c =
    line_and_met c.tell_met.result c.args.known.now c.args.number c.args.bytes.now c.args.when (fate_seen c.args.fate) c.args.self.now.page c.push_text.new.self c.tell_met.new.page (search rules) (search rules) c.tell_met.ensures
