use Rattle.std.proofs.Common.{◌≡◌, ◌∙◌, ℕ, ◌++◌, true, List, ap, ap₂}
use Rattle.std.specs.Prelude.{None, get_or}
use Rattle.walk_texts.specs.Texts.{joined}
use Rattle.trace_lines.specs.Steps.{Step}
use Rattle.trace_lines.specs.Lines.{walk_lines}
use Rattle.filter_origins.specs.Entries.{Entry}
use Rattle.journal_names.specs.Known.{names_of}
use Rattle.change_fates.proofs.Steps.{steps_told}
use Rattle.change_fates.proofs.MetText.{page_is}
use Rattle.change_fates.proofs.met.tell_met.Goals as goal

pub returns : goal.returns
returns c =
    page_is c.tell_walk.result (record { packet = c.args.number; points = true }) c.args.known.now.entries c.names-names.result _ _ c.args.page.now c.tell_walk.new.page c.names-names.ensures
    (steps_told c.args.known.now c.answers-answers.result c.hook-hook.result c.args.bytes.now c.args.points.now c.answers-answers.ensures.is c.hook-hook.ensures c.requires.since) c.tell_walk.ensures.text
