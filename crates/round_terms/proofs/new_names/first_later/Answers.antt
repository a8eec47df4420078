use Rattle.batch_run.proofs.Logging.{names_from, none_earlier, one_earlier}
use Rattle.round_terms.proofs.new_names.first_later.Goals as goal

pub returns-else-entries-first-clause-later : goal.returns-else-entries-first-clause-later
returns-else-entries-first-clause-later c =
    let l = c.loop-first in
    let entries = c.args.entries.now in
    names_from c.args.before l.first entries (one_earlier c.args.before l.first entries _ c.requires c.loop-first-test.true l.invariant.within c.if-entries-first.false) l.invariant.later

pub returns-after-loop-first-clause-later : goal.returns-after-loop-first-clause-later
returns-after-loop-first-clause-later c =
    let l = c.loop-first in
    let entries = c.args.entries.now in
    names_from c.args.before l.first entries (none_earlier c.args.before l.first entries c.loop-first-test.false) l.invariant.later
