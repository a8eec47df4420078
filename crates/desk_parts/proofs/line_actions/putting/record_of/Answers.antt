use Rattle.std.proofs.Common.{Some, None, sym, ap}
use Rattle.desk_parts.proofs.OfLineActions.Finding.{entry_terms, entry_serial}
use Rattle.desk_parts.proofs.line_actions.putting.record_of.Goals as goal

pub unreachable-requires : goal.unreachable-requires
unreachable-requires c = c.requires (entry_terms c.args.serial c.actions.result.now.entries c.args.lists.now.actions.entries None (ap (λ r. r.entries) c.actions.ensures.actions) c.in-None.ensures)

pub returns-clause-serial : goal.returns-clause-serial
returns-clause-serial c = entry_serial c.args.serial c.actions.result.now.entries c.in-Some.entry.now (sym c.in-Some.ensures)

pub returns-clause-terms : goal.returns-clause-terms
returns-clause-terms c = entry_terms c.args.serial c.actions.result.now.entries c.args.lists.now.actions.entries (Some c.in-Some.entry.now) (ap (λ r. r.entries) c.actions.ensures.actions) c.in-Some.ensures
