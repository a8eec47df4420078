use Rattle.desk_actions.specs.OfLedgers.Kept.{commits, base}
use Rattle.shared_hook.proofs.OfDeskEdits.Behind.{desk_dropped}
use Rattle.shared_hook.proofs.desk_edits.letting.let_go.Goals as goal

pub returns-clause-desk : goal.returns-clause-desk
returns-clause-desk c = let was = c.args.parts.now in let told = c.drop_dead_actions.ensures in let gone = c.requires.gone in
    desk_dropped was c.drop_dead_actions.new.pools c.drop_dead_actions.new.places c.args.serials.now c.requires.desk (told.dropped (commits was.ledger) (base was.ledger) gone.0 gone.1) told.sizes.0 told.sizes.1

pub returns-clause-dropped : goal.returns-clause-dropped
returns-clause-dropped c = let was = c.args.parts.now in let gone = c.requires.gone in c.drop_dead_actions.ensures.dropped (commits was.ledger) (base was.ledger) gone.0 gone.1
