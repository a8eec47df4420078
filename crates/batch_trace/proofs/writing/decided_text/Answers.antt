use Rattle.walk_trace.specs.Tallies.{count_at}
use Rattle.batch_trace.proofs.DecidedText.{decided_made}
use Rattle.batch_trace.proofs.writing.decided_text.Goals as goal

pub returns : goal.returns
returns c = λ packets counts.
    decided_made c.args.hook c.args.traced.now packets (count_at c.args.tally.now) c.brought.result.now c.new-text.result.items c.push_standing.new.text.items c.new-text.ensures.items c.brought.ensures counts
    c.in_ok-push_standing.ensures
