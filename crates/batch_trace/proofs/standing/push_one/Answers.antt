use Rattle.std.proofs.Common.{◌∙◌, sym}
use Rattle.walk_trace.specs.Tallies.{count_at}
use Rattle.batch_trace.specs.Traced.{is_standing}
use Rattle.batch_trace.proofs.Shown.{told_shown}
use Rattle.batch_trace.proofs.standing.push_one.Goals as goal

pub returns : goal.returns
returns c =
    told_shown c.push_decided.result (is_standing c.args.hook c.args.filter.now) c.args.text.now.items c.push_decided.new.text.items c.count.result
    (count_at c.args.tally.now c.args.filter.now.by.edit) c.args.filter.now (sym c.is_standing.ensures ∙ c.if-not-is_standing.false) c.count.ensures c.push_decided.ensures
