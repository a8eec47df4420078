use Rattle.job_rounds.proofs.OfOneRound.Numbered.{one_begun}
use Rattle.job_rounds.proofs.one_round.starting.start_controls.Goals as goal

pub loop-done-preserved : goal.loop-done-preserved
loop-done-preserved g c =
    let l = c.loop-done in
    one_begun l.done l.all.items c.push.new.self.items c.start_control-begun.result l.invariant c.start_control-begun.ensures c.in_ok-push.ensures.items
