use Rattle.std.specs.Prelude.{false}
use Rattle.batch_trace.proofs.Pages.{steps_told, met_made, decided_made, few_made}
use Rattle.batch_trace.proofs.telling.tell_met.Goals as goal

pub returns-clause-page : goal.returns-clause-page
returns-clause-page c =
    let t = c.args.traced.now in
    let same = steps_told c.answers-answers.result t c.point.result c.args.hook c.args.bytes.now c.point.ensures.point c.answers-answers.ensures in
    met_made c.tell_walk.result (record { packet = c.args.number; points = false }) t c.names-names.result _ _ c.args.page.now c.tell_walk.new.page c.names-names.ensures same c.tell_walk.ensures.text

pub returns-clause-decided : goal.returns-clause-decided
returns-clause-decided c =
    let t = c.args.traced.now in
    let same = steps_told c.answers-answers.result t c.point.result c.args.hook c.args.bytes.now c.point.ensures.point c.answers-answers.ensures in
    decided_made c.tell_walk.result t c.names-names.result _ _ c.clear.new.self.items c.tell_walk.new.decided.items c.names-names.ensures same c.clear.ensures.items c.tell_walk.ensures.decided

pub returns-clause-few : goal.returns-clause-few
returns-clause-few c = few_made c.tell_walk.result c.clear.new.self.items c.tell_walk.new.decided.items c.clear.ensures.items c.tell_walk.ensures.few
