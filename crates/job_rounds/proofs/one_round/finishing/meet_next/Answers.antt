use Rattle.std.proofs.Common.{◌∙◌, sym, ap}
use Rattle.std.proofs.lemmas.Bool.{ne_eqb}
use Rattle.lawful_runs.specs.Events.{events_of}
use Rattle.round_terms.proofs.Coming.{events_other}
use Rattle.job_rounds.proofs.one_round.finishing.meet_next.Goals as goal

-- the line that was met is no other control's
pub returns-in-Applied : goal.returns-in-Applied
returns-in-Applied g c = λ other apart.
    let it = c.in-Applied.ensures.turned in
    ap (events_of other) it.events
    ∙ events_other other c.loop.state.events (record { control = c.args.control; line = it.line; kind = it.kind }) (ne_eqb c.args.control other (λ same. apart (sym same)))
    ∙ c.loop.invariant other apart
