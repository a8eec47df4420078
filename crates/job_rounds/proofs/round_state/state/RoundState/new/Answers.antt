use Rattle.std.proofs.Common.{◌≡◌, rules}
use Rattle.std.specs.Prelude.{replicate}
use Rattle.round_terms.proofs.Beginning.{start_place}
use Rattle.job_rounds.proofs.OfRoundState.Begun.{begun}
use Rattle.job_rounds.proofs.round_state.state.RoundState.new.Goals as goal

pub invariant_of-result : goal.invariant_of-result
invariant_of-result g c =
    let n = g.N.RoundName in
    let ear = g.E.Ear in
    let places : c.in-Ok.places.items ≡ replicate c.args.controls start_place = search rules in (
      begun ear.name ear.heard ear.spare n.store n.job n.number c.args.controls n.before n.ear c.args.desk c.args.ear c.new.result.items c.new-2.result.items c.in-Ok.places.items
          c.requires.store c.requires.journal c.requires.ear c.requires.controls c.requires.job c.new.ensures.items c.new-2.ensures.items places,
      tt,
    )
