use Rattle.std.proofs.Common.{List, sym, subst}
use Rattle.round_terms.specs.declared.place.Place.{Place}
use Rattle.round_terms.specs.Files.{files_of}
use Rattle.round_terms.specs.Coming.{IsThroughAll}
use Rattle.round_terms.specs.Turns.{AreWithin, HasNoLine, IsLineFor}
use Rattle.round_terms.proofs.Lining.{if_none}
use Rattle.job_rounds.specs.OfRoundState.Rounds.{Underway}
use Rattle.job_rounds.specs.OfRoundState.Turns.{IsLineNumber}
use Rattle.job_rounds.proofs.OfRoundState.Turning.{called, called_at, within, none_left, not_through}
use Rattle.job_rounds.proofs.round_state.state.RoundState.next_line.Goals as goal

pub next_line-requires-clause-within : goal.next_line-requires-clause-within
next_line-requires-clause-within g c =
    let it = called c.self.invariant.0 c.requires.job.0 c.requires.job.1 c.requires.round.0 in
    subst (AreWithin (files_of c.args.job.now c.args.round)) (sym c.as_slice.ensures.value) (within it)

pub returns-in_err-next-clause-over : goal.returns-in_err-next-clause-over
returns-in_err-next-clause-over g c =
    let it = called c.self.invariant.0 c.requires.job.0 c.requires.job.1 c.requires.round.0 in
    if_none c.from_residual.result (IsThroughAll (files_of g.N.RoundName.job g.N.RoundName.number) c.args.control c.args.self.now.events)
    (subst (λ (now : Underway _). IsThroughAll (files_of g.N.RoundName.job g.N.RoundName.number) c.args.control now.events) c.self.view_is
    (none_left it c.args.control (subst (λ (ps : List Place). HasNoLine (files_of c.args.job.now c.args.round) ps c.args.control) c.as_slice.ensures.value c.in_err-next.ensures.none)))

pub returns-clause-exact : goal.returns-clause-exact
returns-clause-exact g c =
    let it = called c.self.invariant.0 c.requires.job.0 c.requires.job.1 c.requires.round.0 in
    let f = c.in_ok-next.next in
    let at = called_at it c.args.control f.text.now f.line f.next f.force
    (subst (λ (ps : List Place). IsLineFor (files_of c.args.job.now c.args.round) ps c.args.control f.text.now f.line f.next f.force) c.as_slice.ensures.value c.in_ok-next.ensures.some) in
    λ through. not_through at (subst (λ (now : Underway _). IsThroughAll (files_of g.N.RoundName.job g.N.RoundName.number) c.args.control now.events) (sym c.self.view_is) through)

pub returns-clause-line : goal.returns-clause-line
returns-clause-line g c =
    let f = c.in_ok-next.next in
    subst (λ (now : Underway _). IsLineNumber (files_of g.N.RoundName.job g.N.RoundName.number) now.places c.args.control f.line) c.self.view_is
    (let it = called c.self.invariant.0 c.requires.job.0 c.requires.job.1 c.requires.round.0 in (
      f.text.now,
      f.next,
      f.force,
      (called_at it c.args.control f.text.now f.line f.next f.force
          (subst (λ (ps : List Place). IsLineFor (files_of c.args.job.now c.args.round) ps c.args.control f.text.now f.line f.next f.force) c.as_slice.ensures.value c.in_ok-next.ensures.some)).own_line,
    ))
