use Rattle.std.proofs.Common.{rules, ◌≡◌, ◌<◌, ◌≤◌, ℕ, false, sym, subst, arith, ◌⊎◌, inl, inr}
use Rattle.std.specs.Prelude.{is_some}
use Rattle.round_terms.specs.Files.{files_of}
use Rattle.round_terms.specs.Turns.{HasNoLine}
use Rattle.report_check.proofs.OfEvents.Turning.{below_or, none_of}
use Rattle.report_check.proofs.events.events.some_left.Goals as goal

pub loop-control-preserved : goal.loop-control-preserved
loop-control-preserved c = λ control least less. by_place control least (below_or control c.loop-control.control less)
  where
    by_place : (control : ℕ) → 1 ≤ control → (control < c.loop-control.control) ⊎ (control ≡ c.loop-control.control) → HasNoLine (files_of c.args.job.now c.args.number) c.args.places.now control
    by_place control least (inl before) = c.loop-control.invariant control least before
    by_place control least (inr here) =
        let none : is_some c.next_line.result ≡ false = search rules in
        subst (HasNoLine (files_of c.args.job.now c.args.number) c.args.places.now) (sym here) (none_of c.next_line.result (HasNoLine (files_of c.args.job.now c.args.number) c.args.places.now c.loop-control.control) c.next_line.ensures.none none)

pub returns-clause-none : goal.returns-clause-none
returns-clause-none c = λ is control least most. c.loop-control.invariant control least (omega (arith, most))
