use Rattle.std.proofs.Common.{◌≡◌, ◌∙◌, List, ℕ, [], ◌∷◌, sym, ap}
use Rattle.report_check.specs.Passed.{cut}
use Rattle.report_trace.proofs.lines.cut_first.Goals as goal

pub unreachable-requires : goal.unreachable-requires
unreachable-requires c =
    let none : ◌≡◌ {A = List (List ℕ)} [] (c.requires.0 ∷ c.requires.1) = sym (ap cut c.in-None.ensures.none) ∙ c.requires.2 in
    absurd (cc none)
