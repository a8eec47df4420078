use Rattle.std.proofs.Common.{◌∙◌, [], sym}
use Rattle.fate_search.specs.Found.{found_with}
use Rattle.fate_search.proofs.Keeping.{known_at}
use Rattle.fate_search.proofs.fates.is_among.Goals as goal

pub returns-then-is_same : goal.returns-then-is_same
returns-then-is_same c = λ points.
    sym (known_at c.args.bytes.now points c.args.kept.now (found_with [] c.args.verdict c.args.frame.now)
    c.loop-fate.fate-index _ c.loop-fate-test.true (sym c.is_same.ensures ∙ c.if-is_same.true))
