use Rattle.std.proofs.Common.{◌≡◌, None, ap, ◌∙◌, subst}
use Rattle.std.specs.Prelude.{find}
use Rattle.std.specs.Option.{option_copied}
use Rattle.flow_mask.specs.Masks.{each_and}
use Rattle.filter_index.specs.Listed.{has_key}
use Rattle.filter_index.proofs.Sieving.{none_met}
use Rattle.filter_tables.specs.SievedMask.{SievedMask}
use Rattle.filter_tables.proofs.mask_list.MaskList.met.Goals as goal

pub returns-in_err-sum : goal.returns-in_err-sum
returns-in_err-sum c =
    ap option_copied c.from_residual.ensures
    ∙ subst (λ (m : SievedMask). None ≡ find (has_key (each_and c.args.frame.now.words m.mask.words)) m.filters.filters) c.self.view_is
    (none_met c.self.inside.sieve c.args.frame.now.words c.self.inside.mask.words c.self.inside.filters.filters c.self.invariant.0 c.self.invariant.1
    (c.in_err-sum.ensures.none))
