use Rattle.std.proofs.Common.{◌∙◌, ◌++◌, List, ℕ, ap, sym, arith}
use Rattle.std.proofs.lemmas.List.Folds.{flat_map-map}
use Rattle.filter_tables.specs.Plain.{PlainMask}
use Rattle.filter_tables.specs.SeenMask.{plain_mask}
use Rattle.desk_parts.specs.OfGoneSerials.Same.{serials_in}
use Rattle.desk_parts.proofs.OfGoneSerials.Growing.{all_of}
use Rattle.desk_parts.proofs.gone_serials.telling.add_masks.Goals as goal

pub returns : goal.returns
returns c = c.loop-mask.invariant ∙ ap (λ (t : List ℕ). c.args.gone.now.items ++ t)
    (all_of (λ m. serials_in (plain_mask m).filters) c.args.masks.now c.loop-mask.mask-index (omega (arith, c.loop-mask-test.false))
    ∙ sym (flat_map-map (λ (m : PlainMask). serials_in m.filters) plain_mask c.args.masks.now))
