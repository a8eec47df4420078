use Rattle.std.proofs.Common.{List, ap, sym, ◌∙◌, subst}
use Rattle.flow_fields.specs.Values.{values_of, IsTidy}
use Rattle.flow_mask.specs.Masks.{each_and}
use Rattle.flow_mask.proofs.Ands.{each_and-each_and, values_of-each_and}
use Rattle.flow_mask.proofs.FieldsAndWords.{each_and_tidy}
use Rattle.flow_mask.proofs.matching.masked.Goals as goal

pub returns-clause-fields : goal.returns-clause-fields
returns-clause-fields g c = ap values_of c.mask_slice.ensures ∙ values_of-each_and c.args.key.now.words c.args.mask.now.words

pub returns-clause-tidy : goal.returns-clause-tidy
returns-clause-tidy g c = λ tidy. subst IsTidy (sym c.mask_slice.ensures) (each_and_tidy c.args.key.now.words c.args.mask.now.words tidy)

pub returns-clause-under : goal.returns-clause-under
returns-clause-under g c =
    ap (λ (words : List _). each_and words c.args.mask.now.words) c.mask_slice.ensures
    ∙ each_and-each_and c.args.key.now.words c.args.mask.now.words
    ∙ sym c.mask_slice.ensures
