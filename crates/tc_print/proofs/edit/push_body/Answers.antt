use Rattle.std.proofs.Common.{◌≡◌, [], ◌∷◌, ◌++◌, codes, fold, OnOk, subst}
use Rattle.tc_print.proofs.Chained.{grown}
use Rattle.tc_print.specs.ActionWords.{list_words}
use Rattle.tc_print.specs.FieldWords.{fields_words}
use Rattle.tc_print.specs.Texts.{onto}
use Rattle.tc_print.proofs.edit.push_body.Goals as goal

-- src/edit.rt:38:1
pub returns : goal.returns
returns c =
    let line = c.args.line.now in
    let fields = fields_words line.key.words line.mask.words in
    let old = c.push_fields.new.out.items in
    let new = c.push_actions.new.out.items in
    let last = subst (λ actions. OnOk c.push_actions.result (new ≡ fold onto old (list_words actions))) c.as_slice.ensures c.push_actions.ensures in
    grown c.push_actions.result c.args.out.now.items c.push_word.new.out.items new (codes "flower" ∷ []) (fields ++ list_words line.actions) c.in_ok-push_word.ensures
    (grown c.push_actions.result c.push_word.new.out.items old new fields (list_words line.actions) c.in_ok-push_fields.ensures last)
