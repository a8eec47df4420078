use Rattle.std.proofs.Common.{◌∙◌, get_or, sym, ap, arith}
use Rattle.visit_room.specs.declared.table_head.TableHead.{TableHead}
use Rattle.walk_fate_laws.specs.Walks.{same_head}
use Rattle.walk_steps.specs.Told.{head_told}
use Rattle.fate_search.proofs.Alike.{all_same, one_differs}
use Rattle.fate_search.proofs.same_answers.are_same_tables.Goals as goal

pub returns-then-not-is_same_table : goal.returns-then-not-is_same_table
returns-then-not-is_same_table c =
    let long = c.loop-place.invariant.long in
    sym (one_differs same_head head_told c.args.tables.now c.args.others.now c.loop-place.place c.index-tables-place.result
    c.index-others-place.result (omega arith) (omega (arith, long))
    (ap (λ (t : TableHead). same_head (head_told t) (head_told (get_or c.args.others.now c.loop-place.place c.index-others-place.result))) (sym c.index-tables-place.is)
    ∙ ap (λ (t : TableHead). same_head (head_told c.index-tables-place.result) (head_told t)) (sym c.index-others-place.is)
    ∙ sym c.is_same_table.ensures ∙ c.if-not-is_same_table.true))

pub returns : goal.returns
returns c =
    let most = c.loop-place-test.false in
    sym (all_same same_head head_told c.args.tables.now c.args.others.now c.loop-place.invariant.long
    (λ k d less. c.loop-place.invariant.same k d (omega (arith, less, most))))
