use Rattle.std.proofs.Common.{◌∙◌, List, length, sym, ap, subst, arith}
use Rattle.filter_state.specs.Sound.{Each}
use Rattle.filter_tables.specs.Plain.{PlainMask}
use Rattle.filter_tables.specs.Seen.{plain_table}
use Rattle.walk_rules.specs.Plain.{filter_outcome}
use Rattle.classify_walk.specs.Answered.{StandsAction}
use Rattle.plain_walk.specs.Courses.{carried_from}
use Rattle.plain_walk.specs.Lookups.{IsLookedUp, first_met, looked_at}
use Rattle.plain_walk.specs.declared.lookups.LookUp.TheVariants as looks
use Rattle.plain_walk.proofs.MetRows.{acts_of, decided_by, table_is, spent_table, left_table, FitsList, met_fits}
use Rattle.plain_walk.proofs.chains.search_table.Goals as goal
use Rattle.plain_walk.proofs.chains.search_table.Goals.{In-Met}

abbrev met : (c : In-Met) → IsLookedUp c.args.course.now.key.words (plain_table c.args.table.now).masks c.args.course.now.left (looks.Met c.in-Met.filter) c.look_up.new.left
met c =
    subst (λ (ms : List PlainMask). IsLookedUp c.args.course.now.key.words ms c.args.course.now.left (looks.Met c.in-Met.filter) c.look_up.new.left) c.as_slice.ensures c.in-Met.ensures.looked

fits : (c : In-Met) → FitsList c.args.lists.now c.in-Met.filter.now
fits c = met_fits c.args.lists.now (plain_table c.args.table.now) c.requires.table c.args.course.now.key.words c.in-Met.filter.now (met c).1

pub run_filter-requires-clause-few : goal.run_filter-requires-clause-few
run_filter-requires-clause-few c =
    let few = fits (goal.at.run_filter-requires-clause-few c).In-Met in
    omega (arith, few.0, ap length c.as_slice-in-Met.ensures)

pub run_filter-requires-clause-stand : goal.run_filter-requires-clause-stand
run_filter-requires-clause-stand c =
    let few = fits (goal.at.run_filter-requires-clause-stand c).In-Met in
    subst (Each (StandsAction c.args.lists.now)) (sym c.as_slice-in-Met.ensures) few.1

pub returns-in-Met-clause-plain : goal.returns-in-Met-clause-plain
returns-in-Met-clause-plain c = λ s spelled restart next.
    let old = c.args.course.now in
    let table = plain_table c.args.table.now in
    let words = old.key.words in
    let carried = carried_from c.args.came.now old in
    let after = c.look_up.new.left in
    let looked = met (goal.at.returns-in-Met-clause-plain c).In-Met in
    table_is c.args.lists.now s table c.requires.table spelled words c.words_of-words.ensures.count restart next old.left carried c.requires.course.fields
    ∙ left_table s restart next old.left after carried (looked_at words table.masks) (acts_of (first_met words table.masks)) looked.0
    ∙ ap (λ found. decided_by s restart next after carried (acts_of found)) looked.1
    ∙ ap (filter_outcome s restart next after carried) (sym c.as_slice-in-Met.ensures)
    ∙ c.run_filter.ensures.plain s spelled restart next

pub returns-in-Missed-clause-plain : goal.returns-in-Missed-clause-plain
returns-in-Missed-clause-plain c = λ s spelled restart next.
    let old = c.args.course.now in
    let table = plain_table c.args.table.now in
    let words = old.key.words in
    let carried = carried_from c.args.came.now old in
    let after = c.look_up.new.left in
    let looked = subst (λ (ms : List PlainMask). IsLookedUp words ms old.left looks.Missed after) c.as_slice.ensures c.in-Missed.ensures.looked in
    table_is c.args.lists.now s table c.requires.table spelled words c.words_of-words.ensures.count restart next old.left carried c.requires.course.fields
    ∙ left_table s restart next old.left after carried (looked_at words table.masks) (acts_of (first_met words table.masks)) looked.0
    ∙ ap (λ found. decided_by s restart next after carried (acts_of found)) looked.1

pub returns-in-Spent-clause-plain : goal.returns-in-Spent-clause-plain
returns-in-Spent-clause-plain c = λ s spelled restart next.
    let old = c.args.course.now in
    let table = plain_table c.args.table.now in
    let words = old.key.words in
    let carried = carried_from c.args.came.now old in
    let looked = subst (λ (ms : List PlainMask). IsLookedUp words ms old.left looks.Spent c.look_up.new.left) c.as_slice.ensures c.in-Spent.ensures.looked in
    table_is c.args.lists.now s table c.requires.table spelled words c.words_of-words.ensures.count restart next old.left carried c.requires.course.fields
    ∙ spent_table s restart next old.left carried (looked_at words table.masks) (acts_of (first_met words table.masks)) looked
