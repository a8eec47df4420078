use Rattle.std.proofs.Common.{◌≡◌, ◌∙◌, ◌+◌, List, Some, sym, ap, subst, arith}
use Rattle.std.specs.Prelude.{map}
use Rattle.std.proofs.lemmas.List.{drop_all}
use Rattle.filter_tables.specs.Plain.{PlainTable}
use Rattle.filter_tables.specs.Places.{item_at}
use Rattle.filter_tables.specs.Seen.{plain_table}
use Rattle.walk_rules.specs.Plain.{tables_outcome}
use Rattle.head_laws.specs.Heads.{head_of}
use Rattle.head_laws.proofs.ListedHeads.{heads_listed}
use Rattle.classify_walk.proofs.Searching.{item_lent}
use Rattle.plain_walk.specs.Courses.{carried_from}
use Rattle.filter_tables.specs.Room.{AreRising}
use Rattle.filter_tables.specs.Whole.{AreWhole}
use Rattle.filter_tables.specs.Rows.{tables_on}
use Rattle.hook_lists.specs.States.{both_of}
use Rattle.row_laws.proofs.OfLookups.Found.{whole_on}
use Rattle.plain_walk.proofs.Following.{heads_from, heads_more, none_behind}
use Rattle.plain_walk.proofs.chains.walk_chain.Goals as goal

pub loop-table-init : goal.loop-table-init
loop-table-init c = record {
  course = c.requires;
  leads = λ s spelled restart.
      ap (λ heads. tables_outcome s restart c.args.chain heads c.args.course.now.left (carried_from c.args.came.now c.args.course.now))
      (sym (heads_listed c.args.lists.now s c.args.hook c.tables-tables.ensures.kept spelled) ∙ ap (map head_of) (sym c.tables-tables.ensures.tables));
}

pub pass_table-requires-clause-table : goal.pass_table-requires-clause-table
pass_table-requires-clause-table c = record {
  kept = c.tables-tables.ensures.kept;
  hook = c.args.hook;
  place = c.loop-table.table-index;
  there = subst (λ (ts : List PlainTable). item_at ts c.loop-table.table-index ≡ Some (plain_table c.table-item.result)) c.tables-tables.ensures.tables
      (item_lent plain_table c.tables-tables.result.now c.loop-table.table-index c.table-item.result c.loop-table-test.true c.table-item.is);
}

pub returns-in-Some-clause-plain : goal.returns-in-Some-clause-plain
returns-in-Some-clause-plain c = λ s spelled restart.
    let tables = c.tables-tables.result.now in
    let place = c.loop-table.table-index in
    c.loop-table.invariant.leads s spelled restart
    ∙ ap (λ heads. tables_outcome s restart c.args.chain heads c.loop-table.course.left (carried_from c.args.came.now c.loop-table.course))
    (heads_more tables place c.table-item.result c.loop-table-test.true c.table-item.is)
    ∙ c.in-Some.ensures.plain s spelled restart (heads_from (place + 1) tables)

pub loop-table-preserved : goal.loop-table-preserved
loop-table-preserved c =
    let tables = c.tables-tables.result.now in
    let place = c.loop-table.table-index in
    record {
      course = c.pass_table.ensures.course;
      leads = λ s spelled restart.
          c.loop-table.invariant.leads s spelled restart
          ∙ ap (λ heads. tables_outcome s restart c.args.chain heads c.loop-table.course.left (carried_from c.args.came.now c.loop-table.course))
          (heads_more tables place c.table-item.result c.loop-table-test.true c.table-item.is)
          ∙ c.in_default.ensures.plain s spelled restart (heads_from (place + 1) tables);
    }

pub returns-after-loop-table-clause-plain : goal.returns-after-loop-table-clause-plain
returns-after-loop-table-clause-plain c = λ s spelled restart.
    let tables = c.tables-tables.result.now in
    let place = c.loop-table.table-index in
    c.loop-table.invariant.leads s spelled restart
    ∙ ap (λ ts. tables_outcome s restart c.args.chain (map head_of (map plain_table ts)) c.loop-table.course.left (carried_from c.args.came.now c.loop-table.course))
    (drop_all place tables (omega (arith, c.loop-table-test.false)))

pub returns-then-table-chain-clause-plain : goal.returns-then-table-chain-clause-plain
returns-then-table-chain-clause-plain c = λ s spelled restart.
    let tables = c.tables-tables.result.now in
    let is = c.tables-tables.ensures.kept in
    let whole : AreWhole (tables_on c.args.hook (both_of c.args.lists.now)) = whole_on c.args.hook (both_of c.args.lists.now) is.whole in
    c.loop-table.invariant.leads s spelled restart
    ∙ none_behind s restart c.args.chain tables c.loop-table.table-index c.table-item.result c.loop-table.course.left (carried_from c.args.came.now c.loop-table.course)
    (subst AreRising (sym c.tables-tables.ensures.tables) whole.rising) c.loop-table-test.true c.table-item.is c.if-table-chain.true
