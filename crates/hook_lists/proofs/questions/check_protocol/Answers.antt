use Rattle.std.proofs.Common.{sym, ◌∙◌, not, ap}
use Rattle.filter_state.specs.declared.refusal.Refusal.TheVariants as refusals
use Rattle.filter_state.specs.Refusals.{when}
use Rattle.filter_tables.specs.Seen.{plain_table}
use Rattle.hook_lists.proofs.Asked.{IsAt, clash_found, clash_nowhere}
use Rattle.hook_lists.proofs.Sought.{place_within}
use Rattle.hook_lists.proofs.questions.check_protocol.Goals as goal

pub returns-in_default : goal.returns-in_default
returns-in_default c = sym (clash_nowhere c.args.kept.now c.args.hook c.args.chain c.args.pref c.args.protocol (sym c.requires.place ∙ c.in_default.is))

pub table_at-table-requires : goal.table_at-table-requires
table_at-table-requires c = place_within _ _ _ (sym c.requires.place ∙ c.in-Some.is)

pub returns-then-is_same : goal.returns-then-is_same
returns-then-is_same c =
    let t = plain_table c.table_at-table.result.now in
    let at : IsAt c.args.kept.now c.args.hook c.args.chain c.args.pref c.in-Some.place t =
    record { found = sym c.requires.place ∙ c.in-Some.is; there = c.table_at-table.ensures } in
    sym (clash_found c.args.kept.now c.args.hook c.args.chain c.args.pref c.in-Some.place t c.args.protocol c.requires.kept at
    ∙ ap (λ b. when (not b) (refusals.ProtocolClash t.protocol)) (sym c.is_same.ensures ∙ c.if-is_same.true))

pub returns : goal.returns
returns c =
    let t = plain_table c.table_at-table.result.now in
    let at : IsAt c.args.kept.now c.args.hook c.args.chain c.args.pref c.in-Some.place t =
    record { found = sym c.requires.place ∙ c.in-Some.is; there = c.table_at-table.ensures } in
    sym (clash_found c.args.kept.now c.args.hook c.args.chain c.args.pref c.in-Some.place t c.args.protocol c.requires.kept at
    ∙ ap (λ b. when (not b) (refusals.ProtocolClash t.protocol)) (sym c.is_same.ensures ∙ c.if-is_same.false))
