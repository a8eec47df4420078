use Rattle.std.proofs.Common.{sym, ◌∙◌, ap}
use Rattle.filter_state.specs.declared.refusal.Refusal.TheVariants as refusals
use Rattle.filter_state.specs.Refusals.{when}
use Rattle.filter_tables.specs.Seen.{plain_table}
use Rattle.hook_lists.proofs.Asked.{IsAt, full_found, full_nowhere}
use Rattle.hook_lists.proofs.Sought.{place_within}
use Rattle.hook_lists.proofs.questions.check_masks.Goals as goal

pub returns-in_default : goal.returns-in_default
returns-in_default c = sym (full_nowhere c.args.kept.now c.args.hook c.args.chain c.args.pref c.args.mask.now.words (sym c.requires.place ∙ c.in_default.is))

pub table_at-requires : goal.table_at-requires
table_at-requires c = place_within _ _ _ (sym c.requires.place ∙ c.in-Some.is)

pub returns-then-has_no_room : goal.returns-then-has_no_room
returns-then-has_no_room c =
    let at : IsAt c.args.kept.now c.args.hook c.args.chain c.args.pref c.in-Some.place (plain_table c.table_at.result.now) =
    record { found = sym c.requires.place ∙ c.in-Some.is; there = c.table_at.ensures } in
    sym (full_found c.args.kept.now c.args.hook c.args.chain c.args.pref c.in-Some.place c.args.mask.now.words (plain_table c.table_at.result.now) c.requires.kept at ∙ ap (λ b. when b refusals.MasksFull) (sym c.has_no_room.ensures ∙ c.if-has_no_room.true))

pub returns : goal.returns
returns c =
    let at : IsAt c.args.kept.now c.args.hook c.args.chain c.args.pref c.in-Some.place (plain_table c.table_at.result.now) =
    record { found = sym c.requires.place ∙ c.in-Some.is; there = c.table_at.ensures } in
    sym (full_found c.args.kept.now c.args.hook c.args.chain c.args.pref c.in-Some.place c.args.mask.now.words (plain_table c.table_at.result.now) c.requires.kept at ∙ ap (λ b. when b refusals.MasksFull) (sym c.has_no_room.ensures ∙ c.if-has_no_room.false))
