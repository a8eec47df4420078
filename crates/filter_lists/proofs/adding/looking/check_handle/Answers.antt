use Rattle.std.proofs.Common.{sym, ◌∙◌, ap}
use Rattle.filter_state.specs.declared.refusal.Refusal.TheVariants as refusals
use Rattle.filter_state.specs.Refusals.{when, handle_taken}
use Rattle.filter_tables.specs.Seen.{plain_table}
use Rattle.hook_lists.specs.States.{state_of}
use Rattle.hook_lists.proofs.Asked.{IsAt}
use Rattle.hook_lists.proofs.Sought.{place_within}
use Rattle.filter_lists.proofs.OfAdding.Asking.{taken_found, taken_nowhere}
use Rattle.filter_lists.proofs.adding.looking.check_handle.Goals as goal

pub returns-in_default-place : goal.returns-in_default-place
returns-in_default-place c =
    sym (taken_nowhere c.args.kept.now c.args.line.now.hook c.args.line.now.chain c.args.pref c.args.line.now.handle (sym c.requires.place ∙ c.in_default-place.is))

pub table_at-requires : goal.table_at-requires
table_at-requires c = place_within _ _ _ (sym c.requires.place ∙ c.in-Some-place.is)

pub returns-then-has_filter : goal.returns-then-has_filter
returns-then-has_filter c =
    let kept = c.args.kept.now in
    let line = c.args.line.now in
    let t = plain_table c.table_at.result.now in
    let at : IsAt kept line.hook line.chain c.args.pref c.in-Some-place.table t = record { found = sym c.requires.place ∙ c.in-Some-place.is; there = c.table_at.ensures } in
    sym (ap (λ h. handle_taken (state_of kept) line.hook line.chain c.args.pref h) c.in-Some.is
    ∙ taken_found kept line.hook line.chain c.args.pref c.in-Some-place.table c.in-Some.handle t c.requires.kept at
    ∙ ap (λ b. when b refusals.HandleTaken) (sym c.has_filter.ensures ∙ c.if-has_filter.true))

pub returns : goal.returns
returns c =
    let kept = c.args.kept.now in
    let line = c.args.line.now in
    let t = plain_table c.table_at.result.now in
    let at : IsAt kept line.hook line.chain c.args.pref c.in-Some-place.table t = record { found = sym c.requires.place ∙ c.in-Some-place.is; there = c.table_at.ensures } in
    sym (ap (λ h. handle_taken (state_of kept) line.hook line.chain c.args.pref h) c.in-Some.is
    ∙ taken_found kept line.hook line.chain c.args.pref c.in-Some-place.table c.in-Some.handle t c.requires.kept at
    ∙ ap (λ b. when b refusals.HandleTaken) (sym c.has_filter.ensures ∙ c.if-has_filter.false))
