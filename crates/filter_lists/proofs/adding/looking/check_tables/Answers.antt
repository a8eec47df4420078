use Rattle.std.proofs.Common.{◌&&◌, not, length, is_some, Option, ℕ, sym, ◌∙◌, ap}
use Rattle.std.specs.Prelude.{nat_le}
use Rattle.filter_state.specs.declared.refusal.Refusal.TheVariants as refusals
use Rattle.filter_state.specs.Refusals.{when}
use Rattle.filter_tables.specs.Rows.{tables_on}
use Rattle.hook_lists.specs.States.{both_of}
use Rattle.filter_lists.proofs.OfAdding.Asking.{full_is}
use Rattle.filter_lists.proofs.adding.looking.check_tables.Goals as goal

pub returns-then-has_no_room : goal.returns-then-has_no_room
returns-then-has_no_room c =
    let many = nat_le 256 (length (tables_on c.args.line.now.hook (both_of c.args.kept.now))) in
    sym (full_is c.args.kept.now c.args.line.now.hook c.args.line.now.chain c.args.pref c.requires.kept
    ∙ ap (λ (o : Option ℕ). when (not (is_some o) && many) refusals.TablesFull) (sym c.requires.place)
    ∙ ap (λ b. when b refusals.TablesFull) (sym c.has_no_room.ensures ∙ c.if-has_no_room.true))

pub returns : goal.returns
returns c =
    let many = nat_le 256 (length (tables_on c.args.line.now.hook (both_of c.args.kept.now))) in
    sym (full_is c.args.kept.now c.args.line.now.hook c.args.line.now.chain c.args.pref c.requires.kept
    ∙ ap (λ (o : Option ℕ). when (not (is_some o) && many) refusals.TablesFull) (sym c.requires.place)
    ∙ ap (λ b. when b refusals.TablesFull) (sym c.has_no_room.ensures ∙ c.if-has_no_room.false))
