use Rattle.std.proofs.Common.{◌≡◌, ◌∙◌, ℕ, ◌+◌, List, length, Some, sym, subst}
use Rattle.pin_store.specs.Calls.{sheet_of}
use Rattle.filter_state.specs.declared.edit.FilterLine.{FilterLine}
use Rattle.filter_state.specs.States.{State}
use Rattle.mask_table.proofs.OfMirrors.Keeping.{same_base}
use Rattle.hook_store_law.specs.OfEdits.Premises.{now, next, named_row}
use Rattle.desk_pools.specs.OfNumbers.Numbers.{PoolNumbers}
use Rattle.desk_actions.specs.declared.ledgers.ledger.Ledger.{Ledger}
use Rattle.desk_actions.specs.OfLedgers.Kept.{commits, base}
use Rattle.desk_actions.specs.Effects.{IsCounted}
use Rattle.desk_parts.specs.OfLineActions.Gone.{serials_gone}
use Rattle.shared_hook.proofs.OfDeskEdits.Behind.{fewer_may_go}
use Rattle.shared_hook.proofs.OfDeskEdits.Passing.{may_go}
use Rattle.desk_parts.specs.declared.ways.way.Way.TheVariants as ways
use Rattle.shared_hook.specs.OfDeskEdits.Spent.{made_by, needed, LeftWithActions}
use Rattle.shared_hook.proofs.OfDeskEdits.Answers.{exchanged}
use Rattle.shared_hook.proofs.OfDeskEdits.Counts.{counted_with, enough_with}
use Rattle.shared_hook.proofs.OfDeskEdits.Found.{same_now, at_ahead, behind_ahead}
use Rattle.shared_hook.proofs.OfDeskEdits.Gone.{left_with}
use Rattle.shared_hook.proofs.OfDeskEdits.Kept.{masks_led, actions_but_blocks, actions_but_masks, ledger_let}
use Rattle.shared_hook.proofs.OfDeskEdits.Made.{of_replace, made_more}
use Rattle.shared_hook.proofs.desk_edits.in_place.exchange_in_place.Goals as goal

-- src/exchanging.rt:71:5
pub exchange_in_mask-requires-clause-there : goal.exchange_in_mask-requires-clause-there
exchange_in_mask-requires-clause-there g c = let was = c.args.parts.now in let y = g.E.EditName.edit in let w = c.requires.way.0 in let led = c.lead-done.ensures in let ahead = c.lead-done.new.parts in
    let h = commits was.ledger in let k = commits ahead.ledger in let done = c.lead-done.result in let row = w.row in let slot = c.args.slot in
    let masks = masks_led was ahead led.rest in
    let answer = exchanged (now h) (next h y) y w.line row done w.replaces.is w.replaces.there led.done in
    let here = sym (same_now was ahead y done c.requires.desk led.ahead led.still masks) in (
      row.pref,
      row.handle,
      answer.0,
      row,
      answer.1,
      subst (λ (l : FilterLine). named_row (now k) l ≡ Some row) c.requires.way.1 (subst (λ (s : State). named_row s w.line ≡ Some row) here w.replaces.there),
      subst (λ (l : FilterLine). row.mask ≡ l.mask.words) c.requires.way.1 w.same_mask,
      subst (λ (l : FilterLine). row.key ≡ l.key.words) c.requires.way.1 w.same_key,
      at_ahead was ahead y done c.requires.desk led.ahead led.still masks row.mask_serial slot w.at,
      behind_ahead was ahead y done c.requires.desk led.ahead led.still masks row slot c.args.later w.at w.behind,
    )

-- src/exchanging.rt:71:5
pub exchange_in_mask-requires-clause-enough : goal.exchange_in_mask-requires-clause-enough
exchange_in_mask-requires-clause-enough g c = let was = c.args.parts.now in let y = g.E.EditName.edit in let w = c.requires.way.0 in let led = c.lead-done.ensures in let ahead = c.lead-done.new.parts in
    let h = commits was.ledger in let made : ℕ = made_by h y in
    let taken = led.blocks made (made_more h y c.lead-done.result (of_replace w.line y w.replaces.is) led.done) in
    enough_with (length was.pools.blocks.free) (length ahead.pools.blocks.free) made c.args.later taken.free c.requires.enough.0

-- src/exchanging.rt:72:5
pub let_go-requires-clause-gone : goal.let_go-requires-clause-gone
let_go-requires-clause-gone g c = let was = c.args.parts.now in let y = g.E.EditName.edit in let led = c.lead-done.ensures in let ahead = c.lead-done.new.parts in
    let told = c.exchange_in_mask.ensures in let after = c.exchange_in_mask.new.parts in
    let bases : base after.ledger ≡ base was.ledger = same_base (sheet_of ahead.ledger.writer.place) (sheet_of after.ledger.writer.place) told.sheet ∙ same_base (sheet_of was.ledger.writer.place) (sheet_of ahead.ledger.writer.place) led.sheet in (
      length (commits was.ledger),
      fewer_may_go after.ledger.lists after.pools after.actions (commits after.ledger) (base after.ledger) (length (commits was.ledger)) (serials_gone (now (commits was.ledger)) y) c.args.gone.now
          (may_go was ahead after y c.lead-done.result c.requires.desk led.ahead led.still told.on told.desk bases (actions_but_masks ahead after told.rest) (actions_but_blocks ahead.pools after.pools told.pools)) c.requires.gone.each,
    )

-- src/exchanging.rt:28:1
pub returns-clause-left : goal.returns-clause-left
returns-clause-left g c = let was = c.args.parts.now in let y = g.E.EditName.edit in let w = c.requires.way.0 in let led = c.lead-done.ensures in let ahead = c.lead-done.new.parts in
    let told = c.exchange_in_mask.ensures in let after = c.exchange_in_mask.new.parts in let last = c.let_go.new.parts in let let_ = c.let_go.ensures in
    let h = commits was.ledger in let made : ℕ = made_by h y in let later = c.args.later in let gone = c.args.gone.now in
    let steps = made_more h y c.lead-done.result (of_replace w.line y w.replaces.is) led.done in
    let blocks = counted_with was.pools.blocks ahead.pools.blocks after.pools.blocks made later (later + 1) (led.blocks made steps) told.blocks in
    let slots = subst (λ (p : PoolNumbers). IsCounted was.pools.actions p made 0) (sym (actions_but_blocks ahead.pools after.pools told.pools)) (led.actions made steps) in
    subst (λ (l : Ledger). LeftWithActions was.pools last.pools (commits l) gone (needed h y (ways.InPlace c.args.slot later)) (later + 1)) (sym (ledger_let after last let_.rest))
    (left_with was.pools after.pools last.pools after.actions last.actions (commits after.ledger) (base after.ledger) gone (needed h y (ways.InPlace c.args.slot later)) (later + 1) let_.dropped blocks slots
    (let_.desk.sized.0 ∙ sym c.requires.desk.sized.0) (let_.desk.sized.3 ∙ sym c.requires.desk.sized.3))
