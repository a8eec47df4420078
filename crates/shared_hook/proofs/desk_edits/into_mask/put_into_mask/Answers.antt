use Rattle.std.proofs.Common.{◌≡◌, ◌∙◌, ℕ, ◌+◌, ◌≤◌, length, Some, sym, ap, subst}
use Rattle.filter_state.specs.declared.edit.FilterLine.{FilterLine}
use Rattle.filter_state.specs.States.{State}
use Rattle.filter_state.specs.Tables.{mask_row}
use Rattle.flow_mask.specs.Sizes.{size_of}
use Rattle.desk_pools.specs.OfNumbers.Numbers.{PoolNumbers}
use Rattle.hook_store_law.specs.OfEdits.Premises.{now, next}
use Rattle.desk_needs.specs.OfEditNeeds.Told.{blocks_anew, rows_anew}
use Rattle.desk_actions.specs.OfLedgers.Kept.{commits}
use Rattle.desk_actions.specs.Effects.{IsCounted}
use Rattle.shared_hook.specs.OfDeskEdits.Spent.{made_by}
use Rattle.shared_hook.proofs.OfDeskEdits.Answers.{answered}
use Rattle.shared_hook.proofs.OfDeskEdits.Counts.{counted_thrice, enough_then, enough_last}
use Rattle.shared_hook.proofs.OfDeskEdits.Found.{same_now, at_ahead, count_ahead}
use Rattle.shared_hook.proofs.OfDeskEdits.Kept.{masks_led, rows_led, rows_but_blocks, actions_but_blocks, actions_but_rows}
use Rattle.shared_hook.proofs.OfDeskEdits.Made.{of_line, made_more}
use Rattle.shared_hook.proofs.desk_edits.into_mask.put_into_mask.Goals as goal

-- src/putting.rt:81:5
pub add_to_mask-requires-clause-there : goal.add_to_mask-requires-clause-there
add_to_mask-requires-clause-there g c = let was = c.args.parts.now in let y = g.E.EditName.edit in let w = c.requires.way.0 in let led = c.lead-done.ensures in let ahead = c.lead-done.new.parts in
    let h = commits was.ledger in let k = commits ahead.ledger in let done = c.lead-done.result in
    let masks = masks_led was ahead led.rest in
    let answer = answered (now h) (next h y) y w.line done w.pref w.add w.chosen led.done in
    let here = sym (same_now was ahead y done c.requires.desk led.ahead led.still masks) in (
      w.pref,
      answer.handle,
      answer.serials,
      w.row,
      answer.is,
      subst (λ (l : FilterLine). mask_row l.hook l.chain w.pref l.mask.words (now k).rows ≡ Some w.row) c.requires.way.1
          (subst (λ (s : State). mask_row w.line.hook w.line.chain w.pref w.line.mask.words s.rows ≡ Some w.row) here w.there),
      at_ahead was ahead y done c.requires.desk led.ahead led.still masks w.row.mask_serial c.args.slot w.mask.at,
    )

-- src/putting.rt:81:5
pub add_to_mask-requires-clause-enough : goal.add_to_mask-requires-clause-enough
add_to_mask-requires-clause-enough g c = let was = c.args.parts.now in let y = g.E.EditName.edit in let w = c.requires.way.0 in let led = c.lead-done.ensures in let ahead = c.lead-done.new.parts in
    let h = commits was.ledger in let made : ℕ = made_by h y in
    let taken = led.blocks made (made_more h y c.lead-done.result (of_line (now h) w.line y w.add) led.done) in
    enough_then (length was.pools.blocks.free) (length ahead.pools.blocks.free) made 1 (blocks_anew c.args.count (c.args.count + 1)) taken.free c.requires.enough.0

-- src/putting.rt:82:5
pub fit_mask-requires-clause-unsettled : goal.fit_mask-requires-clause-unsettled
fit_mask-requires-clause-unsettled g c = let was = c.args.parts.now in let y = g.E.EditName.edit in let w = c.requires.way.0 in let led = c.lead-done.ensures in let ahead = c.lead-done.new.parts in
    let told = c.add_to_mask.ensures in let done = c.lead-done.result in let masks = masks_led was ahead led.rest in let mask = w.row.mask_serial in
    let at = at_ahead was ahead y done c.requires.desk led.ahead led.still masks mask c.args.slot w.mask.at in
    let count = count_ahead was ahead y done c.requires.desk led.ahead led.still masks mask ∙ sym w.mask.counted in (
      mask,
      told.unsettled mask at,
      sym (told.count mask at ∙ ap (λ (n : ℕ). n + 1) count),
      λ kept stands. told.size mask kept at stands ∙ ap size_of count,
    )

-- src/putting.rt:82:5
pub fit_mask-requires-clause-enough : goal.fit_mask-requires-clause-enough
fit_mask-requires-clause-enough g c = let was = c.args.parts.now in let y = g.E.EditName.edit in let w = c.requires.way.0 in let led = c.lead-done.ensures in let ahead = c.lead-done.new.parts in
    let told = c.add_to_mask.ensures in let after = c.add_to_mask.new.parts in let h = commits was.ledger in let made : ℕ = made_by h y in
    let taken = led.blocks made (made_more h y c.lead-done.result (of_line (now h) w.line y w.add) led.done) in
    let rows = rows_but_blocks ahead.pools after.pools told.pools ∙ rows_led was.pools ahead.pools led.others in (
      enough_last (length was.pools.blocks.free) (length ahead.pools.blocks.free) (length after.pools.blocks.free) made 1 (blocks_anew c.args.count (c.args.count + 1)) taken.free told.blocks.free c.requires.enough.0,
      subst (λ (p : PoolNumbers). rows_anew c.args.count (c.args.count + 1) ≤ length p.free) (sym rows) c.requires.enough.1,
    )

-- src/putting.rt:31:1
pub returns-clause-blocks : goal.returns-clause-blocks
returns-clause-blocks g c = let was = c.args.parts.now in let y = g.E.EditName.edit in let w = c.requires.way.0 in let led = c.lead-done.ensures in let h = commits was.ledger in let made : ℕ = made_by h y in
    let taken = led.blocks made (made_more h y c.lead-done.result (of_line (now h) w.line y w.add) led.done) in
    let anew : ℕ = blocks_anew c.args.count (c.args.count + 1) in
    counted_thrice was.pools.blocks c.lead-done.new.parts.pools.blocks c.add_to_mask.new.parts.pools.blocks c.fit_mask.new.parts.pools.blocks made 1 anew anew taken c.add_to_mask.ensures.blocks c.fit_mask.ensures.blocks

-- src/putting.rt:31:1
pub returns-clause-actions : goal.returns-clause-actions
returns-clause-actions g c = let was = c.args.parts.now in let y = g.E.EditName.edit in let w = c.requires.way.0 in let led = c.lead-done.ensures in let h = commits was.ledger in let made : ℕ = made_by h y in
    let taken = led.actions made (made_more h y c.lead-done.result (of_line (now h) w.line y w.add) led.done) in
    let same = actions_but_rows c.add_to_mask.new.parts.pools c.fit_mask.new.parts.pools c.fit_mask.ensures.pools ∙ actions_but_blocks c.lead-done.new.parts.pools c.add_to_mask.new.parts.pools c.add_to_mask.ensures.pools in
    subst (λ (p : PoolNumbers). IsCounted was.pools.actions p made 0) (sym same) taken
