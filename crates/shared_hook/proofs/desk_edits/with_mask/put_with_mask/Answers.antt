use Rattle.std.proofs.Common.{◌≡◌, ◌∙◌, ℕ, ◌≤◌, length, None, sym, ap, subst}
use Rattle.filter_state.specs.declared.edit.FilterLine.{FilterLine}
use Rattle.filter_state.specs.States.{State}
use Rattle.filter_state.specs.Tables.{mask_row}
use Rattle.desk_pools.specs.OfNumbers.Numbers.{PoolNumbers}
use Rattle.hook_store_law.specs.OfEdits.Premises.{now, next}
use Rattle.desk_pools.specs.declared.pools.IdlePlace.{IdlePlace}
use Rattle.desk_actions.specs.OfLedgers.Kept.{commits}
use Rattle.desk_actions.specs.Effects.{IsCounted}
use Rattle.shared_hook.specs.OfDeskEdits.Spent.{made_by}
use Rattle.desk_parts.proofs.OfWays.Needed.{answered}
use Rattle.shared_hook.proofs.OfDeskEdits.Counts.{counted_then, enough_left}
use Rattle.shared_hook.proofs.OfDeskEdits.Found.{same_now}
use Rattle.shared_hook.proofs.OfDeskEdits.Kept.{masks_led, rows_led, masks_led_pools, idle_led, actions_turned}
use Rattle.shared_hook.proofs.OfDeskEdits.Made.{of_line, made_more}
use Rattle.shared_hook.proofs.desk_edits.with_mask.put_with_mask.Goals as goal

pub open_in_head-requires-clause-none : goal.open_in_head-requires-clause-none
open_in_head-requires-clause-none g c = let was = c.args.parts.now in let y = g.E.EditName.edit in let w = c.requires.way.0 in let led = c.lead-done.ensures in let ahead = c.lead-done.new.parts in
    let h = commits was.ledger in let k = commits ahead.ledger in let done = c.lead-done.result in
    let masks = masks_led was ahead led.rest in
    let answer = answered (now h) (next h y) y w.line done w.add led.done in
    let here = sym (same_now was ahead y done c.requires.desk led.ahead led.still masks) in (
      answer.pref,
      answer.handle,
      answer.serials,
      answer.is,
      subst (λ (l : FilterLine). mask_row l.hook l.chain answer.pref l.mask.words (now k).rows ≡ None) c.requires.way.1
          (subst (λ (s : State). mask_row w.line.hook w.line.chain answer.pref w.line.mask.words s.rows ≡ None) here (w.none answer.pref answer.chosen)),
    )

pub open_in_head-requires-clause-enough : goal.open_in_head-requires-clause-enough
open_in_head-requires-clause-enough g c = let was = c.args.parts.now in let y = g.E.EditName.edit in let w = c.requires.way.0 in let led = c.lead-done.ensures in let ahead = c.lead-done.new.parts in
    let h = commits was.ledger in let made : ℕ = made_by h y in let hook = c.args.line.now.hook in
    let taken = led.blocks made (made_more h y c.lead-done.result (of_line (now h) w.line y w.add) led.done) in (
      enough_left (length was.pools.blocks.free) (length ahead.pools.blocks.free) made 2 taken.free c.requires.enough.0,
      subst (λ (p : PoolNumbers). 1 ≤ length p.free) (sym (rows_led was.pools ahead.pools led.others)) c.requires.enough.1,
      subst (λ (p : PoolNumbers). 1 ≤ length p.free) (sym (masks_led_pools was.pools ahead.pools led.others)) c.requires.heads.0,
      ap (λ (p : IdlePlace). p.is_free) (idle_led hook was.pools ahead.pools led.others) ∙ c.requires.heads.1,
    )

pub returns-clause-blocks : goal.returns-clause-blocks
returns-clause-blocks g c = let was = c.args.parts.now in let y = g.E.EditName.edit in let w = c.requires.way.0 in let led = c.lead-done.ensures in let h = commits was.ledger in let made : ℕ = made_by h y in
    let taken = led.blocks made (made_more h y c.lead-done.result (of_line (now h) w.line y w.add) led.done) in
    counted_then was.pools.blocks c.lead-done.new.parts.pools.blocks c.open_in_head.new.parts.pools.blocks made 2 0 0 taken c.open_in_head.ensures.blocks

pub returns-clause-actions : goal.returns-clause-actions
returns-clause-actions g c = let was = c.args.parts.now in let y = g.E.EditName.edit in let w = c.requires.way.0 in let led = c.lead-done.ensures in let h = commits was.ledger in let made : ℕ = made_by h y in
    let taken = led.actions made (made_more h y c.lead-done.result (of_line (now h) w.line y w.add) led.done) in
    let same = actions_turned c.args.line.now.hook c.lead-done.new.parts.pools c.open_in_head.new.parts.pools c.open_in_head.ensures.others in
    subst (λ (p : PoolNumbers). IsCounted was.pools.actions p made 0) (sym same) taken
