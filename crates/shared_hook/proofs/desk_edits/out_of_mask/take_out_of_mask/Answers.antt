use Rattle.std.proofs.Common.{◌≡◌, ◌∙◌, ℕ, ◌+◌, ◌-◌, ◌<◌, List, length, Some, sym, ap, subst}
use Rattle.pin_store.specs.Calls.{sheet_of}
use Rattle.filter_state.specs.declared.edit.Edit.TheVariants as edits
use Rattle.filter_state.specs.States.{State}
use Rattle.filter_state.specs.Steps.{step}
use Rattle.filter_state.specs.Tables.{filter_row}
use Rattle.flow_mask.specs.Sizes.{size_of}
use Rattle.hook_store_law.specs.OfEffects.Parts.{Stands}
use Rattle.mask_table.proofs.OfMirrors.Keeping.{same_base}
use Rattle.hook_store_law.specs.Stated.{filters_at}
use Rattle.hook_store_law.specs.OfEdits.Premises.{now, next}
use Rattle.desk_pools.specs.OfNumbers.Numbers.{PoolNumbers}
use Rattle.desk_masks.specs.OfFilterCommits.Edits.{HasLater}
use Rattle.desk_needs.specs.Live.{count_of}
use Rattle.desk_needs.specs.OfEditNeeds.Told.{blocks_anew}
use Rattle.desk_pools.specs.declared.pools.Pools.{Pools}
use Rattle.desk_actions.specs.declared.ledgers.ledger.Ledger.{Ledger}
use Rattle.desk_actions.specs.OfLedgers.Kept.{commits, base}
use Rattle.desk_actions.specs.Effects.{IsCounted}
use Rattle.desk_parts.specs.OfLineActions.Gone.{serials_gone}
use Rattle.desk_masks.specs.OfResizes.Refit.{count_now}
use Rattle.shared_hook.proofs.OfDeskEdits.Behind.{fewer_may_go}
use Rattle.shared_hook.proofs.OfDeskEdits.Passing.{may_go}
use Rattle.desk_parts.specs.declared.ways.way.Way.TheVariants as ways
use Rattle.desk_parts.proofs.OfWays.Looked.{sound}
use Rattle.shared_hook.specs.OfDeskEdits.Spent.{needed, LeftWithActions}
use Rattle.shared_hook.proofs.OfDeskEdits.AsideThen.{aside_then}
use Rattle.shared_hook.proofs.OfDeskEdits.Counts.{counted_same, counted_then, one_less_is}
use Rattle.shared_hook.proofs.OfDeskEdits.Found.{same_now, same_next, at_ahead, count_ahead, behind_ahead}
use Rattle.shared_hook.proofs.OfDeskEdits.Gone.{left_with}
use Rattle.shared_hook.proofs.OfDeskEdits.Kept.{masks_removed, pools_removed, base_removed, actions_but_blocks, actions_but_rows, actions_but_masks, ledger_let}
use Rattle.shared_hook.proofs.OfDeskEdits.Staying.{own_handle, stays}
use Rattle.shared_hook.proofs.desk_edits.out_of_mask.take_out_of_mask.Goals as goal

-- src/removing.rt:82:5
pub take_from_mask-requires-clause-there : goal.take_from_mask-requires-clause-there
take_from_mask-requires-clause-there g c = let was = c.args.parts.now in let y = g.E.EditName.edit in let w = c.requires.way.0 in let led = c.lead_removal-done.ensures in let ahead = c.lead_removal-done.new.parts in
    let h = commits was.ledger in let k = commits ahead.ledger in let done = c.lead_removal-done.result in let row = w.row in let d = c.requires.desk in
    let masks = masks_removed was ahead led.rest in let own = c.requires.way.1 in
    let here = sym (same_now was ahead y done d led.ahead led.still masks) in
    let then_ = sym (same_next was ahead y done d led.ahead led.still masks) in
    let many : 1 < count_of (now h) row.mask_serial = subst (λ (n : ℕ). 1 < n) w.mask.counted w.others in (
      w.hook,
      w.protocol,
      w.chain,
      w.pref,
      row,
      subst (λ (n : ℕ). y ≡ edits.FilterDel w.hook w.protocol w.chain w.pref (Some n)) own w.is,
      subst (λ (n : ℕ). filter_row w.hook w.chain w.pref n (now k).rows ≡ Some row) own (subst (λ (s : State). filter_row w.hook w.chain w.pref w.handle s.rows ≡ Some row) here w.there),
      subst (λ (s : State). Stands s row.mask_serial) then_
          (stays (now h) (next h y) w.hook w.protocol w.chain w.pref w.handle done row (sound was d) (sym (ap (step (now h)) w.is) ∙ led.done) w.there many),
      at_ahead was ahead y done d led.ahead led.still masks row.mask_serial c.args.slot w.mask.at,
    )

-- src/removing.rt:82:5
pub take_from_mask-requires-clause-later : goal.take_from_mask-requires-clause-later
take_from_mask-requires-clause-later g c = λ kept stands. let was = c.args.parts.now in let y = g.E.EditName.edit in let w = c.requires.way.0 in let led = c.lead_removal-done.ensures in let ahead = c.lead_removal-done.new.parts in
    let h = commits was.ledger in let k = commits ahead.ledger in let done = c.lead_removal-done.result in let d = c.requires.desk in
    let masks = masks_removed was ahead led.rest in
    let named = own_handle (now h) (next h y) w.hook w.protocol w.chain w.pref w.handle done w.row (sound was d) (sym (ap (step (now h)) w.is) ∙ led.done) w.there ∙ c.requires.way.1 in
    subst (λ (n : ℕ). HasLater kept.mask.size n (filters_at (now k) kept.mask.serial) c.args.later) named
    (behind_ahead was ahead y done d led.ahead led.still masks w.row c.args.slot c.args.later w.mask.at w.behind kept stands)

-- src/removing.rt:83:5
pub fit_mask-requires-clause-unsettled : goal.fit_mask-requires-clause-unsettled
fit_mask-requires-clause-unsettled g c = let was = c.args.parts.now in let y = g.E.EditName.edit in let w = c.requires.way.0 in let led = c.lead_removal-done.ensures in let ahead = c.lead_removal-done.new.parts in
    let told = c.take_from_mask.ensures in let done = c.lead_removal-done.result in let d = c.requires.desk in let mask = w.row.mask_serial in let after = c.take_from_mask.new.parts in
    let masks = masks_removed was ahead led.rest in
    let at = at_ahead was ahead y done d led.ahead led.still masks mask c.args.slot w.mask.at in
    let count = count_ahead was ahead y done d led.ahead led.still masks mask ∙ sym w.mask.counted in (
      mask,
      told.unsettled mask at,
      one_less_is c.args.count (count_now (commits after.ledger) mask) (count_now (commits ahead.ledger) mask) (told.count mask at) count,
      λ kept stands. told.size mask kept at stands ∙ ap size_of count,
    )

-- src/removing.rt:84:5
pub let_go-requires-clause-gone : goal.let_go-requires-clause-gone
let_go-requires-clause-gone g c = let was = c.args.parts.now in let y = g.E.EditName.edit in let led = c.lead_removal-done.ensures in let ahead = c.lead_removal-done.new.parts in
    let taken = c.take_from_mask.ensures in let mid = c.take_from_mask.new.parts in let told = c.fit_mask.ensures in let after = c.fit_mask.new.parts in
    let bases : base after.ledger ≡ base was.ledger = same_base (sheet_of mid.ledger.writer.place) (sheet_of after.ledger.writer.place) told.sheet
    ∙ (same_base (sheet_of ahead.ledger.writer.place) (sheet_of mid.ledger.writer.place) taken.sheet ∙ base_removed was ahead led.rest) in
    let aside = aside_then (commits ahead.ledger) (commits mid.ledger) (commits after.ledger) taken.on told.on in
    let places = actions_but_masks mid after told.rest ∙ actions_but_masks ahead mid taken.rest in
    let slots = actions_but_rows mid.pools after.pools told.pools ∙ actions_but_blocks ahead.pools mid.pools taken.pools in (
      length (commits was.ledger),
      fewer_may_go after.ledger.lists after.pools after.actions (commits after.ledger) (base after.ledger) (length (commits was.ledger)) (serials_gone (now (commits was.ledger)) y) c.args.gone.now
          (may_go was ahead after y c.lead_removal-done.result c.requires.desk led.ahead led.still aside told.desk bases places slots) c.requires.gone.each,
    )

-- src/removing.rt:30:1
pub returns-clause-left : goal.returns-clause-left
returns-clause-left g c = let was = c.args.parts.now in let y = g.E.EditName.edit in let led = c.lead_removal-done.ensures in let ahead = c.lead_removal-done.new.parts in
    let taken = c.take_from_mask.ensures in let mid = c.take_from_mask.new.parts in let told = c.fit_mask.ensures in let after = c.fit_mask.new.parts in
    let last = c.let_go.new.parts in let let_ = c.let_go.ensures in
    let h = commits was.ledger in let count = c.args.count in let later = c.args.later in let gone = c.args.gone.now in let anew : ℕ = blocks_anew count (count - 1) in
    let pools = pools_removed was ahead led.rest in
    let blocks = subst (λ (p : Pools). IsCounted p.blocks after.pools.blocks (later + anew) (later + 1 + anew)) pools
    (counted_then ahead.pools.blocks mid.pools.blocks after.pools.blocks later anew (later + 1) anew taken.blocks told.blocks) in
    let same = actions_but_rows mid.pools after.pools told.pools ∙ (actions_but_blocks ahead.pools mid.pools taken.pools ∙ ap (λ (p : Pools). p.actions) pools) in
    let slots = subst (λ (p : PoolNumbers). IsCounted was.pools.actions p 0 0) (sym same) (counted_same was.pools.actions) in
    subst (λ (l : Ledger). LeftWithActions was.pools last.pools (commits l) gone (needed h y (ways.OutOfMask c.args.slot count later)) (later + 1 + anew)) (sym (ledger_let after last let_.rest))
    (left_with was.pools after.pools last.pools after.actions last.actions (commits after.ledger) (base after.ledger) gone (needed h y (ways.OutOfMask c.args.slot count later)) (later + 1 + anew) let_.dropped blocks slots
    (let_.desk.sized.0 ∙ sym c.requires.desk.sized.0) (let_.desk.sized.3 ∙ sym c.requires.desk.sized.3))
