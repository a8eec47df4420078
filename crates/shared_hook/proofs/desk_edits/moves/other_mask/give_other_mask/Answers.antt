use Rattle.std.proofs.Common.{◌≡◌, ℕ, ◌+◌, ◌-◌, [], length, Some, sym, ap, subst, arith}
use Rattle.filter_state.specs.declared.edit.FilterLine.{FilterLine}
use Rattle.hook_store_law.specs.OfEdits.Premises.{now, named_row}
use Rattle.desk_pools.specs.OfNumbers.Numbers.{PoolNumbers}
use Rattle.desk_needs.specs.OfEditNeeds.Told.{laid, laid_rows, laid_masks}
use Rattle.desk_actions.specs.OfLedgers.Kept.{commits}
use Rattle.desk_actions.specs.Effects.{IsCounted}
use Rattle.desk_parts.specs.declared.parts.Parts.{Parts as TheParts}
use Rattle.desk_parts.specs.declared.ways.way.Way.TheVariants as ways
use Rattle.shared_hook.specs.OfDeskEdits.Spent.{made_by, needed}
use Rattle.shared_hook.proofs.OfDeskEdits.Counts.{counted_thrice}
use Rattle.shared_hook.proofs.OfDeskEdits.Kept.{masks_led, rows_led, masks_led_pools}
use Rattle.shared_hook.proofs.OfDeskEdits.Made.{of_replace, made_more}
use Rattle.shared_hook.specs.OfDeskEdits.OfMoves.Raises.{IsToLay}
use Rattle.shared_hook.specs.OfDeskEdits.OfMoves.Moves.{IsToLeave}
use Rattle.shared_hook.proofs.OfDeskEdits.OfMoves.Starts.{begins}
use Rattle.shared_hook.proofs.OfDeskEdits.OfMoves.MaskMoves.{target, target_lay, to_leave}
use Rattle.shared_hook.proofs.OfDeskEdits.OfMoves.Sums.{enough_led, enough_raised, free_still, counted_after}
use Rattle.shared_hook.proofs.OfDeskEdits.OfMoves.Whole.{some_may_go, whole_point, whole_journal, whole_sheet, whole_places, whole_rest, whole_left, rows_let, masks_let}
use Rattle.shared_hook.proofs.desk_edits.moves.other_mask.give_other_mask.Goals as goal

pub mask_named-words-requires-clause-there : goal.mask_named-words-requires-clause-there
mask_named-words-requires-clause-there g c = let w = c.requires.way.0 in
    (w.row, subst (λ (l : FilterLine). named_row (now (commits c.args.parts.now.ledger)) l ≡ Some w.row) c.requires.way.1 w.replaces.there)

pub raise_mask-first-requires-clause-raising : goal.raise_mask-first-requires-clause-raising
raise_mask-first-requires-clause-raising g c = let led = c.lead-done.ensures in let ahead = c.lead-done.new.parts in (ahead, [], begins ahead g.E.EditName.edit c.lead-done.result led.ahead)

pub raise_mask-first-requires-clause-lay : goal.raise_mask-first-requires-clause-lay
raise_mask-first-requires-clause-lay g c = let was = c.args.parts.now in let y = g.E.EditName.edit in let w = c.requires.way.0 in let led = c.lead-done.ensures in let ahead = c.lead-done.new.parts in let done = c.lead-done.result in let h = commits was.ledger in
    let hook = c.args.line.now.hook in let slot = c.args.slot in let count : ℕ = c.args.count in let into = c.args.into in let others : ℕ = c.args.others in let masks = masks_led was ahead led.rest in
    let to : ℕ = target was ahead y done c.requires.desk led.ahead led.still masks c.requires.edit.1 led.done hook slot count into others w in
    let lay = subst (λ (l : FilterLine). IsToLay (commits ahead.ledger) y l done l.mask.words (others + 1) to) c.requires.way.1 (target_lay was ahead y done c.requires.desk led.ahead led.still masks c.requires.edit.1 led.done hook slot count into others w) in
    (to, lay)

pub raise_mask-first-requires-clause-enough : goal.raise_mask-first-requires-clause-enough
raise_mask-first-requires-clause-enough g c = let was = c.args.parts.now in let y = g.E.EditName.edit in let w = c.requires.way.0 in let led = c.lead-done.ensures in let ahead = c.lead-done.new.parts in let done = c.lead-done.result in let h = commits was.ledger in
    let hook = c.args.line.now.hook in let slot = c.args.slot in let count : ℕ = c.args.count in let into = c.args.into in let others : ℕ = c.args.others in let masks = masks_led was ahead led.rest in
    let taken = led.blocks (made_by h y) (made_more h y done (of_replace w.line y w.replaces.is) led.done) in
    enough_led was.pools ahead.pools led.others (made_by h y) (others + 1) (count - 1) taken c.requires.enough.0 c.requires.enough.1 c.requires.heads.0

pub leave_mask-requires-clause-raising : goal.leave_mask-requires-clause-raising
leave_mask-requires-clause-raising g c = let was = c.args.parts.now in let y = g.E.EditName.edit in let w = c.requires.way.0 in let led = c.lead-done.ensures in let ahead = c.lead-done.new.parts in let done = c.lead-done.result in let h = commits was.ledger in
    let hook = c.args.line.now.hook in let slot = c.args.slot in let count : ℕ = c.args.count in let into = c.args.into in let others : ℕ = c.args.others in let masks = masks_led was ahead led.rest in
    let first = c.raise_mask-first in let r = first.ensures.raising ahead [] (begins ahead y done led.ahead) in
    (ahead, led.ahead, r)

pub leave_mask-requires-clause-leave : goal.leave_mask-requires-clause-leave
leave_mask-requires-clause-leave g c = let was = c.args.parts.now in let y = g.E.EditName.edit in let w = c.requires.way.0 in let led = c.lead-done.ensures in let ahead = c.lead-done.new.parts in let done = c.lead-done.result in let h = commits was.ledger in
    let hook = c.args.line.now.hook in let slot = c.args.slot in let count : ℕ = c.args.count in let into = c.args.into in let others : ℕ = c.args.others in let masks = masks_led was ahead led.rest in
    let first = c.raise_mask-first in let r = first.ensures.raising ahead [] (begins ahead y done led.ahead) in
    let to : ℕ = target was ahead y done c.requires.desk led.ahead led.still masks c.requires.edit.1 led.done hook slot count into others w in
    let lay = subst (λ (l : FilterLine). IsToLay (commits ahead.ledger) y l done l.mask.words (others + 1) to) c.requires.way.1 (target_lay was ahead y done c.requires.desk led.ahead led.still masks c.requires.edit.1 led.done hook slot count into others w) in
    let serial = first.ensures.serial to lay in let words = c.mask_named-words.result.words in
    let words_are = c.mask_named-words.ensures w.row (subst (λ (l : FilterLine). named_row (now h) l ≡ Some w.row) c.requires.way.1 w.replaces.there) in
    let leave = subst (λ (l : FilterLine). IsToLeave (commits first.new.parts.ledger) y l done words first.result slot count into others to w.row.mask_serial) c.requires.way.1
    (to_leave was ahead y done c.requires.desk led.ahead led.still masks c.requires.edit.1 led.done hook slot count into others w first.result serial first.new.parts r first.ensures.here words words_are) in
    (others, to, w.row.mask_serial, leave)

pub leave_mask-requires-clause-few : goal.leave_mask-requires-clause-few
leave_mask-requires-clause-few g c = let was = c.args.parts.now in let y = g.E.EditName.edit in let w = c.requires.way.0 in let led = c.lead-done.ensures in let ahead = c.lead-done.new.parts in let done = c.lead-done.result in let h = commits was.ledger in
    let hook = c.args.line.now.hook in let slot = c.args.slot in let count : ℕ = c.args.count in let into = c.args.into in let others : ℕ = c.args.others in let masks = masks_led was ahead led.rest in
    let first = c.raise_mask-first in let r = first.ensures.raising ahead [] (begins ahead y done led.ahead) in
    (let one = ap (λ (p : TheParts). p.ledger.point) r.stays in let two = led.point in let few = c.requires.few.0 in omega (arith, one, two, few), c.requires.few.1)

pub leave_mask-requires-clause-enough : goal.leave_mask-requires-clause-enough
leave_mask-requires-clause-enough g c = let was = c.args.parts.now in let y = g.E.EditName.edit in let w = c.requires.way.0 in let led = c.lead-done.ensures in let ahead = c.lead-done.new.parts in let done = c.lead-done.result in let h = commits was.ledger in
    let hook = c.args.line.now.hook in let slot = c.args.slot in let count : ℕ = c.args.count in let into = c.args.into in let others : ℕ = c.args.others in let masks = masks_led was ahead led.rest in
    let first = c.raise_mask-first in let r = first.ensures.raising ahead [] (begins ahead y done led.ahead) in
    let taken = led.blocks (made_by h y) (made_more h y done (of_replace w.line y w.replaces.is) led.done) in
    enough_raised was.pools ahead.pools first.new.parts.pools led.others (made_by h y) (others + 1) (count - 1) taken first.ensures.blocks first.ensures.rows first.ensures.masks c.requires.enough.0 c.requires.enough.1 c.requires.heads.0

pub leave_mask-requires-clause-free : goal.leave_mask-requires-clause-free
leave_mask-requires-clause-free g c = let was = c.args.parts.now in let y = g.E.EditName.edit in let w = c.requires.way.0 in let led = c.lead-done.ensures in let ahead = c.lead-done.new.parts in let done = c.lead-done.result in let h = commits was.ledger in
    let hook = c.args.line.now.hook in let slot = c.args.slot in let count : ℕ = c.args.count in let into = c.args.into in let others : ℕ = c.args.others in let masks = masks_led was ahead led.rest in
    let first = c.raise_mask-first in let r = first.ensures.raising ahead [] (begins ahead y done led.ahead) in
    free_still hook was.pools ahead.pools first.new.parts.pools led.others (ap (λ (p : TheParts). p.pools) r.stays) c.requires.heads.1

pub let_go-requires-clause-gone : goal.let_go-requires-clause-gone
let_go-requires-clause-gone g c = let was = c.args.parts.now in let y = g.E.EditName.edit in let w = c.requires.way.0 in let led = c.lead-done.ensures in let ahead = c.lead-done.new.parts in let done = c.lead-done.result in let h = commits was.ledger in
    let hook = c.args.line.now.hook in let slot = c.args.slot in let count : ℕ = c.args.count in let into = c.args.into in let others : ℕ = c.args.others in let masks = masks_led was ahead led.rest in
    let first = c.raise_mask-first in let r = first.ensures.raising ahead [] (begins ahead y done led.ahead) in
    let after = c.leave_mask.new.parts in let m = c.leave_mask.ensures.moved ahead led.ahead r in
    (length h, some_may_go was ahead after y done hook c.requires.desk led.ahead led.still led.sheet m c.args.gone.now c.requires.gone)

pub returns-clause-point : goal.returns-clause-point
returns-clause-point g c = let was = c.args.parts.now in let y = g.E.EditName.edit in let w = c.requires.way.0 in let led = c.lead-done.ensures in let ahead = c.lead-done.new.parts in let done = c.lead-done.result in let h = commits was.ledger in
    let hook = c.args.line.now.hook in let slot = c.args.slot in let count : ℕ = c.args.count in let into = c.args.into in let others : ℕ = c.args.others in let masks = masks_led was ahead led.rest in
    let first = c.raise_mask-first in let r = first.ensures.raising ahead [] (begins ahead y done led.ahead) in
    let after = c.leave_mask.new.parts in let m = c.leave_mask.ensures.moved ahead led.ahead r in
    let last = c.let_go.new.parts in let let_ = c.let_go.ensures in let gone = c.args.gone.now in
    whole_point was ahead after y done hook c.requires.desk led.ahead led.still led.sheet m led.point led.others led.rest last gone let_.dropped let_.rest let_.desk

pub returns-clause-journal : goal.returns-clause-journal
returns-clause-journal g c = let was = c.args.parts.now in let y = g.E.EditName.edit in let w = c.requires.way.0 in let led = c.lead-done.ensures in let ahead = c.lead-done.new.parts in let done = c.lead-done.result in let h = commits was.ledger in
    let hook = c.args.line.now.hook in let slot = c.args.slot in let count : ℕ = c.args.count in let into = c.args.into in let others : ℕ = c.args.others in let masks = masks_led was ahead led.rest in
    let first = c.raise_mask-first in let r = first.ensures.raising ahead [] (begins ahead y done led.ahead) in
    let after = c.leave_mask.new.parts in let m = c.leave_mask.ensures.moved ahead led.ahead r in
    let last = c.let_go.new.parts in let let_ = c.let_go.ensures in let gone = c.args.gone.now in
    whole_journal was ahead after y done hook c.requires.desk led.ahead led.still led.sheet m led.point led.others led.rest last gone let_.dropped let_.rest let_.desk

pub returns-clause-sheet : goal.returns-clause-sheet
returns-clause-sheet g c = let was = c.args.parts.now in let y = g.E.EditName.edit in let w = c.requires.way.0 in let led = c.lead-done.ensures in let ahead = c.lead-done.new.parts in let done = c.lead-done.result in let h = commits was.ledger in
    let hook = c.args.line.now.hook in let slot = c.args.slot in let count : ℕ = c.args.count in let into = c.args.into in let others : ℕ = c.args.others in let masks = masks_led was ahead led.rest in
    let first = c.raise_mask-first in let r = first.ensures.raising ahead [] (begins ahead y done led.ahead) in
    let after = c.leave_mask.new.parts in let m = c.leave_mask.ensures.moved ahead led.ahead r in
    let last = c.let_go.new.parts in let let_ = c.let_go.ensures in let gone = c.args.gone.now in
    whole_sheet was ahead after y done hook c.requires.desk led.ahead led.still led.sheet m led.point led.others led.rest last gone let_.dropped let_.rest let_.desk

pub returns-clause-places : goal.returns-clause-places
returns-clause-places g c = let was = c.args.parts.now in let y = g.E.EditName.edit in let w = c.requires.way.0 in let led = c.lead-done.ensures in let ahead = c.lead-done.new.parts in let done = c.lead-done.result in let h = commits was.ledger in
    let hook = c.args.line.now.hook in let slot = c.args.slot in let count : ℕ = c.args.count in let into = c.args.into in let others : ℕ = c.args.others in let masks = masks_led was ahead led.rest in
    let first = c.raise_mask-first in let r = first.ensures.raising ahead [] (begins ahead y done led.ahead) in
    let after = c.leave_mask.new.parts in let m = c.leave_mask.ensures.moved ahead led.ahead r in
    let last = c.let_go.new.parts in let let_ = c.let_go.ensures in let gone = c.args.gone.now in
    whole_places was ahead after y done hook c.requires.desk led.ahead led.still led.sheet m led.point led.others led.rest last gone let_.dropped let_.rest let_.desk

pub returns-clause-rest : goal.returns-clause-rest
returns-clause-rest g c = let was = c.args.parts.now in let y = g.E.EditName.edit in let w = c.requires.way.0 in let led = c.lead-done.ensures in let ahead = c.lead-done.new.parts in let done = c.lead-done.result in let h = commits was.ledger in
    let hook = c.args.line.now.hook in let slot = c.args.slot in let count : ℕ = c.args.count in let into = c.args.into in let others : ℕ = c.args.others in let masks = masks_led was ahead led.rest in
    let first = c.raise_mask-first in let r = first.ensures.raising ahead [] (begins ahead y done led.ahead) in
    let after = c.leave_mask.new.parts in let m = c.leave_mask.ensures.moved ahead led.ahead r in
    let last = c.let_go.new.parts in let let_ = c.let_go.ensures in let gone = c.args.gone.now in
    whole_rest was ahead after y done hook c.requires.desk led.ahead led.still led.sheet m led.point led.others led.rest last gone let_.dropped let_.rest let_.desk

pub returns-clause-left : goal.returns-clause-left
returns-clause-left g c = let was = c.args.parts.now in let y = g.E.EditName.edit in let w = c.requires.way.0 in let led = c.lead-done.ensures in let ahead = c.lead-done.new.parts in let done = c.lead-done.result in let h = commits was.ledger in
    let hook = c.args.line.now.hook in let slot = c.args.slot in let count : ℕ = c.args.count in let into = c.args.into in let others : ℕ = c.args.others in let masks = masks_led was ahead led.rest in
    let first = c.raise_mask-first in let r = first.ensures.raising ahead [] (begins ahead y done led.ahead) in
    let after = c.leave_mask.new.parts in let m = c.leave_mask.ensures.moved ahead led.ahead r in
    let last = c.let_go.new.parts in let let_ = c.let_go.ensures in let gone = c.args.gone.now in
    let to : ℕ = target was ahead y done c.requires.desk led.ahead led.still masks c.requires.edit.1 led.done hook slot count into others w in
    let lay = subst (λ (l : FilterLine). IsToLay (commits ahead.ledger) y l done l.mask.words (others + 1) to) c.requires.way.1 (target_lay was ahead y done c.requires.desk led.ahead led.still masks c.requires.edit.1 led.done hook slot count into others w) in
    let serial = first.ensures.serial to lay in let words = c.mask_named-words.result.words in
    let words_are = c.mask_named-words.ensures w.row (subst (λ (l : FilterLine). named_row (now h) l ≡ Some w.row) c.requires.way.1 w.replaces.there) in
    let leave = subst (λ (l : FilterLine). IsToLeave (commits first.new.parts.ledger) y l done words first.result slot count into others to w.row.mask_serial) c.requires.way.1
    (to_leave was ahead y done c.requires.desk led.ahead led.still masks c.requires.edit.1 led.done hook slot count into others w first.result serial first.new.parts r first.ensures.here words words_are) in
    let made : ℕ = made_by h y in let steps = made_more h y done (of_replace w.line y w.replaces.is) led.done in
    whole_left was ahead after y done hook c.requires.desk led.ahead led.still led.sheet m led.point led.others led.rest last gone let_.dropped let_.rest let_.desk (needed h y (ways.OtherMask hook slot count into others)) (laid count + laid others)
    (counted_thrice was.pools.blocks ahead.pools.blocks first.new.parts.pools.blocks after.pools.blocks made (laid (others + 1)) (laid (count - 1)) (laid count + laid others) (led.blocks made steps) first.ensures.blocks
    (c.leave_mask.ensures.blocks others to w.row.mask_serial leave)) (led.actions made steps)

pub returns-clause-rows : goal.returns-clause-rows
returns-clause-rows g c = let was = c.args.parts.now in let y = g.E.EditName.edit in let w = c.requires.way.0 in let led = c.lead-done.ensures in let ahead = c.lead-done.new.parts in let done = c.lead-done.result in let h = commits was.ledger in
    let hook = c.args.line.now.hook in let slot = c.args.slot in let count : ℕ = c.args.count in let into = c.args.into in let others : ℕ = c.args.others in let masks = masks_led was ahead led.rest in
    let first = c.raise_mask-first in let r = first.ensures.raising ahead [] (begins ahead y done led.ahead) in
    let after = c.leave_mask.new.parts in let m = c.leave_mask.ensures.moved ahead led.ahead r in
    let last = c.let_go.new.parts in let let_ = c.let_go.ensures in let gone = c.args.gone.now in
    let to : ℕ = target was ahead y done c.requires.desk led.ahead led.still masks c.requires.edit.1 led.done hook slot count into others w in
    let lay = subst (λ (l : FilterLine). IsToLay (commits ahead.ledger) y l done l.mask.words (others + 1) to) c.requires.way.1 (target_lay was ahead y done c.requires.desk led.ahead led.still masks c.requires.edit.1 led.done hook slot count into others w) in
    let serial = first.ensures.serial to lay in let words = c.mask_named-words.result.words in
    let words_are = c.mask_named-words.ensures w.row (subst (λ (l : FilterLine). named_row (now h) l ≡ Some w.row) c.requires.way.1 w.replaces.there) in
    let leave = subst (λ (l : FilterLine). IsToLeave (commits first.new.parts.ledger) y l done words first.result slot count into others to w.row.mask_serial) c.requires.way.1
    (to_leave was ahead y done c.requires.desk led.ahead led.still masks c.requires.edit.1 led.done hook slot count into others w first.result serial first.new.parts r first.ensures.here words words_are) in
    let all = counted_after ahead.pools.rows first.new.parts.pools.rows after.pools.rows (laid_rows (others + 1)) (laid_rows (count - 1)) (laid_rows count + laid_rows others) first.ensures.rows (c.leave_mask.ensures.rows others to w.row.mask_serial leave) in
    subst (λ (p : PoolNumbers). IsCounted p last.pools.rows (laid_rows (others + 1) + laid_rows (count - 1)) (laid_rows count + laid_rows others)) (rows_led was.pools ahead.pools led.others)
    (subst (λ (p : PoolNumbers). IsCounted ahead.pools.rows p (laid_rows (others + 1) + laid_rows (count - 1)) (laid_rows count + laid_rows others)) (sym (rows_let was ahead after y done hook c.requires.desk led.ahead led.still led.sheet m led.point led.others led.rest last gone let_.dropped let_.rest let_.desk)) all)

pub returns-clause-masks : goal.returns-clause-masks
returns-clause-masks g c = let was = c.args.parts.now in let y = g.E.EditName.edit in let w = c.requires.way.0 in let led = c.lead-done.ensures in let ahead = c.lead-done.new.parts in let done = c.lead-done.result in let h = commits was.ledger in
    let hook = c.args.line.now.hook in let slot = c.args.slot in let count : ℕ = c.args.count in let into = c.args.into in let others : ℕ = c.args.others in let masks = masks_led was ahead led.rest in
    let first = c.raise_mask-first in let r = first.ensures.raising ahead [] (begins ahead y done led.ahead) in
    let after = c.leave_mask.new.parts in let m = c.leave_mask.ensures.moved ahead led.ahead r in
    let last = c.let_go.new.parts in let let_ = c.let_go.ensures in let gone = c.args.gone.now in
    let to : ℕ = target was ahead y done c.requires.desk led.ahead led.still masks c.requires.edit.1 led.done hook slot count into others w in
    let lay = subst (λ (l : FilterLine). IsToLay (commits ahead.ledger) y l done l.mask.words (others + 1) to) c.requires.way.1 (target_lay was ahead y done c.requires.desk led.ahead led.still masks c.requires.edit.1 led.done hook slot count into others w) in
    let serial = first.ensures.serial to lay in let words = c.mask_named-words.result.words in
    let words_are = c.mask_named-words.ensures w.row (subst (λ (l : FilterLine). named_row (now h) l ≡ Some w.row) c.requires.way.1 w.replaces.there) in
    let leave = subst (λ (l : FilterLine). IsToLeave (commits first.new.parts.ledger) y l done words first.result slot count into others to w.row.mask_serial) c.requires.way.1
    (to_leave was ahead y done c.requires.desk led.ahead led.still masks c.requires.edit.1 led.done hook slot count into others w first.result serial first.new.parts r first.ensures.here words words_are) in
    let all = counted_after ahead.pools.masks first.new.parts.pools.masks after.pools.masks (laid_masks (others + 1)) (laid_masks (count - 1)) (laid_masks count + laid_masks others) first.ensures.masks (c.leave_mask.ensures.masks others to w.row.mask_serial leave) in
    subst (λ (p : PoolNumbers). IsCounted p last.pools.masks (laid_masks (others + 1) + laid_masks (count - 1)) (laid_masks count + laid_masks others)) (masks_led_pools was.pools ahead.pools led.others)
    (subst (λ (p : PoolNumbers). IsCounted ahead.pools.masks p (laid_masks (others + 1) + laid_masks (count - 1)) (laid_masks count + laid_masks others)) (sym (masks_let was ahead after y done hook c.requires.desk led.ahead led.still led.sheet m led.point led.others led.rest last gone let_.dropped let_.rest let_.desk)) all)

pub let_go-requires-clause-desk : goal.let_go-requires-clause-desk
let_go-requires-clause-desk g c = let led = c.lead-done.ensures in let ahead = c.lead-done.new.parts in let y = g.E.EditName.edit in
    (c.leave_mask.ensures.moved ahead led.ahead (c.raise_mask-first.ensures.raising ahead [] (begins ahead y c.lead-done.result led.ahead))).desk
