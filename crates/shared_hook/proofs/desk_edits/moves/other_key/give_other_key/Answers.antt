use Rattle.std.proofs.Common.{◌≡◌, ◌∙◌, ℕ, ◌+◌, List, [], ◌∷◌, length, refl, None, sym, ap, subst, arith}
use Rattle.visit_room.specs.declared.names.MaskName.{MaskName}
use Rattle.filter_state.specs.declared.edit.FilterLine.{FilterLine}
use Rattle.filter_state.specs.States.{State}
use Rattle.hook_store_law.specs.OfEdits.Premises.{now}
use Rattle.desk_pools.specs.OfNumbers.Numbers.{PoolNumbers}
use Rattle.desk_needs.specs.OfEditNeeds.Told.{laid, laid_rows, laid_masks}
use Rattle.desk_actions.specs.OfLedgers.Kept.{commits}
use Rattle.desk_actions.specs.Effects.{IsCounted}
use Rattle.desk_needs.specs.Live.{count_of}
use Rattle.desk_parts.specs.declared.parts.Parts.{Parts as TheParts}
use Rattle.desk_parts.specs.declared.ways.way.Way.TheVariants as ways
use Rattle.shared_hook.specs.OfDeskEdits.Spent.{made_by, needed}
use Rattle.shared_hook.proofs.OfDeskEdits.Counts.{counted_thrice, counted_as}
use Rattle.shared_hook.proofs.OfDeskEdits.Kept.{masks_led, rows_led, masks_led_pools}
use Rattle.shared_hook.proofs.OfDeskEdits.Made.{of_replace, made_more}
use Rattle.shared_hook.specs.OfDeskEdits.OfMoves.Raises.{IsRaising, IsToLay}
use Rattle.shared_hook.specs.OfDeskEdits.OfMoves.Moves.{IsToMove}
use Rattle.shared_hook.proofs.OfDeskEdits.OfMoves.Starts.{begins}
use Rattle.shared_hook.proofs.OfDeskEdits.OfMoves.KeyMoves.{key_lay, key_moves, now_raised}
use Rattle.shared_hook.proofs.OfDeskEdits.OfMoves.Whole.{moved_since, some_may_go, whole_point, whole_journal, whole_sheet, whole_places, whole_rest, whole_left, rows_let, masks_let}
use Rattle.shared_hook.proofs.OfDeskEdits.OfMoves.Sums.{enough_led, gone_blocks, gone_rows, gone_masks, free_still, counted_after}
use Rattle.shared_hook.proofs.desk_edits.moves.other_key.give_other_key.Goals as goal

pub raise_mask-mask-requires-clause-raising : goal.raise_mask-mask-requires-clause-raising
raise_mask-mask-requires-clause-raising g c = let led = c.lead-done.ensures in let ahead = c.lead-done.new.parts in (ahead, [], begins ahead g.E.EditName.edit c.lead-done.result led.ahead)

pub raise_mask-mask-requires-clause-lay : goal.raise_mask-mask-requires-clause-lay
raise_mask-mask-requires-clause-lay g c = let was = c.args.parts.now in let y = g.E.EditName.edit in let w = c.requires.way.0 in let led = c.lead-done.ensures in let ahead = c.lead-done.new.parts in let done = c.lead-done.result in
    let count : ℕ = c.args.count in (
      w.row.mask_serial,
      subst (λ (l : FilterLine). IsToLay (commits ahead.ledger) y l done l.mask.words count w.row.mask_serial) c.requires.way.1
          (key_lay was ahead y done c.requires.desk led.ahead led.still (masks_led was ahead led.rest) c.requires.edit.1 led.done c.args.line.now.hook c.args.slot count w),
    )

pub raise_mask-mask-requires-clause-enough : goal.raise_mask-mask-requires-clause-enough
raise_mask-mask-requires-clause-enough g c = let was = c.args.parts.now in let y = g.E.EditName.edit in let w = c.requires.way.0 in let led = c.lead-done.ensures in let ahead = c.lead-done.new.parts in let h = commits was.ledger in
    let taken = led.blocks (made_by h y) (made_more h y c.lead-done.result (of_replace w.line y w.replaces.is) led.done) in
    enough_led was.pools ahead.pools led.others (made_by h y) c.args.count 0 taken c.requires.enough.0 c.requires.enough.1 c.requires.heads.0

pub move_in_head-requires-clause-raising : goal.move_in_head-requires-clause-raising
move_in_head-requires-clause-raising g c = let led = c.lead-done.ensures in let ahead = c.lead-done.new.parts in let y = g.E.EditName.edit in
    (ahead, c.lead-done.result, led.ahead, subst (IsRaising ahead c.raise_mask-mask.new.parts y) (sym c.from_ref.ensures.value) (c.raise_mask-mask.ensures.raising ahead [] (begins ahead y c.lead-done.result led.ahead)))

pub move_in_head-requires-clause-moves : goal.move_in_head-requires-clause-moves
move_in_head-requires-clause-moves g c = let was = c.args.parts.now in let y = g.E.EditName.edit in let w = c.requires.way.0 in let led = c.lead-done.ensures in let ahead = c.lead-done.new.parts in let done = c.lead-done.result in
    let count : ℕ = c.args.count in let masks = masks_led was ahead led.rest in let raised = c.raise_mask-mask in let hook = c.args.line.now.hook in
    let lay = key_lay was ahead y done c.requires.desk led.ahead led.still masks c.requires.edit.1 led.done hook c.args.slot count w in
    let serial = raised.ensures.serial w.row.mask_serial (subst (λ (l : FilterLine). IsToLay (commits ahead.ledger) y l done l.mask.words count w.row.mask_serial) c.requires.way.1 lay) in (
      w.row.mask_serial,
      w.row.mask_serial,
      subst (λ (l : List MaskName). IsToMove (commits raised.new.parts.ledger) y hook l c.args.slot None w.row.mask_serial w.row.mask_serial) (sym c.from_ref.ensures.value)
          (key_moves was ahead y done c.requires.desk led.ahead led.still masks c.requires.edit.1 led.done hook c.args.slot count w raised.result serial raised.new.parts
          (raised.ensures.raising ahead [] (begins ahead y done led.ahead)) raised.ensures.here),
    )

pub move_in_head-requires-clause-free : goal.move_in_head-requires-clause-free
move_in_head-requires-clause-free g c = let was = c.args.parts.now in let led = c.lead-done.ensures in let ahead = c.lead-done.new.parts in
    let r = c.raise_mask-mask.ensures.raising ahead [] (begins ahead g.E.EditName.edit c.lead-done.result led.ahead) in
    free_still c.args.line.now.hook was.pools ahead.pools c.raise_mask-mask.new.parts.pools led.others (ap (λ (p : TheParts). p.pools) r.stays) c.requires.heads.1

pub move_in_head-requires-clause-few : goal.move_in_head-requires-clause-few
move_in_head-requires-clause-few g c = let led = c.lead-done.ensures in let ahead = c.lead-done.new.parts in
    let r = c.raise_mask-mask.ensures.raising ahead [] (begins ahead g.E.EditName.edit c.lead-done.result led.ahead) in
    let one = ap (λ (p : TheParts). p.ledger.point) r.stays in let two = led.point in let few = c.requires.few.0 in omega (arith, one, two, few)

pub let_go-requires-clause-gone : goal.let_go-requires-clause-gone
let_go-requires-clause-gone g c = let was = c.args.parts.now in let y = g.E.EditName.edit in let w = c.requires.way.0 in let led = c.lead-done.ensures in let ahead = c.lead-done.new.parts in let done = c.lead-done.result in let h = commits was.ledger in
    let raised = c.raise_mask-mask in let hook = c.args.line.now.hook in let after = c.move_in_head.new.parts in
    let r = raised.ensures.raising ahead [] (begins ahead y done led.ahead) in let m = moved_since ahead raised.new.parts after y (raised.result ∷ []) hook r c.move_in_head.ensures.moved in
    (length h, some_may_go was ahead after y done hook c.requires.desk led.ahead led.still led.sheet m c.args.gone.now c.requires.gone)

pub returns-clause-point : goal.returns-clause-point
returns-clause-point g c = let was = c.args.parts.now in let y = g.E.EditName.edit in let w = c.requires.way.0 in let led = c.lead-done.ensures in let ahead = c.lead-done.new.parts in let done = c.lead-done.result in let h = commits was.ledger in
    let raised = c.raise_mask-mask in let hook = c.args.line.now.hook in let after = c.move_in_head.new.parts in
    let r = raised.ensures.raising ahead [] (begins ahead y done led.ahead) in let m = moved_since ahead raised.new.parts after y (raised.result ∷ []) hook r c.move_in_head.ensures.moved in
    let last = c.let_go.new.parts in let let_ = c.let_go.ensures in let gone = c.args.gone.now in
    whole_point was ahead after y done hook c.requires.desk led.ahead led.still led.sheet m led.point led.others led.rest last gone let_.dropped let_.rest let_.desk

pub returns-clause-journal : goal.returns-clause-journal
returns-clause-journal g c = let was = c.args.parts.now in let y = g.E.EditName.edit in let w = c.requires.way.0 in let led = c.lead-done.ensures in let ahead = c.lead-done.new.parts in let done = c.lead-done.result in let h = commits was.ledger in
    let raised = c.raise_mask-mask in let hook = c.args.line.now.hook in let after = c.move_in_head.new.parts in
    let r = raised.ensures.raising ahead [] (begins ahead y done led.ahead) in let m = moved_since ahead raised.new.parts after y (raised.result ∷ []) hook r c.move_in_head.ensures.moved in
    let last = c.let_go.new.parts in let let_ = c.let_go.ensures in let gone = c.args.gone.now in
    whole_journal was ahead after y done hook c.requires.desk led.ahead led.still led.sheet m led.point led.others led.rest last gone let_.dropped let_.rest let_.desk

pub returns-clause-sheet : goal.returns-clause-sheet
returns-clause-sheet g c = let was = c.args.parts.now in let y = g.E.EditName.edit in let w = c.requires.way.0 in let led = c.lead-done.ensures in let ahead = c.lead-done.new.parts in let done = c.lead-done.result in let h = commits was.ledger in
    let raised = c.raise_mask-mask in let hook = c.args.line.now.hook in let after = c.move_in_head.new.parts in
    let r = raised.ensures.raising ahead [] (begins ahead y done led.ahead) in let m = moved_since ahead raised.new.parts after y (raised.result ∷ []) hook r c.move_in_head.ensures.moved in
    let last = c.let_go.new.parts in let let_ = c.let_go.ensures in let gone = c.args.gone.now in
    whole_sheet was ahead after y done hook c.requires.desk led.ahead led.still led.sheet m led.point led.others led.rest last gone let_.dropped let_.rest let_.desk

pub returns-clause-places : goal.returns-clause-places
returns-clause-places g c = let was = c.args.parts.now in let y = g.E.EditName.edit in let w = c.requires.way.0 in let led = c.lead-done.ensures in let ahead = c.lead-done.new.parts in let done = c.lead-done.result in let h = commits was.ledger in
    let raised = c.raise_mask-mask in let hook = c.args.line.now.hook in let after = c.move_in_head.new.parts in
    let r = raised.ensures.raising ahead [] (begins ahead y done led.ahead) in let m = moved_since ahead raised.new.parts after y (raised.result ∷ []) hook r c.move_in_head.ensures.moved in
    let last = c.let_go.new.parts in let let_ = c.let_go.ensures in let gone = c.args.gone.now in
    whole_places was ahead after y done hook c.requires.desk led.ahead led.still led.sheet m led.point led.others led.rest last gone let_.dropped let_.rest let_.desk

pub returns-clause-rest : goal.returns-clause-rest
returns-clause-rest g c = let was = c.args.parts.now in let y = g.E.EditName.edit in let w = c.requires.way.0 in let led = c.lead-done.ensures in let ahead = c.lead-done.new.parts in let done = c.lead-done.result in let h = commits was.ledger in
    let raised = c.raise_mask-mask in let hook = c.args.line.now.hook in let after = c.move_in_head.new.parts in
    let r = raised.ensures.raising ahead [] (begins ahead y done led.ahead) in let m = moved_since ahead raised.new.parts after y (raised.result ∷ []) hook r c.move_in_head.ensures.moved in
    let last = c.let_go.new.parts in let let_ = c.let_go.ensures in let gone = c.args.gone.now in
    whole_rest was ahead after y done hook c.requires.desk led.ahead led.still led.sheet m led.point led.others led.rest last gone let_.dropped let_.rest let_.desk

pub returns-clause-left : goal.returns-clause-left
returns-clause-left g c = let was = c.args.parts.now in let y = g.E.EditName.edit in let w = c.requires.way.0 in let led = c.lead-done.ensures in let ahead = c.lead-done.new.parts in let done = c.lead-done.result in let h = commits was.ledger in
    let raised = c.raise_mask-mask in let hook = c.args.line.now.hook in let after = c.move_in_head.new.parts in
    let r = raised.ensures.raising ahead [] (begins ahead y done led.ahead) in let m = moved_since ahead raised.new.parts after y (raised.result ∷ []) hook r c.move_in_head.ensures.moved in
    let last = c.let_go.new.parts in let let_ = c.let_go.ensures in let gone = c.args.gone.now in
    let count : ℕ = c.args.count in let masks = masks_led was ahead led.rest in let q : ℕ = w.row.mask_serial in
    let lay = key_lay was ahead y done c.requires.desk led.ahead led.still masks c.requires.edit.1 led.done hook c.args.slot count w in
    let serial = raised.ensures.serial q (subst (λ (l : FilterLine). IsToLay (commits ahead.ledger) y l done l.mask.words count q) c.requires.way.1 lay) in
    let moves = subst (λ (l : List MaskName). IsToMove (commits raised.new.parts.ledger) y hook l c.args.slot None q q) (sym c.from_ref.ensures.value)
    (key_moves was ahead y done c.requires.desk led.ahead led.still masks c.requires.edit.1 led.done hook c.args.slot count w raised.result serial raised.new.parts r raised.ensures.here) in
    let left = c.move_in_head.ensures.left q q moves in
    let now_is = now_raised was ahead y done c.requires.desk led.ahead led.still masks c.requires.edit.1 led.done hook c.args.slot count w raised.result serial raised.new.parts r raised.ensures.here in
    let own : count_of (now (commits raised.new.parts.ledger)) q ≡ count = ap (λ (s : State). count_of s q) now_is ∙ sym w.mask.counted in
    let made : ℕ = made_by h y in let steps = made_more h y done (of_replace w.line y w.replaces.is) led.done in
    let went = counted_as raised.new.parts.pools.blocks after.pools.blocks 0 0 (laid count + laid 0) (laid count) refl (omega arith) (gone_blocks hook raised.new.parts.pools after.pools (count_of (now (commits raised.new.parts.ledger))) q q None count 0 left own lay.some refl) in
    whole_left was ahead after y done hook c.requires.desk led.ahead led.still led.sheet m led.point led.others led.rest last gone let_.dropped let_.rest let_.desk (needed h y (ways.OtherKey hook c.args.slot count)) (laid count)
    (counted_thrice was.pools.blocks ahead.pools.blocks raised.new.parts.pools.blocks after.pools.blocks made (laid count) (laid 0) (laid count) (led.blocks made steps) raised.ensures.blocks went) (led.actions made steps)

pub returns-clause-rows : goal.returns-clause-rows
returns-clause-rows g c = let was = c.args.parts.now in let y = g.E.EditName.edit in let w = c.requires.way.0 in let led = c.lead-done.ensures in let ahead = c.lead-done.new.parts in let done = c.lead-done.result in let h = commits was.ledger in
    let raised = c.raise_mask-mask in let hook = c.args.line.now.hook in let after = c.move_in_head.new.parts in
    let r = raised.ensures.raising ahead [] (begins ahead y done led.ahead) in let m = moved_since ahead raised.new.parts after y (raised.result ∷ []) hook r c.move_in_head.ensures.moved in
    let last = c.let_go.new.parts in let let_ = c.let_go.ensures in let gone = c.args.gone.now in
    let count : ℕ = c.args.count in let masks = masks_led was ahead led.rest in let q : ℕ = w.row.mask_serial in
    let lay = key_lay was ahead y done c.requires.desk led.ahead led.still masks c.requires.edit.1 led.done hook c.args.slot count w in
    let serial = raised.ensures.serial q (subst (λ (l : FilterLine). IsToLay (commits ahead.ledger) y l done l.mask.words count q) c.requires.way.1 lay) in
    let moves = subst (λ (l : List MaskName). IsToMove (commits raised.new.parts.ledger) y hook l c.args.slot None q q) (sym c.from_ref.ensures.value)
    (key_moves was ahead y done c.requires.desk led.ahead led.still masks c.requires.edit.1 led.done hook c.args.slot count w raised.result serial raised.new.parts r raised.ensures.here) in
    let left = c.move_in_head.ensures.left q q moves in
    let now_is = now_raised was ahead y done c.requires.desk led.ahead led.still masks c.requires.edit.1 led.done hook c.args.slot count w raised.result serial raised.new.parts r raised.ensures.here in
    let own : count_of (now (commits raised.new.parts.ledger)) q ≡ count = ap (λ (s : State). count_of s q) now_is ∙ sym w.mask.counted in
    let went = counted_as raised.new.parts.pools.rows after.pools.rows 0 0 (laid_rows count + laid_rows 0) (laid_rows count) refl (omega arith) (gone_rows hook raised.new.parts.pools after.pools (count_of (now (commits raised.new.parts.ledger))) q q None count 0 left own lay.some refl) in
    let all = counted_after ahead.pools.rows raised.new.parts.pools.rows after.pools.rows (laid_rows count) (laid_rows 0) (laid_rows count) raised.ensures.rows went in
    subst (λ (p : PoolNumbers). IsCounted p last.pools.rows (laid_rows count + laid_rows 0) (laid_rows count)) (rows_led was.pools ahead.pools led.others)
    (subst (λ (p : PoolNumbers). IsCounted ahead.pools.rows p (laid_rows count + laid_rows 0) (laid_rows count)) (sym (rows_let was ahead after y done hook c.requires.desk led.ahead led.still led.sheet m led.point led.others led.rest last gone let_.dropped let_.rest let_.desk)) all)

pub returns-clause-masks : goal.returns-clause-masks
returns-clause-masks g c = let was = c.args.parts.now in let y = g.E.EditName.edit in let w = c.requires.way.0 in let led = c.lead-done.ensures in let ahead = c.lead-done.new.parts in let done = c.lead-done.result in let h = commits was.ledger in
    let raised = c.raise_mask-mask in let hook = c.args.line.now.hook in let after = c.move_in_head.new.parts in
    let r = raised.ensures.raising ahead [] (begins ahead y done led.ahead) in let m = moved_since ahead raised.new.parts after y (raised.result ∷ []) hook r c.move_in_head.ensures.moved in
    let last = c.let_go.new.parts in let let_ = c.let_go.ensures in let gone = c.args.gone.now in
    let count : ℕ = c.args.count in let masks = masks_led was ahead led.rest in let q : ℕ = w.row.mask_serial in
    let lay = key_lay was ahead y done c.requires.desk led.ahead led.still masks c.requires.edit.1 led.done hook c.args.slot count w in
    let serial = raised.ensures.serial q (subst (λ (l : FilterLine). IsToLay (commits ahead.ledger) y l done l.mask.words count q) c.requires.way.1 lay) in
    let moves = subst (λ (l : List MaskName). IsToMove (commits raised.new.parts.ledger) y hook l c.args.slot None q q) (sym c.from_ref.ensures.value)
    (key_moves was ahead y done c.requires.desk led.ahead led.still masks c.requires.edit.1 led.done hook c.args.slot count w raised.result serial raised.new.parts r raised.ensures.here) in
    let left = c.move_in_head.ensures.left q q moves in
    let now_is = now_raised was ahead y done c.requires.desk led.ahead led.still masks c.requires.edit.1 led.done hook c.args.slot count w raised.result serial raised.new.parts r raised.ensures.here in
    let own : count_of (now (commits raised.new.parts.ledger)) q ≡ count = ap (λ (s : State). count_of s q) now_is ∙ sym w.mask.counted in
    let went = counted_as raised.new.parts.pools.masks after.pools.masks 0 0 (laid_masks count + laid_masks 0) (laid_masks count) refl (omega arith) (gone_masks hook raised.new.parts.pools after.pools (count_of (now (commits raised.new.parts.ledger))) q q None count 0 left own lay.some refl) in
    let all = counted_after ahead.pools.masks raised.new.parts.pools.masks after.pools.masks (laid_masks count) (laid_masks 0) (laid_masks count) raised.ensures.masks went in
    subst (λ (p : PoolNumbers). IsCounted p last.pools.masks (laid_masks count + laid_masks 0) (laid_masks count)) (masks_led_pools was.pools ahead.pools led.others)
    (subst (λ (p : PoolNumbers). IsCounted ahead.pools.masks p (laid_masks count + laid_masks 0) (laid_masks count)) (sym (masks_let was ahead after y done hook c.requires.desk led.ahead led.still led.sheet m led.point led.others led.rest last gone let_.dropped let_.rest let_.desk)) all)
