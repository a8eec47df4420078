use Rattle.std.proofs.Common.{◌≡◌, ℕ, ◌+◌, ◌-◌, ◌≤◌, List, [], ◌∷◌, refl, sym, ap, subst, arith}
use Rattle.visit_room.specs.declared.names.MaskName.{MaskName}
use Rattle.hook_store_law.specs.OfEdits.Premises.{now}
use Rattle.desk_needs.specs.OfEditNeeds.Told.{laid, laid_rows, laid_masks}
use Rattle.desk_actions.specs.OfLedgers.Kept.{commits}
use Rattle.desk_needs.specs.Live.{count_of}
use Rattle.shared_hook.proofs.OfDeskEdits.Counts.{counted_as}
use Rattle.shared_hook.specs.OfDeskEdits.OfMoves.Raises.{IsRaising}
use Rattle.shared_hook.specs.OfDeskEdits.OfMoves.Moves.{IsToMove}
use Rattle.shared_hook.proofs.OfDeskEdits.OfMoves.Leaves.{alone_moves, both_move, count_later, other_later}
use Rattle.shared_hook.proofs.OfDeskEdits.OfMoves.Sums.{gone_blocks, gone_rows, gone_masks, free_laid, counted_leaving}
use Rattle.shared_hook.proofs.OfDeskEdits.OfMoves.Whole.{moved_since, raised_pools, raised_point}
use Rattle.shared_hook.proofs.desk_edits.moves.leaving.leave_mask.Goals as goal

pub move_in_head-requires-clause-raising : goal.move_in_head-requires-clause-raising
move_in_head-requires-clause-raising g c = let was = c.args.parts.now in let y = g.E.EditName.edit in let up = c.requires.raising in let line = c.args.line.now in let done = c.args.done.now in let first = c.args.first in
    let slot = c.args.slot in let count : ℕ = c.args.count in let into = c.args.into in let words = c.args.words.now.words in let first_built : List MaskName = first ∷ [] in
    let second = c.raise_mask-second in let both : List MaskName = first ∷ second.result ∷ [] in let r2 = second.ensures.raising up.0 first_built up.2 in
    (up.0, done, up.1, r2)

pub move_in_head-requires-clause-moves : goal.move_in_head-requires-clause-moves
move_in_head-requires-clause-moves g c = let was = c.args.parts.now in let y = g.E.EditName.edit in let up = c.requires.raising in let line = c.args.line.now in let done = c.args.done.now in let first = c.args.first in
    let slot = c.args.slot in let count : ℕ = c.args.count in let into = c.args.into in let words = c.args.words.now.words in let first_built : List MaskName = first ∷ [] in
    let second = c.raise_mask-second in let both : List MaskName = first ∷ second.result ∷ [] in let r2 = second.ensures.raising up.0 first_built up.2 in
    let o = c.requires.leave in
    let serial = second.ensures.serial o.2 (o.3.lay c.if-count-gt1.true) in
    (o.1, o.2, both_move up.0 was y done up.1 line words first slot count into o.0 o.1 o.2 up.2 o.3 second.result serial second.new.parts r2 second.ensures.here)

pub move_in_head-requires-clause-free : goal.move_in_head-requires-clause-free
move_in_head-requires-clause-free g c = let was = c.args.parts.now in let y = g.E.EditName.edit in let up = c.requires.raising in let line = c.args.line.now in let done = c.args.done.now in let first = c.args.first in
    let slot = c.args.slot in let count : ℕ = c.args.count in let into = c.args.into in let words = c.args.words.now.words in let first_built : List MaskName = first ∷ [] in
    let second = c.raise_mask-second in let both : List MaskName = first ∷ second.result ∷ [] in let r2 = second.ensures.raising up.0 first_built up.2 in
    free_laid line.hook was.pools second.new.parts.pools (raised_pools up.0 was second.new.parts y first_built both up.2 r2) c.requires.free

pub move_in_head-requires-clause-few : goal.move_in_head-requires-clause-few
move_in_head-requires-clause-few g c = let was = c.args.parts.now in let y = g.E.EditName.edit in let up = c.requires.raising in let line = c.args.line.now in let done = c.args.done.now in let first = c.args.first in
    let slot = c.args.slot in let count : ℕ = c.args.count in let into = c.args.into in let words = c.args.words.now.words in let first_built : List MaskName = first ∷ [] in
    let second = c.raise_mask-second in let both : List MaskName = first ∷ second.result ∷ [] in let r2 = second.ensures.raising up.0 first_built up.2 in
    let same = raised_point up.0 was second.new.parts y first_built both up.2 r2 in let few = c.requires.few.0 in omega (arith, same, few)

pub move_in_head-requires-else-count-gt1-clause-raising : goal.move_in_head-requires-else-count-gt1-clause-raising
move_in_head-requires-else-count-gt1-clause-raising g c = let up = c.requires.raising in
    (up.0, c.args.done.now, up.1, subst (IsRaising up.0 c.args.parts.now g.E.EditName.edit) (sym c.from_ref.ensures.value) up.2)

pub move_in_head-requires-else-count-gt1-clause-moves : goal.move_in_head-requires-else-count-gt1-clause-moves
move_in_head-requires-else-count-gt1-clause-moves g c = let was = c.args.parts.now in let y = g.E.EditName.edit in let up = c.requires.raising in let line = c.args.line.now in let done = c.args.done.now in let first = c.args.first in
    let slot = c.args.slot in let count : ℕ = c.args.count in let into = c.args.into in let words = c.args.words.now.words in let first_built : List MaskName = first ∷ [] in
    let o = c.requires.leave in (
      o.1,
      o.2,
      subst (λ (l : List MaskName). IsToMove (commits was.ledger) y line.hook l slot into o.1 o.2) (sym c.from_ref.ensures.value)
          (alone_moves up.0 was y done up.1 line words first slot count into o.0 o.1 o.2 up.2 o.3 (let few = c.if-count-gt1.false in omega (arith, few))),
    )

pub returns-then-count-gt1-clause-moved : goal.returns-then-count-gt1-clause-moved
returns-then-count-gt1-clause-moved g c = λ start ahead r. let y = g.E.EditName.edit in let second = c.raise_mask-second in let both : List MaskName = c.args.first ∷ second.result ∷ [] in
    moved_since start second.new.parts c.move_in_head.new.parts y both c.args.line.now.hook (second.ensures.raising start (c.args.first ∷ []) r) c.move_in_head.ensures.moved

pub returns-else-count-gt1-clause-moved : goal.returns-else-count-gt1-clause-moved
returns-else-count-gt1-clause-moved g c = λ start ahead r. let y = g.E.EditName.edit in
    moved_since start c.args.parts.now c.move_in_head-else-count-gt1.new.parts y (c.args.first ∷ []) c.args.line.now.hook r c.move_in_head-else-count-gt1.ensures.moved

pub returns-then-count-gt1-clause-blocks : goal.returns-then-count-gt1-clause-blocks
returns-then-count-gt1-clause-blocks g c = λ others to from leave. let was = c.args.parts.now in let y = g.E.EditName.edit in let up = c.requires.raising in let line = c.args.line.now in let done = c.args.done.now in let first = c.args.first in
    let slot = c.args.slot in let count : ℕ = c.args.count in let into = c.args.into in let words = c.args.words.now.words in let first_built : List MaskName = first ∷ [] in
    let second = c.raise_mask-second in let both : List MaskName = first ∷ second.result ∷ [] in let r2 = second.ensures.raising up.0 first_built up.2 in
    let serial = second.ensures.serial from (leave.lay c.if-count-gt1.true) in let after = c.move_in_head.new.parts in
    let moves = both_move up.0 was y done up.1 line words first slot count into others to from up.2 leave second.result serial second.new.parts r2 second.ensures.here in
    let own = count_later up.0 was y done up.1 line words first slot count into others to from up.2 leave second.result serial second.new.parts r2 second.ensures.here in
    let other = other_later up.0 was y done up.1 line words first slot count into others to from up.2 leave second.result serial second.new.parts r2 second.ensures.here in
    counted_leaving was.pools.blocks second.new.parts.pools.blocks after.pools.blocks (laid (count - 1)) (laid count + laid others) second.ensures.blocks
    (gone_blocks line.hook second.new.parts.pools after.pools (count_of (now (commits second.new.parts.ledger))) to from into count others (c.move_in_head.ensures.left to from moves) own leave.some other)

pub returns-else-count-gt1-clause-blocks : goal.returns-else-count-gt1-clause-blocks
returns-else-count-gt1-clause-blocks g c = λ others to from leave. let was = c.args.parts.now in let y = g.E.EditName.edit in let up = c.requires.raising in let line = c.args.line.now in let done = c.args.done.now in let first = c.args.first in
    let slot = c.args.slot in let count : ℕ = c.args.count in let into = c.args.into in let words = c.args.words.now.words in let first_built : List MaskName = first ∷ [] in
    let after = c.move_in_head-else-count-gt1.new.parts in let alone : count ≤ 1 = (let few = c.if-count-gt1.false in omega (arith, few)) in
    let moves = subst (λ (l : List MaskName). IsToMove (commits was.ledger) y line.hook l slot into to from) (sym c.from_ref.ensures.value)
    (alone_moves up.0 was y done up.1 line words first slot count into others to from up.2 leave alone) in
    let none : 0 ≡ count - 1 = (let some = leave.some in omega (arith, alone, some)) in
    counted_as was.pools.blocks after.pools.blocks (laid 0) (laid (count - 1)) (laid count + laid others) (laid count + laid others) (ap laid none) refl
    (gone_blocks line.hook was.pools after.pools (count_of (now (commits was.ledger))) to from into count others (c.move_in_head-else-count-gt1.ensures.left to from moves) leave.counted leave.some leave.other)

pub returns-then-count-gt1-clause-rows : goal.returns-then-count-gt1-clause-rows
returns-then-count-gt1-clause-rows g c = λ others to from leave. let was = c.args.parts.now in let y = g.E.EditName.edit in let up = c.requires.raising in let line = c.args.line.now in let done = c.args.done.now in let first = c.args.first in
    let slot = c.args.slot in let count : ℕ = c.args.count in let into = c.args.into in let words = c.args.words.now.words in let first_built : List MaskName = first ∷ [] in
    let second = c.raise_mask-second in let both : List MaskName = first ∷ second.result ∷ [] in let r2 = second.ensures.raising up.0 first_built up.2 in
    let serial = second.ensures.serial from (leave.lay c.if-count-gt1.true) in let after = c.move_in_head.new.parts in
    let moves = both_move up.0 was y done up.1 line words first slot count into others to from up.2 leave second.result serial second.new.parts r2 second.ensures.here in
    let own = count_later up.0 was y done up.1 line words first slot count into others to from up.2 leave second.result serial second.new.parts r2 second.ensures.here in
    let other = other_later up.0 was y done up.1 line words first slot count into others to from up.2 leave second.result serial second.new.parts r2 second.ensures.here in
    counted_leaving was.pools.rows second.new.parts.pools.rows after.pools.rows (laid_rows (count - 1)) (laid_rows count + laid_rows others) second.ensures.rows
    (gone_rows line.hook second.new.parts.pools after.pools (count_of (now (commits second.new.parts.ledger))) to from into count others (c.move_in_head.ensures.left to from moves) own leave.some other)

pub returns-else-count-gt1-clause-rows : goal.returns-else-count-gt1-clause-rows
returns-else-count-gt1-clause-rows g c = λ others to from leave. let was = c.args.parts.now in let y = g.E.EditName.edit in let up = c.requires.raising in let line = c.args.line.now in let done = c.args.done.now in let first = c.args.first in
    let slot = c.args.slot in let count : ℕ = c.args.count in let into = c.args.into in let words = c.args.words.now.words in let first_built : List MaskName = first ∷ [] in
    let after = c.move_in_head-else-count-gt1.new.parts in let alone : count ≤ 1 = (let few = c.if-count-gt1.false in omega (arith, few)) in
    let moves = subst (λ (l : List MaskName). IsToMove (commits was.ledger) y line.hook l slot into to from) (sym c.from_ref.ensures.value)
    (alone_moves up.0 was y done up.1 line words first slot count into others to from up.2 leave alone) in
    let none : 0 ≡ count - 1 = (let some = leave.some in omega (arith, alone, some)) in
    counted_as was.pools.rows after.pools.rows (laid_rows 0) (laid_rows (count - 1)) (laid_rows count + laid_rows others) (laid_rows count + laid_rows others) (ap laid_rows none) refl
    (gone_rows line.hook was.pools after.pools (count_of (now (commits was.ledger))) to from into count others (c.move_in_head-else-count-gt1.ensures.left to from moves) leave.counted leave.some leave.other)

pub returns-then-count-gt1-clause-masks : goal.returns-then-count-gt1-clause-masks
returns-then-count-gt1-clause-masks g c = λ others to from leave. let was = c.args.parts.now in let y = g.E.EditName.edit in let up = c.requires.raising in let line = c.args.line.now in let done = c.args.done.now in let first = c.args.first in
    let slot = c.args.slot in let count : ℕ = c.args.count in let into = c.args.into in let words = c.args.words.now.words in let first_built : List MaskName = first ∷ [] in
    let second = c.raise_mask-second in let both : List MaskName = first ∷ second.result ∷ [] in let r2 = second.ensures.raising up.0 first_built up.2 in
    let serial = second.ensures.serial from (leave.lay c.if-count-gt1.true) in let after = c.move_in_head.new.parts in
    let moves = both_move up.0 was y done up.1 line words first slot count into others to from up.2 leave second.result serial second.new.parts r2 second.ensures.here in
    let own = count_later up.0 was y done up.1 line words first slot count into others to from up.2 leave second.result serial second.new.parts r2 second.ensures.here in
    let other = other_later up.0 was y done up.1 line words first slot count into others to from up.2 leave second.result serial second.new.parts r2 second.ensures.here in
    counted_leaving was.pools.masks second.new.parts.pools.masks after.pools.masks (laid_masks (count - 1)) (laid_masks count + laid_masks others) second.ensures.masks
    (gone_masks line.hook second.new.parts.pools after.pools (count_of (now (commits second.new.parts.ledger))) to from into count others (c.move_in_head.ensures.left to from moves) own leave.some other)

pub returns-else-count-gt1-clause-masks : goal.returns-else-count-gt1-clause-masks
returns-else-count-gt1-clause-masks g c = λ others to from leave. let was = c.args.parts.now in let y = g.E.EditName.edit in let up = c.requires.raising in let line = c.args.line.now in let done = c.args.done.now in let first = c.args.first in
    let slot = c.args.slot in let count : ℕ = c.args.count in let into = c.args.into in let words = c.args.words.now.words in let first_built : List MaskName = first ∷ [] in
    let after = c.move_in_head-else-count-gt1.new.parts in let alone : count ≤ 1 = (let few = c.if-count-gt1.false in omega (arith, few)) in
    let moves = subst (λ (l : List MaskName). IsToMove (commits was.ledger) y line.hook l slot into to from) (sym c.from_ref.ensures.value)
    (alone_moves up.0 was y done up.1 line words first slot count into others to from up.2 leave alone) in
    let none : 0 ≡ count - 1 = (let some = leave.some in omega (arith, alone, some)) in
    counted_as was.pools.masks after.pools.masks (laid_masks 0) (laid_masks (count - 1)) (laid_masks count + laid_masks others) (laid_masks count + laid_masks others) (ap laid_masks none) refl
    (gone_masks line.hook was.pools after.pools (count_of (now (commits was.ledger))) to from into count others (c.move_in_head-else-count-gt1.ensures.left to from moves) leave.counted leave.some leave.other)
