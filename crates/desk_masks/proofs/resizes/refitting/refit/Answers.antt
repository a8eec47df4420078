use Rattle.std.proofs.Common.{◌≡◌, ◌∙◌, ℕ, List, get_or, sym, ap, subst, arith, length}
use Rattle.store_history.specs.declared.history.Commit.{Commit}
use Rattle.store_history.specs.History.{root_of, edits_of}
use Rattle.store_history.specs.declared.places.TheConstants.{ROWS, ROW_BUCKETS, BUCKET_ROOTS, POOL_BLOCKS}
use Rattle.pin_store.specs.Sheets.{base_of}
use Rattle.pin_store.specs.Calls.{seen_by, sheet_of}
use Rattle.filter_state.specs.declared.edit.Edit.{Edit}
use Rattle.mask_writer.specs.Standing.{AreNamed}
use Rattle.desk_masks.specs.OfMaskResizes.Resized.{stored_now}
use Rattle.hook_law.specs.Meaning.{point_of}
use Rattle.hook_law.specs.Keeping.{IsAtRest}
use Rattle.hook_store_law.specs.Stated.{hook_meaning}
use Rattle.hook_store_law.specs.Blocks.{hook_codec}
use Rattle.hook_store_law.specs.Kept.{IsKeptAt}
use Rattle.desk_masks.specs.Masks.{HasMasks}
use Rattle.desk_masks.specs.OfResizes.Refit.{GoesOn}
use Rattle.desk_masks.proofs.OfResizes.Fits.{at, holds, all_free}
use Rattle.desk_masks.proofs.OfResizes.After.{goes, journal, kept_after, rest_after, masks_after, many, refit_lawful, its_block, seen_as}
use Rattle.desk_pools.specs.Pools.{gone_roots, IsLeftAt, ArePools}
use Rattle.desk_pools.specs.Steps.{MayLeave}
use Rattle.root_pool_laws.specs.Blocks.{IsLeft}
use Rattle.hook_law.specs.Standing.{IsIn}
use Rattle.desk_masks.proofs.OfResizes.Pooled.{pools_after, rows_leave_seen, blocks_leave_seen, leaving}
use Rattle.desk_masks.proofs.OfResizes.Counting.{count_blocks}
use Rattle.desk_masks.proofs.resizes.refitting.refit.Goals as goal

pub resize-requires-clause-slot : goal.resize-requires-clause-slot
resize-requires-clause-slot g c = let old = c.args.writer.now in let h = seen_by old.place in let b = base_of (sheet_of old.place) in let m = c.requires.may in let masks = c.args.masks.now in let shape = c.args.store.now.shape in let cells = (sheet_of old.place).cells in
    let blocks = c.args.given.now.blocks in let rows = c.args.given.now.rows in
    (at masks shape cells h b c.args.point c.args.slot c.args.size blocks rows m).small

pub resize-requires-clause-size : goal.resize-requires-clause-size
resize-requires-clause-size g c = let old = c.args.writer.now in let h = seen_by old.place in let b = base_of (sheet_of old.place) in let m = c.requires.may in let masks = c.args.masks.now in let shape = c.args.store.now.shape in let cells = (sheet_of old.place).cells in
    let blocks = c.args.given.now.blocks in let rows = c.args.given.now.rows in
    (m.proper, m.many_rows)

pub resize-requires-clause-rows : goal.resize-requires-clause-rows
resize-requires-clause-rows g c = let old = c.args.writer.now in let h = seen_by old.place in let b = base_of (sheet_of old.place) in let m = c.requires.may in let masks = c.args.masks.now in let shape = c.args.store.now.shape in let cells = (sheet_of old.place).cells in
    let blocks = c.args.given.now.blocks in let rows = c.args.given.now.rows in
    all_free masks shape cells h b c.args.point c.args.slot c.args.size blocks rows m

pub resize-requires-clause-there : goal.resize-requires-clause-there
resize-requires-clause-there g c = let old = c.args.writer.now in let h = seen_by old.place in let b = base_of (sheet_of old.place) in let m = c.requires.may in let masks = c.args.masks.now in let shape = c.args.store.now.shape in let cells = (sheet_of old.place).cells in
    let blocks = c.args.given.now.blocks in let rows = c.args.given.now.rows in
    (m.kept, point_of h, stored_now h m.kept.mask.serial, m.stands, holds masks shape cells h b c.args.point c.args.slot c.args.size blocks rows m)

pub resize-requires-clause-many : goal.resize-requires-clause-many
resize-requires-clause-many g c = let old = c.args.writer.now in let h = seen_by old.place in let b = base_of (sheet_of old.place) in let m = c.requires.may in let masks = c.args.masks.now in let shape = c.args.store.now.shape in let cells = (sheet_of old.place).cells in
    let blocks = c.args.given.now.blocks in let rows = c.args.given.now.rows in
    many masks shape cells h b c.args.point c.args.slot c.args.size blocks rows m

pub resize-requires-clause-given : goal.resize-requires-clause-given
resize-requires-clause-given g c = let old = c.args.writer.now in let h = seen_by old.place in let b = base_of (sheet_of old.place) in let m = c.requires.may in let masks = c.args.masks.now in let shape = c.args.store.now.shape in let cells = (sheet_of old.place).cells in
    let blocks = c.args.given.now.blocks in let rows = c.args.given.now.rows in
    m.blocks_are

pub resize-requires-clause-kept : goal.resize-requires-clause-kept
resize-requires-clause-kept g c = let old = c.args.writer.now in let h = seen_by old.place in let b = base_of (sheet_of old.place) in let m = c.requires.may in let masks = c.args.masks.now in let shape = c.args.store.now.shape in let cells = (sheet_of old.place).cells in
    let blocks = c.args.given.now.blocks in let rows = c.args.given.now.rows in
    m.has.named

pub resize-requires-clause-lawful : goal.resize-requires-clause-lawful
resize-requires-clause-lawful g c = let old = c.args.writer.now in let h = seen_by old.place in let b = base_of (sheet_of old.place) in let m = c.requires.may in let masks = c.args.masks.now in let shape = c.args.store.now.shape in let cells = (sheet_of old.place).cells in
    let blocks = c.args.given.now.blocks in let rows = c.args.given.now.rows in
    refit_lawful masks shape cells h b c.args.point c.args.slot c.args.size blocks rows m

pub returns-clause-goes_on : goal.returns-clause-goes_on
returns-clause-goes_on g c = let old = c.args.writer.now in let h = seen_by old.place in let b = base_of (sheet_of old.place) in let m = c.requires.may in let masks = c.args.masks.now in let shape = c.args.store.now.shape in let cells = (sheet_of old.place).cells in
    let blocks = c.args.given.now.blocks in let rows = c.args.given.now.rows in
    let new = seen_by c.resize.new.writer.place in let blk = its_block masks shape cells h b c.args.point c.args.slot c.args.size blocks rows m in let seen = seen_as masks shape cells h b c.args.point c.args.slot c.args.size blocks rows m new c.resize.ensures.seen in
    subst (λ (z : List (Commit Edit)). GoesOn h z c.args.slot rows) (sym seen) (goes masks shape cells h b c.args.point c.args.slot c.args.size blocks rows m blk)

pub returns-clause-kept : goal.returns-clause-kept
returns-clause-kept g c = let old = c.args.writer.now in let h = seen_by old.place in let b = base_of (sheet_of old.place) in let m = c.requires.may in let masks = c.args.masks.now in let shape = c.args.store.now.shape in let cells = (sheet_of old.place).cells in
    let blocks = c.args.given.now.blocks in let rows = c.args.given.now.rows in
    let new = seen_by c.resize.new.writer.place in let blk = its_block masks shape cells h b c.args.point c.args.slot c.args.size blocks rows m in let seen = seen_as masks shape cells h b c.args.point c.args.slot c.args.size blocks rows m new c.resize.ensures.seen in
    let same = c.resize.ensures.sheet in let based : base_of (sheet_of c.resize.new.writer.place) ≡ b = λ t. get_or (same.starts t) (same.quiet t) 0 in
    subst (λ (n : ℕ). IsKeptAt new n c.args.point) (sym based) (subst (λ (z : List (Commit Edit)). IsKeptAt z b c.args.point) (sym seen) (kept_after masks shape cells h b c.args.point c.args.slot c.args.size blocks rows m blk))

pub returns-clause-rest : goal.returns-clause-rest
returns-clause-rest g c = let old = c.args.writer.now in let h = seen_by old.place in let b = base_of (sheet_of old.place) in let m = c.requires.may in let masks = c.args.masks.now in let shape = c.args.store.now.shape in let cells = (sheet_of old.place).cells in
    let blocks = c.args.given.now.blocks in let rows = c.args.given.now.rows in
    let new = seen_by c.resize.new.writer.place in let blk = its_block masks shape cells h b c.args.point c.args.slot c.args.size blocks rows m in let seen = seen_as masks shape cells h b c.args.point c.args.slot c.args.size blocks rows m new c.resize.ensures.seen in
    subst (IsAtRest hook_meaning hook_codec) (sym seen) (rest_after masks shape cells h b c.args.point c.args.slot c.args.size blocks rows m blk)

pub returns-clause-journal : goal.returns-clause-journal
returns-clause-journal g c = let old = c.args.writer.now in let h = seen_by old.place in let b = base_of (sheet_of old.place) in let m = c.requires.may in let masks = c.args.masks.now in let shape = c.args.store.now.shape in let cells = (sheet_of old.place).cells in
    let blocks = c.args.given.now.blocks in let rows = c.args.given.now.rows in
    let new = seen_by c.resize.new.writer.place in let blk = its_block masks shape cells h b c.args.point c.args.slot c.args.size blocks rows m in let seen = seen_as masks shape cells h b c.args.point c.args.slot c.args.size blocks rows m new c.resize.ensures.seen in
    ap edits_of seen ∙ journal masks shape cells h b c.args.point c.args.slot c.args.size blocks rows m blk

pub returns-clause-masks : goal.returns-clause-masks
returns-clause-masks g c = let old = c.args.writer.now in let h = seen_by old.place in let b = base_of (sheet_of old.place) in let m = c.requires.may in let masks = c.args.masks.now in let shape = c.args.store.now.shape in let cells = (sheet_of old.place).cells in
    let blocks = c.args.given.now.blocks in let rows = c.args.given.now.rows in
    let new = seen_by c.resize.new.writer.place in let blk = its_block masks shape cells h b c.args.point c.args.slot c.args.size blocks rows m in let seen = seen_as masks shape cells h b c.args.point c.args.slot c.args.size blocks rows m new c.resize.ensures.seen in
    subst (HasMasks c.resize.new.self shape (sheet_of c.resize.new.writer.place).cells) (sym seen)
    (masks_after masks shape cells h b c.args.point c.args.slot c.args.size blocks rows m blk c.resize.new.self (sheet_of c.resize.new.writer.place).cells (subst (λ (z : List (Commit Edit)). AreNamed c.resize.new.self shape (sheet_of c.resize.new.writer.place).cells (root_of z)) seen c.resize.ensures.kept)
    (c.resize.ensures.masks m.kept (point_of h) (stored_now h m.kept.mask.serial) m.stands (holds masks shape cells h b c.args.point c.args.slot c.args.size blocks rows m)) c.resize.ensures.list c.resize.ensures.lists)

pub returns-clause-pools : goal.returns-clause-pools
returns-clause-pools g c = let old = c.args.writer.now in let h = seen_by old.place in let b = base_of (sheet_of old.place) in let m = c.requires.may in let masks = c.args.masks.now in let shape = c.args.store.now.shape in let cells = (sheet_of old.place).cells in
    let blocks = c.args.given.now.blocks in let rows = c.args.given.now.rows in
    let new = seen_by c.resize.new.writer.place in let blk = its_block masks shape cells h b c.args.point c.args.slot c.args.size blocks rows m in let seen = seen_as masks shape cells h b c.args.point c.args.slot c.args.size blocks rows m new c.resize.ensures.seen in
    let same = c.resize.ensures.sheet in let based : base_of (sheet_of c.resize.new.writer.place) ≡ b = λ t. get_or (same.starts t) (same.quiet t) 0 in
    λ pools p out. subst (λ (n : ℕ). ArePools pools new n) (sym based) (subst (λ (z : List (Commit Edit)). ArePools pools z b) (sym seen) (pools_after masks shape cells h b c.args.point c.args.slot c.args.size blocks rows m pools p out.rows_out out.blocks_out))

pub returns-clause-rows_leave : goal.returns-clause-rows_leave
returns-clause-rows_leave g c = let old = c.args.writer.now in let h = seen_by old.place in let b = base_of (sheet_of old.place) in let m = c.requires.may in let masks = c.args.masks.now in let shape = c.args.store.now.shape in let cells = (sheet_of old.place).cells in
    let blocks = c.args.given.now.blocks in let rows = c.args.given.now.rows in
    let new = seen_by c.resize.new.writer.place in let blk = its_block masks shape cells h b c.args.point c.args.slot c.args.size blocks rows m in let seen = seen_as masks shape cells h b c.args.point c.args.slot c.args.size blocks rows m new c.resize.ensures.seen in
    let left = c.resize.ensures.left m.kept m.stands in
    λ pools p out. subst (λ (l : List ℕ). MayLeave ROWS (IsLeftAt new BUCKET_ROOTS ROW_BUCKETS) pools.rows l) (sym left.1) (subst (λ (z : List (Commit Edit)). MayLeave ROWS (IsLeftAt z BUCKET_ROOTS ROW_BUCKETS) pools.rows m.kept.mask.rows) (sym seen) (rows_leave_seen masks shape cells h b c.args.point c.args.slot c.args.size blocks rows m pools p out.rows_out out.blocks_out))

pub returns-clause-blocks_leave : goal.returns-clause-blocks_leave
returns-clause-blocks_leave g c = let old = c.args.writer.now in let h = seen_by old.place in let b = base_of (sheet_of old.place) in let m = c.requires.may in let masks = c.args.masks.now in let shape = c.args.store.now.shape in let cells = (sheet_of old.place).cells in
    let blocks = c.args.given.now.blocks in let rows = c.args.given.now.rows in
    let new = seen_by c.resize.new.writer.place in let blk = its_block masks shape cells h b c.args.point c.args.slot c.args.size blocks rows m in let seen = seen_as masks shape cells h b c.args.point c.args.slot c.args.size blocks rows m new c.resize.ensures.seen in
    let left = c.resize.ensures.left m.kept m.stands in
    λ pools gone p out rows_gone. subst (λ (l : List ℕ). MayLeave POOL_BLOCKS (IsLeft (gone_roots gone) new) pools.blocks l) (sym left.0)
    (subst (λ (z : List (Commit Edit)). MayLeave POOL_BLOCKS (IsLeft (gone_roots gone) z) pools.blocks (leaving masks shape cells h b c.args.point c.args.slot c.args.size blocks rows m pools p out.rows_out out.blocks_out)) (sym seen)
    (blocks_leave_seen masks shape cells h b c.args.point c.args.slot c.args.size blocks rows m pools p out.rows_out out.blocks_out gone (λ row at. rows_gone row (subst (IsIn row) (sym left.1) at))))

pub returns-clause-count : goal.returns-clause-count
returns-clause-count g c = let old = c.args.writer.now in let h = seen_by old.place in let m = c.requires.may in let masks = c.args.masks.now in
    λ kept stands. let left = ap length (c.resize.ensures.left kept stands).0 in
    let count = count_blocks h masks c.args.store.now.shape (sheet_of old.place).cells m.has c.args.slot kept stands in omega (arith, left, count)
