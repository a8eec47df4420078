use Rattle.std.proofs.Common.{ℕ, sym, ap, subst, arith}
use Rattle.store_history.specs.declared.places.TheConstants.{ROWS, ROW_BUCKETS, BUCKET_ROOTS, POOL_BLOCKS}
use Rattle.pin_store.specs.Sheets.{base_of}
use Rattle.pin_store.specs.Calls.{seen_by, sheet_of, IsUnnamed}
use Rattle.hook_law.specs.Standing.{IsIn}
use Rattle.desk_pools.specs.OfNumbers.Numbers.{PoolNumbers}
use Rattle.root_pool_laws.specs.Blocks.{IsLeft}
use Rattle.root_pool_laws.proofs.Apart.{in_right}
use Rattle.desk_pools.specs.declared.pools.Pools.{Pools}
use Rattle.desk_pools.specs.Pools.{gone_roots, IsFreeAt, IsLeftAt}
use Rattle.desk_pools.specs.Steps.{MayLeave}
use Rattle.desk_pools.proofs.Several.{have_room}
use Rattle.desk_masks.proofs.resizes.refitting.fit.Goals as goal

pub leave_rows-requires : goal.leave_rows-requires
leave_rows-requires g c = let h = seen_by c.refit.new.writer.place in let b = base_of (sheet_of c.refit.new.writer.place) in let pools = c.args.pools.now in
    let p = c.refit.ensures.pools pools c.requires.pools c.requires.out in
    let may = subst (MayLeave ROWS (IsLeftAt h BUCKET_ROOTS ROW_BUCKETS) pools.rows) (sym c.left_rows.ensures) (c.refit.ensures.rows_leave pools c.requires.pools c.requires.out) in
    let room = have_room ROWS (IsFreeAt h b BUCKET_ROOTS ROW_BUCKETS) (IsLeftAt h BUCKET_ROOTS ROW_BUCKETS) pools.rows c.left_rows.result.now p.rows may in let size = c.requires.sizes.1 in record { room = omega (arith, room, size) }

pub leave_blocks-requires : goal.leave_blocks-requires
leave_blocks-requires g c = let h = seen_by c.refit.new.writer.place in let b = base_of (sheet_of c.refit.new.writer.place) in let pools = c.args.pools.now in let mid = c.leave_rows.new.self in
    let p = c.refit.ensures.pools pools c.requires.pools c.requires.out in
    let rows = subst (MayLeave ROWS (IsLeftAt h BUCKET_ROOTS ROW_BUCKETS) pools.rows) (sym c.left_rows.ensures) (c.refit.ensures.rows_leave pools c.requires.pools c.requires.out) in
    let q = c.leave_rows.ensures.pools h b p rows in
    let gone = λ (row : ℕ) (at : IsIn row c.refit.new.masks.left_rows). subst (IsIn row) (sym c.leave_rows.ensures.left) (in_right pools.rows.left c.left_rows.result.now row (subst (IsIn row) (sym c.left_rows.ensures) at)) in
    let blocks = subst (λ (n : PoolNumbers). MayLeave POOL_BLOCKS (IsLeft (gone_roots mid) h) n c.left_blocks.result.now) (sym (ap (λ (z : Pools). z.blocks) c.leave_rows.ensures.others))
    (subst (MayLeave POOL_BLOCKS (IsLeft (gone_roots mid) h) pools.blocks) (sym c.left_blocks.ensures) (c.refit.ensures.blocks_leave pools mid c.requires.pools c.requires.out gone)) in
    let room = have_room POOL_BLOCKS (IsUnnamed b h) (IsLeft (gone_roots mid) h) mid.blocks c.left_blocks.result.now q.blocks blocks in let size = c.requires.sizes.0 in
    let same = ap (λ (z : Pools). z.blocks.size) c.leave_rows.ensures.others in record { room = omega (arith, room, size, same) }

pub returns-clause-pools : goal.returns-clause-pools
returns-clause-pools g c = let h = seen_by c.refit.new.writer.place in let b = base_of (sheet_of c.refit.new.writer.place) in let pools = c.args.pools.now in let mid = c.leave_rows.new.self in
    let p = c.refit.ensures.pools pools c.requires.pools c.requires.out in
    let rows = subst (MayLeave ROWS (IsLeftAt h BUCKET_ROOTS ROW_BUCKETS) pools.rows) (sym c.left_rows.ensures) (c.refit.ensures.rows_leave pools c.requires.pools c.requires.out) in
    let q = c.leave_rows.ensures.pools h b p rows in
    let gone = λ (row : ℕ) (at : IsIn row c.refit.new.masks.left_rows). subst (IsIn row) (sym c.leave_rows.ensures.left) (in_right pools.rows.left c.left_rows.result.now row (subst (IsIn row) (sym c.left_rows.ensures) at)) in
    let blocks = subst (λ (n : PoolNumbers). MayLeave POOL_BLOCKS (IsLeft (gone_roots mid) h) n c.left_blocks.result.now) (sym (ap (λ (z : Pools). z.blocks) c.leave_rows.ensures.others))
    (subst (MayLeave POOL_BLOCKS (IsLeft (gone_roots mid) h) pools.blocks) (sym c.left_blocks.ensures) (c.refit.ensures.blocks_leave pools mid c.requires.pools c.requires.out gone)) in
    c.leave_blocks.ensures.pools h b q blocks
