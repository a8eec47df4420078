use Rattle.std.proofs.Common.{◌≡◌, ◌∙◌, ℕ, ◌+◌, ◌*◌, ◌<◌, ◌≤◌, List, [], ◌∷◌, ◌++◌, length, slice_get, Some, ap, sym, subst, arith, le_refl}
use Rattle.store_history.specs.declared.history.Commit.{Commit}
use Rattle.store_history.specs.declared.places.TheConstants.{MASK_SLOTS, ACTION_SLOTS, ROWS, ROW_BUCKETS, MASK_ROOTS, ACTION_ROOTS, BUCKET_ROOTS}
use Rattle.filter_state.specs.declared.edit.Edit.{Edit}
use Rattle.pin_store.specs.declared.view.Sheet.{Sheet}
use Rattle.pin_store.specs.Calls.{seen_by, sheet_of}
use Rattle.pin_store.specs.Sheets.{base_of}
use Rattle.hook_law.specs.Meaning.{point_of}
use Rattle.hook_law.specs.Keeping.{Keeps}
use Rattle.hook_store_law.specs.Stated.{hook_meaning}
use Rattle.hook_store_law.specs.Blocks.{hook_codec}
use Rattle.desk_pools.specs.declared.pools.Pools.{Pools}
use Rattle.desk_pools.specs.Pools.{roots_of, gone_roots, IsFreeAt, IsLeftAt, ArePools}
use Rattle.desk_pools.specs.OfTidying.Tidied.{emptying}
use Rattle.desk_pools.proofs.OfTidying.Freed.{part_kept, part_free, masks_unused, two_unused, left_small, two_seen, gone_emptied, gone_unused_roots}
use Rattle.desk_pools.proofs.tidying.tidying.empty_gone.Goals as goal

-- a place of a slice that was lent of a list
lent : (slice list : List ℕ) (place x : ℕ) → slice ≡ list → slice_get slice place ≡ Some x → slice_get list place ≡ Some x
lent slice list place x same e = sym (ap (λ (l : List ℕ). slice_get l place) same) ∙ e

-- what the three calls made, one behind the other
first_seen : (h g : List (Commit Edit)) (point : ℕ) (slice list : List ℕ) (first width : ℕ) → slice ≡ list → g ≡ h ++ emptying point (roots_of first width slice) → g ≡ h ++ emptying point (roots_of first width list)
first_seen h g point slice list first width same e = e ∙ ap (λ (l : List ℕ). h ++ emptying point (roots_of first width l)) same

pub empty_each-requires-clause-within : goal.empty_each-requires-clause-within
empty_each-requires-clause-within c = λ place number e. let p = c.requires.pools.masks in let m = c.args.pools.now.masks in
    let small = left_small MASK_SLOTS _ _ m.free m.left p place number (lent c.gone.result.now m.left place number c.gone.ensures e) in let shape = c.requires.shape.0 in omega (arith, small, shape)

pub empty_each-requires-2-clause-within : goal.empty_each-requires-2-clause-within
empty_each-requires-2-clause-within c = λ place number e. let p = c.requires.pools.actions in let m = c.args.pools.now.actions in
    let small = left_small ACTION_SLOTS _ _ m.free m.left p place number (lent c.gone-2.result.now m.left place number c.gone-2.ensures e) in let shape = c.requires.shape.0 in omega (arith, small, shape)

pub empty_each-requires-3-clause-within : goal.empty_each-requires-3-clause-within
empty_each-requires-3-clause-within c = λ place number e. let p = c.requires.pools.rows in let m = c.args.pools.now.rows in
    let small = left_small ROWS _ _ m.free m.left p place number (lent c.gone-3.result.now m.left place number c.gone-3.ensures e) in let shape = c.requires.shape.0 in omega (arith, small, shape)

pub empty_each-requires-2-clause-lawful : goal.empty_each-requires-2-clause-lawful
empty_each-requires-2-clause-lawful c = let p = c.args.writer.now.place in let h = seen_by p in let b = base_of (sheet_of p) in let old = c.args.pools.now in
    let seen = first_seen h (seen_by c.empty_each.new.writer.place) c.args.point c.gone.result.now old.masks.left MASK_ROOTS 1 c.gone.ensures c.empty_each.ensures.seen in
    part_kept old h b c.args.point c.requires.lawful c.requires.quiet c.requires.pools (roots_of MASK_ROOTS 1 old.masks.left)
    (masks_unused old h b c.args.point c.requires.lawful c.requires.quiet c.requires.pools)
    (seen_by c.empty_each.new.writer.place) (base_of (sheet_of c.empty_each.new.writer.place)) seen (ap base_of c.empty_each.ensures.sheet)

pub empty_each-requires-2-clause-unused : goal.empty_each-requires-2-clause-unused
empty_each-requires-2-clause-unused c = λ place number e. let p = c.args.writer.now.place in let h = seen_by p in let b = base_of (sheet_of p) in let old = c.args.pools.now in
    let seen = first_seen h (seen_by c.empty_each.new.writer.place) c.args.point c.gone.result.now old.masks.left MASK_ROOTS 1 c.gone.ensures c.empty_each.ensures.seen in
    part_free old h b c.args.point c.requires.lawful c.requires.quiet c.requires.pools (roots_of MASK_ROOTS 1 old.masks.left)
    (masks_unused old h b c.args.point c.requires.lawful c.requires.quiet c.requires.pools)
    (seen_by c.empty_each.new.writer.place) (base_of (sheet_of c.empty_each.new.writer.place)) seen (ap base_of c.empty_each.ensures.sheet) ACTION_ROOTS 1 number
    (c.requires.pools.actions.have_left place number (lent c.gone-2.result.now old.actions.left place number c.gone-2.ensures e))

pub empty_each-requires-3-clause-lawful : goal.empty_each-requires-3-clause-lawful
empty_each-requires-3-clause-lawful c = let p = c.args.writer.now.place in let h = seen_by p in let b = base_of (sheet_of p) in let old = c.args.pools.now in
    let g = seen_by c.empty_each.new.writer.place in let k = seen_by c.empty_each-2.new.writer.place in
    let one = first_seen h g c.args.point c.gone.result.now old.masks.left MASK_ROOTS 1 c.gone.ensures c.empty_each.ensures.seen in
    let two = two_seen h g k c.args.point (roots_of MASK_ROOTS 1 old.masks.left) (roots_of ACTION_ROOTS 1 old.actions.left) one (first_seen g k c.args.point c.gone-2.result.now old.actions.left ACTION_ROOTS 1 c.gone-2.ensures c.empty_each-2.ensures.seen) in
    part_kept old h b c.args.point c.requires.lawful c.requires.quiet c.requires.pools (roots_of MASK_ROOTS 1 old.masks.left ++ roots_of ACTION_ROOTS 1 old.actions.left)
    (two_unused old h b c.args.point c.requires.lawful c.requires.quiet c.requires.pools)
    k (base_of (sheet_of c.empty_each-2.new.writer.place)) two (ap base_of (c.empty_each-2.ensures.sheet ∙ c.empty_each.ensures.sheet))

pub empty_each-requires-3-clause-unused : goal.empty_each-requires-3-clause-unused
empty_each-requires-3-clause-unused c = λ place number e. let p = c.args.writer.now.place in let h = seen_by p in let b = base_of (sheet_of p) in let old = c.args.pools.now in
    let g = seen_by c.empty_each.new.writer.place in let k = seen_by c.empty_each-2.new.writer.place in
    let one = first_seen h g c.args.point c.gone.result.now old.masks.left MASK_ROOTS 1 c.gone.ensures c.empty_each.ensures.seen in
    let two = two_seen h g k c.args.point (roots_of MASK_ROOTS 1 old.masks.left) (roots_of ACTION_ROOTS 1 old.actions.left) one (first_seen g k c.args.point c.gone-2.result.now old.actions.left ACTION_ROOTS 1 c.gone-2.ensures c.empty_each-2.ensures.seen) in
    part_free old h b c.args.point c.requires.lawful c.requires.quiet c.requires.pools (roots_of MASK_ROOTS 1 old.masks.left ++ roots_of ACTION_ROOTS 1 old.actions.left)
    (two_unused old h b c.args.point c.requires.lawful c.requires.quiet c.requires.pools)
    k (base_of (sheet_of c.empty_each-2.new.writer.place)) two (ap base_of (c.empty_each-2.ensures.sheet ∙ c.empty_each.ensures.sheet)) BUCKET_ROOTS ROW_BUCKETS number
    (c.requires.pools.rows.have_left place number (lent c.gone-3.result.now old.rows.left place number c.gone-3.ensures e))

pub returns-clause-seen : goal.returns-clause-seen
returns-clause-seen c = let h = seen_by c.args.writer.now.place in let old = c.args.pools.now in
    let g = seen_by c.empty_each.new.writer.place in let k = seen_by c.empty_each-2.new.writer.place in let m = seen_by c.empty_each-3.new.writer.place in
    let one = first_seen h g c.args.point c.gone.result.now old.masks.left MASK_ROOTS 1 c.gone.ensures c.empty_each.ensures.seen in
    let two = two_seen h g k c.args.point (roots_of MASK_ROOTS 1 old.masks.left) (roots_of ACTION_ROOTS 1 old.actions.left) one (first_seen g k c.args.point c.gone-2.result.now old.actions.left ACTION_ROOTS 1 c.gone-2.ensures c.empty_each-2.ensures.seen) in
    two_seen h k m c.args.point (roots_of MASK_ROOTS 1 old.masks.left ++ roots_of ACTION_ROOTS 1 old.actions.left) (roots_of BUCKET_ROOTS ROW_BUCKETS old.rows.left) two
    (first_seen k m c.args.point c.gone-3.result.now old.rows.left BUCKET_ROOTS ROW_BUCKETS c.gone-3.ensures c.empty_each-3.ensures.seen)
