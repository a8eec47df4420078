use Rattle.std.proofs.Common.{◌≡◌, ◌∙◌, ℕ, List, length, map, drop, get_or, slice_get, Option, Some, None, sym, ap, subst, arith}
use Rattle.std.specs.List.Sorted.{IsPermutation}
use Rattle.store_history.specs.History.{root_of}
use Rattle.pin_store.specs.Sheets.{base_of}
use Rattle.pin_store.specs.Calls.{seen_by, sheet_of}
use Rattle.pin_store.proofs.Sound.{base_low}
use Rattle.block_codec.specs.declared.filter.StoredFilter.{StoredFilter}
use Rattle.mask_table.specs.OfMirrors.Kept.{HasFilter}
use Rattle.mask_table.specs.OfMirrors.Lists.{kept_in}
use Rattle.mask_table.proofs.OfMirrors.Lasting.{kept_same}
use Rattle.mask_order.proofs.Buckets.{long_ordered}
use Rattle.mask_build.proofs.Aside.{free_rows_same}
use Rattle.mask_writer.proofs.Leaving.{all_old}
use Rattle.mask_writer.proofs.resizing.relay.Goals as goal

pub behind_first-filled-requires : goal.behind_first-filled-requires
behind_first-filled-requires g c = let w = c.requires.there in let shape = c.args.store.now.shape in let cells = (sheet_of c.args.writer.now.place).cells in
    let all = ap length (c.as_slice.ensures ∙ c.gather_mask.ensures.blocks w.0 shape cells (root_of (seen_by c.args.writer.now.place)) w.3 c.requires.kept) in omega arith

pub in_order-requires : goal.in_order-requires
in_order-requires g c = let w = c.requires.there in let shape = c.args.store.now.shape in let cells = (sheet_of c.args.writer.now.place).cells in let roots = root_of (seen_by c.args.writer.now.place) in
    record { kept = (w.0, shape, cells, roots, w.3, c.requires.kept, c.behind_first-filled.ensures ∙ ap (drop 1) (c.as_slice.ensures ∙ c.gather_mask.ensures.blocks w.0 shape cells roots w.3 c.requires.kept)) }

pub lay_copies-requires-clause-rows : goal.lay_copies-requires-clause-rows
lay_copies-requires-clause-rows g c = free_rows_same c.args.mirror.now c.clear_buckets.new.mirror c.args.mask.now.rows c.clear_buckets.ensures.masks c.requires.rows

pub lay_copies-requires-clause-from : goal.lay_copies-requires-clause-from
lay_copies-requires-clause-from g c = λ place b e.
    let w = c.requires.there in let mirror = c.args.mirror.now in let shape = c.args.store.now.shape in let old = sheet_of c.args.writer.now.place in let h = seen_by c.args.writer.now.place in
    let filled = c.behind_first-filled.ensures ∙ ap (drop 1) (c.as_slice.ensures ∙ c.gather_mask.ensures.blocks w.0 shape old.cells (root_of h) w.3 c.requires.kept) in
    let moved = subst (λ (bs : List ℕ). IsPermutation bs c.in_order.new.room) filled c.in_order.ensures.permutation in
    let there = subst (λ (bs : List ℕ). slice_get bs place ≡ Some b) c.as_slice-from.ensures e in
    subst (λ (fs : List (Option StoredFilter)). HasFilter fs b) (sym c.clear_buckets.ensures.dates.0)
    (all_old mirror shape old.cells h c.args.slot (base_of old) w.0 c.args.blocks.now w.3 c.requires.kept (base_low old c.args.writer.now.sound) c.requires.given c.in_order.new.room moved place b there).0

pub lay_copies-requires-clause-apart : goal.lay_copies-requires-clause-apart
lay_copies-requires-clause-apart g c = λ b among given.
    let w = c.requires.there in let mirror = c.args.mirror.now in let shape = c.args.store.now.shape in let old = sheet_of c.args.writer.now.place in let h = seen_by c.args.writer.now.place in
    let filled = c.behind_first-filled.ensures ∙ ap (drop 1) (c.as_slice.ensures ∙ c.gather_mask.ensures.blocks w.0 shape old.cells (root_of h) w.3 c.requires.kept) in
    let moved = subst (λ (bs : List ℕ). IsPermutation bs c.in_order.new.room) filled c.in_order.ensures.permutation in
    let there = subst (λ (bs : List ℕ). slice_get bs among.0 ≡ Some b) c.as_slice-from.ensures among.1 in
    (all_old mirror shape old.cells h c.args.slot (base_of old) w.0 c.args.blocks.now w.3 c.requires.kept (base_low old c.args.writer.now.sound) c.requires.given c.in_order.new.room moved among.0 b there).1 given

pub lay_copies-requires-clause-many : goal.lay_copies-requires-clause-many
lay_copies-requires-clause-many g c =
    let w = c.requires.there in let mirror = c.args.mirror.now in let shape = c.args.store.now.shape in let old = sheet_of c.args.writer.now.place in let h = seen_by c.args.writer.now.place in
    let all = ap length c.as_slice-from.ensures ∙ long_ordered mirror shape old.cells (root_of h) c.args.slot w.0 w.3 c.requires.kept w.1 w.2 w.4 c.in_order.new.room (c.in_order.ensures.order w.1 w.2 w.4) in
    let given = c.requires.many w.1 w.2 w.4 in omega arith

pub returns-clause-count : goal.returns-clause-count
returns-clause-count g c = λ last fs has.
    let w = c.requires.there in let mirror = c.args.mirror.now in let shape = c.args.store.now.shape in let old = sheet_of c.args.writer.now.place in let h = seen_by c.args.writer.now.place in
    ap length c.as_slice-from.ensures ∙ long_ordered mirror shape old.cells (root_of h) c.args.slot w.0 w.3 c.requires.kept last fs has c.in_order.new.room (c.in_order.ensures.order last fs has)

pub returns-clause-laid : goal.returns-clause-laid
returns-clause-laid g c = λ last fs has. let mirror = c.args.mirror.now in let d = c.clear_buckets.ensures.dates in let from = c.as_slice-from.result.now in
    c.lay_copies.ensures.laid has.dated (kept_same mirror c.clear_buckets.new.mirror from (λ k b e t. (get_or (d.1 t) b 0, get_or (d.0 t) b None))
    ∙ (ap (map (kept_in mirror)) c.as_slice-from.ensures ∙ c.in_order.ensures.order last fs has))
