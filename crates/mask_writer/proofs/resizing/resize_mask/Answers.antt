use Rattle.std.proofs.Common.{rules, ◌∙◌, ℕ, ◌+◌, ◌≤◌, List, ◌++◌, length, take, set, get_or, Some, refl, sym, ap, subst, arith}
use Rattle.std.proofs.lemmas.Option.{slice_get-get_or}
use Rattle.store_history.specs.declared.history.Commit.{Commit}
use Rattle.store_history.specs.History.{root_of}
use Rattle.store_history.specs.declared.places.TheConstants.{POOL_BLOCKS}
use Rattle.pin_store.specs.Sheets.{base_of}
use Rattle.pin_store.specs.Calls.{seen_by, sheet_of}
use Rattle.block_codec.specs.declared.mask.StoredMask.{StoredMask}
use Rattle.mask_table.specs.Buckets.{IsAmong}
use Rattle.mask_table.specs.OfMirrors.Given.{AreGiven, AreFreeRows}
use Rattle.mask_table.specs.OfMirrors.Lists.{age_of, Rises, HasFilters}
use Rattle.mask_table.specs.OfMirrors.Linked.{placed, raise_commits, resized}
use Rattle.mask_table.proofs.OfMirrors.Keeping.{same_base}
use Rattle.mask_order.proofs.Buckets.{long_dated}
use Rattle.mask_build.specs.Laid.{places, laid_in}
use Rattle.mask_build.proofs.Aside.{free_rows_same}
use Rattle.mask_build.proofs.Bringing.{few_given, laid_ready, laid_commits, filters_laid, dates_laid}
use Rattle.mask_writer.proofs.resizing.resize_mask.Goals as goal

pub relay-count-requires-clause-many : goal.relay-count-requires-clause-many
relay-count-requires-clause-many g c = λ last fs has. ap length c.as_slice-blocks.ensures ∙ c.requires.many last fs has

pub bounds-blocks-count : goal.bounds-blocks-count
bounds-blocks-count g c = let w = c.requires.there in let count = c.relay-count.ensures.count w.1 w.2 w.4 in let all = ap length c.as_slice-blocks.ensures ∙ c.requires.many w.1 w.2 w.4 in omega arith

pub raise-requires-clause-rows : goal.raise-requires-clause-rows
raise-requires-clause-rows g c = let w = c.requires.there in let rows = ap (λ (m : StoredMask). m.rows) (c.resized_mask-mask.ensures w.0 w.3) ∙ c.as_slice.ensures in
    subst (AreFreeRows c.relay-count.new.mirror) (sym rows) (free_rows_same c.args.mirror.now c.relay-count.new.mirror c.args.given.now.rows c.relay-count.ensures.masks c.requires.rows)

pub offset_bounds-blocks-count : goal.offset_bounds-blocks-count
offset_bounds-blocks-count g c = let w = c.requires.there in let count = c.relay-count.ensures.count w.1 w.2 w.4 in let all = c.requires.many w.1 w.2 w.4 in
    let few = few_given (base_of (sheet_of c.args.writer.now.place)) (seen_by c.args.writer.now.place) c.args.given.now.blocks c.requires.given in
    let low : c.relay-count.result ≤ POOL_BLOCKS = omega arith in search rules

pub raise-requires-clause-lawful : goal.raise-requires-clause-lawful
raise-requires-clause-lawful g c =
    let w = c.requires.there in let kept = w.0 in let last = w.1 in let fs = w.2 in let stands = w.3 in let has = w.4 in
    let mirror = c.args.mirror.now in let shape = c.args.store.now.shape in let old = sheet_of c.args.writer.now.place in let new = sheet_of c.relay-count.new.writer.place in let h = seen_by c.args.writer.now.place in
    let gs = c.args.given.now.blocks in let bs = c.as_slice-blocks.result.now in let bs_is = c.as_slice-blocks.ensures in let ds = has.dated in let r = c.relay-count.ensures in let mask = c.resized_mask-mask.result in
    let long = long_dated mirror shape old.cells (root_of h) c.args.slot kept stands c.requires.kept last fs has in
    let same = c.resized_mask-mask.ensures kept stands ∙ ap (resized kept.mask c.args.size) c.as_slice.ensures in
    let many = ap length bs_is ∙ c.requires.many last fs has in let count = r.count last fs has in
    let one = laid_commits {E = g.row.L-Entry.Denot} (resized kept.mask c.args.size c.args.given.now.rows) mask c.args.slot (get_or bs c.relay-count.result 0) c.args.stamp bs ds fs same has.filters
    ∙ (λ t. raise_commits c.args.slot (resized kept.mask c.args.size c.args.given.now.rows) (get_or (bs_is t) (count t) 0) (placed (bs_is t) fs) c.args.stamp) in (
      laid_in bs ds,
      laid_ready c.relay-count.new.mirror shape new.cells mask (base_of old) h bs ds (subst (AreGiven (base_of old) h) (sym bs_is) c.requires.given) (many ∙ ap (λ (n : ℕ). n + 1) (sym long)) (r.laid last fs has)
          mask (base_of new) c.relay-count.result (seen_by c.relay-count.new.writer.place) refl (same_base old new r.sheet) r.seen (count ∙ sym long),
      λ n. subst (g.L.Law.keeps (seen_by c.relay-count.new.writer.place ++ take n (raise_commits c.args.slot mask (get_or bs c.relay-count.result 0) (places (laid_in bs ds)) c.args.stamp))) (sym (same_base old new r.sheet))
          (subst (λ (cs : List (Commit g.row.L-Entry.Denot)). g.L.Law.keeps cs (base_of old)) (λ t. sym r.seen t ++ take n (sym one t)) (c.requires.lawful kept last fs n stands has)),
    )

pub returns-clause-seen : goal.returns-clause-seen
returns-clause-seen g c = λ kept last fs stands has.
    let mirror = c.args.mirror.now in let shape = c.args.store.now.shape in let old = sheet_of c.args.writer.now.place in let new = sheet_of c.relay-count.new.writer.place in let h = seen_by c.args.writer.now.place in
    let bs = c.as_slice-blocks.result.now in let bs_is = c.as_slice-blocks.ensures in let ds = has.dated in let r = c.relay-count.ensures in let mask = c.resized_mask-mask.result in
    let long = long_dated mirror shape old.cells (root_of h) c.args.slot kept stands c.requires.kept last fs has in
    let same = c.resized_mask-mask.ensures kept stands ∙ ap (resized kept.mask c.args.size) c.as_slice.ensures in
    let many = ap length bs_is ∙ c.requires.many last fs has in let count = r.count last fs has in
    let one = laid_commits {E = g.row.L-Entry.Denot} (resized kept.mask c.args.size c.args.given.now.rows) mask c.args.slot (get_or bs c.relay-count.result 0) c.args.stamp bs ds fs same has.filters
    ∙ (λ t. raise_commits c.args.slot (resized kept.mask c.args.size c.args.given.now.rows) (get_or (bs_is t) (count t) 0) (placed (bs_is t) fs) c.args.stamp) in
    c.raise.ensures.seen (laid_in bs ds)
    (laid_ready c.relay-count.new.mirror shape new.cells mask (base_of old) h bs ds (subst (AreGiven (base_of old) h) (sym bs_is) c.requires.given) (many ∙ ap (λ (n : ℕ). n + 1) (sym long)) (r.laid last fs has)
    mask (base_of new) c.relay-count.result (seen_by c.relay-count.new.writer.place) refl (same_base old new r.sheet) r.seen (count ∙ sym long))
    ∙ (λ t. r.seen t ++ one t)

pub returns-clause-others : goal.returns-clause-others
returns-clause-others g c = λ other apart low. let w = c.requires.there in let bs = c.as_slice-blocks.result.now in let count = c.relay-count.ensures.count w.1 w.2 w.4 in
    let all = ap length c.as_slice-blocks.ensures ∙ c.requires.many w.1 w.2 w.4 in
    let away : IsAmong other bs → ⊥ = subst (λ (xs : List ℕ). IsAmong other xs → ⊥) (sym c.as_slice-blocks.ensures) apart in
    let block = slice_get-get_or bs c.relay-count.result 0 (omega arith) in
    c.raise.ensures.others other (λ is. away (c.relay-count.result, block ∙ ap (λ (b : ℕ). Some b) (sym is))) low ∙ c.relay-count.ensures.others other away low

pub returns-clause-masks : goal.returns-clause-masks
returns-clause-masks g c = λ kept last fs stands has. let same = c.resized_mask-mask.ensures kept stands ∙ ap (resized kept.mask c.args.size) c.as_slice.ensures in let count = c.relay-count.ensures.count last fs has in
    c.raise.ensures.masks ∙ (λ t. set (c.relay-count.ensures.masks t) c.args.slot (Some (record { block = get_or (c.as_slice-blocks.ensures t) (count t) 0; mask = same t })))

pub returns-clause-list : goal.returns-clause-list
returns-clause-list g c = λ last fs has. let w = c.requires.there in let bs = c.as_slice-blocks.result.now in let ds = has.dated in
    let long = long_dated c.args.mirror.now c.args.store.now.shape (sheet_of c.args.writer.now.place).cells (root_of (seen_by c.args.writer.now.place)) c.args.slot w.0 w.3 c.requires.kept last fs has in
    let many = ap length c.as_slice-blocks.ensures ∙ c.requires.many last fs has in
    subst (HasFilters c.raise.new.mirror c.args.slot last) (filters_laid bs ds (omega arith) ∙ has.filters)
    (c.raise.ensures.list last (laid_in bs ds) (c.relay-count.ensures.laid last fs has) (subst (Rises 0 (age_of (last + 1) 0)) (sym (dates_laid bs ds (omega arith))) has.rise))
