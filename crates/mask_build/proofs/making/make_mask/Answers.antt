use Rattle.std.proofs.Common.{◌∙◌, ℕ, ◌+◌, List, ◌++◌, length, take, get_or, Some, sym, ap, subst, arith}
use Rattle.std.proofs.lemmas.Option.{slice_get-get_or}
use Rattle.store_history.specs.declared.history.Commit.{Commit}
use Rattle.pin_store.specs.Sheets.{base_of}
use Rattle.pin_store.specs.Calls.{seen_by, sheet_of}
use Rattle.block_codec.specs.declared.mask.StoredMask.{StoredMask}
use Rattle.mask_table.specs.OfMirrors.Linked.{raise_commits}
use Rattle.mask_table.specs.OfMirrors.Lists.{age_of, Rises, HasFilters}
use Rattle.mask_table.specs.OfMirrors.Given.{AreFreeRows}
use Rattle.mask_table.proofs.OfMirrors.Dates.{rises_lower}
use Rattle.mask_table.proofs.OfMirrors.Keeping.{same_base}
use Rattle.mask_build.specs.Laid.{places, laid_in, dated_by, IsLaid}
use Rattle.mask_build.proofs.Aside.{free_rows_same}
use Rattle.mask_build.proofs.Bringing.{few_given, laid_ready, laid_commits, filters_laid, dates_laid, brought_filters, brought_long, brought_rise}
use Rattle.mask_build.proofs.making.make_mask.Goals as goal

pub lay_all-requires-clause-rows : goal.lay_all-requires-clause-rows
lay_all-requires-clause-rows g c = free_rows_same c.args.mirror.now c.clear_buckets.new.mirror c.args.mask.now.rows c.clear_buckets.ensures.masks c.requires.rows

pub raise-requires-clause-rows : goal.raise-requires-clause-rows
raise-requires-clause-rows g c = subst (λ (m : StoredMask). AreFreeRows c.lay_all.new.mirror m.rows) (sym c.copy_of_mask-copy.ensures)
    (free_rows_same c.args.mirror.now c.lay_all.new.mirror c.args.mask.now.rows (c.lay_all.ensures.masks ∙ c.clear_buckets.ensures.masks) c.requires.rows)

pub raise-requires-clause-lawful : goal.raise-requires-clause-lawful
raise-requires-clause-lawful g c =
    let mask = c.args.mask.now in let edit = c.args.edit in let bs = c.args.blocks.now in let fs = c.args.filters.now in let ds = dated_by edit 0 fs in let long = brought_long edit 0 fs in let many = c.requires.many in let l = c.lay_all.ensures in let b = get_or bs (length fs) 0 in let h = seen_by c.args.writer.now.place in
    let shape = c.args.store.now.shape in let old = sheet_of c.args.writer.now.place in let new = sheet_of c.lay_all.new.writer.place in let copy = c.copy_of_mask-copy.result in let same = c.copy_of_mask-copy.ensures in (
      laid_in bs ds,
      laid_ready c.lay_all.new.mirror shape new.cells mask (base_of old) h bs ds c.requires.given (omega (arith, many)) l.laid copy (base_of new) (length fs) (seen_by c.lay_all.new.writer.place) same (same_base old new l.sheet) l.seen (sym long),
      λ n. subst (g.L.Law.keeps (seen_by c.lay_all.new.writer.place ++ take n (raise_commits c.args.slot copy b (places (laid_in bs ds)) edit))) (sym (same_base old new l.sheet))
          (subst (λ (cs : List (Commit g.row.L-Entry.Denot)). g.L.Law.keeps cs (base_of old))
          (λ t. sym l.seen t ++ take n (sym (laid_commits {E = g.row.L-Entry.Denot} mask copy c.args.slot b edit bs ds fs same (brought_filters edit 0 fs)) t))
          (c.requires.lawful n)),
    )

pub returns-clause-seen : goal.returns-clause-seen
returns-clause-seen g c =
    let mask = c.args.mask.now in let edit = c.args.edit in let bs = c.args.blocks.now in let fs = c.args.filters.now in let ds = dated_by edit 0 fs in let long = brought_long edit 0 fs in let many = c.requires.many in let l = c.lay_all.ensures in let b = get_or bs (length fs) 0 in let h = seen_by c.args.writer.now.place in
    let shape = c.args.store.now.shape in let old = sheet_of c.args.writer.now.place in let new = sheet_of c.lay_all.new.writer.place in let copy = c.copy_of_mask-copy.result in let same = c.copy_of_mask-copy.ensures in
    c.raise.ensures.seen (laid_in bs ds)
    (laid_ready c.lay_all.new.mirror shape new.cells mask (base_of old) h bs ds c.requires.given (omega (arith, many)) l.laid copy (base_of new) (length fs) (seen_by c.lay_all.new.writer.place) same (same_base old new l.sheet) l.seen (sym long))
    ∙ (λ t. l.seen t ++ laid_commits mask copy c.args.slot b edit bs ds fs same (brought_filters edit 0 fs) t)

pub returns-clause-others : goal.returns-clause-others
returns-clause-others g c = λ other apart less. let many = c.requires.many in let n = length c.args.filters.now in
    let last = slice_get-get_or c.args.blocks.now n 0 (omega arith) in
    c.raise.ensures.others other (λ is. apart (n, last ∙ ap (λ (b : ℕ). Some b) (sym is))) less ∙ c.lay_all.ensures.others other apart less

pub returns-clause-list : goal.returns-clause-list
returns-clause-list g c = let edit = c.args.edit in let bs = c.args.blocks.now in let fs = c.args.filters.now in let ds = dated_by edit 0 fs in let long = brought_long edit 0 fs in let many = c.requires.many in
    let few = few_given (base_of (sheet_of c.args.writer.now.place)) (seen_by c.args.writer.now.place) bs c.requires.given in
    let laid = subst (λ (m : StoredMask). IsLaid c.lay_all.new.mirror c.args.store.now.shape (sheet_of c.lay_all.new.writer.place).cells m (laid_in bs ds)) (sym c.copy_of_mask-copy.ensures) c.lay_all.ensures.laid in
    subst (HasFilters c.raise.new.mirror c.args.slot edit) (filters_laid bs ds (omega arith) ∙ brought_filters edit 0 fs)
    (c.raise.ensures.list edit (laid_in bs ds) laid (subst (Rises 0 (age_of (edit + 1) 0)) (sym (dates_laid bs ds (omega arith))) (rises_lower (age_of edit 0) 0 (age_of (edit + 1) 0) ds (omega arith) (brought_rise edit 0 fs (omega arith)))))
