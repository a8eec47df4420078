use Rattle.std.proofs.Common.{◌∙◌, ℕ, List, length, take, get_or, Some, refl, sym, ap, subst, arith}
use Rattle.std.proofs.lemmas.Option.{slice_get-get_or, slice_get_read}
use Rattle.store_history.specs.declared.history.Commit.{Commit}
use Rattle.pin_store.specs.Sheets.{base_of}
use Rattle.pin_store.specs.Calls.{seen_by, sheet_of, IsUnnamed}
use Rattle.std.proofs.lemmas.List.{take_all}
use Rattle.mask_table.specs.OfMirrors.Lists.{Dated}
use Rattle.mask_table.proofs.OfMirrors.Keeping.{same_base}
use Rattle.mask_build.specs.Laid.{laid_in, dated_by, IsLaid}
use Rattle.mask_build.proofs.Aside.{free_rows_same}
use Rattle.mask_build.proofs.Bringing.{few_given, laid_first, laid_next, laid_apart, brought_long, brought_at}
use Rattle.mask_build.proofs.laying.lay_all.Goals as goal

pub loop-place-init : goal.loop-place-init
loop-place-init g c = record {
  store = c.requires.store;
  seen = refl;
  sheet = record { epoch = refl; starts = refl; quiet = refl; notes = refl; made = refl };
  others = λ other apart less. refl;
  slots = refl;
  laid = subst (IsLaid c.args.mirror.now c.args.store.now.shape (sheet_of c.args.writer.now.place).cells c.args.mask.now) (sym (laid_first c.args.blocks.now)) c.requires.empty;
  kept = c.requires.kept;
  lists = λ slot last fs has. has;
}

pub age_at-age-requires : goal.age_at-age-requires
age_at-age-requires g c = let few = few_given (base_of (sheet_of c.args.writer.now.place)) (seen_by c.args.writer.now.place) c.args.blocks.now c.requires.given in let less = c.loop-place-test.true in let many = c.requires.many in omega arith

pub lay-requires-clause-rows : goal.lay-requires-clause-rows
lay-requires-clause-rows g c = free_rows_same c.args.mirror.now c.loop-place.mirror c.args.mask.now.rows c.loop-place.invariant.slots c.requires.rows

pub lay-requires-clause-block : goal.lay-requires-clause-block
lay-requires-clause-block g c = let less = c.loop-place-test.true in let many = c.requires.many in
    c.requires.given.pool c.loop-place.place (get_or c.args.blocks.now c.loop-place.place 0) (slice_get-get_or c.args.blocks.now c.loop-place.place 0 (omega arith))

pub lay-requires-clause-free : goal.lay-requires-clause-free
lay-requires-clause-free g c = let less = c.loop-place-test.true in let many = c.requires.many in let i = c.loop-place.invariant in let old = sheet_of c.args.writer.now.place in let b = get_or c.args.blocks.now c.loop-place.place 0 in
    subst (λ (base : ℕ). IsUnnamed base (seen_by c.loop-place.writer.place) b) (sym (same_base old (sheet_of c.loop-place.writer.place) i.sheet))
    (subst (λ (h : List (Commit g.row.L-Entry.Denot)). IsUnnamed (base_of old) h b) (sym i.seen) (c.requires.given.free c.loop-place.place b (slice_get-get_or c.args.blocks.now c.loop-place.place 0 (omega arith))))

pub loop-place-preserved : goal.loop-place-preserved
loop-place-preserved g c =
    let i = c.loop-place.invariant in let l = c.lay.ensures in let k = c.loop-place.place in let bs = c.args.blocks.now in let fs = c.args.filters.now in let f = c.index-filters-place.result in
    let less = c.loop-place-test.true in let many = c.requires.many in let s = i.sheet in let t = l.sheet in
    let block = slice_get-get_or bs k 0 (omega arith) in
    let ds = dated_by c.args.edit 0 fs in let long = brought_long c.args.edit 0 fs in
    let filter = slice_get_read fs (length fs) k f refl less c.index-filters-place.is in
    record {
      store = l.store;
      seen = l.seen ∙ i.seen;
      sheet = record { epoch = t.epoch ∙ s.epoch; starts = t.starts ∙ s.starts; quiet = t.quiet ∙ s.quiet; notes = t.notes ∙ s.notes; made = t.made ∙ s.made };
      others = λ other apart low. l.others other (λ is. apart (k, block ∙ ap (λ (b : ℕ). Some b) (sym is))) low ∙ i.others other apart low;
      slots = l.masks ∙ i.slots;
      laid = subst (IsLaid c.lay.new.mirror c.args.store.now.shape (sheet_of c.lay.new.writer.place).cells c.args.mask.now)
          (laid_next k (get_or bs k 0) (record { age = c.age_at-age.result; filter = f }) bs ds block (brought_at c.args.edit k c.age_at-age.result f fs filter c.age_at-age.ensures))
          (l.laid (laid_in bs (take k ds)) (laid_apart k (get_or bs k 0) bs ds c.requires.given.different block (omega arith)) i.laid);
      kept = l.kept;
      lists = λ slot last gs has. l.lists slot last gs (i.lists slot last gs has);
    }

pub returns-clause-laid : goal.returns-clause-laid
returns-clause-laid g c = let bs = c.args.blocks.now in let ds = dated_by c.args.edit 0 c.args.filters.now in let long = brought_long c.args.edit 0 c.args.filters.now in let over = c.loop-place-test.false in
    subst (λ (gs : List Dated). IsLaid c.loop-place.mirror c.args.store.now.shape (sheet_of c.loop-place.writer.place).cells c.args.mask.now (laid_in bs gs)) (take_all c.loop-place.place ds (omega arith)) c.loop-place.invariant.laid
