use Rattle.std.proofs.Common.{◌∙◌, ℕ, ◌<◌, List, length, take, get_or, Option, Some, refl, sym, ap, subst, arith}
use Rattle.std.proofs.lemmas.List.{take_all, length-map, get_or_default}
use Rattle.std.proofs.lemmas.Option.{slice_get-get_or}
use Rattle.store_history.specs.declared.history.Commit.{Commit}
use Rattle.pin_store.specs.Sheets.{base_of}
use Rattle.pin_store.specs.Calls.{seen_by, sheet_of, IsUnnamed}
use Rattle.block_codec.specs.declared.filter.StoredFilter.{StoredFilter}
use Rattle.block_codec.specs.Filters.{IsStorableFilter}
use Rattle.mask_table.specs.OfMirrors.Lists.{Dated, kept_in, kept_as}
use Rattle.mask_table.proofs.OfMirrors.Keeping.{same_base}
use Rattle.mask_build.specs.Laid.{laid_in, IsLaid}
use Rattle.mask_build.proofs.Aside.{free_rows_same}
use Rattle.store_history.proofs.Lists.{some_is}
use Rattle.mask_build.proofs.Bringing.{laid_first, laid_next, laid_apart, dated_at}
use Rattle.mask_build.proofs.relaying.lay_copies.Goals as goal

pub loop-place-init : goal.loop-place-init
loop-place-init g c = record {
  store = c.requires.store;
  seen = refl;
  sheet = record { epoch = refl; starts = refl; quiet = refl; notes = refl; made = refl };
  others = λ other apart less. refl;
  slots = refl;
  dated = λ k apart. refl;
  laid = λ dated are. subst (IsLaid c.args.mirror.now c.args.store.now.shape (sheet_of c.args.writer.now.place).cells c.args.mask.now) (sym (laid_first c.args.blocks.now)) c.requires.empty;
  kept = c.requires.kept;
  lists = λ slot last fs has. has;
}

pub kept_filter-filter-requires : goal.kept_filter-filter-requires
kept_filter-filter-requires g c = let k = c.loop-place.place in let b = get_or c.args.from.now k 0 in let there = slice_get-get_or c.args.from.now k 0 c.loop-place-test.true in
    let w = c.requires.from k b there in let same = c.loop-place.invariant.dated b (c.requires.apart b (k, there)) in
    record { pool = w.pool; filter = w.filter; kept = ap (λ (p : ℕ × Option StoredFilter). p.1) same ∙ w.kept; storable = w.storable }

pub lay-requires-clause-rows : goal.lay-requires-clause-rows
lay-requires-clause-rows g c = free_rows_same c.args.mirror.now c.loop-place.mirror c.args.mask.now.rows c.loop-place.invariant.slots c.requires.rows

pub lay-requires-clause-block : goal.lay-requires-clause-block
lay-requires-clause-block g c = let less = c.loop-place-test.true in let many = c.requires.many in
    c.requires.given.pool c.loop-place.place (get_or c.args.blocks.now c.loop-place.place 0) (slice_get-get_or c.args.blocks.now c.loop-place.place 0 (omega arith))

pub lay-requires-clause-storable : goal.lay-requires-clause-storable
lay-requires-clause-storable g c = let k = c.loop-place.place in let b = get_or c.args.from.now k 0 in let there = slice_get-get_or c.args.from.now k 0 c.loop-place-test.true in
    let w = c.requires.from k b there in let same = c.loop-place.invariant.dated b (c.requires.apart b (k, there)) in
    subst IsStorableFilter (some_is w.filter c.kept_filter-filter.result (sym w.kept ∙ (sym (ap (λ (p : ℕ × Option StoredFilter). p.1) same) ∙ c.kept_filter-filter.ensures))) w.storable

pub lay-requires-clause-free : goal.lay-requires-clause-free
lay-requires-clause-free g c = let less = c.loop-place-test.true in let many = c.requires.many in let i = c.loop-place.invariant in let old = sheet_of c.args.writer.now.place in let b = get_or c.args.blocks.now c.loop-place.place 0 in
    subst (λ (base : ℕ). IsUnnamed base (seen_by c.loop-place.writer.place) b) (sym (same_base old (sheet_of c.loop-place.writer.place) i.sheet))
    (subst (λ (h : List (Commit g.row.L-Entry.Denot)). IsUnnamed (base_of old) h b) (sym i.seen) (c.requires.given.free c.loop-place.place b (slice_get-get_or c.args.blocks.now c.loop-place.place 0 (omega arith))))

pub loop-place-preserved : goal.loop-place-preserved
loop-place-preserved g c =
    let i = c.loop-place.invariant in let l = c.lay.ensures in let k = c.loop-place.place in let bs = c.args.blocks.now in
    let less = c.loop-place-test.true in let many = c.requires.many in let s = i.sheet in let t = l.sheet in
    let block = slice_get-get_or bs k 0 (omega arith) in let b = get_or c.args.from.now k 0 in let there = slice_get-get_or c.args.from.now k 0 less in
    let same = i.dated b (c.requires.apart b (k, there)) in
    let inside : b < length c.loop-place.mirror.ages.items = (let all = c.loop-place.mirror.ages_long in let low = (c.requires.from k b there).pool in omega arith) in
    let age = c.index-age.ensures ∙ get_or_default c.loop-place.mirror.ages.items b c.index-age.result.now 0 inside in
    record {
      store = l.store;
      seen = l.seen ∙ i.seen;
      sheet = record { epoch = t.epoch ∙ s.epoch; starts = t.starts ∙ s.starts; quiet = t.quiet ∙ s.quiet; notes = t.notes ∙ s.notes; made = t.made ∙ s.made };
      others = λ other apart low. l.others other (λ is. apart (k, block ∙ ap (λ (c : ℕ). Some c) (sym is))) low ∙ i.others other apart low;
      slots = l.masks ∙ i.slots;
      dated = λ other apart. l.dated other (λ is. apart (k, block ∙ ap (λ (c : ℕ). Some c) (sym is))) ∙ i.dated other apart;
      laid = λ dated are. let long = length-map c.args.from.now (kept_in c.args.mirror.now) in let all = length-map dated kept_as in let as_long = ap length are in
          subst (IsLaid c.lay.new.mirror c.args.store.now.shape (sheet_of c.lay.new.writer.place).cells c.args.mask.now)
          (laid_next k (get_or bs k 0) (record { age = c.index-age.result.now; filter = c.kept_filter-filter.result }) bs dated block
          (dated_at (kept_in c.args.mirror.now) c.args.from.now dated k b c.index-age.result.now c.kept_filter-filter.result are there
          (sym same ∙ (λ t. (sym age t, c.kept_filter-filter.ensures t)))))
          (l.laid (laid_in bs (take k dated)) (laid_apart k (get_or bs k 0) bs dated c.requires.given.different block (omega arith)) (i.laid dated are));
      kept = l.kept;
      lists = λ slot last gs has. l.lists slot last gs (i.lists slot last gs has);
    }

pub returns-clause-laid : goal.returns-clause-laid
returns-clause-laid g c = λ dated are. let over = c.loop-place-test.false in let long = length-map c.args.from.now (kept_in c.args.mirror.now) in let all = length-map dated kept_as in let as_long = ap length are in
    subst (λ (gs : List Dated). IsLaid c.loop-place.mirror c.args.store.now.shape (sheet_of c.loop-place.writer.place).cells c.args.mask.now (laid_in c.args.blocks.now gs)) (take_all c.loop-place.place dated (omega arith))
    (c.loop-place.invariant.laid dated are)
