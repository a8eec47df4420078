use Rattle.std.proofs.Common.{◌∙◌, ℕ, List, get_or, Option, Some, None, sym, ap, subst, arith, get_or-set_same}
use Rattle.store_history.specs.declared.history.Commit.{Commit}
use Rattle.store_history.specs.History.{root_of}
use Rattle.pin_store.specs.Sheets.{base_of}
use Rattle.pin_store.specs.Calls.{seen_by, sheet_of}
use Rattle.pin_store.proofs.Sound.{base_low}
use Rattle.pin_store.specs.Layout.{block_words}
use Rattle.block_codec.specs.Filters.{IsFilterBlock}
use Rattle.block_codec.specs.declared.filter.StoredFilter.{StoredFilter}
use Rattle.mask_table.specs.OfMirrors.Kept.{IsKept}
use Rattle.mask_table.proofs.OfMirrors.Keeping.{unnamed_now, filled_by, kept_filled, chain_more}
use Rattle.mask_table.proofs.OfMirrors.Lasting.{lists_filled}
use Rattle.mask_table.proofs.mirrors.putting.put_in_front.Goals as goal

pub returns-clause-filled : goal.returns-clause-filled
returns-clause-filled g c = let k = c.keep.ensures in
    filled_by c.args.mirror.now c.keep.new.self c.args.store.now.shape (sheet_of c.args.writer.now.place).cells (sheet_of c.fill.new.self.place).cells c.args.block c.args.number c.args.age (Some c.copy_of.result)
    c.requires.shape.1 c.fill.ensures.others k.slots k.first k.next k.filters k.ages

pub returns-clause-kept : goal.returns-clause-kept
returns-clause-kept g c = let k = c.keep.ensures in let h = seen_by c.args.writer.now.place in let old = sheet_of c.args.writer.now.place in
    let mirror = c.args.mirror.now in let shape = c.args.store.now.shape in let new = (sheet_of c.fill.new.self.place).cells in
    let filled = filled_by mirror c.keep.new.self shape old.cells new c.args.block c.args.number c.args.age (Some c.copy_of.result) c.requires.shape.1 c.fill.ensures.others k.slots k.first k.next k.filters k.ages in
    let free = unnamed_now (base_of old) h c.args.block (base_low old c.args.writer.now.sound) c.requires.free in
    subst (λ (more : List (Commit g.row.L-Entry.Denot)). IsKept c.keep.new.self shape new (root_of more)) (sym c.fill.ensures.seen)
    (kept_filled mirror c.keep.new.self shape old.cells new c.args.block filled (root_of h) free c.requires.kept)

pub returns-clause-chain : goal.returns-clause-chain
returns-clause-chain g c = λ size blocks apart s. let k = c.keep.ensures in let f = c.fill.ensures in
    let words = subst (λ (words : List ℕ). IsFilterBlock words (c.args.filter.now, c.block_in.result)) (sym f.block) c.write_filter.ensures in let old = sheet_of c.args.writer.now.place in
    let mirror = c.args.mirror.now in let shape = c.args.store.now.shape in let new = (sheet_of c.fill.new.self.place).cells in let b = c.args.block in let pool = c.requires.block in
    let filled = filled_by mirror c.keep.new.self shape old.cells new b c.args.number c.args.age (Some c.copy_of.result) c.requires.shape.1 f.others k.slots k.first k.next k.filters k.ages in
    let next_long = mirror.next_long in let filters_long = mirror.filters_long in
    let next = ap (λ (xs : List ℕ). get_or xs b 0) k.next ∙ get_or-set_same mirror.next.items b c.args.number 0 (omega arith) in
    let kept = ap (λ (xs : List (Option StoredFilter)). get_or xs b None) k.filters ∙ (get_or-set_same mirror.filters.items b (Some c.copy_of.result) None (omega arith) ∙ ap (λ (x : StoredFilter). Some x) c.copy_of.ensures) in
    chain_more mirror c.keep.new.self shape old.cells new b filled size c.args.number blocks c.args.filter.now pool apart next kept (subst (λ (o : Option ℕ). IsFilterBlock (block_words shape new b) (c.args.filter.now, o)) c.block_in.ensures words) s

pub returns-clause-dated : goal.returns-clause-dated
returns-clause-dated g c = let k = c.keep.ensures in let mirror = c.args.mirror.now in let b = c.args.block in let pool = c.requires.block in
    let ages_long = mirror.ages_long in let filters_long = mirror.filters_long in
    let age = ap (λ (xs : List ℕ). get_or xs b 0) k.ages ∙ get_or-set_same mirror.ages.items b c.args.age 0 (omega arith) in
    let filter = ap (λ (xs : List (Option StoredFilter)). get_or xs b None) k.filters ∙ (get_or-set_same mirror.filters.items b (Some c.copy_of.result) None (omega arith) ∙ ap (λ (x : StoredFilter). Some x) c.copy_of.ensures) in
    λ t. (age t, filter t)

pub returns-clause-lists : goal.returns-clause-lists
returns-clause-lists g c = λ slot last fs has. let k = c.keep.ensures in let h = seen_by c.args.writer.now.place in let old = sheet_of c.args.writer.now.place in
    let mirror = c.args.mirror.now in let shape = c.args.store.now.shape in let new = (sheet_of c.fill.new.self.place).cells in
    let filled = filled_by mirror c.keep.new.self shape old.cells new c.args.block c.args.number c.args.age (Some c.copy_of.result) c.requires.shape.1 c.fill.ensures.others k.slots k.first k.next k.filters k.ages in
    let free = unnamed_now (base_of old) h c.args.block (base_low old c.args.writer.now.sound) c.requires.free in
    lists_filled mirror c.keep.new.self shape old.cells new c.args.block filled (root_of h) free c.requires.kept slot last fs has
