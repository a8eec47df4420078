use Rattle.std.proofs.Common.{◌∙◌, ℕ, ◌+◌, List, ◌++◌, ◌∷◌, [], None, sym, ap, subst}
use Rattle.store_history.specs.declared.history.Commit.{Commit}
use Rattle.store_history.specs.History.{root_of}
use Rattle.pin_store.specs.declared.view.Sheet.{Sheet}
use Rattle.pin_store.specs.Layout.{block_words}
use Rattle.pin_store.specs.Sheets.{base_of}
use Rattle.pin_store.specs.Calls.{seen_by, sheet_of}
use Rattle.pin_store.proofs.Sound.{base_low}
use Rattle.block_codec.specs.Masks.{IsMaskBlock}
use Rattle.mask_table.specs.OfMirrors.Kept.{IsKept}
use Rattle.mask_table.specs.OfMirrors.Linked.{bucket_commits, mask_commit}
use Rattle.mask_table.proofs.OfMirrors.Keeping.{same_base}
use Rattle.mask_build.specs.Laid.{places}
use Rattle.mask_build.proofs.Committing.{commits_first, commits_all, commits_last}
use Rattle.mask_build.proofs.Standing.{laid_still, kept_raised, others_have, new_has}
use Rattle.mask_build.proofs.raising.raise.Goals as goal

pub fill-requires-clause-free : goal.fill-requires-clause-free
fill-requires-clause-free g c = c.requires.lawful.1.spare

pub name_buckets-requires-clause-lawful : goal.name_buckets-requires-clause-lawful
name_buckets-requires-clause-lawful g c =
    let mask = c.args.mask in let stamp = c.args.stamp in let h = seen_by c.args.writer.now.place in let old = sheet_of c.args.writer.now.place in let new = sheet_of c.fill.new.self.place in
    let w = c.requires.lawful in let f = c.fill.ensures in let ps = places w.0 in (
      w.0,
      laid_still c.args.mirror.now c.args.store.now.shape old.cells new.cells mask (base_of old) h c.args.slot c.args.block stamp w.0 c.requires.shape.1 f.others w.1,
      λ count few. subst (g.L.Law.keeps (seen_by c.fill.new.self.place ++ bucket_commits mask ps stamp count)) (sym (same_base old new f.sheet))
          (subst (λ (cs : List (Commit g.row.L-Entry.Denot)). g.L.Law.keeps cs (base_of old)) (λ t. sym f.seen t ++ commits_first h mask ps stamp c.args.slot c.args.block count few t) (w.2 count)),
    )

pub name_mask-requires-clause-lawful : goal.name_mask-requires-clause-lawful
name_mask-requires-clause-lawful g c =
    let mask = c.args.mask in let stamp = c.args.stamp in let h = seen_by c.args.writer.now.place in let old = sheet_of c.args.writer.now.place in let new = sheet_of c.fill.new.self.place in
    let w = c.requires.lawful in let f = c.fill.ensures in let words = subst (λ (ws : List ℕ). IsMaskBlock ws (mask, None)) (sym f.block) c.write_mask.ensures in let n = c.name_buckets.ensures in let ps = places w.0 in let shape = c.args.store.now.shape in let b = c.args.block in let slot = c.args.slot in
    let seen = n.seen w.0 (laid_still c.args.mirror.now shape old.cells new.cells mask (base_of old) h slot b stamp w.0 c.requires.shape.1 f.others w.1) ∙ ap (λ (cs : List (Commit g.row.L-Entry.Denot)). cs ++ bucket_commits mask ps stamp mask.size) f.seen in (
      mask,
      subst (λ (d : Sheet). IsMaskBlock (block_words shape d.cells b) (mask, None)) (sym n.sheet) words,
      subst (λ (d : Sheet). g.L.Law.keeps (seen_by c.name_buckets.new.writer.place ++ mask_commit slot mask b stamp ∷ []) (base_of d)) (sym n.sheet)
          (subst (g.L.Law.keeps (seen_by c.name_buckets.new.writer.place ++ mask_commit slot mask b stamp ∷ [])) (sym (same_base old new f.sheet))
          (subst (λ (cs : List (Commit g.row.L-Entry.Denot)). g.L.Law.keeps cs (base_of old)) (commits_last h mask ps stamp slot b ∙ (λ t. sym seen t ++ mask_commit slot mask b stamp ∷ [])) (w.2 (mask.size + 1)))),
    )

pub returns-clause-seen : goal.returns-clause-seen
returns-clause-seen g c = λ xs ready.
    let mask = c.args.mask in let stamp = c.args.stamp in let h = seen_by c.args.writer.now.place in let old = sheet_of c.args.writer.now.place in let new = sheet_of c.fill.new.self.place in
    let f = c.fill.ensures in let words = subst (λ (ws : List ℕ). IsMaskBlock ws (mask, None)) (sym f.block) c.write_mask.ensures in let n = c.name_buckets.ensures in let shape = c.args.store.now.shape in let b = c.args.block in let slot = c.args.slot in
    let seen = n.seen xs (laid_still c.args.mirror.now shape old.cells new.cells mask (base_of old) h slot b stamp xs c.requires.shape.1 f.others ready) ∙ ap (λ (cs : List (Commit g.row.L-Entry.Denot)). cs ++ bucket_commits mask (places xs) stamp mask.size) f.seen in
    c.name_mask.ensures.seen mask (subst (λ (d : Sheet). IsMaskBlock (block_words shape d.cells b) (mask, None)) (sym n.sheet) words)
    ∙ (ap (λ (cs : List (Commit g.row.L-Entry.Denot)). cs ++ mask_commit slot mask b stamp ∷ []) seen ∙ sym (commits_all h mask (places xs) stamp slot b))

pub returns-clause-others : goal.returns-clause-others
returns-clause-others g c = λ other apart less.
    ap (λ (d : Sheet). block_words c.args.store.now.shape d.cells other) (c.name_mask.ensures.sheet ∙ c.name_buckets.ensures.sheet) ∙ c.fill.ensures.others other apart less

pub returns-clause-kept : goal.returns-clause-kept
returns-clause-kept g c =
    let mask = c.args.mask in let stamp = c.args.stamp in let h = seen_by c.args.writer.now.place in let old = sheet_of c.args.writer.now.place in let new = sheet_of c.fill.new.self.place in
    let w = c.requires.lawful in let f = c.fill.ensures in let words = subst (λ (ws : List ℕ). IsMaskBlock ws (mask, None)) (sym f.block) c.write_mask.ensures in let n = c.name_buckets.ensures in let p = c.place.ensures in let ps = places w.0 in let shape = c.args.store.now.shape in let b = c.args.block in let slot = c.args.slot in
    let seen = n.seen w.0 (laid_still c.args.mirror.now shape old.cells new.cells mask (base_of old) h slot b stamp w.0 c.requires.shape.1 f.others w.1) ∙ ap (λ (cs : List (Commit g.row.L-Entry.Denot)). cs ++ bucket_commits mask ps stamp mask.size) f.seen in
    let all = c.name_mask.ensures.seen mask (subst (λ (d : Sheet). IsMaskBlock (block_words shape d.cells b) (mask, None)) (sym n.sheet) words) ∙ ap (λ (cs : List (Commit g.row.L-Entry.Denot)). cs ++ mask_commit slot mask b stamp ∷ []) seen in
    subst (λ (d : Sheet). IsKept c.place.new.self shape d.cells (root_of (seen_by c.name_mask.new.writer.place))) (sym (c.name_mask.ensures.sheet ∙ n.sheet))
    (subst (λ (cs : List (Commit g.row.L-Entry.Denot)). IsKept c.place.new.self shape new.cells (root_of cs)) (sym all)
    (kept_raised c.args.mirror.now shape old.cells new.cells mask (base_of old) h slot b stamp w.0 c.requires.shape.1 f.others w.1 c.place.new.self c.requires.slot p.slots p.first p.next p.filters words c.requires.rows
    (base_low old c.args.writer.now.sound) c.requires.kept))

pub returns-clause-list : goal.returns-clause-list
returns-clause-list g c = λ last xs laid rise. let p = c.place.ensures in
    new_has c.args.mirror.now c.place.new.self c.args.slot (record { block = c.args.block; mask = c.args.mask }) c.requires.slot p.slots p.first p.next p.filters p.ages c.args.store.now.shape (sheet_of c.args.writer.now.place).cells xs laid last rise

pub returns-clause-lists : goal.returns-clause-lists
returns-clause-lists g c = λ other last fs apart has. let p = c.place.ensures in
    others_have c.args.mirror.now c.place.new.self c.args.slot (record { block = c.args.block; mask = c.args.mask }) c.requires.slot p.slots p.first p.next p.filters p.ages other last fs apart has
