use Rattle.std.proofs.Common.{◌≡◌, ◌∙◌, ℕ, ◌+◌, List, [], ◌∷◌, length, get_or, Some, refl, sym, ap, subst, arith}
use Rattle.std.proofs.lemmas.Option.{slice_get-get_or}
use Rattle.store_history.specs.declared.history.Commit.{Commit}
use Rattle.store_history.specs.History.{root_of}
use Rattle.pin_store.specs.Sheets.{base_of}
use Rattle.pin_store.specs.Calls.{seen_by, sheet_of}
use Rattle.filter_state.specs.declared.edit.Edit.{Edit}
use Rattle.mask_table.proofs.OfMirrors.Keeping.{same_base}
use Rattle.hook_law.specs.Standing.{Region}
use Rattle.root_pool_laws.specs.Blocks.{Spends}
use Rattle.desk_masks.specs.Masks.{HasMasks}
use Rattle.desk_masks.proofs.OfFilterCommits.Rewriting.{rewrite_lawful}
use Rattle.desk_masks.proofs.OfFilterCommits.After.{after_lawful, after_journal, after_comes, after_rests_but, after_rests, after_pools}
use Rattle.mask_writer.specs.Standing.{AreNamed}
use Rattle.block_codec.specs.declared.filter.StoredFilter.{StoredFilter}
use Rattle.mask_table.specs.declared.mirrors.mirror.KeptMask.{KeptMask}
use Rattle.mask_table.specs.OfMirrors.Changing.{root_for, insert_at}
use Rattle.desk_masks.proofs.OfFilterCommits.Adding.{add_rewrites, add_region, add_masks, add_spends}
use Rattle.desk_masks.proofs.filters.adding.add_filter.Goals as goal

-- a list of one number
one_number : (given : List ℕ) → length given ≡ 1 → get_or given 0 0 ∷ [] ≡ given
one_number [] e = absurd (omega (arith, e))
one_number (x ∷ []) e = refl
one_number (x ∷ z ∷ more) e = absurd (omega (arith, e))

abbrev put : List (Commit Edit) → StoredFilter → ℕ → ℕ → Edit → KeptMask → Commit Edit
put h filter blk number y kept = insert_at h (root_for kept.mask filter) blk filter number y

pub insert-requires-clause-slot : goal.insert-requires-clause-slot
insert-requires-clause-slot g c = c.requires.adds.at.small

pub insert-requires-clause-stands : goal.insert-requires-clause-stands
insert-requires-clause-stands g c = let it = c.requires.masks.has c.requires.adds.row.mask_serial c.args.slot c.requires.adds.at in (it.kept, it.stands)

pub insert-requires-clause-storable : goal.insert-requires-clause-storable
insert-requires-clause-storable g c = c.requires.adds.stored.fit.storable

pub insert-requires-clause-given : goal.insert-requires-clause-given
insert-requires-clause-given g c = let single = c.requires.one in (single, c.requires.given.pool 0 (get_or c.args.given.now.blocks 0 0) (slice_get-get_or c.args.given.now.blocks 0 0 (omega (arith, single))))

pub insert-requires-clause-free : goal.insert-requires-clause-free
insert-requires-clause-free g c = let single = c.requires.one in c.requires.given.free 0 (get_or c.args.given.now.blocks 0 0) (slice_get-get_or c.args.given.now.blocks 0 0 (omega (arith, single)))

pub insert-requires-clause-kept : goal.insert-requires-clause-kept
insert-requires-clause-kept g c = c.requires.masks.named

pub insert-requires-clause-lawful : goal.insert-requires-clause-lawful
insert-requires-clause-lawful g c = let p = c.args.writer.now.place in let h = seen_by p in let b = base_of (sheet_of p) in let y = g.E.EditName.edit in let has = c.requires.masks in let a = c.requires.adds in let filter = c.args.filter.now in
    let it = has.has a.row.mask_serial c.args.slot a.at in let is : c.args.point + 1 ≡ _ = ap (λ (n : ℕ). n + 1) c.requires.point.0 in
    λ kept stands. rewrite_lawful h b _ y a.accepted.low c.requires.lawful (add_rewrites h b y c.args.slot filter a c.requires.lawful c.args.masks.now c.args.store.now.shape (sheet_of p).cells has kept stands (get_or c.args.given.now.blocks 0 0) (c.args.point + 1) is)

pub returns-clause-journal : goal.returns-clause-journal
returns-clause-journal g c = let p = c.args.writer.now.place in let h = seen_by p in let b = base_of (sheet_of p) in let y = g.E.EditName.edit in let has = c.requires.masks in let a = c.requires.adds in let filter = c.args.filter.now in
    let it = has.has a.row.mask_serial c.args.slot a.at in let is : c.args.point + 1 ≡ _ = ap (λ (n : ℕ). n + 1) c.requires.point.0 in let new = c.insert.new.writer.place in
    after_journal h b _ y a.accepted.low c.requires.lawful (add_rewrites h b y c.args.slot filter a c.requires.lawful c.args.masks.now c.args.store.now.shape (sheet_of p).cells has it.kept it.stands (get_or c.args.given.now.blocks 0 0) (c.args.point + 1) is) (seen_by new) (c.insert.ensures.seen it.kept it.stands) (base_of (sheet_of new)) (same_base (sheet_of p) (sheet_of new) c.insert.ensures.sheet)

pub returns-clause-others : goal.returns-clause-others
returns-clause-others g c = λ other away less. c.insert.ensures.others other (λ same. away (0, let single = c.requires.one in slice_get-get_or c.args.given.now.blocks 0 0 (omega (arith, single)) ∙ ap Some (sym same))) less

pub returns-clause-lawful : goal.returns-clause-lawful
returns-clause-lawful g c = let p = c.args.writer.now.place in let h = seen_by p in let b = base_of (sheet_of p) in let y = g.E.EditName.edit in let has = c.requires.masks in let a = c.requires.adds in let filter = c.args.filter.now in
    let it = has.has a.row.mask_serial c.args.slot a.at in let is : c.args.point + 1 ≡ _ = ap (λ (n : ℕ). n + 1) c.requires.point.0 in let new = c.insert.new.writer.place in
    after_lawful h b _ y a.accepted.low c.requires.lawful (add_rewrites h b y c.args.slot filter a c.requires.lawful c.args.masks.now c.args.store.now.shape (sheet_of p).cells has it.kept it.stands (get_or c.args.given.now.blocks 0 0) (c.args.point + 1) is) (seen_by new) (c.insert.ensures.seen it.kept it.stands) (base_of (sheet_of new)) (same_base (sheet_of p) (sheet_of new) c.insert.ensures.sheet)

pub returns-clause-masks : goal.returns-clause-masks
returns-clause-masks g c = let p = c.args.writer.now.place in let h = seen_by p in let b = base_of (sheet_of p) in let y = g.E.EditName.edit in let has = c.requires.masks in let a = c.requires.adds in let filter = c.args.filter.now in
    let it = has.has a.row.mask_serial c.args.slot a.at in let is : c.args.point + 1 ≡ _ = ap (λ (n : ℕ). n + 1) c.requires.point.0 in let new = c.insert.new.writer.place in let done = c.insert.ensures in
    subst (HasMasks c.insert.new.self c.args.store.now.shape (sheet_of new).cells) (sym (c.insert.ensures.seen it.kept it.stands))
    (add_masks h b y c.args.slot filter a c.requires.lawful c.args.masks.now c.args.store.now.shape (sheet_of p).cells has it.kept it.stands (get_or c.args.given.now.blocks 0 0) (c.args.point + 1) is c.insert.new.self (sheet_of new).cells
    (subst (λ (l : List (Commit Edit)). AreNamed c.insert.new.self c.args.store.now.shape (sheet_of new).cells (root_of l)) (c.insert.ensures.seen it.kept it.stands) done.kept) done.masks done.list done.lists)

pub returns-clause-rests_but : goal.returns-clause-rests_but
returns-clause-rests_but g c = λ kept stands. let p = c.args.writer.now.place in let h = seen_by p in let b = base_of (sheet_of p) in let y = g.E.EditName.edit in let has = c.requires.masks in let a = c.requires.adds in let filter = c.args.filter.now in
    let it = has.has a.row.mask_serial c.args.slot a.at in let is : c.args.point + 1 ≡ _ = ap (λ (n : ℕ). n + 1) c.requires.point.0 in let new = c.insert.new.writer.place in
    after_rests_but h b _ y a.accepted.low c.requires.lawful (add_rewrites h b y c.args.slot filter a c.requires.lawful c.args.masks.now c.args.store.now.shape (sheet_of p).cells has kept stands (get_or c.args.given.now.blocks 0 0) (c.args.point + 1) is) (seen_by new) (c.insert.ensures.seen kept stands) (base_of (sheet_of new)) (same_base (sheet_of p) (sheet_of new) c.insert.ensures.sheet) kept.mask.serial (sym (ap (λ (q : Region). q.mask) (add_region h b y c.args.slot filter a c.requires.lawful c.args.masks.now c.args.store.now.shape (sheet_of p).cells has kept stands (get_or c.args.given.now.blocks 0 0) (c.args.point + 1) is)))

pub returns-clause-rests : goal.returns-clause-rests
returns-clause-rests g c = λ kept stands fits. let p = c.args.writer.now.place in let h = seen_by p in let b = base_of (sheet_of p) in let y = g.E.EditName.edit in let has = c.requires.masks in let a = c.requires.adds in let filter = c.args.filter.now in
    let it = has.has a.row.mask_serial c.args.slot a.at in let is : c.args.point + 1 ≡ _ = ap (λ (n : ℕ). n + 1) c.requires.point.0 in let new = c.insert.new.writer.place in
    after_rests h b _ y a.accepted.low c.requires.lawful (add_rewrites h b y c.args.slot filter a c.requires.lawful c.args.masks.now c.args.store.now.shape (sheet_of p).cells has kept stands (get_or c.args.given.now.blocks 0 0) (c.args.point + 1) is) (seen_by new) (c.insert.ensures.seen kept stands) (base_of (sheet_of new)) (same_base (sheet_of p) (sheet_of new) c.insert.ensures.sheet) kept.mask.serial kept.mask.size (sym (ap (λ (q : Region). q.mask) (add_region h b y c.args.slot filter a c.requires.lawful c.args.masks.now c.args.store.now.shape (sheet_of p).cells has kept stands (get_or c.args.given.now.blocks 0 0) (c.args.point + 1) is))) (sym (ap (λ (q : Region). q.size) (add_region h b y c.args.slot filter a c.requires.lawful c.args.masks.now c.args.store.now.shape (sheet_of p).cells has kept stands (get_or c.args.given.now.blocks 0 0) (c.args.point + 1) is))) fits

pub returns-clause-comes : goal.returns-clause-comes
returns-clause-comes g c = let p = c.args.writer.now.place in let h = seen_by p in let b = base_of (sheet_of p) in let y = g.E.EditName.edit in let has = c.requires.masks in let a = c.requires.adds in let filter = c.args.filter.now in
    let it = has.has a.row.mask_serial c.args.slot a.at in let is : c.args.point + 1 ≡ _ = ap (λ (n : ℕ). n + 1) c.requires.point.0 in let new = c.insert.new.writer.place in
    after_comes h b _ y a.accepted.low c.requires.lawful (add_rewrites h b y c.args.slot filter a c.requires.lawful c.args.masks.now c.args.store.now.shape (sheet_of p).cells has it.kept it.stands (get_or c.args.given.now.blocks 0 0) (c.args.point + 1) is) (seen_by new) (c.insert.ensures.seen it.kept it.stands) (base_of (sheet_of new)) (same_base (sheet_of p) (sheet_of new) c.insert.ensures.sheet)

pub returns-clause-pools : goal.returns-clause-pools
returns-clause-pools g c = λ pools taken. let p = c.args.writer.now.place in let h = seen_by p in let b = base_of (sheet_of p) in let y = g.E.EditName.edit in let has = c.requires.masks in let a = c.requires.adds in let filter = c.args.filter.now in
    let it = has.has a.row.mask_serial c.args.slot a.at in let is : c.args.point + 1 ≡ _ = ap (λ (n : ℕ). n + 1) c.requires.point.0 in let new = c.insert.new.writer.place in let single = c.requires.one in
    after_pools h b _ y a.accepted.low c.requires.lawful (add_rewrites h b y c.args.slot filter a c.requires.lawful c.args.masks.now c.args.store.now.shape (sheet_of p).cells has it.kept it.stands (get_or c.args.given.now.blocks 0 0) (c.args.point + 1) is) (seen_by new) (c.insert.ensures.seen it.kept it.stands) (base_of (sheet_of new)) (same_base (sheet_of p) (sheet_of new) c.insert.ensures.sheet) pools c.args.given.now.blocks
    (subst (Spends h (put h filter (get_or c.args.given.now.blocks 0 0) (c.args.point + 1) y it.kept)) (one_number c.args.given.now.blocks single) (add_spends h b y c.args.slot filter a c.requires.lawful c.args.masks.now c.args.store.now.shape (sheet_of p).cells has it.kept it.stands (get_or c.args.given.now.blocks 0 0) (c.args.point + 1) is)) c.requires.given taken
