use Rattle.std.proofs.Common.{◌≡◌, ◌∙◌, ℕ, ◌+◌, List, [], ◌∷◌, ◌++◌, length, sym, ap, subst}
use Rattle.store_history.specs.declared.history.Commit.{Commit}
use Rattle.store_history.specs.History.{root_of}
use Rattle.pin_store.specs.Sheets.{base_of}
use Rattle.pin_store.specs.Calls.{seen_by, sheet_of}
use Rattle.filter_state.specs.declared.edit.Edit.{Edit}
use Rattle.mask_table.proofs.OfMirrors.Keeping.{same_base}
use Rattle.hook_law.specs.Standing.{Region}
use Rattle.desk_masks.specs.Masks.{HasMasks}
use Rattle.desk_masks.proofs.OfFilterCommits.Rewriting.{rewrite_lawful}
use Rattle.desk_masks.proofs.OfFilterCommits.After.{after_lawful, after_journal, after_comes, after_rests_but, after_rests, after_pools}
use Rattle.hook_law.specs.Standing.{IsIn}
use Rattle.mask_writer.specs.Standing.{AreNamed}
use Rattle.mask_table.specs.OfMirrors.Changing.{root_for}
use Rattle.desk_masks.specs.OfFilterCommits.Blocks.{AreOut}
use Rattle.desk_masks.proofs.OfFilterCommits.After.{front_count}
use Rattle.desk_masks.proofs.OfFilterCommits.Locating.{later_count}
use Rattle.desk_masks.proofs.OfFilterCommits.Exchanging.{swapped, exchange_there, exchange_rewrites, exchange_region, exchange_masks, exchange_spends, exchange_out, exchange_apart}
use Rattle.desk_masks.proofs.filters.exchanging.exchange_filter.Goals as goal

pub replace-requires-clause-slot : goal.replace-requires-clause-slot
replace-requires-clause-slot g c = c.requires.exchanges.at.small

pub replace-requires-clause-storable : goal.replace-requires-clause-storable
replace-requires-clause-storable g c = c.requires.exchanges.stored.fit.storable

pub replace-requires-clause-there : goal.replace-requires-clause-there
replace-requires-clause-there g c = let p = c.args.writer.now.place in let h = seen_by p in let b = base_of (sheet_of p) in let y = g.E.EditName.edit in let has = c.requires.masks in let x = c.requires.exchanges in let given = c.args.given.now.blocks in let filter = c.args.filter.now in
    let it = has.has x.row.mask_serial c.args.slot x.at in let is : c.args.point + 1 ≡ _ = ap (λ (n : ℕ). n + 1) c.requires.point.0 in
    let l = c.requires.many it.kept it.stands in
    exchange_there h b y c.args.slot filter x c.requires.lawful c.args.masks.now c.args.store.now.shape (sheet_of p).cells has it.kept it.stands l.0 l.2

pub replace-requires-clause-many : goal.replace-requires-clause-many
replace-requires-clause-many g c = λ kept front old stands at. let p = c.args.writer.now.place in let h = seen_by p in let b = base_of (sheet_of p) in let y = g.E.EditName.edit in let has = c.requires.masks in let x = c.requires.exchanges in let given = c.args.given.now.blocks in let filter = c.args.filter.now in
    let it = has.has x.row.mask_serial c.args.slot x.at in let is : c.args.point + 1 ≡ _ = ap (λ (n : ℕ). n + 1) c.requires.point.0 in
    ((c.requires.many kept stands).1 ∙ ap (λ (n : ℕ). n + 1) (sym (later_count h c.args.masks.now c.args.store.now.shape (sheet_of p).cells has c.args.slot kept stands filter.handle (swapped h b y c.args.slot filter x c.requires.lawful c.args.masks.now c.args.store.now.shape (sheet_of p).cells has kept stands).earlier (swapped h b y c.args.slot filter x c.requires.lawful c.args.masks.now c.args.store.now.shape (sheet_of p).cells has kept stands).old (swapped h b y c.args.slot filter x c.requires.lawful c.args.masks.now c.args.store.now.shape (sheet_of p).cells has kept stands).later (swapped h b y c.args.slot filter x c.requires.lawful c.args.masks.now c.args.store.now.shape (sheet_of p).cells has kept stands).swaps.before (swapped h b y c.args.slot filter x c.requires.lawful c.args.masks.now c.args.store.now.shape (sheet_of p).cells has kept stands).front (swapped h b y c.args.slot filter x c.requires.lawful c.args.masks.now c.args.store.now.shape (sheet_of p).cells has kept stands).back (root_for kept.mask filter) front old at (c.requires.many kept stands).0 (c.requires.many kept stands).2)))

pub replace-requires-clause-kept : goal.replace-requires-clause-kept
replace-requires-clause-kept g c = c.requires.masks.named

pub replace-requires-clause-lawful : goal.replace-requires-clause-lawful
replace-requires-clause-lawful g c = λ kept front old stands at. let p = c.args.writer.now.place in let h = seen_by p in let b = base_of (sheet_of p) in let y = g.E.EditName.edit in let has = c.requires.masks in let x = c.requires.exchanges in let given = c.args.given.now.blocks in let filter = c.args.filter.now in
    let it = has.has x.row.mask_serial c.args.slot x.at in let is : c.args.point + 1 ≡ _ = ap (λ (n : ℕ). n + 1) c.requires.point.0 in
    let cn = ((c.requires.many kept stands).1 ∙ ap (λ (n : ℕ). n + 1) (sym (later_count h c.args.masks.now c.args.store.now.shape (sheet_of p).cells has c.args.slot kept stands filter.handle (swapped h b y c.args.slot filter x c.requires.lawful c.args.masks.now c.args.store.now.shape (sheet_of p).cells has kept stands).earlier (swapped h b y c.args.slot filter x c.requires.lawful c.args.masks.now c.args.store.now.shape (sheet_of p).cells has kept stands).old (swapped h b y c.args.slot filter x c.requires.lawful c.args.masks.now c.args.store.now.shape (sheet_of p).cells has kept stands).later (swapped h b y c.args.slot filter x c.requires.lawful c.args.masks.now c.args.store.now.shape (sheet_of p).cells has kept stands).swaps.before (swapped h b y c.args.slot filter x c.requires.lawful c.args.masks.now c.args.store.now.shape (sheet_of p).cells has kept stands).front (swapped h b y c.args.slot filter x c.requires.lawful c.args.masks.now c.args.store.now.shape (sheet_of p).cells has kept stands).back (root_for kept.mask filter) front old at (c.requires.many kept stands).0 (c.requires.many kept stands).2))) in
    rewrite_lawful h b _ y x.accepted.low c.requires.lawful (exchange_rewrites h b y c.args.slot filter x c.requires.lawful c.args.masks.now c.args.store.now.shape (sheet_of p).cells has kept stands (root_for kept.mask filter) front old at given cn c.requires.given (c.args.point + 1) is)

pub returns-clause-seen : goal.returns-clause-seen
returns-clause-seen g c = λ kept stands. let d = c.replace.ensures.done kept stands in (d.0, d.1, d.2, d.3)

pub returns-clause-journal : goal.returns-clause-journal
returns-clause-journal g c = let p = c.args.writer.now.place in let h = seen_by p in let b = base_of (sheet_of p) in let y = g.E.EditName.edit in let has = c.requires.masks in let x = c.requires.exchanges in let given = c.args.given.now.blocks in let filter = c.args.filter.now in
    let it = has.has x.row.mask_serial c.args.slot x.at in let is : c.args.point + 1 ≡ _ = ap (λ (n : ℕ). n + 1) c.requires.point.0 in let new = c.replace.new.writer.place in
    let d = c.replace.ensures.done it.kept it.stands in let cn = ((c.requires.many it.kept it.stands).1 ∙ ap (λ (n : ℕ). n + 1) (sym (later_count h c.args.masks.now c.args.store.now.shape (sheet_of p).cells has c.args.slot it.kept it.stands filter.handle (swapped h b y c.args.slot filter x c.requires.lawful c.args.masks.now c.args.store.now.shape (sheet_of p).cells has it.kept it.stands).earlier (swapped h b y c.args.slot filter x c.requires.lawful c.args.masks.now c.args.store.now.shape (sheet_of p).cells has it.kept it.stands).old (swapped h b y c.args.slot filter x c.requires.lawful c.args.masks.now c.args.store.now.shape (sheet_of p).cells has it.kept it.stands).later (swapped h b y c.args.slot filter x c.requires.lawful c.args.masks.now c.args.store.now.shape (sheet_of p).cells has it.kept it.stands).swaps.before (swapped h b y c.args.slot filter x c.requires.lawful c.args.masks.now c.args.store.now.shape (sheet_of p).cells has it.kept it.stands).front (swapped h b y c.args.slot filter x c.requires.lawful c.args.masks.now c.args.store.now.shape (sheet_of p).cells has it.kept it.stands).back (root_for it.kept.mask filter) d.0 d.1 d.2 (c.requires.many it.kept it.stands).0 (c.requires.many it.kept it.stands).2))) in
    after_journal h b _ y x.accepted.low c.requires.lawful (exchange_rewrites h b y c.args.slot filter x c.requires.lawful c.args.masks.now c.args.store.now.shape (sheet_of p).cells has it.kept it.stands (root_for it.kept.mask filter) d.0 d.1 d.2 given cn c.requires.given (c.args.point + 1) is) (seen_by new) d.3 (base_of (sheet_of new)) (same_base (sheet_of p) (sheet_of new) c.replace.ensures.sheet)

pub returns-clause-lawful : goal.returns-clause-lawful
returns-clause-lawful g c = let p = c.args.writer.now.place in let h = seen_by p in let b = base_of (sheet_of p) in let y = g.E.EditName.edit in let has = c.requires.masks in let x = c.requires.exchanges in let given = c.args.given.now.blocks in let filter = c.args.filter.now in
    let it = has.has x.row.mask_serial c.args.slot x.at in let is : c.args.point + 1 ≡ _ = ap (λ (n : ℕ). n + 1) c.requires.point.0 in let new = c.replace.new.writer.place in
    let d = c.replace.ensures.done it.kept it.stands in let cn = ((c.requires.many it.kept it.stands).1 ∙ ap (λ (n : ℕ). n + 1) (sym (later_count h c.args.masks.now c.args.store.now.shape (sheet_of p).cells has c.args.slot it.kept it.stands filter.handle (swapped h b y c.args.slot filter x c.requires.lawful c.args.masks.now c.args.store.now.shape (sheet_of p).cells has it.kept it.stands).earlier (swapped h b y c.args.slot filter x c.requires.lawful c.args.masks.now c.args.store.now.shape (sheet_of p).cells has it.kept it.stands).old (swapped h b y c.args.slot filter x c.requires.lawful c.args.masks.now c.args.store.now.shape (sheet_of p).cells has it.kept it.stands).later (swapped h b y c.args.slot filter x c.requires.lawful c.args.masks.now c.args.store.now.shape (sheet_of p).cells has it.kept it.stands).swaps.before (swapped h b y c.args.slot filter x c.requires.lawful c.args.masks.now c.args.store.now.shape (sheet_of p).cells has it.kept it.stands).front (swapped h b y c.args.slot filter x c.requires.lawful c.args.masks.now c.args.store.now.shape (sheet_of p).cells has it.kept it.stands).back (root_for it.kept.mask filter) d.0 d.1 d.2 (c.requires.many it.kept it.stands).0 (c.requires.many it.kept it.stands).2))) in
    after_lawful h b _ y x.accepted.low c.requires.lawful (exchange_rewrites h b y c.args.slot filter x c.requires.lawful c.args.masks.now c.args.store.now.shape (sheet_of p).cells has it.kept it.stands (root_for it.kept.mask filter) d.0 d.1 d.2 given cn c.requires.given (c.args.point + 1) is) (seen_by new) d.3 (base_of (sheet_of new)) (same_base (sheet_of p) (sheet_of new) c.replace.ensures.sheet)

pub returns-clause-masks : goal.returns-clause-masks
returns-clause-masks g c = let p = c.args.writer.now.place in let h = seen_by p in let b = base_of (sheet_of p) in let y = g.E.EditName.edit in let has = c.requires.masks in let x = c.requires.exchanges in let given = c.args.given.now.blocks in let filter = c.args.filter.now in
    let it = has.has x.row.mask_serial c.args.slot x.at in let is : c.args.point + 1 ≡ _ = ap (λ (n : ℕ). n + 1) c.requires.point.0 in let new = c.replace.new.writer.place in let done = c.replace.ensures in
    let d = c.replace.ensures.done it.kept it.stands in let cn = ((c.requires.many it.kept it.stands).1 ∙ ap (λ (n : ℕ). n + 1) (sym (later_count h c.args.masks.now c.args.store.now.shape (sheet_of p).cells has c.args.slot it.kept it.stands filter.handle (swapped h b y c.args.slot filter x c.requires.lawful c.args.masks.now c.args.store.now.shape (sheet_of p).cells has it.kept it.stands).earlier (swapped h b y c.args.slot filter x c.requires.lawful c.args.masks.now c.args.store.now.shape (sheet_of p).cells has it.kept it.stands).old (swapped h b y c.args.slot filter x c.requires.lawful c.args.masks.now c.args.store.now.shape (sheet_of p).cells has it.kept it.stands).later (swapped h b y c.args.slot filter x c.requires.lawful c.args.masks.now c.args.store.now.shape (sheet_of p).cells has it.kept it.stands).swaps.before (swapped h b y c.args.slot filter x c.requires.lawful c.args.masks.now c.args.store.now.shape (sheet_of p).cells has it.kept it.stands).front (swapped h b y c.args.slot filter x c.requires.lawful c.args.masks.now c.args.store.now.shape (sheet_of p).cells has it.kept it.stands).back (root_for it.kept.mask filter) d.0 d.1 d.2 (c.requires.many it.kept it.stands).0 (c.requires.many it.kept it.stands).2))) in
    subst (HasMasks c.replace.new.self c.args.store.now.shape (sheet_of new).cells) (sym d.3)
    (exchange_masks h b y c.args.slot filter x c.requires.lawful c.args.masks.now c.args.store.now.shape (sheet_of p).cells has it.kept it.stands (root_for it.kept.mask filter) d.0 d.1 d.2 given cn c.requires.given (c.args.point + 1) is c.replace.new.self (sheet_of new).cells
    (subst (λ (l : List (Commit Edit)). AreNamed c.replace.new.self c.args.store.now.shape (sheet_of new).cells (root_of l)) d.3 done.kept) done.masks done.list done.lists)

pub returns-clause-rests_but : goal.returns-clause-rests_but
returns-clause-rests_but g c = λ kept stands. let p = c.args.writer.now.place in let h = seen_by p in let b = base_of (sheet_of p) in let y = g.E.EditName.edit in let has = c.requires.masks in let x = c.requires.exchanges in let given = c.args.given.now.blocks in let filter = c.args.filter.now in
    let it = has.has x.row.mask_serial c.args.slot x.at in let is : c.args.point + 1 ≡ _ = ap (λ (n : ℕ). n + 1) c.requires.point.0 in let new = c.replace.new.writer.place in
    let d = c.replace.ensures.done kept stands in let cn = ((c.requires.many kept stands).1 ∙ ap (λ (n : ℕ). n + 1) (sym (later_count h c.args.masks.now c.args.store.now.shape (sheet_of p).cells has c.args.slot kept stands filter.handle (swapped h b y c.args.slot filter x c.requires.lawful c.args.masks.now c.args.store.now.shape (sheet_of p).cells has kept stands).earlier (swapped h b y c.args.slot filter x c.requires.lawful c.args.masks.now c.args.store.now.shape (sheet_of p).cells has kept stands).old (swapped h b y c.args.slot filter x c.requires.lawful c.args.masks.now c.args.store.now.shape (sheet_of p).cells has kept stands).later (swapped h b y c.args.slot filter x c.requires.lawful c.args.masks.now c.args.store.now.shape (sheet_of p).cells has kept stands).swaps.before (swapped h b y c.args.slot filter x c.requires.lawful c.args.masks.now c.args.store.now.shape (sheet_of p).cells has kept stands).front (swapped h b y c.args.slot filter x c.requires.lawful c.args.masks.now c.args.store.now.shape (sheet_of p).cells has kept stands).back (root_for kept.mask filter) d.0 d.1 d.2 (c.requires.many kept stands).0 (c.requires.many kept stands).2))) in
    after_rests_but h b _ y x.accepted.low c.requires.lawful (exchange_rewrites h b y c.args.slot filter x c.requires.lawful c.args.masks.now c.args.store.now.shape (sheet_of p).cells has kept stands (root_for kept.mask filter) d.0 d.1 d.2 given cn c.requires.given (c.args.point + 1) is) (seen_by new) d.3 (base_of (sheet_of new)) (same_base (sheet_of p) (sheet_of new) c.replace.ensures.sheet) kept.mask.serial (sym (ap (λ (q : Region). q.mask) (exchange_region h b y c.args.slot filter x c.requires.lawful c.args.masks.now c.args.store.now.shape (sheet_of p).cells has kept stands (root_for kept.mask filter) d.0 d.1 d.2 given cn c.requires.given (c.args.point + 1) is)))

pub returns-clause-rests : goal.returns-clause-rests
returns-clause-rests g c = λ kept stands fits. let p = c.args.writer.now.place in let h = seen_by p in let b = base_of (sheet_of p) in let y = g.E.EditName.edit in let has = c.requires.masks in let x = c.requires.exchanges in let given = c.args.given.now.blocks in let filter = c.args.filter.now in
    let it = has.has x.row.mask_serial c.args.slot x.at in let is : c.args.point + 1 ≡ _ = ap (λ (n : ℕ). n + 1) c.requires.point.0 in let new = c.replace.new.writer.place in
    let d = c.replace.ensures.done kept stands in let cn = ((c.requires.many kept stands).1 ∙ ap (λ (n : ℕ). n + 1) (sym (later_count h c.args.masks.now c.args.store.now.shape (sheet_of p).cells has c.args.slot kept stands filter.handle (swapped h b y c.args.slot filter x c.requires.lawful c.args.masks.now c.args.store.now.shape (sheet_of p).cells has kept stands).earlier (swapped h b y c.args.slot filter x c.requires.lawful c.args.masks.now c.args.store.now.shape (sheet_of p).cells has kept stands).old (swapped h b y c.args.slot filter x c.requires.lawful c.args.masks.now c.args.store.now.shape (sheet_of p).cells has kept stands).later (swapped h b y c.args.slot filter x c.requires.lawful c.args.masks.now c.args.store.now.shape (sheet_of p).cells has kept stands).swaps.before (swapped h b y c.args.slot filter x c.requires.lawful c.args.masks.now c.args.store.now.shape (sheet_of p).cells has kept stands).front (swapped h b y c.args.slot filter x c.requires.lawful c.args.masks.now c.args.store.now.shape (sheet_of p).cells has kept stands).back (root_for kept.mask filter) d.0 d.1 d.2 (c.requires.many kept stands).0 (c.requires.many kept stands).2))) in
    after_rests h b _ y x.accepted.low c.requires.lawful (exchange_rewrites h b y c.args.slot filter x c.requires.lawful c.args.masks.now c.args.store.now.shape (sheet_of p).cells has kept stands (root_for kept.mask filter) d.0 d.1 d.2 given cn c.requires.given (c.args.point + 1) is) (seen_by new) d.3 (base_of (sheet_of new)) (same_base (sheet_of p) (sheet_of new) c.replace.ensures.sheet) kept.mask.serial kept.mask.size (sym (ap (λ (q : Region). q.mask) (exchange_region h b y c.args.slot filter x c.requires.lawful c.args.masks.now c.args.store.now.shape (sheet_of p).cells has kept stands (root_for kept.mask filter) d.0 d.1 d.2 given cn c.requires.given (c.args.point + 1) is))) (sym (ap (λ (q : Region). q.size) (exchange_region h b y c.args.slot filter x c.requires.lawful c.args.masks.now c.args.store.now.shape (sheet_of p).cells has kept stands (root_for kept.mask filter) d.0 d.1 d.2 given cn c.requires.given (c.args.point + 1) is))) fits

pub returns-clause-comes : goal.returns-clause-comes
returns-clause-comes g c = let p = c.args.writer.now.place in let h = seen_by p in let b = base_of (sheet_of p) in let y = g.E.EditName.edit in let has = c.requires.masks in let x = c.requires.exchanges in let given = c.args.given.now.blocks in let filter = c.args.filter.now in
    let it = has.has x.row.mask_serial c.args.slot x.at in let is : c.args.point + 1 ≡ _ = ap (λ (n : ℕ). n + 1) c.requires.point.0 in let new = c.replace.new.writer.place in
    let d = c.replace.ensures.done it.kept it.stands in let cn = ((c.requires.many it.kept it.stands).1 ∙ ap (λ (n : ℕ). n + 1) (sym (later_count h c.args.masks.now c.args.store.now.shape (sheet_of p).cells has c.args.slot it.kept it.stands filter.handle (swapped h b y c.args.slot filter x c.requires.lawful c.args.masks.now c.args.store.now.shape (sheet_of p).cells has it.kept it.stands).earlier (swapped h b y c.args.slot filter x c.requires.lawful c.args.masks.now c.args.store.now.shape (sheet_of p).cells has it.kept it.stands).old (swapped h b y c.args.slot filter x c.requires.lawful c.args.masks.now c.args.store.now.shape (sheet_of p).cells has it.kept it.stands).later (swapped h b y c.args.slot filter x c.requires.lawful c.args.masks.now c.args.store.now.shape (sheet_of p).cells has it.kept it.stands).swaps.before (swapped h b y c.args.slot filter x c.requires.lawful c.args.masks.now c.args.store.now.shape (sheet_of p).cells has it.kept it.stands).front (swapped h b y c.args.slot filter x c.requires.lawful c.args.masks.now c.args.store.now.shape (sheet_of p).cells has it.kept it.stands).back (root_for it.kept.mask filter) d.0 d.1 d.2 (c.requires.many it.kept it.stands).0 (c.requires.many it.kept it.stands).2))) in
    after_comes h b _ y x.accepted.low c.requires.lawful (exchange_rewrites h b y c.args.slot filter x c.requires.lawful c.args.masks.now c.args.store.now.shape (sheet_of p).cells has it.kept it.stands (root_for it.kept.mask filter) d.0 d.1 d.2 given cn c.requires.given (c.args.point + 1) is) (seen_by new) d.3 (base_of (sheet_of new)) (same_base (sheet_of p) (sheet_of new) c.replace.ensures.sheet)

pub returns-clause-pools : goal.returns-clause-pools
returns-clause-pools g c = λ pools taken. let p = c.args.writer.now.place in let h = seen_by p in let b = base_of (sheet_of p) in let y = g.E.EditName.edit in let has = c.requires.masks in let x = c.requires.exchanges in let given = c.args.given.now.blocks in let filter = c.args.filter.now in
    let it = has.has x.row.mask_serial c.args.slot x.at in let is : c.args.point + 1 ≡ _ = ap (λ (n : ℕ). n + 1) c.requires.point.0 in let new = c.replace.new.writer.place in
    let d = c.replace.ensures.done it.kept it.stands in let cn = ((c.requires.many it.kept it.stands).1 ∙ ap (λ (n : ℕ). n + 1) (sym (later_count h c.args.masks.now c.args.store.now.shape (sheet_of p).cells has c.args.slot it.kept it.stands filter.handle (swapped h b y c.args.slot filter x c.requires.lawful c.args.masks.now c.args.store.now.shape (sheet_of p).cells has it.kept it.stands).earlier (swapped h b y c.args.slot filter x c.requires.lawful c.args.masks.now c.args.store.now.shape (sheet_of p).cells has it.kept it.stands).old (swapped h b y c.args.slot filter x c.requires.lawful c.args.masks.now c.args.store.now.shape (sheet_of p).cells has it.kept it.stands).later (swapped h b y c.args.slot filter x c.requires.lawful c.args.masks.now c.args.store.now.shape (sheet_of p).cells has it.kept it.stands).swaps.before (swapped h b y c.args.slot filter x c.requires.lawful c.args.masks.now c.args.store.now.shape (sheet_of p).cells has it.kept it.stands).front (swapped h b y c.args.slot filter x c.requires.lawful c.args.masks.now c.args.store.now.shape (sheet_of p).cells has it.kept it.stands).back (root_for it.kept.mask filter) d.0 d.1 d.2 (c.requires.many it.kept it.stands).0 (c.requires.many it.kept it.stands).2))) in
    after_pools h b _ y x.accepted.low c.requires.lawful (exchange_rewrites h b y c.args.slot filter x c.requires.lawful c.args.masks.now c.args.store.now.shape (sheet_of p).cells has it.kept it.stands (root_for it.kept.mask filter) d.0 d.1 d.2 given cn c.requires.given (c.args.point + 1) is) (seen_by new) d.3 (base_of (sheet_of new)) (same_base (sheet_of p) (sheet_of new) c.replace.ensures.sheet) pools given (exchange_spends h b y c.args.slot filter x c.requires.lawful c.args.masks.now c.args.store.now.shape (sheet_of p).cells has it.kept it.stands (root_for it.kept.mask filter) d.0 d.1 d.2 given cn c.requires.given (c.args.point + 1) is) c.requires.given taken

pub returns-clause-left : goal.returns-clause-left
returns-clause-left g c = λ one. let p = c.args.writer.now.place in let h = seen_by p in let b = base_of (sheet_of p) in let y = g.E.EditName.edit in let has = c.requires.masks in let x = c.requires.exchanges in let given = c.args.given.now.blocks in let filter = c.args.filter.now in
    let it = has.has x.row.mask_serial c.args.slot x.at in let is : c.args.point + 1 ≡ _ = ap (λ (n : ℕ). n + 1) c.requires.point.0 in let new = c.replace.new.writer.place in
    let d = c.replace.ensures.done it.kept it.stands in let cn = ((c.requires.many it.kept it.stands).1 ∙ ap (λ (n : ℕ). n + 1) (sym (later_count h c.args.masks.now c.args.store.now.shape (sheet_of p).cells has c.args.slot it.kept it.stands filter.handle (swapped h b y c.args.slot filter x c.requires.lawful c.args.masks.now c.args.store.now.shape (sheet_of p).cells has it.kept it.stands).earlier (swapped h b y c.args.slot filter x c.requires.lawful c.args.masks.now c.args.store.now.shape (sheet_of p).cells has it.kept it.stands).old (swapped h b y c.args.slot filter x c.requires.lawful c.args.masks.now c.args.store.now.shape (sheet_of p).cells has it.kept it.stands).later (swapped h b y c.args.slot filter x c.requires.lawful c.args.masks.now c.args.store.now.shape (sheet_of p).cells has it.kept it.stands).swaps.before (swapped h b y c.args.slot filter x c.requires.lawful c.args.masks.now c.args.store.now.shape (sheet_of p).cells has it.kept it.stands).front (swapped h b y c.args.slot filter x c.requires.lawful c.args.masks.now c.args.store.now.shape (sheet_of p).cells has it.kept it.stands).back (root_for it.kept.mask filter) d.0 d.1 d.2 (c.requires.many it.kept it.stands).0 (c.requires.many it.kept it.stands).2))) in
    subst (λ (l : List (Commit Edit)). AreOut l c.replace.new.self.left_blocks) (sym d.3) (subst (AreOut (h ++ _ ∷ [])) (sym d.4) (exchange_out h b y c.args.slot filter x c.requires.lawful c.args.masks.now c.args.store.now.shape (sheet_of p).cells has it.kept it.stands (root_for it.kept.mask filter) d.0 d.1 d.2 given cn c.requires.given (c.args.point + 1) is one))

pub returns-clause-left_apart : goal.returns-clause-left_apart
returns-clause-left_apart g c = λ pools block are at. let p = c.args.writer.now.place in let h = seen_by p in let b = base_of (sheet_of p) in let y = g.E.EditName.edit in let has = c.requires.masks in let x = c.requires.exchanges in let given = c.args.given.now.blocks in let filter = c.args.filter.now in
    let it = has.has x.row.mask_serial c.args.slot x.at in let is : c.args.point + 1 ≡ _ = ap (λ (n : ℕ). n + 1) c.requires.point.0 in let new = c.replace.new.writer.place in
    let d = c.replace.ensures.done it.kept it.stands in let cn = ((c.requires.many it.kept it.stands).1 ∙ ap (λ (n : ℕ). n + 1) (sym (later_count h c.args.masks.now c.args.store.now.shape (sheet_of p).cells has c.args.slot it.kept it.stands filter.handle (swapped h b y c.args.slot filter x c.requires.lawful c.args.masks.now c.args.store.now.shape (sheet_of p).cells has it.kept it.stands).earlier (swapped h b y c.args.slot filter x c.requires.lawful c.args.masks.now c.args.store.now.shape (sheet_of p).cells has it.kept it.stands).old (swapped h b y c.args.slot filter x c.requires.lawful c.args.masks.now c.args.store.now.shape (sheet_of p).cells has it.kept it.stands).later (swapped h b y c.args.slot filter x c.requires.lawful c.args.masks.now c.args.store.now.shape (sheet_of p).cells has it.kept it.stands).swaps.before (swapped h b y c.args.slot filter x c.requires.lawful c.args.masks.now c.args.store.now.shape (sheet_of p).cells has it.kept it.stands).front (swapped h b y c.args.slot filter x c.requires.lawful c.args.masks.now c.args.store.now.shape (sheet_of p).cells has it.kept it.stands).back (root_for it.kept.mask filter) d.0 d.1 d.2 (c.requires.many it.kept it.stands).0 (c.requires.many it.kept it.stands).2))) in
    exchange_apart h b y c.args.slot filter x c.requires.lawful c.args.masks.now c.args.store.now.shape (sheet_of p).cells has it.kept it.stands (root_for it.kept.mask filter) d.0 d.1 d.2 given cn c.requires.given (c.args.point + 1) is pools are block (subst (IsIn block) d.4 at)

pub returns-clause-left_count : goal.returns-clause-left_count
returns-clause-left_count g c = let p = c.args.writer.now.place in let h = seen_by p in let b = base_of (sheet_of p) in let y = g.E.EditName.edit in let has = c.requires.masks in let x = c.requires.exchanges in let given = c.args.given.now.blocks in let filter = c.args.filter.now in
    let it = has.has x.row.mask_serial c.args.slot x.at in let is : c.args.point + 1 ≡ _ = ap (λ (n : ℕ). n + 1) c.requires.point.0 in
    let d = c.replace.ensures.done it.kept it.stands in let cn = ((c.requires.many it.kept it.stands).1 ∙ ap (λ (n : ℕ). n + 1) (sym (later_count h c.args.masks.now c.args.store.now.shape (sheet_of p).cells has c.args.slot it.kept it.stands filter.handle (swapped h b y c.args.slot filter x c.requires.lawful c.args.masks.now c.args.store.now.shape (sheet_of p).cells has it.kept it.stands).earlier (swapped h b y c.args.slot filter x c.requires.lawful c.args.masks.now c.args.store.now.shape (sheet_of p).cells has it.kept it.stands).old (swapped h b y c.args.slot filter x c.requires.lawful c.args.masks.now c.args.store.now.shape (sheet_of p).cells has it.kept it.stands).later (swapped h b y c.args.slot filter x c.requires.lawful c.args.masks.now c.args.store.now.shape (sheet_of p).cells has it.kept it.stands).swaps.before (swapped h b y c.args.slot filter x c.requires.lawful c.args.masks.now c.args.store.now.shape (sheet_of p).cells has it.kept it.stands).front (swapped h b y c.args.slot filter x c.requires.lawful c.args.masks.now c.args.store.now.shape (sheet_of p).cells has it.kept it.stands).back (root_for it.kept.mask filter) d.0 d.1 d.2 (c.requires.many it.kept it.stands).0 (c.requires.many it.kept it.stands).2))) in
    ap length d.4 ∙ (front_count (root_of h (root_for it.kept.mask filter)).chain (length d.0) d.2.link d.2.there ∙ sym cn)
