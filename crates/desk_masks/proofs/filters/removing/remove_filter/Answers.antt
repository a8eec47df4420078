use Rattle.std.proofs.Common.{◌≡◌, ◌∙◌, ℕ, ◌+◌, List, [], ◌∷◌, ◌++◌, length, sym, ap, subst}
use Rattle.store_history.specs.declared.history.Commit.{Commit}
use Rattle.store_history.specs.History.{root_of}
use Rattle.pin_store.specs.Sheets.{base_of}
use Rattle.pin_store.specs.Calls.{seen_by, sheet_of}
use Rattle.filter_state.specs.declared.edit.Edit.{Edit}
use Rattle.mask_table.proofs.OfMirrors.Keeping.{same_base}
use Rattle.hook_law.specs.Standing.{Region, Stands}
use Rattle.hook_store_law.specs.Stated.{hook_meaning}
use Rattle.hook_store_law.specs.Blocks.{hook_codec}
use Rattle.desk_masks.specs.Masks.{HasMasks}
use Rattle.desk_masks.proofs.OfFilterCommits.Rewriting.{rewrite_lawful}
use Rattle.desk_masks.proofs.OfFilterCommits.After.{after_lawful, after_journal, after_rests_but, after_rests, after_pools}
use Rattle.hook_law.specs.Standing.{IsIn}
use Rattle.mask_writer.specs.Standing.{AreNamed}
use Rattle.desk_masks.specs.OfFilterCommits.Blocks.{AreOut}
use Rattle.desk_masks.proofs.OfFilterCommits.After.{front_count}
use Rattle.desk_masks.proofs.OfFilterCommits.Locating.{later_there, later_count}
use Rattle.desk_masks.proofs.OfFilterCommits.Removing.{lost, remove_rewrites, remove_region, remove_masks, remove_comes, remove_spends, remove_out, remove_apart}
use Rattle.desk_masks.proofs.filters.removing.remove_filter.Goals as goal

pub remove-requires-clause-slot : goal.remove-requires-clause-slot
remove-requires-clause-slot g c = c.requires.removes.at.small

pub remove-requires-clause-there : goal.remove-requires-clause-there
remove-requires-clause-there g c = let p = c.args.writer.now.place in let h = seen_by p in let b = base_of (sheet_of p) in let y = g.E.EditName.edit in let has = c.requires.masks in let r = c.requires.removes in let given = c.args.given.now.blocks in
    let it = has.has r.row.mask_serial c.args.slot r.at in let is : c.args.point + 1 ≡ _ = ap (λ (n : ℕ). n + 1) c.requires.point.0 in
    let l = c.requires.many it.kept it.stands in
    (it.kept, _, _, _, it.stands, later_there h c.args.masks.now c.args.store.now.shape (sheet_of p).cells has c.args.slot it.kept it.stands c.args.handle (length given) l)

pub remove-requires-clause-many : goal.remove-requires-clause-many
remove-requires-clause-many g c = λ kept root front old stands at. let p = c.args.writer.now.place in let h = seen_by p in let b = base_of (sheet_of p) in let y = g.E.EditName.edit in let has = c.requires.masks in let r = c.requires.removes in let given = c.args.given.now.blocks in
    let it = has.has r.row.mask_serial c.args.slot r.at in let is : c.args.point + 1 ≡ _ = ap (λ (n : ℕ). n + 1) c.requires.point.0 in
    (sym (later_count h c.args.masks.now c.args.store.now.shape (sheet_of p).cells has c.args.slot kept stands c.args.handle (lost h b y c.args.slot c.args.handle r c.requires.lawful c.args.masks.now c.args.store.now.shape (sheet_of p).cells has kept stands).earlier (lost h b y c.args.slot c.args.handle r c.requires.lawful c.args.masks.now c.args.store.now.shape (sheet_of p).cells has kept stands).old (lost h b y c.args.slot c.args.handle r c.requires.lawful c.args.masks.now c.args.store.now.shape (sheet_of p).cells has kept stands).later (lost h b y c.args.slot c.args.handle r c.requires.lawful c.args.masks.now c.args.store.now.shape (sheet_of p).cells has kept stands).loses.before (lost h b y c.args.slot c.args.handle r c.requires.lawful c.args.masks.now c.args.store.now.shape (sheet_of p).cells has kept stands).front (lost h b y c.args.slot c.args.handle r c.requires.lawful c.args.masks.now c.args.store.now.shape (sheet_of p).cells has kept stands).back root front old at (length given) (c.requires.many kept stands)))

pub remove-requires-clause-kept : goal.remove-requires-clause-kept
remove-requires-clause-kept g c = c.requires.masks.named

pub remove-requires-clause-lawful : goal.remove-requires-clause-lawful
remove-requires-clause-lawful g c = λ kept root front old stands at. let p = c.args.writer.now.place in let h = seen_by p in let b = base_of (sheet_of p) in let y = g.E.EditName.edit in let has = c.requires.masks in let r = c.requires.removes in let given = c.args.given.now.blocks in
    let it = has.has r.row.mask_serial c.args.slot r.at in let is : c.args.point + 1 ≡ _ = ap (λ (n : ℕ). n + 1) c.requires.point.0 in
    let cn = (sym (later_count h c.args.masks.now c.args.store.now.shape (sheet_of p).cells has c.args.slot kept stands c.args.handle (lost h b y c.args.slot c.args.handle r c.requires.lawful c.args.masks.now c.args.store.now.shape (sheet_of p).cells has kept stands).earlier (lost h b y c.args.slot c.args.handle r c.requires.lawful c.args.masks.now c.args.store.now.shape (sheet_of p).cells has kept stands).old (lost h b y c.args.slot c.args.handle r c.requires.lawful c.args.masks.now c.args.store.now.shape (sheet_of p).cells has kept stands).later (lost h b y c.args.slot c.args.handle r c.requires.lawful c.args.masks.now c.args.store.now.shape (sheet_of p).cells has kept stands).loses.before (lost h b y c.args.slot c.args.handle r c.requires.lawful c.args.masks.now c.args.store.now.shape (sheet_of p).cells has kept stands).front (lost h b y c.args.slot c.args.handle r c.requires.lawful c.args.masks.now c.args.store.now.shape (sheet_of p).cells has kept stands).back root front old at (length given) (c.requires.many kept stands))) in
    rewrite_lawful h b _ y r.accepted.low c.requires.lawful (remove_rewrites h b y c.args.slot c.args.handle r c.requires.lawful c.args.masks.now c.args.store.now.shape (sheet_of p).cells has kept stands root front old at given cn c.requires.given (c.args.point + 1) is)

pub returns-clause-seen : goal.returns-clause-seen
returns-clause-seen g c = λ kept stands. let d = c.remove.ensures.done kept stands in (d.0, d.1, d.2, d.3, d.4)

pub returns-clause-journal : goal.returns-clause-journal
returns-clause-journal g c = let p = c.args.writer.now.place in let h = seen_by p in let b = base_of (sheet_of p) in let y = g.E.EditName.edit in let has = c.requires.masks in let r = c.requires.removes in let given = c.args.given.now.blocks in
    let it = has.has r.row.mask_serial c.args.slot r.at in let is : c.args.point + 1 ≡ _ = ap (λ (n : ℕ). n + 1) c.requires.point.0 in let new = c.remove.new.writer.place in
    let d = c.remove.ensures.done it.kept it.stands in let cn = (sym (later_count h c.args.masks.now c.args.store.now.shape (sheet_of p).cells has c.args.slot it.kept it.stands c.args.handle (lost h b y c.args.slot c.args.handle r c.requires.lawful c.args.masks.now c.args.store.now.shape (sheet_of p).cells has it.kept it.stands).earlier (lost h b y c.args.slot c.args.handle r c.requires.lawful c.args.masks.now c.args.store.now.shape (sheet_of p).cells has it.kept it.stands).old (lost h b y c.args.slot c.args.handle r c.requires.lawful c.args.masks.now c.args.store.now.shape (sheet_of p).cells has it.kept it.stands).later (lost h b y c.args.slot c.args.handle r c.requires.lawful c.args.masks.now c.args.store.now.shape (sheet_of p).cells has it.kept it.stands).loses.before (lost h b y c.args.slot c.args.handle r c.requires.lawful c.args.masks.now c.args.store.now.shape (sheet_of p).cells has it.kept it.stands).front (lost h b y c.args.slot c.args.handle r c.requires.lawful c.args.masks.now c.args.store.now.shape (sheet_of p).cells has it.kept it.stands).back d.0 d.1 d.2 d.3 (length given) (c.requires.many it.kept it.stands))) in
    after_journal h b _ y r.accepted.low c.requires.lawful (remove_rewrites h b y c.args.slot c.args.handle r c.requires.lawful c.args.masks.now c.args.store.now.shape (sheet_of p).cells has it.kept it.stands d.0 d.1 d.2 d.3 given cn c.requires.given (c.args.point + 1) is) (seen_by new) d.4 (base_of (sheet_of new)) (same_base (sheet_of p) (sheet_of new) c.remove.ensures.sheet)

pub returns-clause-lawful : goal.returns-clause-lawful
returns-clause-lawful g c = let p = c.args.writer.now.place in let h = seen_by p in let b = base_of (sheet_of p) in let y = g.E.EditName.edit in let has = c.requires.masks in let r = c.requires.removes in let given = c.args.given.now.blocks in
    let it = has.has r.row.mask_serial c.args.slot r.at in let is : c.args.point + 1 ≡ _ = ap (λ (n : ℕ). n + 1) c.requires.point.0 in let new = c.remove.new.writer.place in
    let d = c.remove.ensures.done it.kept it.stands in let cn = (sym (later_count h c.args.masks.now c.args.store.now.shape (sheet_of p).cells has c.args.slot it.kept it.stands c.args.handle (lost h b y c.args.slot c.args.handle r c.requires.lawful c.args.masks.now c.args.store.now.shape (sheet_of p).cells has it.kept it.stands).earlier (lost h b y c.args.slot c.args.handle r c.requires.lawful c.args.masks.now c.args.store.now.shape (sheet_of p).cells has it.kept it.stands).old (lost h b y c.args.slot c.args.handle r c.requires.lawful c.args.masks.now c.args.store.now.shape (sheet_of p).cells has it.kept it.stands).later (lost h b y c.args.slot c.args.handle r c.requires.lawful c.args.masks.now c.args.store.now.shape (sheet_of p).cells has it.kept it.stands).loses.before (lost h b y c.args.slot c.args.handle r c.requires.lawful c.args.masks.now c.args.store.now.shape (sheet_of p).cells has it.kept it.stands).front (lost h b y c.args.slot c.args.handle r c.requires.lawful c.args.masks.now c.args.store.now.shape (sheet_of p).cells has it.kept it.stands).back d.0 d.1 d.2 d.3 (length given) (c.requires.many it.kept it.stands))) in
    after_lawful h b _ y r.accepted.low c.requires.lawful (remove_rewrites h b y c.args.slot c.args.handle r c.requires.lawful c.args.masks.now c.args.store.now.shape (sheet_of p).cells has it.kept it.stands d.0 d.1 d.2 d.3 given cn c.requires.given (c.args.point + 1) is) (seen_by new) d.4 (base_of (sheet_of new)) (same_base (sheet_of p) (sheet_of new) c.remove.ensures.sheet)

pub returns-clause-masks : goal.returns-clause-masks
returns-clause-masks g c = let p = c.args.writer.now.place in let h = seen_by p in let b = base_of (sheet_of p) in let y = g.E.EditName.edit in let has = c.requires.masks in let r = c.requires.removes in let given = c.args.given.now.blocks in
    let it = has.has r.row.mask_serial c.args.slot r.at in let is : c.args.point + 1 ≡ _ = ap (λ (n : ℕ). n + 1) c.requires.point.0 in let new = c.remove.new.writer.place in let done = c.remove.ensures in
    let d = c.remove.ensures.done it.kept it.stands in let cn = (sym (later_count h c.args.masks.now c.args.store.now.shape (sheet_of p).cells has c.args.slot it.kept it.stands c.args.handle (lost h b y c.args.slot c.args.handle r c.requires.lawful c.args.masks.now c.args.store.now.shape (sheet_of p).cells has it.kept it.stands).earlier (lost h b y c.args.slot c.args.handle r c.requires.lawful c.args.masks.now c.args.store.now.shape (sheet_of p).cells has it.kept it.stands).old (lost h b y c.args.slot c.args.handle r c.requires.lawful c.args.masks.now c.args.store.now.shape (sheet_of p).cells has it.kept it.stands).later (lost h b y c.args.slot c.args.handle r c.requires.lawful c.args.masks.now c.args.store.now.shape (sheet_of p).cells has it.kept it.stands).loses.before (lost h b y c.args.slot c.args.handle r c.requires.lawful c.args.masks.now c.args.store.now.shape (sheet_of p).cells has it.kept it.stands).front (lost h b y c.args.slot c.args.handle r c.requires.lawful c.args.masks.now c.args.store.now.shape (sheet_of p).cells has it.kept it.stands).back d.0 d.1 d.2 d.3 (length given) (c.requires.many it.kept it.stands))) in
    subst (HasMasks c.remove.new.self c.args.store.now.shape (sheet_of new).cells) (sym d.4)
    (remove_masks h b y c.args.slot c.args.handle r c.requires.lawful c.args.masks.now c.args.store.now.shape (sheet_of p).cells has it.kept it.stands d.0 d.1 d.2 d.3 given cn c.requires.given (c.args.point + 1) is c.remove.new.self (sheet_of new).cells
    (subst (λ (l : List (Commit Edit)). AreNamed c.remove.new.self c.args.store.now.shape (sheet_of new).cells (root_of l)) d.4 done.kept) done.masks done.list done.lists)

pub returns-clause-rests_but : goal.returns-clause-rests_but
returns-clause-rests_but g c = λ kept stands. let p = c.args.writer.now.place in let h = seen_by p in let b = base_of (sheet_of p) in let y = g.E.EditName.edit in let has = c.requires.masks in let r = c.requires.removes in let given = c.args.given.now.blocks in
    let it = has.has r.row.mask_serial c.args.slot r.at in let is : c.args.point + 1 ≡ _ = ap (λ (n : ℕ). n + 1) c.requires.point.0 in let new = c.remove.new.writer.place in
    let d = c.remove.ensures.done kept stands in let cn = (sym (later_count h c.args.masks.now c.args.store.now.shape (sheet_of p).cells has c.args.slot kept stands c.args.handle (lost h b y c.args.slot c.args.handle r c.requires.lawful c.args.masks.now c.args.store.now.shape (sheet_of p).cells has kept stands).earlier (lost h b y c.args.slot c.args.handle r c.requires.lawful c.args.masks.now c.args.store.now.shape (sheet_of p).cells has kept stands).old (lost h b y c.args.slot c.args.handle r c.requires.lawful c.args.masks.now c.args.store.now.shape (sheet_of p).cells has kept stands).later (lost h b y c.args.slot c.args.handle r c.requires.lawful c.args.masks.now c.args.store.now.shape (sheet_of p).cells has kept stands).loses.before (lost h b y c.args.slot c.args.handle r c.requires.lawful c.args.masks.now c.args.store.now.shape (sheet_of p).cells has kept stands).front (lost h b y c.args.slot c.args.handle r c.requires.lawful c.args.masks.now c.args.store.now.shape (sheet_of p).cells has kept stands).back d.0 d.1 d.2 d.3 (length given) (c.requires.many kept stands))) in
    after_rests_but h b _ y r.accepted.low c.requires.lawful (remove_rewrites h b y c.args.slot c.args.handle r c.requires.lawful c.args.masks.now c.args.store.now.shape (sheet_of p).cells has kept stands d.0 d.1 d.2 d.3 given cn c.requires.given (c.args.point + 1) is) (seen_by new) d.4 (base_of (sheet_of new)) (same_base (sheet_of p) (sheet_of new) c.remove.ensures.sheet) kept.mask.serial (sym (ap (λ (q : Region). q.mask) (remove_region h b y c.args.slot c.args.handle r c.requires.lawful c.args.masks.now c.args.store.now.shape (sheet_of p).cells has kept stands d.0 d.1 d.2 d.3 given cn c.requires.given (c.args.point + 1) is)))

pub returns-clause-rests : goal.returns-clause-rests
returns-clause-rests g c = λ kept stands fits. let p = c.args.writer.now.place in let h = seen_by p in let b = base_of (sheet_of p) in let y = g.E.EditName.edit in let has = c.requires.masks in let r = c.requires.removes in let given = c.args.given.now.blocks in
    let it = has.has r.row.mask_serial c.args.slot r.at in let is : c.args.point + 1 ≡ _ = ap (λ (n : ℕ). n + 1) c.requires.point.0 in let new = c.remove.new.writer.place in
    let d = c.remove.ensures.done kept stands in let cn = (sym (later_count h c.args.masks.now c.args.store.now.shape (sheet_of p).cells has c.args.slot kept stands c.args.handle (lost h b y c.args.slot c.args.handle r c.requires.lawful c.args.masks.now c.args.store.now.shape (sheet_of p).cells has kept stands).earlier (lost h b y c.args.slot c.args.handle r c.requires.lawful c.args.masks.now c.args.store.now.shape (sheet_of p).cells has kept stands).old (lost h b y c.args.slot c.args.handle r c.requires.lawful c.args.masks.now c.args.store.now.shape (sheet_of p).cells has kept stands).later (lost h b y c.args.slot c.args.handle r c.requires.lawful c.args.masks.now c.args.store.now.shape (sheet_of p).cells has kept stands).loses.before (lost h b y c.args.slot c.args.handle r c.requires.lawful c.args.masks.now c.args.store.now.shape (sheet_of p).cells has kept stands).front (lost h b y c.args.slot c.args.handle r c.requires.lawful c.args.masks.now c.args.store.now.shape (sheet_of p).cells has kept stands).back d.0 d.1 d.2 d.3 (length given) (c.requires.many kept stands))) in
    after_rests h b _ y r.accepted.low c.requires.lawful (remove_rewrites h b y c.args.slot c.args.handle r c.requires.lawful c.args.masks.now c.args.store.now.shape (sheet_of p).cells has kept stands d.0 d.1 d.2 d.3 given cn c.requires.given (c.args.point + 1) is) (seen_by new) d.4 (base_of (sheet_of new)) (same_base (sheet_of p) (sheet_of new) c.remove.ensures.sheet) kept.mask.serial kept.mask.size (sym (ap (λ (q : Region). q.mask) (remove_region h b y c.args.slot c.args.handle r c.requires.lawful c.args.masks.now c.args.store.now.shape (sheet_of p).cells has kept stands d.0 d.1 d.2 d.3 given cn c.requires.given (c.args.point + 1) is))) (sym (ap (λ (q : Region). q.size) (remove_region h b y c.args.slot c.args.handle r c.requires.lawful c.args.masks.now c.args.store.now.shape (sheet_of p).cells has kept stands d.0 d.1 d.2 d.3 given cn c.requires.given (c.args.point + 1) is))) fits

pub returns-clause-comes : goal.returns-clause-comes
returns-clause-comes g c = λ x role stands. let p = c.args.writer.now.place in let h = seen_by p in let b = base_of (sheet_of p) in let y = g.E.EditName.edit in let has = c.requires.masks in let r = c.requires.removes in let given = c.args.given.now.blocks in
    let it = has.has r.row.mask_serial c.args.slot r.at in let is : c.args.point + 1 ≡ _ = ap (λ (n : ℕ). n + 1) c.requires.point.0 in let new = c.remove.new.writer.place in
    let d = c.remove.ensures.done it.kept it.stands in let cn = (sym (later_count h c.args.masks.now c.args.store.now.shape (sheet_of p).cells has c.args.slot it.kept it.stands c.args.handle (lost h b y c.args.slot c.args.handle r c.requires.lawful c.args.masks.now c.args.store.now.shape (sheet_of p).cells has it.kept it.stands).earlier (lost h b y c.args.slot c.args.handle r c.requires.lawful c.args.masks.now c.args.store.now.shape (sheet_of p).cells has it.kept it.stands).old (lost h b y c.args.slot c.args.handle r c.requires.lawful c.args.masks.now c.args.store.now.shape (sheet_of p).cells has it.kept it.stands).later (lost h b y c.args.slot c.args.handle r c.requires.lawful c.args.masks.now c.args.store.now.shape (sheet_of p).cells has it.kept it.stands).loses.before (lost h b y c.args.slot c.args.handle r c.requires.lawful c.args.masks.now c.args.store.now.shape (sheet_of p).cells has it.kept it.stands).front (lost h b y c.args.slot c.args.handle r c.requires.lawful c.args.masks.now c.args.store.now.shape (sheet_of p).cells has it.kept it.stands).back d.0 d.1 d.2 d.3 (length given) (c.requires.many it.kept it.stands))) in
    remove_comes h b y c.args.slot c.args.handle r c.requires.lawful c.args.masks.now c.args.store.now.shape (sheet_of p).cells has it.kept it.stands d.0 d.1 d.2 d.3 given cn c.requires.given (c.args.point + 1) is x role (subst (λ (l : List (Commit Edit)). Stands hook_meaning hook_codec l x role) d.4 stands)

pub returns-clause-pools : goal.returns-clause-pools
returns-clause-pools g c = λ pools taken. let p = c.args.writer.now.place in let h = seen_by p in let b = base_of (sheet_of p) in let y = g.E.EditName.edit in let has = c.requires.masks in let r = c.requires.removes in let given = c.args.given.now.blocks in
    let it = has.has r.row.mask_serial c.args.slot r.at in let is : c.args.point + 1 ≡ _ = ap (λ (n : ℕ). n + 1) c.requires.point.0 in let new = c.remove.new.writer.place in
    let d = c.remove.ensures.done it.kept it.stands in let cn = (sym (later_count h c.args.masks.now c.args.store.now.shape (sheet_of p).cells has c.args.slot it.kept it.stands c.args.handle (lost h b y c.args.slot c.args.handle r c.requires.lawful c.args.masks.now c.args.store.now.shape (sheet_of p).cells has it.kept it.stands).earlier (lost h b y c.args.slot c.args.handle r c.requires.lawful c.args.masks.now c.args.store.now.shape (sheet_of p).cells has it.kept it.stands).old (lost h b y c.args.slot c.args.handle r c.requires.lawful c.args.masks.now c.args.store.now.shape (sheet_of p).cells has it.kept it.stands).later (lost h b y c.args.slot c.args.handle r c.requires.lawful c.args.masks.now c.args.store.now.shape (sheet_of p).cells has it.kept it.stands).loses.before (lost h b y c.args.slot c.args.handle r c.requires.lawful c.args.masks.now c.args.store.now.shape (sheet_of p).cells has it.kept it.stands).front (lost h b y c.args.slot c.args.handle r c.requires.lawful c.args.masks.now c.args.store.now.shape (sheet_of p).cells has it.kept it.stands).back d.0 d.1 d.2 d.3 (length given) (c.requires.many it.kept it.stands))) in
    after_pools h b _ y r.accepted.low c.requires.lawful (remove_rewrites h b y c.args.slot c.args.handle r c.requires.lawful c.args.masks.now c.args.store.now.shape (sheet_of p).cells has it.kept it.stands d.0 d.1 d.2 d.3 given cn c.requires.given (c.args.point + 1) is) (seen_by new) d.4 (base_of (sheet_of new)) (same_base (sheet_of p) (sheet_of new) c.remove.ensures.sheet) pools given (remove_spends h b y c.args.slot c.args.handle r c.requires.lawful c.args.masks.now c.args.store.now.shape (sheet_of p).cells has it.kept it.stands d.0 d.1 d.2 d.3 given cn c.requires.given (c.args.point + 1) is) c.requires.given taken

pub returns-clause-left : goal.returns-clause-left
returns-clause-left g c = λ one. let p = c.args.writer.now.place in let h = seen_by p in let b = base_of (sheet_of p) in let y = g.E.EditName.edit in let has = c.requires.masks in let r = c.requires.removes in let given = c.args.given.now.blocks in
    let it = has.has r.row.mask_serial c.args.slot r.at in let is : c.args.point + 1 ≡ _ = ap (λ (n : ℕ). n + 1) c.requires.point.0 in let new = c.remove.new.writer.place in
    let d = c.remove.ensures.done it.kept it.stands in let cn = (sym (later_count h c.args.masks.now c.args.store.now.shape (sheet_of p).cells has c.args.slot it.kept it.stands c.args.handle (lost h b y c.args.slot c.args.handle r c.requires.lawful c.args.masks.now c.args.store.now.shape (sheet_of p).cells has it.kept it.stands).earlier (lost h b y c.args.slot c.args.handle r c.requires.lawful c.args.masks.now c.args.store.now.shape (sheet_of p).cells has it.kept it.stands).old (lost h b y c.args.slot c.args.handle r c.requires.lawful c.args.masks.now c.args.store.now.shape (sheet_of p).cells has it.kept it.stands).later (lost h b y c.args.slot c.args.handle r c.requires.lawful c.args.masks.now c.args.store.now.shape (sheet_of p).cells has it.kept it.stands).loses.before (lost h b y c.args.slot c.args.handle r c.requires.lawful c.args.masks.now c.args.store.now.shape (sheet_of p).cells has it.kept it.stands).front (lost h b y c.args.slot c.args.handle r c.requires.lawful c.args.masks.now c.args.store.now.shape (sheet_of p).cells has it.kept it.stands).back d.0 d.1 d.2 d.3 (length given) (c.requires.many it.kept it.stands))) in
    subst (λ (l : List (Commit Edit)). AreOut l c.remove.new.self.left_blocks) (sym d.4) (subst (AreOut (h ++ _ ∷ [])) (sym d.5) (remove_out h b y c.args.slot c.args.handle r c.requires.lawful c.args.masks.now c.args.store.now.shape (sheet_of p).cells has it.kept it.stands d.0 d.1 d.2 d.3 given cn c.requires.given (c.args.point + 1) is one))

pub returns-clause-left_apart : goal.returns-clause-left_apart
returns-clause-left_apart g c = λ pools block are at. let p = c.args.writer.now.place in let h = seen_by p in let b = base_of (sheet_of p) in let y = g.E.EditName.edit in let has = c.requires.masks in let r = c.requires.removes in let given = c.args.given.now.blocks in
    let it = has.has r.row.mask_serial c.args.slot r.at in let is : c.args.point + 1 ≡ _ = ap (λ (n : ℕ). n + 1) c.requires.point.0 in let new = c.remove.new.writer.place in
    let d = c.remove.ensures.done it.kept it.stands in let cn = (sym (later_count h c.args.masks.now c.args.store.now.shape (sheet_of p).cells has c.args.slot it.kept it.stands c.args.handle (lost h b y c.args.slot c.args.handle r c.requires.lawful c.args.masks.now c.args.store.now.shape (sheet_of p).cells has it.kept it.stands).earlier (lost h b y c.args.slot c.args.handle r c.requires.lawful c.args.masks.now c.args.store.now.shape (sheet_of p).cells has it.kept it.stands).old (lost h b y c.args.slot c.args.handle r c.requires.lawful c.args.masks.now c.args.store.now.shape (sheet_of p).cells has it.kept it.stands).later (lost h b y c.args.slot c.args.handle r c.requires.lawful c.args.masks.now c.args.store.now.shape (sheet_of p).cells has it.kept it.stands).loses.before (lost h b y c.args.slot c.args.handle r c.requires.lawful c.args.masks.now c.args.store.now.shape (sheet_of p).cells has it.kept it.stands).front (lost h b y c.args.slot c.args.handle r c.requires.lawful c.args.masks.now c.args.store.now.shape (sheet_of p).cells has it.kept it.stands).back d.0 d.1 d.2 d.3 (length given) (c.requires.many it.kept it.stands))) in
    remove_apart h b y c.args.slot c.args.handle r c.requires.lawful c.args.masks.now c.args.store.now.shape (sheet_of p).cells has it.kept it.stands d.0 d.1 d.2 d.3 given cn c.requires.given (c.args.point + 1) is pools are block (subst (IsIn block) d.5 at)

pub returns-clause-left_count : goal.returns-clause-left_count
returns-clause-left_count g c = let p = c.args.writer.now.place in let h = seen_by p in let b = base_of (sheet_of p) in let y = g.E.EditName.edit in let has = c.requires.masks in let r = c.requires.removes in let given = c.args.given.now.blocks in
    let it = has.has r.row.mask_serial c.args.slot r.at in let is : c.args.point + 1 ≡ _ = ap (λ (n : ℕ). n + 1) c.requires.point.0 in
    let d = c.remove.ensures.done it.kept it.stands in let cn = (sym (later_count h c.args.masks.now c.args.store.now.shape (sheet_of p).cells has c.args.slot it.kept it.stands c.args.handle (lost h b y c.args.slot c.args.handle r c.requires.lawful c.args.masks.now c.args.store.now.shape (sheet_of p).cells has it.kept it.stands).earlier (lost h b y c.args.slot c.args.handle r c.requires.lawful c.args.masks.now c.args.store.now.shape (sheet_of p).cells has it.kept it.stands).old (lost h b y c.args.slot c.args.handle r c.requires.lawful c.args.masks.now c.args.store.now.shape (sheet_of p).cells has it.kept it.stands).later (lost h b y c.args.slot c.args.handle r c.requires.lawful c.args.masks.now c.args.store.now.shape (sheet_of p).cells has it.kept it.stands).loses.before (lost h b y c.args.slot c.args.handle r c.requires.lawful c.args.masks.now c.args.store.now.shape (sheet_of p).cells has it.kept it.stands).front (lost h b y c.args.slot c.args.handle r c.requires.lawful c.args.masks.now c.args.store.now.shape (sheet_of p).cells has it.kept it.stands).back d.0 d.1 d.2 d.3 (length given) (c.requires.many it.kept it.stands))) in
    ap length d.5 ∙ (front_count (root_of h d.0).chain (length d.1) d.3.link d.3.there ∙ ap (λ (n : ℕ). n + 1) (sym cn))
