use Rattle.std.proofs.Common.{◌∙◌, ◌++◌, ◌∷◌, [], sym, ap, subst}
use Rattle.store_history.specs.declared.history.Commit.{Commit}
use Rattle.pin_store.specs.Sheets.{base_of}
use Rattle.pin_store.specs.Calls.{seen_by, sheet_of}
use Rattle.mask_build.proofs.Committing.{record_linked, mask_commit_is}
use Rattle.mask_build.proofs.naming.name_mask.Goals as goal

pub commit-requires-clause-linked : goal.commit-requires-clause-linked
commit-requires-clause-linked g c = let w = c.requires.lawful in record_linked c.args.store.now.shape (sheet_of c.args.writer.now.place).cells c.args.block w.0 c.requires.shape.0 w.1

pub commit-requires-clause-lawful : goal.commit-requires-clause-lawful
commit-requires-clause-lawful g c = let w = c.requires.lawful in let old = sheet_of c.args.writer.now.place in
    let one = mask_commit_is c.args.store.now.shape old.cells c.args.slot c.args.block w.0 w.1 c.args.stamp g.E.EditName.edit in
    subst (λ (m : Commit g.row.L-Entry.Denot). g.L.Law.keeps (seen_by c.args.writer.now.place ++ m ∷ []) (base_of old)) (sym one) w.2

pub returns-clause-seen : goal.returns-clause-seen
returns-clause-seen g c = λ mask is. let old = sheet_of c.args.writer.now.place in
    c.commit.ensures.seen ∙ ap (λ (m : Commit g.row.L-Entry.Denot). seen_by c.args.writer.now.place ++ m ∷ []) (mask_commit_is c.args.store.now.shape old.cells c.args.slot c.args.block mask is c.args.stamp g.E.EditName.edit)
