use Rattle.std.proofs.Common.{◌+◌, List, Some, refl, sym, subst}
use Rattle.store_history.specs.declared.history.Commit.{Commit}
use Rattle.store_history.specs.History.{root_of}
use Rattle.store_history.specs.declared.places.TheConstants.{BUCKET_ROOTS}
use Rattle.pin_store.specs.declared.view.Sheet.{Sheet}
use Rattle.pin_store.specs.Layout.{commit_of}
use Rattle.pin_store.specs.Calls.{seen_by, sheet_of}
use Rattle.mask_table.specs.OfMirrors.Kept.{IsKept}
use Rattle.mask_table.proofs.OfMirrors.Keeping.{kept_renamed}
use Rattle.mask_bucket_edits.proofs.renaming.rename.Goals as goal

pub returns-clause-kept : goal.returns-clause-kept
returns-clause-kept g c = let chain = c.requires.chain.2 in let bs = c.requires.chain.1 in let own = c.requires.chain.0 in let shape = c.args.store.now.shape in let cells = (sheet_of c.args.writer.now.place).cells in
    let h = seen_by c.args.writer.now.place in let b = c.begin.ensures in let named = c.name_chain.ensures in
    let one : Commit g.row.L-Entry.Denot = commit_of shape cells (BUCKET_ROOTS + c.args.place) bs c.args.edit (Some c.args.edit) g.E.EditName.edit in
    let whole = kept_renamed c.args.mirror.now c.begin.new.self shape cells h one c.args.place c.args.number bs own refl (record { slots = b.slots; next = b.next; filters = b.filters; ages = b.ages; first = b.first })
    c.requires.kept chain refl c.requires.chain.3 in
    subst (λ (d : Sheet). IsKept c.begin.new.self shape d.cells (root_of (seen_by c.name_chain.new.writer.place))) (sym named.sheet)
    (subst (λ (more : List (Commit g.row.L-Entry.Denot)). IsKept c.begin.new.self shape cells (root_of more)) (sym (named.seen bs chain.spelled)) whole)
