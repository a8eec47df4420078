use Rattle.std.proofs.Common.{◌∙◌, ◌+◌, List, ◌++◌, ◌∷◌, [], None, sym, ap, subst, arith}
use Rattle.store_history.specs.declared.history.Commit.{Commit}
use Rattle.store_history.specs.declared.places.TheConstants.{BUCKET_ROOTS}
use Rattle.pin_store.specs.declared.view.Sheet.{Sheet}
use Rattle.pin_store.specs.Layout.{commit_of}
use Rattle.pin_store.specs.Sheets.{base_of}
use Rattle.pin_store.specs.Calls.{seen_by, sheet_of}
use Rattle.mask_build.specs.Laid.{places, blocks_in}
use Rattle.mask_build.proofs.Aside.{first_read}
use Rattle.mask_build.proofs.Committing.{spelled_at, bucket_commit_is, commits_more}
use Rattle.mask_build.proofs.naming.name_buckets.Goals as goal

pub name_chain-requires-clause-lawful : goal.name_chain-requires-clause-lawful
name_chain-requires-clause-lawful g c = λ blocks spelled.
    let mirror = c.args.mirror.now in let mask = c.args.mask.now in let shape = c.args.store.now.shape in let stamp = c.args.stamp in let k = c.loop-bucket.bucket in let i = c.loop-bucket.invariant in
    let h = seen_by c.args.writer.now.place in let old = sheet_of c.args.writer.now.place in let place = c.place_of-place.result in let number = c.index-number.result.now in let edit = g.E.EditName.edit in
    let w = c.requires.lawful in let ps = places w.0 in let less = c.loop-bucket-test.true in
    let was = first_read mirror place number c.place_of-place.ensures.small c.index-number.ensures in
    let one = bucket_commit_is mirror shape old.cells mask w.0 w.1 k place number less c.place_of-place.ensures.place was blocks spelled stamp edit in
    subst (λ (d : Sheet). g.L.Law.keeps (seen_by c.loop-bucket.writer.place ++ commit_of shape d.cells (BUCKET_ROOTS + place) blocks stamp None edit ∷ []) (base_of d)) (sym i.sheet)
    (subst (λ (cs : List (Commit g.row.L-Entry.Denot)). g.L.Law.keeps cs (base_of old)) (commits_more h mask ps stamp k ∙ (λ t. sym (i.seen w.0 w.1) t ++ sym one t ∷ [])) (w.2 (k + 1) (omega arith)))

pub loop-bucket-preserved : goal.loop-bucket-preserved
loop-bucket-preserved g c =
    let mirror = c.args.mirror.now in let mask = c.args.mask.now in let shape = c.args.store.now.shape in let stamp = c.args.stamp in let k = c.loop-bucket.bucket in let i = c.loop-bucket.invariant in
    let h = seen_by c.args.writer.now.place in let old = sheet_of c.args.writer.now.place in let place = c.place_of-place.result in let number = c.index-number.result.now in let edit = g.E.EditName.edit in
    let less = c.loop-bucket-test.true in let at = c.place_of-place.ensures.place in
    let was = first_read mirror place number c.place_of-place.ensures.small c.index-number.ensures in
    record {
      store = c.name_chain.ensures.store;
      seen = λ xs laid. let spelled = spelled_at mirror shape old.cells mask xs laid k place number less at was in
          let one = bucket_commit_is mirror shape old.cells mask xs laid k place number less at was _ spelled stamp edit in
          c.name_chain.ensures.seen _ spelled ∙ ((λ t. i.seen xs laid t ++ (ap (λ (d : Sheet). commit_of shape d.cells (BUCKET_ROOTS + place) (blocks_in mask.size k xs) stamp None edit) i.sheet ∙ one) t ∷ [])
          ∙ sym (commits_more h mask (places xs) stamp k));
      sheet = c.name_chain.ensures.sheet ∙ i.sheet;
    }
