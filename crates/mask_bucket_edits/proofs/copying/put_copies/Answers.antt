use Rattle.std.proofs.Common.{◌≡◌, ◌∙◌, ℕ, ◌-◌, map, drop, get_or, slice_get, Some, refl, subst, arith}
use Rattle.std.proofs.lemmas.Option.{slice_get-get_or}
use Rattle.pin_store.specs.Calls.{seen_by, sheet_of}
use Rattle.pin_store.specs.Sheets.{base_of}
use Rattle.pin_store.proofs.Sound.{base_same, same_cells}
use Rattle.mask_table.specs.OfMirrors.Lists.{kept_in}
use Rattle.mask_bucket_edits.specs.Putting.{ArePut}
use Rattle.mask_bucket_edits.proofs.Among.{among_drop}
use Rattle.mask_bucket_edits.proofs.Putting.{put_step, still_has, still_free}
use Rattle.mask_bucket_edits.proofs.copying.put_copies.Goals as goal

pub put_copy-requires-clause-from : goal.put_copy-requires-clause-from
put_copy-requires-clause-from g c =
    let from = c.args.from.now in let given = c.args.given.now in let left = c.loop-left.left in let k = left - 1 in let b = get_or from k 0 in let inv = c.loop-left.invariant in
    let some = c.loop-left-test.true in let within = inv.within in let there : slice_get from k ≡ Some b = slice_get-get_or from k 0 (omega arith) in
    still_has c.args.mirror.now c.loop-left.mirror c.args.store.now.shape (sheet_of c.args.writer.now.place).cells (sheet_of c.loop-left.writer.place).cells (drop left given) inv.put.filled b
    (λ i. c.requires.apart b (k, there) (among_drop b left given i.0 i.1)) (c.requires.from k b there)

pub put_copy-requires-clause-free : goal.put_copy-requires-clause-free
put_copy-requires-clause-free g c =
    let from = c.args.from.now in let given = c.args.given.now in let left = c.loop-left.left in let k = left - 1 in let b = get_or given k 0 in let inv = c.loop-left.invariant in
    let some = c.loop-left-test.true in let within = inv.within in let long = c.requires.long in let there : slice_get given k ≡ Some b = slice_get-get_or given k 0 (omega arith) in
    let old = sheet_of c.args.writer.now.place in let new = sheet_of c.loop-left.writer.place in
    still_free (base_of old) (base_of new) (seen_by c.args.writer.now.place) (seen_by c.loop-left.writer.place) b (base_same old new inv.sheet) inv.seen (c.requires.given.free k b there)

pub overflow_add-start : goal.overflow_add-start
overflow_add-start g c =
    let from = c.args.from.now in let given = c.args.given.now in let left = c.loop-left.left in let k = left - 1 in let b = get_or given k 0 in let inv = c.loop-left.invariant in
    let some = c.loop-left-test.true in let within = inv.within in let long = c.requires.long in let there : slice_get given k ≡ Some b = slice_get-get_or given k 0 (omega arith) in
    let low = c.requires.given.pool k b there in omega arith

pub loop-left-preserved : goal.loop-left-preserved
loop-left-preserved g c =
    let from = c.args.from.now in let given = c.args.given.now in let left = c.loop-left.left in let k = left - 1 in let inv = c.loop-left.invariant in let p = c.put_copy.ensures in
    let some = c.loop-left-test.true in let within = inv.within in
    let old = sheet_of c.args.writer.now.place in let middle = sheet_of c.loop-left.writer.place in let new = sheet_of c.put_copy.new.writer.place in record {
      within = omega arith;
      store = p.store;
      seen = p.seen ∙ inv.seen;
      sheet = same_cells old middle new inv.sheet p.sheet;
      put = put_step c.args.mirror.now c.loop-left.mirror c.put_copy.new.mirror c.args.store.now.shape old.cells middle.cells new.cells from given c.args.number c.loop-left.start left k (get_or from k 0) (get_or given k 0)
          (omega arith) (omega arith) c.requires.long refl refl c.requires.given.different c.requires.apart inv.put p.put;
      lists = λ slot last fs has. p.lists slot last fs (inv.lists slot last fs has);
      kept = p.kept;
    }

pub returns-clause-put : goal.returns-clause-put
returns-clause-put g c = let over = c.loop-left-test.false in let none : c.loop-left.left ≡ 0 = omega arith in
    subst (λ (k : ℕ). ArePut c.args.mirror.now c.loop-left.mirror c.args.store.now.shape (sheet_of c.args.writer.now.place).cells (sheet_of c.loop-left.writer.place).cells
    (drop k c.args.given.now) (map (kept_in c.args.mirror.now) (drop k c.args.from.now)) c.args.number c.loop-left.start) none c.loop-left.invariant.put
