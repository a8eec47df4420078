use Rattle.std.proofs.Common.{◌≡◌, ◌∙◌, ℕ, ◌+◌, List, [], ◌∷◌, ◌++◌, length, map, take, get_or, slice_get, Option, Some, sym, ap, subst, arith}
use Rattle.std.specs.Prelude.{eqb}
use Rattle.std.specs.List.{IsDistinct}
use Rattle.std.proofs.lemmas.Option.{slice_get-get_or}
use Rattle.pin_store.specs.Calls.{seen_by, sheet_of}
use Rattle.pin_store.specs.Sheets.{base_of}
use Rattle.pin_store.proofs.Sound.{base_same}
use Rattle.block_codec.specs.declared.filter.StoredFilter.{StoredFilter}
use Rattle.mask_table.specs.OfMirrors.Lists.{kept_in}
use Rattle.mask_table.proofs.OfMirrors.Lasting.{kept_same}
use Rattle.mask_bucket_edits.specs.Putting.{AreApart, ArePut}
use Rattle.mask_bucket_edits.proofs.Among.{among_take, among_one, different_apart}
use Rattle.mask_bucket_edits.proofs.Putting.{put_one, put_both, still_has, given_ends, given_first}
use Rattle.mask_bucket_edits.proofs.copying.put_changed.Goals as goal

pub put_in_front-requires-clause-free : goal.put_in_front-requires-clause-free
put_in_front-requires-clause-free g c = let given = c.args.given.now in let n = length c.args.from.now in let long = c.requires.long in
    c.requires.given.free n (get_or given n 0) (slice_get-get_or given n 0 (omega arith))

pub put_copies-requires-clause-from : goal.put_copies-requires-clause-from
put_copies-requires-clause-from g c = λ k b e. let given = c.args.given.now in let n = length c.args.from.now in let long = c.requires.long in let last = get_or given n 0 in
    let there : slice_get given n ≡ Some last = slice_get-get_or given n 0 (omega arith) in
    let p = c.put_in_front.ensures in let old = (sheet_of c.args.writer.now.place).cells in let new = (sheet_of c.put_in_front.new.writer.place).cells in
    let one = put_one c.args.mirror.now c.put_in_front.new.mirror c.args.store.now.shape old new last c.args.number c.args.age c.args.filter.now p.filled p.dated p.chain in
    still_has c.args.mirror.now c.put_in_front.new.mirror c.args.store.now.shape old new (last ∷ []) one.filled b
    (λ i. c.requires.apart b (k, e) (n, there ∙ ap Some (among_one b last i.0 i.1))) (c.requires.from k b e)

pub put_copies-requires-clause-given : goal.put_copies-requires-clause-given
put_copies-requires-clause-given g c = let p = c.put_in_front.ensures in let old = sheet_of c.args.writer.now.place in let new = sheet_of c.put_in_front.new.writer.place in
    given_first (base_of old) (base_of new) (seen_by c.args.writer.now.place) (seen_by c.put_in_front.new.writer.place) (length c.args.from.now) c.args.given.now (base_same old new p.sheet) p.seen c.requires.given

pub put_copies-requires-clause-apart : goal.put_copies-requires-clause-apart
put_copies-requires-clause-apart g c = λ b i j. c.requires.apart b i (j.0, among_take b (length c.args.from.now) c.args.given.now j.0 j.1)

pub returns-clause-put : goal.returns-clause-put
returns-clause-put g c =
    let given = c.args.given.now in let from = c.args.from.now in let n = length from in let long = c.requires.long in let last = get_or given n 0 in let number = c.args.number in
    let there : slice_get given n ≡ Some last = slice_get-get_or given n 0 (omega arith) in
    let p = c.put_in_front.ensures in let mirror = c.args.mirror.now in let middle = c.put_in_front.new.mirror in let mirror2 = c.put_copies.new.mirror in let shape = c.args.store.now.shape in
    let old = (sheet_of c.args.writer.now.place).cells in let new = (sheet_of c.put_in_front.new.writer.place).cells in let new2 = (sheet_of c.put_copies.new.writer.place).cells in
    let one = put_one mirror middle shape old new last number c.args.age c.args.filter.now p.filled p.dated p.chain in
    let ends = given_ends n given long in
    let apart : AreApart (last ∷ []) (take n given) = λ b i j. different_apart (take n given) (last ∷ []) (subst (IsDistinct eqb) (sym ends) c.requires.given.different) b j i in
    let same = kept_same mirror middle from (λ k b e. one.filled.kept b (λ i. c.requires.apart b (k, e) (n, there ∙ ap Some (among_one b last i.0 i.1)))) in
    let both = put_both mirror middle mirror2 shape old new new2 (last ∷ []) (take n given) ((c.args.age, Some c.args.filter.now) ∷ []) (map (kept_in middle) from) number (last + 1) c.put_copies.result apart one c.put_copies.ensures.put in
    subst (λ (bs : List ℕ). ArePut mirror mirror2 shape old new2 bs (map (kept_in mirror) from ++ (c.args.age, Some c.args.filter.now) ∷ []) number c.put_copies.result) ends
    (subst (λ (ks : List (ℕ × Option StoredFilter)). ArePut mirror mirror2 shape old new2 (take n given ++ last ∷ []) (ks ++ (c.args.age, Some c.args.filter.now) ∷ []) number c.put_copies.result) same both)

pub returns-clause-lists : goal.returns-clause-lists
returns-clause-lists g c = λ slot last fs has. c.put_copies.ensures.lists slot last fs (c.put_in_front.ensures.lists slot last fs has)
