use Rattle.std.proofs.Common.{◌≡◌, ℕ, ◌+◌, List, get_or, slice_get, Some, sym, subst, arith}
use Rattle.store_history.specs.declared.places.TheConstants.{BUCKET_ROOTS}
use Rattle.mask_table.specs.OfMirrors.Kept.{bucket_at, Spells}
use Rattle.mask_table.proofs.OfMirrors.Keeping.{at_root}
use Rattle.mask_bucket_edits.proofs.Buckets.{is_kept, is_found}
use Rattle.mask_bucket_edits.proofs.finding.find_in.Goals as goal

pub look-requires-clause-spelled : goal.look-requires-clause-spelled
look-requires-clause-spelled c = let w = c.requires.there in let mirror = c.args.mirror.now in let f = w.9 in
    let there = is_kept mirror w.2 w.3 w.4 w.0 w.1 w.7 w.8 c.args.handle (BUCKET_ROOTS + c.args.place) w.5 w.6 f in
    let root = f.is_root in let at = at_root w.1.mask f.bucket in let place : bucket_at w.1.mask f.bucket ≡ c.args.place = omega arith in
    (there.blocks, subst (λ (p : ℕ). Spells mirror.next.items (get_or mirror.first.items p 0) there.blocks) place there.spelled)

pub unreachable-requires : goal.unreachable-requires
unreachable-requires c = let w = c.requires.there in let mirror = c.args.mirror.now in let f = w.9 in
    let there = is_kept mirror w.2 w.3 w.4 w.0 w.1 w.7 w.8 c.args.handle (BUCKET_ROOTS + c.args.place) w.5 w.6 f in
    let root = f.is_root in let at = at_root w.1.mask f.bucket in let place : bucket_at w.1.mask f.bucket ≡ c.args.place = omega arith in
    let room = c.look.ensures.room there.blocks (subst (λ (p : ℕ). Spells mirror.next.items (get_or mirror.first.items p 0) there.blocks) place there.spelled) in
    c.look.ensures.none c.in-None.is there.place there.block (subst (λ (bs : List ℕ). slice_get bs there.place ≡ Some there.block) (sym room) there.there) there.has

pub returns : goal.returns
returns c = record {
  found = λ slot kept shape cells roots front filter stands keeps f. let root = f.is_root in let at = at_root kept.mask f.bucket in let has = c.in-Some.ensures.found in
      is_found c.args.mirror.now shape cells roots slot kept stands keeps c.args.handle f.bucket f.within c.args.place (omega arith) c.look.new.room c.look.ensures.room c.in-Some.front has.0 has.1 has.2;
}
