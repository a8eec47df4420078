use Rattle.std.proofs.Common.{◌≡◌, ℕ, List, get_or, slice_get, Some, sym, subst}
use Rattle.mask_table.specs.OfMirrors.Kept.{Spells}
use Rattle.mask_table.proofs.OfMirrors.Forgetting.{bucket}
use Rattle.mask_bucket_edits.proofs.Buckets.{is_found}
use Rattle.mask_bucket_edits.proofs.finding.find_at.Goals as goal

pub place_of-place-requires-clause-storable : goal.place_of-place-requires-clause-storable
place_of-place-requires-clause-storable c = let w = c.requires.stands in (w.5.masks w.0 c.args.kept.now w.4).there.storable

pub look-requires-clause-spelled : goal.look-requires-clause-spelled
look-requires-clause-spelled c = let w = c.requires.stands in let mirror = c.args.mirror.now in
    let own = bucket mirror w.1 w.2 w.3 w.0 c.args.kept.now w.4 w.5 c.args.bucket c.requires.bucket in
    (own.blocks, subst (λ (p : ℕ). Spells mirror.next.items (get_or mirror.first.items p 0) own.blocks) (sym c.place_of-place.ensures.place) own.chain.spelled)

pub returns-in_err-front-clause-none : goal.returns-in_err-front-clause-none
returns-in_err-front-clause-none c = λ _ there. let mirror = c.args.mirror.now in
    let room = c.look.ensures.room there.blocks (subst (λ (p : ℕ). Spells mirror.next.items (get_or mirror.first.items p 0) there.blocks) (sym c.place_of-place.ensures.place) there.spelled) in
    c.look.ensures.none c.in_err-front.was there.place there.block (subst (λ (bs : List ℕ). slice_get bs there.place ≡ Some there.block) (sym room) there.there) there.has

pub returns-clause-found : goal.returns-clause-found
returns-clause-found c = λ slot shape cells roots stands keeps. let f = c.in_ok-front.ensures.found in
    is_found c.args.mirror.now shape cells roots slot c.args.kept.now stands keeps c.args.handle c.args.bucket c.requires.bucket
    c.place_of-place.result c.place_of-place.ensures.place c.look.new.room c.look.ensures.room c.in_ok-front.front f.0 f.1 f.2
