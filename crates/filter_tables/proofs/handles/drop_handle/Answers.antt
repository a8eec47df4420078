use Rattle.std.proofs.Common.{List, ℕ, subst, ap, length, arith}
use Rattle.std.proofs.lemmas.List.Quantifiers.{all_pairs_remove}
use Rattle.std.specs.Prelude.{◌<◌}
use Rattle.filter_tables.specs.Handles.{IsPlaceFor}
use Rattle.filter_tables.proofs.Rising.{there_at, fewer_counts}
use Rattle.filter_tables.proofs.handles.drop_handle.Goals as goal

pub remove-requires : goal.remove-requires
remove-requires c =
    let P : List ℕ → Type 0 = λ ns. IsPlaceFor c.args.handle ns c.place_for-place.result in
    let point = subst P c.deref.ensures.value c.place_for-place.ensures in
    let there = there_at c.args.handle c.args.handles.now.items c.place_for-place.result c.requires.rising point c.requires.there in
    omega (arith, there.0, ap length c.deref.ensures.value, c.deref.ensures.len)

pub returns-clause-rising : goal.returns-clause-rising
returns-clause-rising c =
    let P : List ℕ → Type 0 = λ ns. IsPlaceFor c.args.handle ns c.place_for-place.result in
    let point = subst P c.deref.ensures.value c.place_for-place.ensures in
    let there = there_at c.args.handle c.args.handles.now.items c.place_for-place.result c.requires.rising point c.requires.there in
    rw c.remove.ensures.items (all_pairs_remove (λ a b. a < b) c.args.handles.now.items c.place_for-place.result there.0 c.requires.rising)

pub returns-clause-counts : goal.returns-clause-counts
returns-clause-counts c =
    let P : List ℕ → Type 0 = λ ns. IsPlaceFor c.args.handle ns c.place_for-place.result in
    let point = subst P c.deref.ensures.value c.place_for-place.ensures in
    let there = there_at c.args.handle c.args.handles.now.items c.place_for-place.result c.requires.rising point c.requires.there in
    rw c.remove.ensures.items (fewer_counts c.args.handle c.args.handles.now.items c.place_for-place.result there.0 there.1)
