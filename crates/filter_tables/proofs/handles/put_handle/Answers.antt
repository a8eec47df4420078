use Rattle.std.proofs.Common.{List, ℕ, subst}
use Rattle.filter_tables.specs.Handles.{IsPlaceFor}
use Rattle.filter_tables.proofs.Rising.{more_rising}
use Rattle.filter_tables.proofs.handles.put_handle.Goals as goal

pub returns-clause-rising : goal.returns-clause-rising
returns-clause-rising c =
    let P : List ℕ → Type 0 = λ ns. IsPlaceFor c.args.handle ns c.place_for-place.result in
    let point = subst P c.deref.ensures.value c.place_for-place.ensures in
    rw c.insert_within.ensures.items (more_rising c.args.handle c.args.handles.now.items c.place_for-place.result c.requires.rising point c.requires.new)
