use Rattle.std.proofs.Common.{◌≡◌, ◌-◌, ◌<◌, ℕ, List, length, vec_capacity, ap, sym, ◌∙◌, subst, arith}
use Rattle.std.specs.Prelude.{map}
use Rattle.filter_tables.specs.Places.{change_at}
use Rattle.filter_tables.specs.Room.{spare_at}
use Rattle.filter_tables.specs.SeenMask.{plain_mask}
use Rattle.filter_tables.specs.SeenRoom.{filter_room}
use Rattle.filter_tables.specs.Changes.{any_handle, more_filter}
use Rattle.filter_tables.proofs.Spares.{spare_min}
use Rattle.filter_tables.proofs.HandleCounts.{none_in, none_at, count_more}
use Rattle.filter_tables.proofs.Moves.{none_times, more_handles, item_there}
use Rattle.filter_tables.proofs.mask_lists.MaskLists.put.Goals as goal

pub put_handle-requires-clause-room : goal.put_handle-requires-clause-room
put_handle-requires-clause-room c =
    let Room : List ℕ → Type 0 = λ spares. 0 < spare_at spares c.args.mask in
    let some = subst Room (sym (ap (λ v. v.spares) c.self.view_is)) c.requires.room in
    let both = spare_min filter_room (vec_capacity c.self.inside.handles - length c.self.inside.handles.items) c.self.inside.items.items c.args.mask some in
    omega (arith, both.0)

pub put_handle-requires-clause-new : goal.put_handle-requires-clause-new
put_handle-requires-clause-new c =
    none_times (map plain_mask c.self.inside.items.items) c.self.inside.handles.items c.self.invariant c.args.filter.handle
    (ap (λ v. any_handle c.args.filter.handle v.masks) c.self.view_is ∙ c.requires.handle)

pub put_at-requires-clause-room : goal.put_at-requires-clause-room
put_at-requires-clause-room c =
    let Room : List ℕ → Type 0 = λ spares. 0 < spare_at spares c.args.mask in
    let some = subst Room (sym (ap (λ v. v.spares) c.self.view_is)) c.requires.room in
    let both = spare_min filter_room (vec_capacity c.self.inside.handles - length c.self.inside.handles.items) c.self.inside.items.items c.args.mask some in
    both.1

pub put_at-requires-clause-handle : goal.put_at-requires-clause-handle
put_at-requires-clause-handle c = λ m e.
    let masks = map plain_mask c.self.inside.items.items in
    none_at c.args.filter.handle masks c.args.mask m
    (none_in c.args.filter.handle masks (ap (λ v. any_handle c.args.filter.handle v.masks) c.self.view_is ∙ c.requires.handle)) e

pub invariant_of-self : goal.invariant_of-self
invariant_of-self c =
    let masks = map plain_mask c.self.inside.items.items in
    let long : length masks ≡ length c.args.self.now.masks = ap (λ v. length v.masks) c.self.view_is in
    let m = item_there masks c.args.mask (omega (arith, long, c.requires.within)) in
    rw c.put_at.ensures.masks
    (more_handles masks c.self.inside.handles.items c.self.invariant c.args.filter.handle c.put_handle.new.handles.items
    (change_at c.args.mask (more_filter c.args.filter) masks) c.requires.from_one c.put_handle.ensures.rising c.put_handle.ensures.counts
    (λ test. count_more test c.args.filter masks c.args.mask m.0 m.1))
