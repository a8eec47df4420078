use Rattle.std.proofs.Common.{◌≡◌, ◌-◌, ◌<◌, ℕ, List, Some, length, vec_capacity, ap, sym, ◌∙◌, subst, arith}
use Rattle.std.specs.Prelude.{map}
use Rattle.filter_tables.specs.Places.{change_at, place_where, item_at}
use Rattle.filter_tables.specs.Room.{spare_at}
use Rattle.filter_tables.specs.SeenMask.{plain_mask}
use Rattle.filter_tables.specs.SeenRoom.{filter_room}
use Rattle.filter_tables.specs.Changes.{has_handle_in, less_filter}
use Rattle.filter_tables.proofs.Places.{place_within}
use Rattle.filter_tables.proofs.Spares.{spare_min}
use Rattle.filter_tables.proofs.HandleCounts.{none_at}
use Rattle.filter_tables.proofs.Moves.{moved_handles, left_none, left_key}
use Rattle.filter_tables.proofs.mask_lists.MaskLists.move_within.Goals as goal

pub put_at-requires-clause-room : goal.put_at-requires-clause-room
put_at-requires-clause-room c =
    let Room : List ℕ → Type 0 = λ spares. 0 < spare_at spares c.args.to in
    let some = subst Room (sym (ap (λ v. v.spares) c.self.view_is)) c.requires.room in
    let both = spare_min filter_room (vec_capacity c.self.inside.handles - length c.self.inside.handles.items) c.self.inside.items.items c.args.to some in
    let more = c.take_at-old.ensures.spares c.args.to in
    omega (arith, both.1, more)

pub put_at-requires-clause-handle : goal.put_at-requires-clause-handle
put_at-requires-clause-handle c = λ m e.
    let found : place_where (has_handle_in c.args.filter.handle) (map plain_mask c.self.inside.items.items) ≡ Some c.args.from = ap (λ v. place_where (has_handle_in c.args.filter.handle) v.masks) c.self.view_is ∙ c.requires.from in
    let masks = map plain_mask c.self.inside.items.items in
    let left = change_at c.args.from (less_filter c.args.filter.handle) masks in
    none_at c.args.filter.handle left c.args.to m (left_none masks c.self.inside.handles.items c.self.invariant c.args.filter.handle c.args.from found)
    (ap (λ list. item_at list c.args.to) (sym c.take_at-old.ensures.masks) ∙ e)

pub put_at-requires-clause-key : goal.put_at-requires-clause-key
put_at-requires-clause-key c = λ m e.
    let found : place_where (has_handle_in c.args.filter.handle) (map plain_mask c.self.inside.items.items) ≡ Some c.args.from = ap (λ v. place_where (has_handle_in c.args.filter.handle) v.masks) c.self.view_is ∙ c.requires.from in
    let masks = map plain_mask c.self.inside.items.items in
    let list : masks ≡ c.args.self.now.masks = ap (λ v. v.masks) c.self.view_is in
    left_key masks c.self.inside.handles.items c.args.from c.args.to c.args.filter m c.self.invariant found
    (omega (arith, ap length list, c.requires.within))
    (λ n there. c.requires.key n (ap (λ ms. item_at ms c.args.to) (sym list) ∙ there))
    (ap (λ ms. item_at ms c.args.to) (sym c.take_at-old.ensures.masks) ∙ e)

pub sweep-requires : goal.sweep-requires
sweep-requires c =
    let found : place_where (has_handle_in c.args.filter.handle) (map plain_mask c.self.inside.items.items) ≡ Some c.args.from = ap (λ v. place_where (has_handle_in c.args.filter.handle) v.masks) c.self.view_is ∙ c.requires.from in
    let within = place_within plain_mask (has_handle_in c.args.filter.handle) c.self.inside.items.items c.args.from found in
    omega (arith, within, c.take_at-old.ensures.len, c.put_at.ensures.len)

pub invariant_of-self : goal.invariant_of-self
invariant_of-self c =
    let found : place_where (has_handle_in c.args.filter.handle) (map plain_mask c.self.inside.items.items) ≡ Some c.args.from = ap (λ v. place_where (has_handle_in c.args.filter.handle) v.masks) c.self.view_is ∙ c.requires.from in
    let masks = map plain_mask c.self.inside.items.items in
    let list : masks ≡ c.args.self.now.masks = ap (λ v. v.masks) c.self.view_is in
    rw (c.sweep.ensures, c.put_at.ensures.masks, c.take_at-old.ensures.masks)
    (moved_handles masks c.self.inside.handles.items c.args.from c.args.to c.args.filter c.self.invariant found (omega (arith, ap length list, c.requires.within)))
