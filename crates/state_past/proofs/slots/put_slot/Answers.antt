use Rattle.std.proofs.Common.{◌≡◌, ◌∷◌, [], ℕ, List, Option, Some, refl, sym, subst}
use Rattle.std.specs.Str.{bytes_eq}
use Rattle.std.proofs.lemmas.Slice.Eq.{bytes_eq-Decides}
use Rattle.slot_pasts.specs.Pasts.{stood}
use Rattle.slot_pasts.specs.Names.{past_of}
use Rattle.state_past.specs.declared.coming.Coming.{Coming}
use Rattle.state_past.specs.Brought.{Brought}
use Rattle.state_past.specs.Told.{named_slot, coming_slots, coming_actions}
use Rattle.state_past.proofs.Bringing.{on_ok, brought_put}
use Rattle.state_past.proofs.slots.put_slot.Goals as goal

pub returns : goal.returns
returns c = let key = c.slot_name.result in let past = past_of c.args.slots.now in let after = past_of c.put.new.self in let serials = c.in_ok-serials.serials in
    on_ok _ _ c.put.result (λ told.
    let one = brought_put c.args.from stood (λ name. Some serials) key (bytes_eq key) (Some serials) past after (λ k same. (bytes_eq-Decides key k).0 same) (λ k same. (bytes_eq-Decides key k).1 same) c.requires told refl in
    let items : serials ≡ c.in-Some.coming.serials.now = c.in_ok-serials.ensures in
    subst (λ (o : Option Coming). Brought c.args.from stood (λ name. coming_actions o) (coming_slots o) past after) (sym c.in-Some.is)
    (subst (λ (ns : List ℕ). Brought c.args.from stood (λ name. Some ns) (named_slot c.in-Some.coming.mask c.in-Some.coming.line.now.key.words ∷ []) past after) items
    (subst (λ (n : List ℕ). Brought c.args.from stood (λ name. Some serials) (n ∷ []) past after) c.slot_name.ensures one))) c.put.ensures.put
