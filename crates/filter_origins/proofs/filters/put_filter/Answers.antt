use Rattle.std.proofs.Common.{◌∷◌, [], ℕ, List, length, Option, Some, sym, ap, subst, arith}
use Rattle.std.specs.Str.{bytes_eq}
use Rattle.std.proofs.lemmas.Slice.Eq.{bytes_eq-Decides}
use Rattle.slot_pasts.specs.Pasts.{stood}
use Rattle.slot_pasts.specs.Names.{past_of}
use Rattle.state_past.specs.declared.coming.Coming.{Coming}
use Rattle.state_past.specs.Brought.{Brought as AreBrought}
use Rattle.state_past.specs.Told.{coming_slots}
use Rattle.state_past.proofs.Bringing.{on_ok, brought_put}
use Rattle.filter_origins.proofs.filters.put_filter.Goals as goal

pub returns-clause-slots : goal.returns-clause-slots
returns-clause-slots c = let key = c.slot_name.result in let past = past_of c.args.slots.now in let after = past_of c.put.new.self in let many = length c.args.brought.now.items in
    on_ok _ _ c.put.result (λ told.
    let one = brought_put c.args.by.edit stood (λ name. Some many) key (bytes_eq key) (Some c.len-place.result) past after (λ k same. (bytes_eq-Decides key k).0 same) (λ k same. (bytes_eq-Decides key k).1 same) c.requires told
    (ap (λ (n : ℕ). Some n) (omega (arith, c.args.brought.now.ok.0, c.len-place.ensures))) in
    subst (λ (o : Option Coming). AreBrought c.args.by.edit stood (λ name. Some many) (coming_slots o) past after) (sym c.in-Some.is)
    (subst (λ (n : List ℕ). AreBrought c.args.by.edit stood (λ name. Some many) (n ∷ []) past after) c.slot_name.ensures one)) c.put.ensures.put
