use Rattle.std.proofs.Common.{◌≡◌, ◌∙◌, ℕ, replicate, refl, ap, arith}
use Rattle.store_history.specs.declared.places.TheConstants.{MASK_SLOTS}
use Rattle.hook_reader.proofs.Points.{none_filled, forgotten}
use Rattle.hook_reader.proofs.slot_points.SlotPoints.forget.Goals as goal

pub returns-then-self : goal.returns-then-self
returns-then-self c = let marks = c.self.inside.marks in let long = c.self.invariant.0 in let own = marks.ok.0 in
    let same : marks.len ≡ MASK_SLOTS = omega (arith, long, own) in
    none_filled 0 MASK_SLOTS (record { walk = 0; point = 0 }) c.fill.new.self.items refl (c.fill.ensures.items (λ y h. h) ∙ ap (λ (n : ℕ). replicate n (record { walk = 0; point = 0 })) same)

pub returns : goal.returns
returns c = forgotten c.self.inside.walk MASK_SLOTS c.self.inside.marks.items c.self.invariant.0 c.self.invariant.1
