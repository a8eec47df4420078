use Rattle.std.proofs.Common.{◌∙◌, ℕ, List, set, Option, None, refl, sym, ap}
use Rattle.store_history.specs.declared.history.Named.{Named}
use Rattle.pin_store.specs.declared.shape.Shape.{Shape}
use Rattle.mask_table.specs.OfMirrors.Kept.{IsKept}
use Rattle.mask_table.specs.declared.mirrors.mirror.KeptMask.{KeptMask}
use Rattle.mask_table.proofs.OfMirrors.Forgetting.{kept_forgotten}
use Rattle.mask_writer.specs.Masks.{Masks}
use Rattle.mask_writer.proofs.Showing.{seen_as, masks_are, stands_kept, named_kept, named_shown, lists_forgotten}
use Rattle.mask_writer.proofs.Editing.{told_again, holds_others, ended_edit}
use Rattle.mask_writer.proofs.Untouched.{others_stay, slots_set}
use Rattle.mask_writer.proofs.mask_writer.MaskWriter.forget.Goals as goal

pub gather_mask-requires-clause-stands : goal.gather_mask-requires-clause-stands
gather_mask-requires-clause-stands c = let w = c.args.self.now in let m = c.self.inside.mirror in let os = c.self.inside.told.orders in let at = ap (λ (v : Masks). v.at) (sym c.self.view_is) in let slot = c.args.slot in
    let s = c.requires.stands in (s.0, stands_kept w m os at slot s.0 s.1)

pub gather_mask-requires-clause-kept : goal.gather_mask-requires-clause-kept
gather_mask-requires-clause-kept c = let w = c.args.self.now in let m = c.self.inside.mirror in let os = c.self.inside.told.orders in let at = ap (λ (v : Masks). v.at) (sym c.self.view_is) in let slot = c.args.slot in
    let k = c.self.invariant.kept in k

pub invariant_of-self : goal.invariant_of-self
invariant_of-self c = let w = c.args.self.now in let m = c.self.inside.mirror in let os = c.self.inside.told.orders in let at = ap (λ (v : Masks). v.at) (sym c.self.view_is) in let slot = c.args.slot in let m2 = c.place.new.self in let os2 = c.with_none-self-inside.result.orders in let w2 = seen_as m2 os2 c.gather_mask.new.left c.gather_mask.new.rows in let f = c.place.ensures in
    let k = c.self.invariant.kept in let kept2 : (shape : Shape) × (cells : List ℕ) × (roots : ℕ → Named) × IsKept m2 shape cells roots = (k.0, k.1, k.2, kept_forgotten m m2 slot c.requires.slot f.slots f.first f.next f.filters k.0 k.1 k.2 k.3) in let e = ended_edit m m2 os os2 slot c.requires.slot c.self.invariant kept2 (lists_forgotten m m2 slot f.slots f.first f.next f.filters f.ages) c.with_none-self-inside.ensures in
    told_again m m2 os os2 slot None e

pub returns-clause-gone : goal.returns-clause-gone
returns-clause-gone c = let w = c.args.self.now in let m = c.self.inside.mirror in let os = c.self.inside.told.orders in let at = ap (λ (v : Masks). v.at) (sym c.self.view_is) in let slot = c.args.slot in let m2 = c.place.new.self in let os2 = c.with_none-self-inside.result.orders in let w2 = seen_as m2 os2 c.gather_mask.new.left c.gather_mask.new.rows in let f = c.place.ensures in
    masks_are w2 m2 os2 refl ∙ (f.slots ∙ ap (λ (xs : List (Option KeptMask)). set xs slot None) (sym (masks_are w m os at)))

pub returns-clause-kept : goal.returns-clause-kept
returns-clause-kept c = λ shape cells roots named. let w = c.args.self.now in let m = c.self.inside.mirror in let os = c.self.inside.told.orders in let at = ap (λ (v : Masks). v.at) (sym c.self.view_is) in let slot = c.args.slot in let m2 = c.place.new.self in let os2 = c.with_none-self-inside.result.orders in let w2 = seen_as m2 os2 c.gather_mask.new.left c.gather_mask.new.rows in let f = c.place.ensures in
    named_shown w2 m2 os2 refl shape cells roots (kept_forgotten m m2 slot c.requires.slot f.slots f.first f.next f.filters shape cells roots (named_kept w m os at shape cells roots c.self.invariant named))

pub returns-clause-lists : goal.returns-clause-lists
returns-clause-lists c = let w = c.args.self.now in let m = c.self.inside.mirror in let os = c.self.inside.told.orders in let at = ap (λ (v : Masks). v.at) (sym c.self.view_is) in let slot = c.args.slot in let m2 = c.place.new.self in let os2 = c.with_none-self-inside.result.orders in let w2 = seen_as m2 os2 c.gather_mask.new.left c.gather_mask.new.rows in let f = c.place.ensures in
    let k = c.self.invariant.kept in let kept2 : (shape : Shape) × (cells : List ℕ) × (roots : ℕ → Named) × IsKept m2 shape cells roots = (k.0, k.1, k.2, kept_forgotten m m2 slot c.requires.slot f.slots f.first f.next f.filters k.0 k.1 k.2 k.3) in let e = ended_edit m m2 os os2 slot c.requires.slot c.self.invariant kept2 (lists_forgotten m m2 slot f.slots f.first f.next f.filters f.ages) c.with_none-self-inside.ensures in
    holds_others m m2 os os2 slot None e w2 refl w at

pub returns-clause-blocks : goal.returns-clause-blocks
returns-clause-blocks c = λ kept shape cells roots stands named. let w = c.args.self.now in let m = c.self.inside.mirror in let os = c.self.inside.told.orders in let at = ap (λ (v : Masks). v.at) (sym c.self.view_is) in let slot = c.args.slot in
    c.gather_mask.ensures.blocks kept shape cells roots (stands_kept w m os at slot kept stands) (named_kept w m os at shape cells roots c.self.invariant named)

pub returns-clause-rows : goal.returns-clause-rows
returns-clause-rows c = λ kept stands. let w = c.args.self.now in let m = c.self.inside.mirror in let os = c.self.inside.told.orders in let at = ap (λ (v : Masks). v.at) (sym c.self.view_is) in let slot = c.args.slot in
    c.gather_mask.ensures.rows kept (stands_kept w m os at slot kept stands)

pub returns-clause-untouched : goal.returns-clause-untouched
returns-clause-untouched c = let w = c.args.self.now in let m = c.self.inside.mirror in let os = c.self.inside.told.orders in let at = ap (λ (v : Masks). v.at) (sym c.self.view_is) in let slot = c.args.slot in let m2 = c.place.new.self in let os2 = c.with_none-self-inside.result.orders in let w2 = seen_as m2 os2 c.gather_mask.new.left c.gather_mask.new.rows in let f = c.place.ensures in
    let k = c.self.invariant.kept in let kept2 : (shape : Shape) × (cells : List ℕ) × (roots : ℕ → Named) × IsKept m2 shape cells roots = (k.0, k.1, k.2, kept_forgotten m m2 slot c.requires.slot f.slots f.first f.next f.filters k.0 k.1 k.2 k.3) in let e = ended_edit m m2 os os2 slot c.requires.slot c.self.invariant kept2 (lists_forgotten m m2 slot f.slots f.first f.next f.filters f.ages) c.with_none-self-inside.ensures in
    others_stay m m2 os os2 slot None e w w2 at refl k.0 k.1 k.1 k.2 k.2 k.3 kept2.3 (λ root b away. refl) (slots_set m m2 slot None f.slots)
