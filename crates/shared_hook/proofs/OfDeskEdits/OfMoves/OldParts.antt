-- Masks at old slots, one after the other.
use Rattle.std.proofs.Common.{◌≡◌, ◌∙◌, ℕ, List, [], ◌∷◌, map, Option, Some, None, refl, sym, ap, subst}
use Rattle.visit_room.specs.declared.names.MaskName.{MaskName}
use Rattle.mask_writer.specs.Masks.{Masks}
use Rattle.desk_pools.specs.declared.pools.Pools.{Pools}
use Rattle.shared_hook.specs.OfDeskEdits.Parting.{HaveLeft, IsParting, MayPart}
use Rattle.shared_hook.proofs.OfDeskEdits.Partings.{more_left}
use Rattle.shared_hook.specs.OfDeskEdits.OfMoves.Moves.{other_slot, MayPartAll}

abbrev pub slots_of : List MaskName → List ℕ
slots_of names = map (λ (name : MaskName). name.slot) names

abbrev pub serials_of : List MaskName → List ℕ
serials_of names = map (λ (name : MaskName). name.serial) names

-- names whose slots begin with one
pub split : (names : List MaskName) (slot : ℕ) (tail : List ℕ) → slots_of names ≡ slot ∷ tail → (name : MaskName) × (rest : List MaskName) × (names ≡ name ∷ rest) × (name.slot ≡ slot) × (slots_of rest ≡ tail)
split [] slot tail e = absurd (cc e)
split (name ∷ rest) slot tail e = let one : name.slot ≡ slot = cc e in let more : slots_of rest ≡ tail = cc e in (name, rest, refl, one, more)

none_of : (names : List MaskName) → slots_of names ≡ [] → names ≡ []
none_of [] e = refl
none_of (name ∷ rest) e = absurd (cc e)

module _ (masks : Masks) (pools : Pools) (slot : ℕ) (tail : List ℕ) (m : MayPartAll masks pools (slot ∷ tail)) where
  abbrev pub first : (name : MaskName) × (rest : List MaskName) × (m.names ≡ name ∷ rest) × (name.slot ≡ slot) × (slots_of rest ≡ tail)
  first = split m.names slot tail m.slots_are

  -- the first may be parted with
  abbrev pub first_part : MayPart masks pools slot
  first_part = record {
    shape = m.shape;
    cells = m.cells;
    h = m.h;
    b = m.b;
    count = m.count;
    tables = [];
    name = first.0;
    rest = first.1;
    slot_is = first.3;
    gone = refl;
    parting = subst (IsParting masks pools m.shape m.cells m.h m.b m.count []) first.2 m.parting;
  }

  -- and then the others
  module _ (masks2 : Masks) (pools2 : Pools) (parted : (at : MayPart masks pools slot) → IsParting masks2 pools2 at.shape at.cells at.h at.b at.count at.tables at.rest)
      (left : (at : MayPart masks pools slot) → HaveLeft at.count pools pools2 (at.name.serial ∷ [])) where
    abbrev pub rest_part : MayPartAll masks2 pools2 tail
    rest_part = record { shape = m.shape; cells = m.cells; h = m.h; b = m.b; count = m.count; names = first.1; slots_are = first.4; parting = parted first_part }

    pub one_parted : tail ≡ [] → IsParting masks2 pools2 m.shape m.cells m.h m.b m.count [] []
    one_parted none = subst (IsParting masks2 pools2 m.shape m.cells m.h m.b m.count []) (none_of first.1 (first.4 ∙ none)) (parted first_part)

    pub one_left : tail ≡ [] → HaveLeft m.count pools pools2 (serials_of m.names)
    one_left none = subst (HaveLeft m.count pools pools2) (sym (ap serials_of (first.2 ∙ ap (λ (l : List MaskName). first.0 ∷ l) (none_of first.1 (first.4 ∙ none))))) (left first_part)

    pub more_parted : (pools3 : Pools) → HaveLeft m.count pools2 pools3 (serials_of first.1) → HaveLeft m.count pools pools3 (serials_of m.names)
    more_parted pools3 rest = subst (HaveLeft m.count pools pools3) (sym (ap serials_of first.2)) (more_left m.count pools pools2 pools3 (first.0.serial ∷ []) (serials_of first.1) (left first_part) rest)

-- where there is another slot
pub tail_some : (into : Option ℕ) (other : ℕ) → into ≡ Some other → other_slot into ≡ other ∷ []
tail_some into other is = ap other_slot is

pub tail_none : (into : Option ℕ) → into ≡ None → other_slot into ≡ []
tail_none into is = ap other_slot is

abbrev pub part_as : (masks : Masks) (pools : Pools) (one two : List ℕ) → one ≡ two → (m : MayPartAll masks pools one) → MayPartAll masks pools two
part_as masks pools one two same m = record { shape = m.shape; cells = m.cells; h = m.h; b = m.b; count = m.count; names = m.names; slots_are = m.slots_are ∙ same; parting = m.parting }
