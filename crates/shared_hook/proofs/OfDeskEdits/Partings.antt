-- Masks that went leave one after the other.
use Rattle.std.proofs.Common.{◌≡◌, ◌∙◌, ◌⊎◌, inl, inr, ℕ, zero, suc, ◌+◌, ◌<◌, Bool, true, false, if◌then◌else◌, List, [], ◌∷◌, ◌++◌, length, take, drop, get_or, slice_get, Some, refl, sym, ap, subst, arith, length-append}
use Rattle.std.proofs.lemmas.List.Sums.{sum_by-append}
use mathlib.Core.List.{append-nil, append_assoc}
use Rattle.visit_room.specs.declared.names.MaskName.{MaskName}
use Rattle.store_history.specs.declared.history.Commit.{Commit}
use Rattle.pin_store.specs.declared.shape.Shape.{Shape}
use Rattle.filter_state.specs.declared.edit.Edit.{Edit}
use Rattle.block_codec.specs.declared.table.StoredTable.{StoredTable}
use Rattle.mask_table.specs.declared.mirrors.mirror.KeptMask.{KeptMask}
use Rattle.mask_writer.specs.Masks.{Masks}
use Rattle.hook_law.specs.Standing.{IsIn, IsMaskAt}
use Rattle.hook_store_law.specs.Blocks.{hook_codec}
use Rattle.desk_pools.specs.declared.pools.Pools.{Pools}
use Rattle.shared_hook.specs.OfDeskEdits.Parting.{is_named, names_in, gone_of, rows_for, HaveLeft, IsParting, MayPart, MayAllPart}

-- ---- lists
pub gone_append : (tables : List StoredTable) (xs ys : List MaskName) → gone_of tables (xs ++ ys) ≡ gone_of tables xs ++ gone_of tables ys
gone_append tables [] ys = refl
gone_append tables (x ∷ xs) ys = pick (is_named tables x.serial) (gone_append tables xs ys)
  where
    pick : (t : Bool) → gone_of tables (xs ++ ys) ≡ gone_of tables xs ++ gone_of tables ys
        → (if t then gone_of tables (xs ++ ys) else x.serial ∷ gone_of tables (xs ++ ys)) ≡ (if t then gone_of tables xs else x.serial ∷ gone_of tables xs) ++ gone_of tables ys
    pick true rest = rest
    pick false rest = ap (λ (l : List ℕ). x.serial ∷ l) rest

pub names_append : (xs ys : List StoredTable) → names_in (xs ++ ys) ≡ names_in xs ++ names_in ys
names_append [] ys = refl
names_append (x ∷ xs) ys = ap (λ (l : List MaskName). x.masks ++ l) (names_append xs ys) ∙ sym (append_assoc x.masks (names_in xs) (names_in ys))

drop_suc : {A : Type 0} (xs : List A) (i : ℕ) (d : A) → i < length xs → drop i xs ≡ get_or xs i d ∷ drop (suc i) xs
drop_suc [] i d less = absurd (omega (arith, less))
drop_suc (x ∷ xs) zero d less = refl
drop_suc (x ∷ xs) (suc i) d less = drop_suc xs i d (omega (arith, less))

take_suc : {A : Type 0} (xs : List A) (i : ℕ) (d : A) → i < length xs → take (suc i) xs ≡ take i xs ++ get_or xs i d ∷ []
take_suc [] i d less = absurd (omega (arith, less))
take_suc (x ∷ xs) zero d less = refl
take_suc (x ∷ xs) (suc i) d less = ap (λ l. x ∷ l) (take_suc xs i d (omega (arith, less)))

pub drop_one : {A : Type 0} (xs : List A) (i : ℕ) (d : A) → i < length xs → drop i xs ≡ get_or xs i d ∷ drop (i + 1) xs
drop_one xs i d less = subst (λ (n : ℕ). drop i xs ≡ get_or xs i d ∷ drop n xs) {x = suc i} {y = i + 1} (omega arith) (drop_suc xs i d less)

pub take_one : {A : Type 0} (xs : List A) (i : ℕ) (d : A) → i < length xs → take (i + 1) xs ≡ take i xs ++ get_or xs i d ∷ []
take_one xs i d less = subst (λ (n : ℕ). take n xs ≡ take i xs ++ get_or xs i d ∷ []) {x = suc i} {y = i + 1} (omega arith) (take_suc xs i d less)

-- ---- what has left
pub none_left : (count : ℕ → ℕ) (pools : Pools) → HaveLeft count pools pools []
none_left count pools = record {
  masks = record { free = omega arith; left = omega arith; size = refl };
  rows = record { free = omega arith; left = omega arith; size = refl };
  blocks = record { free = omega arith; left = omega arith; size = refl };
  others = refl;
}

pub more_left : (count : ℕ → ℕ) (p q r : Pools) (xs ys : List ℕ) → HaveLeft count p q xs → HaveLeft count q r ys → HaveLeft count p r (xs ++ ys)
more_left count p q r xs ys one two =
    let masks = length-append xs ys in let rows = sum_by-append (rows_for count) xs ys in let blocks = sum_by-append (λ (mask : ℕ). count mask + 1) xs ys in
    let m1 = one.masks in let m2 = two.masks in let r1 = one.rows in let r2 = two.rows in let b1 = one.blocks in let b2 = two.blocks in
    let mf1 = m1.free in let mf2 = m2.free in let ml1 = m1.left in let ml2 = m2.left in
    let rf1 = r1.free in let rf2 = r2.free in let rl1 = r1.left in let rl2 = r2.left in
    let bf1 = b1.free in let bf2 = b2.free in let bl1 = b1.left in let bl2 = b2.left in record {
      masks = record { free = omega (arith, mf1, mf2); left = omega (arith, ml1, ml2, masks); size = m2.size ∙ m1.size };
      rows = record { free = omega (arith, rf1, rf2); left = omega (arith, rl1, rl2, rows); size = r2.size ∙ r1.size };
      blocks = record { free = omega (arith, bf1, bf2); left = omega (arith, bl1, bl2, blocks); size = b2.size ∙ b1.size };
      others = two.others ∙ ap (λ (z : Pools). record z { blocks = r.blocks; rows = r.rows; masks = r.masks }) one.others;
    }

-- ---- a name that the tables have
module _ (masks : Masks) (pools : Pools) (shape : Shape) (cells : List ℕ) (h : List (Commit Edit)) (b : ℕ) (count : ℕ → ℕ) (tables : List StoredTable) where
  pub passed : (name : MaskName) (rest : List MaskName) → is_named tables name.serial ≡ true → IsParting masks pools shape cells h b count tables (name ∷ rest) → IsParting masks pools shape cells h b count tables rest
  passed name rest is p = record {
    low = p.low;
    holds = p.holds;
    are = p.are;
    each = λ place other at gone. p.each (suc place) other at gone;
    only = λ s kept stands. pick s kept (p.only s kept stands);
    apart = λ i j x z at also same. let up = p.apart (suc i) (suc j) x z at also same in omega (arith, up);
  }
    where
      In : ℕ → List MaskName → Type 0
      In s names = (other : MaskName) × IsIn other names × (other.slot ≡ s) × (is_named tables other.serial ≡ false)

      walk : (s : ℕ) (other : MaskName) (place : ℕ) → slice_get (name ∷ rest) place ≡ Some other → other.slot ≡ s → is_named tables other.serial ≡ false → In s rest
      walk s other zero e at gone = let same : name ≡ other = cc e in let bad : true ≡ false = sym is ∙ (ap (λ (n : MaskName). is_named tables n.serial) same ∙ gone) in absurd (cc bad)
      walk s other (suc place) e at gone = (other, (place, e), at, gone)

      pick : (s : ℕ) (kept : KeptMask) → IsMaskAt hook_codec h kept.mask.serial s ⊎ In s (name ∷ rest) → IsMaskAt hook_codec h kept.mask.serial s ⊎ In s rest
      pick s kept (inl at) = inl at
      pick s kept (inr n) = inr (walk s n.0 n.1.0 n.1.1 n.2 n.3)

-- ---- the masks with some names
module _ (masks0 : Masks) (pools0 : Pools) (tables : List StoredTable) (names : List MaskName) where
  -- those before a place are done
  abbrev pub SomeParting : Masks → Pools → ℕ → Type 0
  SomeParting masks pools i = (at : MayAllPart masks0 pools0 tables names) → IsParting masks pools at.shape at.cells at.h at.b at.count tables (drop i names ++ at.rest)

  abbrev pub SomeLeft : Pools → ℕ → Type 0
  SomeLeft pools i = (at : MayAllPart masks0 pools0 tables names) → HaveLeft at.count pools0 pools (gone_of tables (take i names))

  module _ (i : ℕ) (d : MaskName) (less : i < length names) where
    abbrev n : MaskName
    n = get_or names i d

    taken : gone_of tables (take (i + 1) names) ≡ gone_of tables (take i names) ++ gone_of tables (n ∷ [])
    taken = ap (gone_of tables) (take_one names i d less) ∙ gone_append tables (take i names) (n ∷ [])

    module _ (masks : Masks) (pools : Pools) (parting : SomeParting masks pools i) (left : SomeLeft pools i) where
      next : (at : MayAllPart masks0 pools0 tables names) → IsParting masks pools at.shape at.cells at.h at.b at.count tables (n ∷ (drop (i + 1) names ++ at.rest))
      next at = subst (λ (xs : List MaskName). IsParting masks pools at.shape at.cells at.h at.b at.count tables (xs ++ at.rest)) (drop_one names i d less) (parting at)

      -- the one there stays
      pub stays_parting : is_named tables n.serial ≡ true → SomeParting masks pools (i + 1)
      stays_parting is at = passed masks pools at.shape at.cells at.h at.b at.count tables n (drop (i + 1) names ++ at.rest) is (next at)

      pub stays_left : is_named tables n.serial ≡ true → SomeLeft pools (i + 1)
      stays_left is at = let none : gone_of tables (n ∷ []) ≡ [] = ap (λ (t : Bool). if t then gone_of tables [] else n.serial ∷ gone_of tables []) is in
          subst (HaveLeft at.count pools0 pools) (sym (taken ∙ (ap (λ (l : List ℕ). gone_of tables (take i names) ++ l) none ∙ append-nil (gone_of tables (take i names))))) (left at)

      -- it goes
      module _ (gone : is_named tables n.serial ≡ false) where
        pub may_part : MayAllPart masks0 pools0 tables names → MayPart masks pools n.slot
        may_part at = record {
          shape = at.shape;
          cells = at.cells;
          h = at.h;
          b = at.b;
          count = at.count;
          tables = tables;
          name = n;
          rest = drop (i + 1) names ++ at.rest;
          slot_is = refl;
          gone = gone;
          parting = next at;
        }

        module _ (masks2 : Masks) (pools2 : Pools) where
          pub goes_parting : ((m : MayPart masks pools n.slot) → IsParting masks2 pools2 m.shape m.cells m.h m.b m.count m.tables m.rest) → SomeParting masks2 pools2 (i + 1)
          unfolding may_part
          goes_parting told at = told (may_part at)

          pub goes_left : ((m : MayPart masks pools n.slot) → HaveLeft m.count pools pools2 (m.name.serial ∷ [])) → SomeLeft pools2 (i + 1)
          unfolding may_part
          goes_left told at = let one : gone_of tables (n ∷ []) ≡ n.serial ∷ [] = ap (λ (t : Bool). if t then gone_of tables [] else n.serial ∷ gone_of tables []) gone in
              subst (HaveLeft at.count pools0 pools2) (sym (taken ∙ ap (λ (l : List ℕ). gone_of tables (take i names) ++ l) one))
              (more_left at.count pools0 pools pools2 (gone_of tables (take i names)) (n.serial ∷ []) (left at) (told (may_part at)))

-- ---- those of some tables
module _ (masks0 : Masks) (pools0 : Pools) (tables : List StoredTable) (old : List StoredTable) where
  abbrev pub AllParting : Masks → Pools → ℕ → Type 0
  AllParting masks pools i = (at : MayAllPart masks0 pools0 tables (names_in old)) → IsParting masks pools at.shape at.cells at.h at.b at.count tables (names_in (drop i old) ++ at.rest)

  abbrev pub AllLeft : Pools → ℕ → Type 0
  AllLeft pools i = (at : MayAllPart masks0 pools0 tables (names_in old)) → HaveLeft at.count pools0 pools (gone_of tables (names_in (take i old)))

  module _ (i : ℕ) (d : StoredTable) (less : i < length old) (masks : Masks) (pools : Pools) (parting : AllParting masks pools i) (left : AllLeft pools i) where
    abbrev t : StoredTable
    t = get_or old i d

    pub may_some : MayAllPart masks0 pools0 tables (names_in old) → MayAllPart masks pools tables t.masks
    may_some at = record {
      shape = at.shape;
      cells = at.cells;
      h = at.h;
      b = at.b;
      count = at.count;
      rest = names_in (drop (i + 1) old) ++ at.rest;
      parting = subst (IsParting masks pools at.shape at.cells at.h at.b at.count tables)
          (ap (λ (ts : List StoredTable). names_in ts ++ at.rest) (drop_one old i d less) ∙ append_assoc t.masks (names_in (drop (i + 1) old)) at.rest) (parting at);
    }

    module _ (masks2 : Masks) (pools2 : Pools) where
      pub all_parting : ((m : MayAllPart masks pools tables t.masks) → IsParting masks2 pools2 m.shape m.cells m.h m.b m.count tables m.rest) → AllParting masks2 pools2 (i + 1)
      unfolding may_some
      all_parting told at = told (may_some at)

      pub all_left : ((m : MayAllPart masks pools tables t.masks) → HaveLeft m.count pools pools2 (gone_of tables t.masks)) → AllLeft pools2 (i + 1)
      unfolding may_some
      all_left told at = subst (HaveLeft at.count pools0 pools2)
          (sym (ap (gone_of tables) (ap names_in (take_one old i d less) ∙ (names_append (take i old) (t ∷ []) ∙ ap (λ (l : List MaskName). names_in (take i old) ++ l) (append-nil t.masks))) ∙ gone_append tables (names_in (take i old)) t.masks))
          (more_left at.count pools0 pools pools2 (gone_of tables (names_in (take i old))) (gone_of tables t.masks) (left at) (told (may_some at)))
