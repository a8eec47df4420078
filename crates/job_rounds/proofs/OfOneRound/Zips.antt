-- Two lists, place by place.
use Rattle.std.proofs.Common.{◌≡◌, ◌∙◌, ℕ, zero, suc, ◌+◌, ◌<◌, List, [], ◌∷◌, ◌++◌, length, Some, Vec, refl, sym, ap, subst, arith}
use Rattle.std.specs.Prelude.{vec_len}
use Rattle.std.specs.List.{AllByRecursion, AllZip, slice_get}

module _ {A B : Type 0} (R : A → B → Type 0) where
  pub zip_push : (xs : List A) (ys : List B) (x : A) (y : B) → AllZip R xs ys → R x y → AllZip R (xs ++ x ∷ []) (ys ++ y ∷ [])
  zip_push [] [] x y all one = (one, tt)
  zip_push [] (b ∷ ys) x y all one = absurd all
  zip_push (a ∷ xs) [] x y all one = absurd all
  zip_push (a ∷ xs) (b ∷ ys) x y all one = (all.0, zip_push xs ys x y all.1 one)

  pub zip_long : (xs : List A) (ys : List B) → AllZip R xs ys → length ys ≡ length xs
  zip_long [] [] all = refl
  zip_long [] (b ∷ ys) all = absurd all
  zip_long (a ∷ xs) [] all = absurd all
  zip_long (a ∷ xs) (b ∷ ys) all = let rest = zip_long xs ys all.1 in omega (arith, rest)

  -- what stands at one place of both
  pub record IsPair (xs : List A) (ys : List B) (at : ℕ) : Type 0 where
    pub left : A
    pub right : B
    pub left_there : slice_get xs at ≡ Some left
    pub right_there : slice_get ys at ≡ Some right
    pub holds : R left right

  pub zip_at : (xs : List A) (ys : List B) (at : ℕ) → AllZip R xs ys → at < length xs → IsPair xs ys at
  zip_at [] [] at all within = absurd (omega (arith, within))
  zip_at [] (b ∷ ys) at all within = absurd all
  zip_at (a ∷ xs) [] at all within = absurd all
  zip_at (a ∷ xs) (b ∷ ys) zero all within = record { left = a; right = b; left_there = refl; right_there = refl; holds = all.0 }
  zip_at (a ∷ xs) (b ∷ ys) (suc at) all within =
      let it = zip_at xs ys at all.1 (omega (arith, within)) in
      record { left = it.left; right = it.right; left_there = it.left_there; right_there = it.right_there; holds = it.holds }

pub each_push : {A : Type 0} (P : A → Type 0) (xs : List A) (x : A) → AllByRecursion P xs → P x → AllByRecursion P (xs ++ x ∷ [])
each_push P [] x all one = (one, tt)
each_push P (y ∷ xs) x all one = (all.0, each_push P xs x all.1 one)

pub each_at : {A : Type 0} (P : A → Type 0) (xs : List A) (at : ℕ) (x : A) → AllByRecursion P xs → slice_get xs at ≡ Some x → P x
each_at P [] at x all is = absurd (cc is)
each_at P (y ∷ xs) zero x all is = (let same : y ≡ x = cc is in subst P same all.0)
each_at P (y ∷ xs) (suc at) x all is = each_at P xs at x all.1 is

pub there_within : {A : Type 0} (xs : List A) (at : ℕ) → at < length xs → (x : A) × (slice_get xs at ≡ Some x)
there_within [] at within = absurd (omega (arith, within))
there_within (x ∷ xs) zero within = (x, refl)
there_within (x ∷ xs) (suc at) within = there_within xs at (omega (arith, within))

-- ---- how many are left of an iterator
pub left_begun : {A Z : Type 0} (v : Vec A Z) {items : List A} {count : ℕ} → items ≡ v.items → count ≡ vec_len v → count ≡ length items
left_begun v same many = many ∙ v.ok.0 ∙ sym (ap length same)

pub left_next : {A : Type 0} (count less : ℕ) (items rest : List A) (x : A) → count ≡ length items → (items ≡ x ∷ rest) × (less + 1 ≡ count) → less ≡ length rest
left_next count less items rest x many steps = let e = steps.1 in let l = ap length steps.0 in omega (arith, many, e, l)
