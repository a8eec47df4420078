-- Filters with their ages: those of a bucket, and ages that rise.
use mathlib.Core.List.{append-nil}
use Rattle.std.proofs.Common.{◌≡◌, ◌∙◌, ℕ, ◌+◌, ◌≤◌, ◌==◌, List, [], ◌∷◌, ◌++◌, Option, Some, if◌then◌else◌, sym, ap, subst, arith, append_assoc}
use Rattle.block_codec.specs.declared.filter.StoredFilter.{StoredFilter}
use Rattle.mask_table.specs.Buckets.{bucket_for}
use Rattle.mask_table.specs.OfMirrors.Lists.{Dated, Rises, dated_in}

-- a later one comes first
pub dated_append : (size bucket : ℕ) (xs ys : List Dated) → dated_in size bucket (xs ++ ys) ≡ dated_in size bucket ys ++ dated_in size bucket xs
dated_append size bucket [] ys = sym (append-nil (dated_in size bucket ys))
dated_append size bucket (x ∷ xs) ys = let own = (if bucket_for size x.filter.key.words == bucket then (x.age, Some x.filter) ∷ [] else []) in
    ap (λ (front : List (ℕ × Option StoredFilter)). front ++ own) (dated_append size bucket xs ys) ∙ append_assoc (dated_in size bucket ys) (dated_in size bucket xs) own

-- ---- ages that rise
pub rises_wide : (low high : ℕ) (ds : List Dated) → Rises low high ds → low ≤ high
rises_wide low high [] r = r
rises_wide low high (d ∷ ds) r = let rest = rises_wide (d.age + 1) high ds r.1 in let first = r.0 in omega arith

pub rises_lower : (low lower high : ℕ) (ds : List Dated) → lower ≤ low → Rises low high ds → Rises lower high ds
rises_lower low lower high [] below r = omega arith
rises_lower low lower high (d ∷ ds) below r = let first = r.0 in (omega arith, r.1)

pub rises_higher : (low high higher : ℕ) (ds : List Dated) → high ≤ higher → Rises low high ds → Rises low higher ds
rises_higher low high higher [] above r = omega arith
rises_higher low high higher (d ∷ ds) above r = (r.0, rises_higher (d.age + 1) high higher ds above r.1)

pub rises_append : (low middle high : ℕ) (xs ys : List Dated) → Rises low middle xs → Rises middle high ys → Rises low high (xs ++ ys)
rises_append low middle high [] ys left right = rises_lower middle low high ys left right
rises_append low middle high (x ∷ xs) ys left right = (left.0, rises_append (x.age + 1) middle high xs ys left.1 right)

-- as one is taken out, and as another of its age takes its place
pub rises_without : (low high : ℕ) (xs : List Dated) (d : Dated) (ys : List Dated) → Rises low high (xs ++ d ∷ ys) → Rises low high (xs ++ ys)
rises_without low high [] d ys r = let first = r.0 in rises_lower (d.age + 1) low high ys (omega arith) r.1
rises_without low high (x ∷ xs) d ys r = (r.0, rises_without (x.age + 1) high xs d ys r.1)

pub rises_swapped : (low high : ℕ) (xs : List Dated) (d e : Dated) (ys : List Dated) → e.age ≡ d.age → Rises low high (xs ++ d ∷ ys) → Rises low high (xs ++ e ∷ ys)
rises_swapped low high [] d e ys same r = let first = r.0 in (omega (arith, same), subst (λ (age : ℕ). Rises (age + 1) high ys) (sym same) r.1)
rises_swapped low high (x ∷ xs) d e ys same r = (r.0, rises_swapped (x.age + 1) high xs d e ys same r.1)
