-- Lists of numbers under lists of masks.
use Rattle.std.proofs.Common.{◌≡◌, ℕ, zero, suc, ◌<◌, ◌/◌, ◌%◌, ◌^◌, List, [], ◌∷◌, length, get_or, bit_and, min, map, refl, sym, ap, ap₂, ◌∙◌, arith}
use Rattle.std.specs.Int.Bits.{and_zero_l, and_zero_r}
use Rattle.std.proofs.lemmas.Nat.Bits.{same_from_bits, bit_at_and}
use Rattle.std.proofs.lemmas.Nat.{and_shr, and_mod, and_assoc}
use Rattle.flow_fields.specs.Table.{Field, fields}
use Rattle.flow_fields.specs.Values.{bits_of, value_in, values_of}
use Rattle.flow_mask.specs.Masks.{each_and}

pub get_or-each_and : (xs ms : List ℕ) (k : ℕ) → get_or (each_and xs ms) k 0 ≡ bit_and (get_or xs k 0) (get_or ms k 0)
get_or-each_and [] ms k = sym (and_zero_l (get_or ms k 0))
get_or-each_and (x ∷ xs) [] k = sym (and_zero_r (get_or (x ∷ xs) k 0))
get_or-each_and (x ∷ xs) (m ∷ ms) zero = refl
get_or-each_and (x ∷ xs) (m ∷ ms) (suc k) = get_or-each_and xs ms k

pub length-each_and : (xs ms : List ℕ) → length (each_and xs ms) ≡ min (length xs) (length ms)
length-each_and [] ms = omega arith
length-each_and (x ∷ xs) [] = omega arith
length-each_and (x ∷ xs) (m ∷ ms) = let rest = length-each_and xs ms in omega (arith, rest)

-- lists of one length
pub each_and_is : (xs ms ys : List ℕ) → length xs ≡ length ys → length ms ≡ length ys →
    ((k : ℕ) → k < length ys → bit_and (get_or xs k 0) (get_or ms k 0) ≡ get_or ys k 0) → each_and xs ms ≡ ys
each_and_is [] ms [] xs_length ms_length same = refl
each_and_is [] ms (y ∷ ys) xs_length ms_length same = absurd (omega arith)
each_and_is (x ∷ xs) ms [] xs_length ms_length same = absurd (omega arith)
each_and_is (x ∷ xs) [] (y ∷ ys) xs_length ms_length same = absurd (omega arith)
each_and_is (x ∷ xs) (m ∷ ms) (y ∷ ys) xs_length ms_length same =
    ap₂ ◌∷◌ (same 0 (omega arith)) (each_and_is xs ms ys (omega arith) (omega arith) (λ k here. same (suc k) (omega arith)))

and_self : (a : ℕ) → bit_and a a ≡ a
and_self a = same_from_bits _ _ (λ j. bit_at_and a a j ∙ omega arith)

pub each_and-each_and : (xs ms : List ℕ) → each_and (each_and xs ms) ms ≡ each_and xs ms
each_and-each_and [] ms = refl
each_and-each_and (x ∷ xs) [] = refl
each_and-each_and (x ∷ xs) (m ∷ ms) =
    ap₂ ◌∷◌ (and_assoc m x m ∙ ap (λ n. bit_and x n) (and_self m)) (each_and-each_and xs ms)

-- fields
pub bits_of-and : (a b shift width : ℕ) → bits_of (bit_and a b) shift width ≡ bit_and (bits_of a shift width) (bits_of b shift width)
bits_of-and a b shift width = ap (λ x. x % 2 ^ width) (and_shr a b shift) ∙ and_mod (a / 2 ^ shift) (b / 2 ^ shift) width

value_in-each_and : (f : Field) (xs ms : List ℕ) → value_in f (each_and xs ms) ≡ bit_and (value_in f xs) (value_in f ms)
value_in-each_and f xs ms =
    ap (λ n. bits_of n f.shift f.width) (get_or-each_and xs ms f.word) ∙ bits_of-and (get_or xs f.word 0) (get_or ms f.word 0) f.shift f.width

each_value : (xs ms : List ℕ) (fs : List Field) →
    map (λ (f : Field). value_in f (each_and xs ms)) fs ≡ each_and (map (λ (f : Field). value_in f xs) fs) (map (λ (f : Field). value_in f ms) fs)
each_value xs ms [] = refl
each_value xs ms (f ∷ fs) = ap₂ ◌∷◌ (value_in-each_and f xs ms) (each_value xs ms fs)

pub values_of-each_and : (xs ms : List ℕ) → values_of (each_and xs ms) ≡ each_and (values_of xs) (values_of ms)
values_of-each_and xs ms = each_value xs ms fields
