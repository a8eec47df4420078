-- The first place of a byte, as it was found and as a search of the list.
use Rattle.std.proofs.Common.{◌≡◌, ℕ, ◌<◌, nat_lt, Bool, true, false, List, length, get_or, Option, Some, None, refl, arith}
use Rattle.std.specs.List.{position, position_or_len}
use Rattle.std.proofs.lemmas.Bool.Decides.{nat_tests}
use Rattle.std.proofs.lemmas.List.Sums.{position_or_len_is}
use Rattle.memchr.specs.Find.{IsFirstByte}

not_true : (b : Bool) → (b ≡ true → ⊥) → b ≡ false
not_true true other = absurd (other refl)
not_true false other = refl

pub first_place : (test : ℕ → Bool) (bytes : List ℕ) (found : Option ℕ) → IsFirstByte test bytes found → found ≡ position test bytes
first_place test bytes None nowhere =
    let behind : position_or_len test bytes ≡ length bytes =
    position_or_len_is test bytes (length bytes) 0 (omega arith) (λ (k : ℕ) (within : k < length bytes). not_true (test (get_or bytes k 0)) (nowhere k (omega arith) within)) (λ less. absurd (omega (arith, less))) in
    let over : nat_lt (length bytes) (length bytes) ≡ false = grind (arith, nat_tests) in
    rw (behind, over) refl
first_place test bytes (Some k) here =
    let within : k < length bytes = here.0.high in
    let at : position_or_len test bytes ≡ k =
    position_or_len_is test bytes k 0 (omega (arith, within)) (λ (j : ℕ) (less : j < k). not_true (test (get_or bytes j 0)) (here.0.before j (omega arith) less)) (λ less. here.1) in
    let inside : nat_lt k (length bytes) ≡ true = grind (arith, nat_tests, within) in
    rw (at, inside) refl
