-- The length of a prefix is found in its mask.
use Rattle.std.proofs.Common.{◌≡◌, ℕ, zero, suc, ◌/◌, ◌%◌, ◌^◌, ◌<◌, ◌≤◌, Bool, true, false, refl, sym, subst, arith}
use Rattle.std.specs.Prelude.{◌&&◌, ◌==◌}
use Rattle.std.proofs.lemmas.Bool.Decides.{nat_tests}
use Rattle.std.specs.Int.Count.{count_trailing_zeros}
use borrow.Author.Tests.{eqb-true}
use Rattle.tc_words.specs.Addresses.{prefix_mask}
use Rattle.tc_words.specs.Ipv6Addresses.{ipv6_mask}
use Rattle.line_texts.specs.Texts.{prefix_length_of, ipv6_length_of}
use Rattle.line_texts.proofs.Joins.{and-left, and-right}

-- a test of each number below a bound
abbrev each-below : (ℕ → Bool) → ℕ → Bool
each-below p zero = true
each-below p (suc n) = p n && each-below p n

one-below : (p : ℕ → Bool) (n k : ℕ) → each-below p n ≡ true → k < n → p k ≡ true
one-below p zero k h lt = absurd (omega arith)
one-below p (suc n) k h lt = by (k == n) refl (λ below. one-below p n k (and-right (p n) (each-below p n) h) below)
  where
    by : (t : Bool) → (k == n) ≡ t → (k < n → p k ≡ true) → p k ≡ true
    by true is rest = subst (λ m. p m ≡ true) (sym (eqb-true k n is)) (and-left (p n) (each-below p n) h)
    by false is rest = rest (grind (arith, nat_tests, is, lt))

pub length-of_prefix : (length : ℕ) → length ≤ 32 → prefix_length_of (prefix_mask length) ≡ length
unfolding count_trailing_zeros
length-of_prefix length le = eqb-true (prefix_length_of (prefix_mask length)) length (one-below (λ n. prefix_length_of (prefix_mask n) == n) 33 length refl (omega arith))

pub length-of_ipv6 : (length : ℕ) → length ≤ 128 → ipv6_length_of (ipv6_mask length / 2 ^ 64) (ipv6_mask length % 2 ^ 64) ≡ length
unfolding count_trailing_zeros
length-of_ipv6 length le =
    eqb-true (ipv6_length_of (ipv6_mask length / 2 ^ 64) (ipv6_mask length % 2 ^ 64)) length (one-below (λ n. ipv6_length_of (ipv6_mask n / 2 ^ 64) (ipv6_mask n % 2 ^ 64) == n) 129 length refl (omega arith))
