-- A size that grows until the filters fill three quarters at most.
use Rattle.std.proofs.Common.{◌≡◌, ℕ, true, ◌*◌, ◌<◌, ◌≤◌, ◌⊎◌, arith}
use Rattle.std.proofs.lemmas.Bool.Decides.{nat_tests}
use Rattle.flow_mask.specs.Sizes.{is_size, size_of}

pub is_size-doubled : (size : ℕ) → is_size size ≡ true → size < 1024 → is_size (size * 2) ≡ true
is_size-doubled size known small = grind (arith, nat_tests)

pub size_of_is : (filters size : ℕ) → is_size size ≡ true → (size ≡ 16) ⊎ (3 * size < 8 * filters) → (4 * filters ≤ 3 * size) ⊎ (size ≡ 1024) →
    size ≡ size_of filters
size_of_is filters size known small room = grind (arith, nat_tests)

pub least : (filters size other : ℕ) → is_size size ≡ true → (size ≡ 16) ⊎ (3 * size < 8 * filters) → is_size other ≡ true → 4 * filters ≤ 3 * other →
    size ≤ other
least filters size other known small other_known room = grind (arith, nat_tests)
