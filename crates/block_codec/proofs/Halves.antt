-- Words with two halves, and with four quarters.
use Rattle.std.proofs.Common.{◌≡◌, ℕ, ◌/◌, ◌%◌, ◌<◌, arith}
use Rattle.block_codec.specs.Blocks.{both}
use Rattle.block_codec.specs.Masks.{quarters}

pub low_of : (a b : ℕ) → a < 4294967296 → both a b % 4294967296 ≡ a
low_of a b low = omega arith

pub high_of : (a b : ℕ) → a < 4294967296 → both a b / 4294967296 ≡ b
high_of a b low = omega arith

pub both_of : (n : ℕ) → both (n % 4294967296) (n / 4294967296) ≡ n
both_of n = omega arith

-- a word of four numbers of 16 bits
pub first_of : (a b c d : ℕ) → a < 65536 → b < 65536 → c < 65536 → quarters a b c d / 1 % 65536 ≡ a
first_of a b c d p q r = omega arith

pub second_of : (a b c d : ℕ) → a < 65536 → b < 65536 → c < 65536 → quarters a b c d / 65536 % 65536 ≡ b
second_of a b c d p q r = omega arith

pub third_of : (a b c d : ℕ) → a < 65536 → b < 65536 → c < 65536 → quarters a b c d / 4294967296 % 65536 ≡ c
third_of a b c d p q r = omega arith

pub fourth_of : (a b c d : ℕ) → a < 65536 → b < 65536 → c < 65536 → d < 65536 → quarters a b c d / 281474976710656 % 65536 ≡ d
fourth_of a b c d p q r s = omega arith

pub quarters_of : (n : ℕ) → n < 18446744073709551616 → quarters (n / 1 % 65536) (n / 65536 % 65536) (n / 4294967296 % 65536) (n / 281474976710656 % 65536) ≡ n
quarters_of n low = omega arith
