-- A printed IPv4 prefix is read back as its value and its mask.
use Rattle.std.proofs.Common.{◌≡◌, ◌∙◌, ℕ, ◌+◌, ◌*◌, ◌/◌, ◌%◌, ◌^◌, ◌<◌, ◌≤◌, Bool, true, false, List, [], ◌∷◌, ◌++◌, length, Some, refl, sym, ap, subst, arith}
use Rattle.std.specs.Prelude.{◌==◌, not, bit_and}
use Rattle.std.specs.List.{list_all, list_any, join_with_byte}
use Rattle.std.specs.Char.{is_ascii_hexdigit}
use Rattle.std.specs.Fmt.{decimal}
use Rattle.tc_words.specs.Numbers.{decimal_of}
use Rattle.tc_words.specs.Addresses.{joined_octets, octets_of, address_of, prefix_mask, masked_prefix, prefix_of, ipv4_of}
use Rattle.line_texts.specs.Texts.{dotted, ipv4_text}
use Rattle.line_texts.specs.CleanWords.{is_plain, is_clean}
use Rattle.line_texts.proofs.Joins.{avoids, other-byte, split-joined, all-joined, all-wider, all-two, all-four, joined-twice, not-any}
use Rattle.line_texts.proofs.Clean.{hexdigit-plain, two-clean}
use Rattle.line_texts.proofs.Decimals.{decimal-hexdigits, decimal-avoids, decimal-plain, decimal-read}

-- a class of bytes that each digit is of
decimal-all : (q : ℕ → Bool) → ((b : ℕ) → is_ascii_hexdigit b ≡ true → q b ≡ true) → (n : ℕ) → n < 2 ^ 32 → list_all q (decimal n) ≡ true
decimal-all q wider n lt = all-wider is_ascii_hexdigit q wider (decimal n) (decimal-hexdigits n (omega arith))

-- the octets by themselves, the highest first
abbrev pair : ℕ → List (List ℕ)
pair n = decimal (n / 256) ∷ decimal (n % 256) ∷ []

abbrev four : ℕ → List (List ℕ)
four n = pair (n / 65536) ++ pair (n % 65536)

dotted-flat : (n : ℕ) → dotted n ≡ join_with_byte 46 (four n)
dotted-flat n = joined-twice 46 (decimal (n / 65536 / 256)) (decimal (n % 65536 / 256)) (decimal (n / 65536 % 256) ∷ []) (decimal (n % 65536 % 256) ∷ [])

four-all : (q : ℕ → Bool) → ((b : ℕ) → is_ascii_hexdigit b ≡ true → q b ≡ true) → (n : ℕ) → n < 2 ^ 32 → list_all (list_all q) (four n) ≡ true
four-all q wider n lt =
    all-four (list_all q) (decimal (n / 65536 / 256)) (decimal (n / 65536 % 256)) (decimal (n % 65536 / 256)) (decimal (n % 65536 % 256))
    (decimal-all q wider (n / 65536 / 256) (omega arith)) (decimal-all q wider (n / 65536 % 256) (omega arith)) (decimal-all q wider (n % 65536 / 256) (omega arith)) (decimal-all q wider (n % 65536 % 256) (omega arith))

-- a class that the dot too is of is that of the whole address
dotted-all : (q : ℕ → Bool) → ((b : ℕ) → is_ascii_hexdigit b ≡ true → q b ≡ true) → q 46 ≡ true → (n : ℕ) → n < 2 ^ 32 → list_all q (dotted n) ≡ true
dotted-all q wider dot n lt = subst (λ text. list_all q text ≡ true) (sym (dotted-flat n)) (all-joined q 46 dot (four n) (four-all q wider n lt))

octet-read : (n : ℕ) → n < 256 → decimal_of (decimal n) 255 ≡ Some n
octet-read n lt = decimal-read 255 n (omega arith) (omega arith)

-- four octets, each read by itself
four-read : (a b c d : ℕ) → a < 256 → b < 256 → c < 256 → d < 256 → octets_of (decimal a ∷ decimal b ∷ decimal c ∷ decimal d ∷ []) ≡ Some (((a * 256 + b) * 256 + c) * 256 + d)
four-read a b c d a_lt b_lt c_lt d_lt =
    ap (λ o. joined_octets o (decimal_of (decimal b) 255) (decimal_of (decimal c) 255) (decimal_of (decimal d) 255)) (octet-read a a_lt)
    ∙ ap (λ o. joined_octets (Some a) o (decimal_of (decimal c) 255) (decimal_of (decimal d) 255)) (octet-read b b_lt)
    ∙ ap (λ o. joined_octets (Some a) (Some b) o (decimal_of (decimal d) 255)) (octet-read c c_lt)
    ∙ ap (joined_octets (Some a) (Some b) (Some c)) (octet-read d d_lt)

address-read : (n : ℕ) → n < 2 ^ 32 → address_of (dotted n) ≡ Some n
unfolding address_of
address-read n lt =
    let high = n / 65536 in
    let low = n % 65536 in
    let all : ((high / 256 * 256 + high % 256) * 256 + low / 256) * 256 + low % 256 ≡ n = omega arith in
    ap address_of (dotted-flat n)
    ∙ ap octets_of (split-joined (λ b. b == 46) 46 refl (decimal (high / 256)) (decimal (high % 256) ∷ pair low) (four-all (λ b. not (b == 46)) (other-byte is_ascii_hexdigit 46 refl) n lt))
    ∙ four-read (high / 256) (high % 256) (low / 256) (low % 256) (omega arith) (omega arith) (omega arith) (omega arith)
    ∙ ap (λ (m : ℕ). Some m) all

pub ipv4-read : (value length : ℕ) → value < 2 ^ 32 → length ≤ 32 → bit_and value (prefix_mask length) ≡ value → ipv4_of (ipv4_text value length) ≡ Some (value, prefix_mask length)
unfolding ipv4_of ipv4_text
ipv4-read value length value_lt length_le under =
    ap prefix_of (split-joined (λ b. b == 47) 47 refl (dotted value) (decimal length ∷ [])
    (all-two (avoids (λ b. b == 47)) (dotted value) (decimal length) (dotted-all (λ b. not (b == 47)) (other-byte is_ascii_hexdigit 47 refl) refl value value_lt) (decimal-avoids 47 length refl (omega arith))))
    ∙ ap (λ o. masked_prefix o (decimal_of (decimal length) 32)) (address-read value value_lt)
    ∙ ap (masked_prefix (Some value)) (decimal-read 32 length (omega arith) length_le)
    ∙ ap (λ (m : ℕ). Some (m, prefix_mask length)) under

pub ipv4-clean : (value length : ℕ) → value < 2 ^ 32 → length ≤ 32 → is_clean (ipv4_text value length) ≡ true
unfolding ipv4_text
ipv4-clean value length value_lt length_le = two-clean (dotted value) (decimal length) (dotted-all is_plain hexdigit-plain refl value value_lt) (decimal-plain length (omega arith))

-- it holds no colon
pub ipv4-no_colon : (value length : ℕ) → value < 2 ^ 32 → length ≤ 32 → list_any (λ b. b == 58) (ipv4_text value length) ≡ false
unfolding ipv4_text
ipv4-no_colon value length value_lt length_le =
    not-any 58 (join_with_byte 47 (dotted value ∷ decimal length ∷ [])) (all-joined (λ b. not (b == 58)) 47 refl (dotted value ∷ decimal length ∷ [])
    (all-two (avoids (λ b. b == 58)) (dotted value) (decimal length) (dotted-all (λ b. not (b == 58)) (other-byte is_ascii_hexdigit 58 refl) refl value value_lt) (decimal-avoids 58 length refl (omega arith))))
