-- A printed address of a network card is read back as its value and its mask.
use Rattle.std.proofs.Common.{◌≡◌, ◌∙◌, ℕ, ◌+◌, ◌*◌, ◌/◌, ◌%◌, ◌^◌, ◌<◌, Bool, true, false, List, [], ◌∷◌, ◌++◌, Option, Some, refl, sym, ap, arith}
use Rattle.std.specs.Prelude.{◌==◌, not, bit_and, fold, if◌then◌else◌}
use Rattle.std.specs.List.{list_all, join_with_byte}
use Rattle.std.specs.Option.{option_map, option_or}
use Rattle.std.specs.Char.{is_ascii_hexdigit}
use Rattle.std.proofs.lemmas.List.Folds.{list_all-append}
use borrow.Author.Tests.{eqb-true}
use Rattle.tc_words.specs.Numbers.{decimal_of}
use Rattle.tc_words.specs.Groups.{group_of, followed_by, groups_value, groups_of, of_just}
use Rattle.tc_words.specs.MacAddresses.{mac_address_of, mac_length_mask, mac_mask_of, masked_mac, mac_of_parts, mac_of}
use Rattle.line_texts.specs.Texts.{two_digits, mac_address_text, mac_text}
use Rattle.line_texts.specs.CleanWords.{is_plain, is_clean}
use Rattle.line_texts.proofs.Joins.{and-both, avoids, other-byte, split-joined, all-joined, all-wider, all-two, all-three}
use Rattle.line_texts.proofs.Clean.{clean-from, hexdigit-plain, two-clean}
use Rattle.line_texts.proofs.Hexadecimal.{two_digits-spells, spells-read, value-next}

octet-read : (n : ℕ) → n < 256 → group_of 2 2 (two_digits n) ≡ Some n
octet-read n lt = spells-read n 2 (two_digits n) (two_digits-spells n lt)

-- the octets by themselves, the highest first
abbrev three : ℕ → List (List ℕ)
three n = two_digits (n / 65536) ∷ two_digits (n / 256 % 256) ∷ two_digits (n % 256) ∷ []

abbrev six : ℕ → List (List ℕ)
six n = three (n / 2 ^ 24) ++ three (n % 2 ^ 24)

three-value : (start n : ℕ) (rest : List (List ℕ)) → n < 2 ^ 24 → fold (λ total part. followed_by 2 total (group_of 2 2 part)) (Some start) (three n ++ rest) ≡ fold (λ total part. followed_by 2 total (group_of 2 2 part)) (Some (start * 2 ^ 24 + n)) rest
three-value start n rest lt =
    let all : ((start * 16 ^ 2 + n / 65536) * 16 ^ 2 + n / 256 % 256) * 16 ^ 2 + n % 256 ≡ start * 2 ^ 24 + n = omega arith in
    value-next 2 2 start (n / 65536) (two_digits (n / 65536)) (two_digits (n / 256 % 256) ∷ two_digits (n % 256) ∷ rest) (octet-read (n / 65536) (omega arith))
    ∙ value-next 2 2 (start * 16 ^ 2 + n / 65536) (n / 256 % 256) (two_digits (n / 256 % 256)) (two_digits (n % 256) ∷ rest) (octet-read (n / 256 % 256) (omega arith))
    ∙ value-next 2 2 ((start * 16 ^ 2 + n / 65536) * 16 ^ 2 + n / 256 % 256) (n % 256) (two_digits (n % 256)) rest (octet-read (n % 256) (omega arith))
    ∙ ap (λ m. fold (λ total part. followed_by 2 total (group_of 2 2 part)) (Some m) rest) all

six-value : (n : ℕ) → n < 2 ^ 48 → groups_value 2 2 (six n) ≡ Some n
six-value n lt =
    let all : (0 * 2 ^ 24 + n / 2 ^ 24) * 2 ^ 24 + n % 2 ^ 24 ≡ n = omega arith in
    three-value 0 (n / 2 ^ 24) (three (n % 2 ^ 24)) (omega arith) ∙ three-value (0 * 2 ^ 24 + n / 2 ^ 24) (n % 2 ^ 24) [] (omega arith) ∙ ap (λ (m : ℕ). Some m) all

-- a class of bytes that each digit is of is that of each octet
octet-all : (q : ℕ → Bool) → ((b : ℕ) → is_ascii_hexdigit b ≡ true → q b ≡ true) → (n : ℕ) → n < 256 → list_all q (two_digits n) ≡ true
octet-all q wider n lt = let h = two_digits-spells n lt in all-wider is_ascii_hexdigit q wider (two_digits n) h.digits

three-all : (q : ℕ → Bool) → ((b : ℕ) → is_ascii_hexdigit b ≡ true → q b ≡ true) → (n : ℕ) → n < 2 ^ 24 → list_all (list_all q) (three n) ≡ true
three-all q wider n lt =
    all-three (list_all q) (two_digits (n / 65536)) (two_digits (n / 256 % 256)) (two_digits (n % 256))
    (octet-all q wider (n / 65536) (omega arith)) (octet-all q wider (n / 256 % 256) (omega arith)) (octet-all q wider (n % 256) (omega arith))

six-all : (q : ℕ → Bool) → ((b : ℕ) → is_ascii_hexdigit b ≡ true → q b ≡ true) → (n : ℕ) → n < 2 ^ 48 → list_all (list_all q) (six n) ≡ true
six-all q wider n lt =
    list_all-append (list_all q) (three (n / 2 ^ 24)) (three (n % 2 ^ 24))
    ∙ and-both (list_all (list_all q) (three (n / 2 ^ 24))) (list_all (list_all q) (three (n % 2 ^ 24))) (three-all q wider (n / 2 ^ 24) (omega arith)) (three-all q wider (n % 2 ^ 24) (omega arith))

-- a class that the colon too is of is that of the whole address
address-all : (q : ℕ → Bool) → ((b : ℕ) → is_ascii_hexdigit b ≡ true → q b ≡ true) → q 58 ≡ true → (n : ℕ) → n < 2 ^ 48 → list_all q (mac_address_text n) ≡ true
address-all q wider colon n lt = all-joined q 58 colon (six n) (six-all q wider n lt)

address-avoids : (n : ℕ) → n < 2 ^ 48 → avoids (λ b. b == 47) (mac_address_text n) ≡ true
address-avoids n lt = address-all (λ b. not (b == 47)) (other-byte is_ascii_hexdigit 47 refl) refl n lt

address-plain : (n : ℕ) → n < 2 ^ 48 → list_all is_plain (mac_address_text n) ≡ true
address-plain n lt = address-all is_plain hexdigit-plain refl n lt

address-read : (n : ℕ) → n < 2 ^ 48 → mac_address_of (mac_address_text n) ≡ Some n
unfolding mac_address_of
address-read n lt =
    let high = n / 2 ^ 24 in
    ap (λ parts. of_just 6 (groups_of 2 2 6 parts))
    (split-joined (λ b. b == 58) 58 refl (two_digits (high / 65536)) (two_digits (high / 256 % 256) ∷ two_digits (high % 256) ∷ three (n % 2 ^ 24)) (six-all (λ b. not (b == 58)) (other-byte is_ascii_hexdigit 58 refl) n lt))
    ∙ ap (λ (o : Option ℕ). of_just 6 (option_map (λ number. (6, number)) o)) (six-value n lt)

-- the address alone, where all bits count
whole-read : (n : ℕ) → n < 2 ^ 48 → bit_and n 0xFFFF_FFFF_FFFF ≡ n → mac_of (mac_address_text n) ≡ Some (n, 0xFFFF_FFFF_FFFF)
unfolding mac_of
whole-read n lt under =
    ap mac_of_parts (split-joined (λ b. b == 47) 47 refl (mac_address_text n) [] (and-both (avoids (λ b. b == 47) (mac_address_text n)) true (address-avoids n lt) refl))
    ∙ ap (λ o. masked_mac o (Some 0xFFFF_FFFF_FFFF)) (address-read n lt) ∙ ap (λ (m : ℕ). Some (m, 0xFFFF_FFFF_FFFF)) under

-- an address and a mask
masked-read : (value mask : ℕ) → value < 2 ^ 48 → mask < 2 ^ 48 → bit_and value mask ≡ value → mac_of (join_with_byte 47 (mac_address_text value ∷ mac_address_text mask ∷ [])) ≡ Some (value, mask)
unfolding mac_of
masked-read value mask value_lt mask_lt under =
    ap mac_of_parts (split-joined (λ b. b == 47) 47 refl (mac_address_text value) (mac_address_text mask ∷ [])
    (all-two (avoids (λ b. b == 47)) (mac_address_text value) (mac_address_text mask) (address-avoids value value_lt) (address-avoids mask mask_lt)))
    ∙ ap (λ o. masked_mac o (mac_mask_of (mac_address_text mask))) (address-read value value_lt)
    ∙ ap (λ o. masked_mac (Some value) (option_or o (option_map mac_length_mask (decimal_of (mac_address_text mask) 48)))) (address-read mask mask_lt)
    ∙ ap (λ (m : ℕ). Some (m, mask)) under

pub mac-read : (value mask : ℕ) → value < 2 ^ 48 → mask < 2 ^ 48 → bit_and value mask ≡ value → mac_of (mac_text value mask) ≡ Some (value, mask)
unfolding mac_text
mac-read value mask value_lt mask_lt under = by (mask == 0xFFFF_FFFF_FFFF) refl
  where
    by : (t : Bool) → (mask == 0xFFFF_FFFF_FFFF) ≡ t → mac_of (if t then mac_address_text value else join_with_byte 47 (mac_address_text value ∷ mac_address_text mask ∷ [])) ≡ Some (value, mask)
    by true is =
        let whole : mask ≡ 0xFFFF_FFFF_FFFF = eqb-true mask 0xFFFF_FFFF_FFFF is in
        whole-read value value_lt (ap (bit_and value) (sym whole) ∙ under) ∙ ap (λ (m : ℕ). Some (value, m)) (sym whole)
    by false is = masked-read value mask value_lt mask_lt under

pub mac-clean : (value mask : ℕ) → value < 2 ^ 48 → mask < 2 ^ 48 → is_clean (mac_text value mask) ≡ true
unfolding mac_text
mac-clean value mask value_lt mask_lt = by (mask == 0xFFFF_FFFF_FFFF)
  where
    by : (t : Bool) → is_clean (if t then mac_address_text value else join_with_byte 47 (mac_address_text value ∷ mac_address_text mask ∷ [])) ≡ true
    by true = clean-from (mac_address_text value) (omega arith) (address-plain value value_lt)
    by false = two-clean (mac_address_text value) (mac_address_text mask) (address-plain value value_lt) (address-plain mask mask_lt)
