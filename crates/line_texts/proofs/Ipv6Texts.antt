-- A printed IPv6 prefix is read back as its halves and its length.
use Rattle.std.proofs.Common.{◌≡◌, ◌∙◌, ℕ, ◌+◌, ◌*◌, ◌/◌, ◌%◌, ◌^◌, ◌<◌, ◌≤◌, Bool, true, false, List, [], ◌∷◌, ◌++◌, length, take, drop, Option, Some, None, refl, sym, ap, subst, arith}
use Rattle.std.specs.Prelude.{◌==◌, not, bit_and, fold, nat_lt, if◌then◌else◌}
use Rattle.std.specs.List.{list_all, list_any, join_with_byte}
use Rattle.std.specs.Option.{option_map}
use Rattle.std.specs.Char.{is_ascii_hexdigit}
use Rattle.std.specs.Fmt.{decimal}
use Rattle.std.proofs.lemmas.Bool.Decides.{nat_tests}
use Rattle.std.proofs.lemmas.List.Folds.{list_all-append}
use Rattle.tc_words.specs.Hexadecimal.{hex_of}
use Rattle.tc_words.specs.Numbers.{decimal_of}
use Rattle.tc_words.specs.Groups.{group_of, followed_by, groups_value, groups_of, of_just}
use Rattle.tc_words.specs.declared.ipv6_addresses.Ipv6Word.{Ipv6Word}
use Rattle.tc_words.specs.Ipv6Addresses.{gap_place, address_by_gap, ipv6_groups, ipv6_address_of, ipv6_mask, ipv6_halves, ipv6_prefix, ipv6_of_parts, ipv6_of}
use Rattle.line_texts.specs.Texts.{hex_text, four_groups, ipv6_address_text, ipv6_text}
use Rattle.line_texts.specs.CleanWords.{is_plain, is_clean}
use Rattle.line_texts.proofs.Joins.{and-both, avoids, other-byte, split-joined, all-joined, all-wider, all-two, joined-twice, any-between, any-front}
use Rattle.line_texts.proofs.Clean.{hexdigit-plain, two-clean}
use Rattle.line_texts.proofs.Decimals.{decimal-avoids, decimal-plain, decimal-read}
use Rattle.line_texts.proofs.Hexadecimal.{spells-read, value-next}
use Rattle.line_texts.proofs.Classes.{group-spells, group-avoids}
use Rattle.line_texts.proofs.Colons.{is_group, no-gap}

-- the groups by themselves, the highest first
abbrev pair : ℕ → List (List ℕ)
pair n = hex_text (n / 65536) ∷ hex_text (n % 65536) ∷ []

abbrev four : ℕ → List (List ℕ)
four n = pair (n / 2 ^ 32) ++ pair (n % 2 ^ 32)

abbrev eight : ℕ → ℕ → List (List ℕ)
eight high low = four high ++ four low

four-flat : (n : ℕ) → four_groups n ≡ join_with_byte 58 (four n)
four-flat n = joined-twice 58 (hex_text (n / 2 ^ 32 / 65536)) (hex_text (n % 2 ^ 32 / 65536)) (hex_text (n / 2 ^ 32 % 65536) ∷ []) (hex_text (n % 2 ^ 32 % 65536) ∷ [])

eight-flat : (high low : ℕ) → ipv6_address_text high low ≡ join_with_byte 58 (eight high low)
eight-flat high low =
    ap (λ (text : List ℕ). join_with_byte 58 (text ∷ four_groups low ∷ [])) (four-flat high) ∙ ap (λ (text : List ℕ). join_with_byte 58 (join_with_byte 58 (four high) ∷ text ∷ [])) (four-flat low)
    ∙ joined-twice 58 (hex_text (high / 2 ^ 32 / 65536)) (hex_text (low / 2 ^ 32 / 65536)) (hex_text (high / 2 ^ 32 % 65536) ∷ pair (high % 2 ^ 32)) (hex_text (low / 2 ^ 32 % 65536) ∷ pair (low % 2 ^ 32))

group-read : (n : ℕ) → n < 65536 → group_of 1 4 (hex_text n) ≡ Some n
group-read n lt = let h = group-spells n lt in choice (nat_lt (length (hex_text n)) 1) (let some = h.some in grind (arith, nat_tests, some)) ∙ spells-read n 4 (hex_text n) h
  where
    choice : (b : Bool) → b ≡ false → (if b then None else hex_of (hex_text n) 4) ≡ hex_of (hex_text n) 4
    choice true is = absurd (cc is)
    choice false is = refl

abbrev value_from : ℕ → List (List ℕ) → Option ℕ
value_from start groups = fold (λ total part. followed_by 4 total (group_of 1 4 part)) (Some start) groups

pair-value : (start n : ℕ) (rest : List (List ℕ)) → n < 2 ^ 32 → value_from start (pair n ++ rest) ≡ value_from (start * 2 ^ 32 + n) rest
pair-value start n rest lt =
    let all : (start * 16 ^ 4 + n / 65536) * 16 ^ 4 + n % 65536 ≡ start * 2 ^ 32 + n = omega arith in
    value-next 1 4 start (n / 65536) (hex_text (n / 65536)) (hex_text (n % 65536) ∷ rest) (group-read (n / 65536) (omega arith))
    ∙ value-next 1 4 (start * 16 ^ 4 + n / 65536) (n % 65536) (hex_text (n % 65536)) rest (group-read (n % 65536) (omega arith))
    ∙ ap (λ m. value_from m rest) all

four-value : (start n : ℕ) (rest : List (List ℕ)) → n < 2 ^ 64 → value_from start (four n ++ rest) ≡ value_from (start * 2 ^ 64 + n) rest
four-value start n rest lt =
    let all : (start * 2 ^ 32 + n / 2 ^ 32) * 2 ^ 32 + n % 2 ^ 32 ≡ start * 2 ^ 64 + n = omega arith in
    pair-value start (n / 2 ^ 32) (pair (n % 2 ^ 32) ++ rest) (omega arith) ∙ pair-value (start * 2 ^ 32 + n / 2 ^ 32) (n % 2 ^ 32) rest (omega arith) ∙ ap (λ m. value_from m rest) all

eight-value : (high low : ℕ) → high < 2 ^ 64 → low < 2 ^ 64 → groups_value 1 4 (eight high low) ≡ Some (high * 2 ^ 64 + low)
eight-value high low high_lt low_lt =
    let start : 0 * 2 ^ 64 + high ≡ high = omega arith in
    four-value 0 high (four low) high_lt ∙ ap (λ m. value_from m (four low)) start ∙ four-value high low [] low_lt

-- what holds of the digits of each group holds of all eight
four-all : (q : List ℕ → Bool) → ((m : ℕ) → m < 65536 → q (hex_text m) ≡ true) → (n : ℕ) → n < 2 ^ 64 → list_all q (four n) ≡ true
four-all q each n lt =
    list_all-append q (pair (n / 2 ^ 32)) (pair (n % 2 ^ 32))
    ∙ and-both (list_all q (pair (n / 2 ^ 32))) (list_all q (pair (n % 2 ^ 32)))
    (all-two q (hex_text (n / 2 ^ 32 / 65536)) (hex_text (n / 2 ^ 32 % 65536)) (each (n / 2 ^ 32 / 65536) (omega arith)) (each (n / 2 ^ 32 % 65536) (omega arith)))
    (all-two q (hex_text (n % 2 ^ 32 / 65536)) (hex_text (n % 2 ^ 32 % 65536)) (each (n % 2 ^ 32 / 65536) (omega arith)) (each (n % 2 ^ 32 % 65536) (omega arith)))

eight-all : (q : List ℕ → Bool) → ((m : ℕ) → m < 65536 → q (hex_text m) ≡ true) → (high low : ℕ) → high < 2 ^ 64 → low < 2 ^ 64 → list_all q (eight high low) ≡ true
eight-all q each high low high_lt low_lt = list_all-append q (four high) (four low) ∙ and-both (list_all q (four high)) (list_all q (four low)) (four-all q each high high_lt) (four-all q each low low_lt)

group-all : (q : ℕ → Bool) → ((b : ℕ) → is_ascii_hexdigit b ≡ true → q b ≡ true) → (n : ℕ) → n < 65536 → list_all q (hex_text n) ≡ true
group-all q wider n lt = let h = group-spells n lt in all-wider is_ascii_hexdigit q wider (hex_text n) h.digits

-- a class that the colon too is of is that of the whole address
address-all : (q : ℕ → Bool) → ((b : ℕ) → is_ascii_hexdigit b ≡ true → q b ≡ true) → q 58 ≡ true → (high low : ℕ) → high < 2 ^ 64 → low < 2 ^ 64 → list_all q (ipv6_address_text high low) ≡ true
address-all q wider colon high low high_lt low_lt =
    subst (λ text. list_all q text ≡ true) (sym (eight-flat high low)) (all-joined q 58 colon (eight high low) (eight-all (list_all q) (group-all q wider) high low high_lt low_lt))

group-is : (n : ℕ) → n < 65536 → is_group (hex_text n) ≡ true
group-is n lt = let h = group-spells n lt in and-both (not (length (hex_text n) == 0)) (avoids (λ b. b == 58) (hex_text n)) (let some = h.some in grind (arith, nat_tests, some)) (group-avoids 58 n refl lt)

address-groups : (high low : ℕ) → high < 2 ^ 64 → low < 2 ^ 64 → of_just 8 (ipv6_groups (join_with_byte 58 (eight high low))) ≡ Some (high * 2 ^ 64 + low)
address-groups high low high_lt low_lt =
    let more = hex_text (high / 2 ^ 32 % 65536) ∷ pair (high % 2 ^ 32) ++ four low in
    ap (λ parts. of_just 8 (groups_of 1 4 8 parts)) (split-joined (λ b. b == 58) 58 refl (hex_text (high / 2 ^ 32 / 65536)) more (eight-all (avoids (λ b. b == 58)) (λ m lt. group-avoids 58 m refl lt) high low high_lt low_lt))
    ∙ ap (λ (o : Option ℕ). of_just 8 (option_map (λ number. (8, number)) o)) (eight-value high low high_lt low_lt)

address-read : (high low : ℕ) → high < 2 ^ 64 → low < 2 ^ 64 → ipv6_address_of (ipv6_address_text high low) ≡ Some (high * 2 ^ 64 + low)
unfolding ipv6_address_of
address-read high low high_lt low_lt =
    let text = join_with_byte 58 (eight high low) in
    let more = hex_text (high / 2 ^ 32 % 65536) ∷ pair (high % 2 ^ 32) ++ four low in
    let gapless : gap_place text ≡ None = no-gap (hex_text (high / 2 ^ 32 / 65536)) more (eight-all is_group group-is high low high_lt low_lt) in
    ap ipv6_address_of (eight-flat high low)
    ∙ ap (λ (o : Option ℕ). address_by_gap text (option_map (λ at. (take at text, drop (at + 2) text)) o)) gapless
    ∙ address-groups high low high_lt low_lt

-- the two halves of what two halves make
halves : (high low length : ℕ) → low < 2 ^ 64 → ipv6_halves (high * 2 ^ 64 + low) length ≡ record { high = high; low = low; length = length }
halves high low length low_lt =
    let above : (high * 2 ^ 64 + low) / 2 ^ 64 ≡ high = omega arith in
    let below : (high * 2 ^ 64 + low) % 2 ^ 64 ≡ low = omega arith in
    cc (above, below)

pub ipv6-read : (high low length : ℕ) → high < 2 ^ 64 → low < 2 ^ 64 → length ≤ 128 → bit_and (high * 2 ^ 64 + low) (ipv6_mask length) ≡ high * 2 ^ 64 + low
    → ipv6_of (ipv6_text high low length) ≡ Some (record { high = high; low = low; length = length })
unfolding ipv6_of ipv6_text
ipv6-read high low length high_lt low_lt length_le under =
    let address = ipv6_address_text high low in
    ap ipv6_of_parts (split-joined (λ b. b == 47) 47 refl address (decimal length ∷ [])
    (all-two (avoids (λ b. b == 47)) address (decimal length) (address-all (λ b. not (b == 47)) (other-byte is_ascii_hexdigit 47 refl) refl high low high_lt low_lt) (decimal-avoids 47 length refl (omega arith))))
    ∙ ap (λ o. ipv6_prefix o (decimal_of (decimal length) 128)) (address-read high low high_lt low_lt)
    ∙ ap (ipv6_prefix (Some (high * 2 ^ 64 + low))) (decimal-read 128 length (omega arith) length_le)
    ∙ ap (λ (m : ℕ). Some (ipv6_halves m length)) under
    ∙ ap (λ (word : Ipv6Word). Some word) (halves high low length low_lt)

pub ipv6-clean : (high low length : ℕ) → high < 2 ^ 64 → low < 2 ^ 64 → length ≤ 128 → is_clean (ipv6_text high low length) ≡ true
unfolding ipv6_text
ipv6-clean high low length high_lt low_lt length_le = two-clean (ipv6_address_text high low) (decimal length) (address-all is_plain hexdigit-plain refl high low high_lt low_lt) (decimal-plain length (omega arith))

-- it holds a colon
pub ipv6-colon : (high low length : ℕ) → list_any (λ b. b == 58) (ipv6_text high low length) ≡ true
unfolding ipv6_text
ipv6-colon high low length = any-front 58 (ipv6_address_text high low) (47 ∷ decimal length) (any-between 58 (four_groups high) (four_groups low))
