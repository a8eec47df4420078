-- Addresses and prefixes, by their cuts.
use Rattle.std.proofs.Common.{◌≡◌, ◌∙◌, ℕ, ◌+◌, ◌<◌, Bool, true, false, cond, List, [], ◌∷◌, length, refl, sym, ap, take, drop, get_or, arith, eqb, Option, Some, None}
use Rattle.std.specs.Prelude.{nat_lt, ◌&&◌, nat_le, position}
use Rattle.std.specs.Char.{is_ascii_digit}
use Rattle.std.specs.List.{slice_split, list_all}
use Rattle.std.proofs.lemmas.List.Sums.{AllPass-from_list_all}
use Rattle.std.proofs.lemmas.List.Quantifiers.{position-Some}
use borrow.Author.Tests.{eqb-true}
use Rattle.tc_words.specs.Lines.{cut_once}
use Rattle.tc_words.specs.Numbers.{decimal_of, is_decimal, digits_value}
use Rattle.tc_words.specs.Addresses.{octets_of, joined_octets, address_of, masked_prefix, prefix_of, ipv4_of}
use Rattle.tc_words.proofs.Parts.{parts_uncut_at, parts_cut_at, some_part, from_mapped_Some}

-- a text with fewer than three dots is no address
pub no_dot : (text : List ℕ) → cut_once 46 text ≡ None → address_of text ≡ None
unfolding address_of
no_dot text e = ap octets_of (parts_uncut_at 46 text e)

pub one_dot : (text a rest : List ℕ) → cut_once 46 text ≡ Some (a, rest) → cut_once 46 rest ≡ None → address_of text ≡ None
unfolding address_of
one_dot text a rest e f = ap octets_of ((parts_cut_at 46 text a rest e).1 ∙ ap (λ (ps : List (List ℕ)). a ∷ ps) (parts_uncut_at 46 rest f))

pub two_dots : (text a rest b last : List ℕ) → cut_once 46 text ≡ Some (a, rest) → cut_once 46 rest ≡ Some (b, last) → cut_once 46 last ≡ None → address_of text ≡ None
unfolding address_of
two_dots text a rest b last e f g =
    ap octets_of ((parts_cut_at 46 text a rest e).1 ∙ ap (λ (ps : List (List ℕ)). a ∷ ps) ((parts_cut_at 46 rest b last f).1 ∙ ap (λ (ps : List (List ℕ)). b ∷ ps) (parts_uncut_at 46 last g)))

-- a decimal number is all digits
digits_of : (first second : Bool) (word : List ℕ) → cond first false (cond second false (list_all is_ascii_digit word)) ≡ true → list_all is_ascii_digit word ≡ true
digits_of true second word e = cc
digits_of false true word e = cc
digits_of false false word e = e

-- a word that is all digits is cut at no other byte
all_digits_but : (byte : ℕ) (word front back : List ℕ) → is_ascii_digit byte ≡ false → cut_once byte word ≡ Some (front, back) → list_all is_ascii_digit word ≡ true → ⊥
all_digits_but byte word front back other e all =
    let found = from_mapped_Some (λ at. (take at word, drop (at + 1) word)) (position (λ b. eqb b byte) word) (front, back) e in
    let there = position-Some (λ b. eqb b byte) word found.0 0 found.1 in
    let digit : is_ascii_digit (get_or word found.0 0) ≡ true = AllPass-from_list_all is_ascii_digit word all found.0 0 there.0 in
    let same : get_or word found.0 0 ≡ byte = eqb-true (get_or word found.0 0) byte there.1 in
    let no : true ≡ false = sym digit ∙ ap is_ascii_digit same ∙ other in
    cc

-- a word that is not all digits spells no number
no_number : (b enough : Bool) (n : ℕ) (word : List ℕ) → is_decimal word ≡ b → (list_all is_ascii_digit word ≡ true → ⊥) → cond (b && enough) (Some n) None ≡ None
no_number true enough n word decimal never = absurd (never (digits_of (eqb (length word) 0) (nat_lt 1 (length word) && eqb (get_or word 0 0) 48) word decimal))
no_number false enough n word decimal never = refl

-- a word with a byte in it that is no digit spells no number
pub not_decimal : (byte most : ℕ) (word front back : List ℕ) → is_ascii_digit byte ≡ false → cut_once byte word ≡ Some (front, back) → decimal_of word most ≡ None
unfolding decimal_of
not_decimal byte most word front back other e = no_number (is_decimal word) (nat_le (digits_value word) most) (digits_value word) word refl (all_digits_but byte word front back other e)

-- without the fourth octet there is no address
joined_None : (a b c : Option ℕ) → joined_octets a b c None ≡ None
joined_None None b c = refl
joined_None (Some a) None c = refl
joined_None (Some a) (Some b) None = refl
joined_None (Some a) (Some b) (Some c) = refl

-- five parts or more are no address
more_parts : (a b c d : List ℕ) (parts : List (List ℕ)) → 0 < length parts → octets_of (a ∷ b ∷ c ∷ d ∷ parts) ≡ None
more_parts a b c d [] lt = absurd (omega arith)
more_parts a b c d (part ∷ parts) lt = refl

-- what stands behind the third dot is the fourth part, or has a dot and spells no number
last_part : (o : Option (List ℕ × List ℕ)) (a b c last : List ℕ) → cut_once 46 last ≡ o
    → octets_of (a ∷ b ∷ c ∷ slice_split (λ x. eqb x 46) last) ≡ joined_octets (decimal_of a 255) (decimal_of b 255) (decimal_of c 255) (decimal_of last 255)
last_part None a b c last e = ap (λ (ps : List (List ℕ)). octets_of (a ∷ b ∷ c ∷ ps)) (parts_uncut_at 46 last e)
last_part (Some (front, back)) a b c last e =
    ap (λ (ps : List (List ℕ)). octets_of (a ∷ b ∷ c ∷ ps)) (parts_cut_at 46 last front back e).1
    ∙ more_parts a b c front (slice_split (λ x. eqb x 46) back) (some_part (λ x. eqb x 46) back)
    ∙ sym (ap (joined_octets (decimal_of a 255) (decimal_of b 255) (decimal_of c 255)) (not_decimal 46 255 last front back refl e) ∙ joined_None (decimal_of a 255) (decimal_of b 255) (decimal_of c 255))

-- three dots make the four octets
pub three_dots : (text a rest b more c last : List ℕ) → cut_once 46 text ≡ Some (a, rest) → cut_once 46 rest ≡ Some (b, more) → cut_once 46 more ≡ Some (c, last)
    → address_of text ≡ joined_octets (decimal_of a 255) (decimal_of b 255) (decimal_of c 255) (decimal_of last 255)
unfolding address_of
three_dots text a rest b more c last e f g =
    ap octets_of ((parts_cut_at 46 text a rest e).1 ∙ ap (λ (ps : List (List ℕ)). a ∷ ps) ((parts_cut_at 46 rest b more f).1 ∙ ap (λ (ps : List (List ℕ)). b ∷ ps) (parts_cut_at 46 more c last g).1))
    ∙ last_part (cut_once 46 last) a b c last refl

-- without a slash the word is an address alone
pub no_slash : (word : List ℕ) → cut_once 47 word ≡ None → ipv4_of word ≡ masked_prefix (address_of word) (Some 32)
unfolding ipv4_of
no_slash word e = ap prefix_of (parts_uncut_at 47 word e)

-- without a length there is no prefix
masked_None : (address : Option ℕ) → masked_prefix address None ≡ None
masked_None None = refl
masked_None (Some address) = refl

-- two slashes or more are no prefix
more_lengths : (address length_part : List ℕ) (parts : List (List ℕ)) → 0 < length parts → prefix_of (address ∷ length_part ∷ parts) ≡ None
more_lengths address length_part [] lt = absurd (omega arith)
more_lengths address length_part (part ∷ parts) lt = refl

-- what stands behind the first slash is the length, or has a slash and spells no number
last_length : (o : Option (List ℕ × List ℕ)) (address last : List ℕ) → cut_once 47 last ≡ o → prefix_of (address ∷ slice_split (λ x. eqb x 47) last) ≡ masked_prefix (address_of address) (decimal_of last 32)
last_length None address last e = ap (λ (ps : List (List ℕ)). prefix_of (address ∷ ps)) (parts_uncut_at 47 last e)
last_length (Some (front, back)) address last e =
    ap (λ (ps : List (List ℕ)). prefix_of (address ∷ ps)) (parts_cut_at 47 last front back e).1
    ∙ more_lengths address front (slice_split (λ x. eqb x 47) back) (some_part (λ x. eqb x 47) back)
    ∙ sym (ap (masked_prefix (address_of address)) (not_decimal 47 32 last front back refl e) ∙ masked_None (address_of address))

-- a slash parts the address and the length
pub a_slash : (word address last : List ℕ) → cut_once 47 word ≡ Some (address, last) → ipv4_of word ≡ masked_prefix (address_of address) (decimal_of last 32)
unfolding ipv4_of
a_slash word address last e = ap prefix_of (parts_cut_at 47 word address last e).1 ∙ last_length (cut_once 47 last) address last refl
