-- Each word's answer is in its range.
use Rattle.std.proofs.Common.{◌≡◌, ◌∙◌, ℕ, ◌+◌, ◌-◌, ◌*◌, ◌^◌, ◌<◌, ◌≤◌, Bool, true, false, cond, List, [], ◌∷◌, refl, sym, ap, subst, arith, eqb, Option, Some, None}
use Rattle.std.specs.Prelude.{◌⊎◌, nat_le, bit_and, codes}
use mathlib.Core.Logic.{inl, inr}
use Rattle.std.specs.List.{slice_split}
use Rattle.std.specs.Option.{option_map, option_or}
use Rattle.std.specs.Str.{bytes_eq}
use Rattle.std.proofs.Math.Nat.{pow-le-pow_right}
use Rattle.std.proofs.lemmas.Nat.{and_le_r}
use Rattle.std.proofs.lemmas.Bool.Decides.{nat_tests}
use Rattle.tc_base.specs.declared.hook.Proto.TheVariants.{All, Ether}
use Rattle.tc_words.specs.Hexadecimal.{hex_of, marked_hex_of}
use Rattle.tc_words.specs.Numbers.{number_of}
use Rattle.tc_words.proofs.MacParts.{masked_twice}
use Rattle.line_words.specs.Forms.{at_least, number_between, tpid_of, has_mark, ether_number_of, ether_type_of, protocol_of, ip_protocol_of, joined_class, class_of_parts, class_of, under_mask, masked_by, masked_hex_of, masked_octet_of}
use Rattle.line_words.proofs.Spelled.{hex_below, marked_hex_below, number_at_most}

-- a name's number, or else what the other names say
chosen : (P : ℕ → Type 0) (b : Bool) (named : ℕ) (others : Option ℕ) → P named → ((n : ℕ) → others ≡ Some n → P n) → (n : ℕ) → cond b (Some named) others ≡ Some n → P n
chosen P true named others here there n e =
    let same : named ≡ n = cc in
    subst P same here
chosen P false named others here there n e = there n e

-- a number in the range of its place
least_by : (b : Bool) (least number n : ℕ) → nat_le least number ≡ b → cond b (Some number) None ≡ Some n → (least ≤ n) × (number ≡ n)
least_by true least number n test e =
    let same : number ≡ n = cc in
    (grind (arith, nat_tests, test, same), same)
least_by false least number n test e = cc

between : (o : Option ℕ) (least most n : ℕ) → ((number : ℕ) → o ≡ Some number → number ≤ most) → at_least least o ≡ Some n → (least ≤ n) × (n ≤ most)
between None least most n at_most e = cc
between (Some number) least most n at_most e =
    let found = least_by (nat_le least number) least number n refl e in
    (found.0, omega (arith, at_most number refl, found.1))

pub number_between_range : (least most : ℕ) (word : List ℕ) (n : ℕ) → number_between least most word ≡ Some n → (least ≤ n) × (n ≤ most)
number_between_range least most word n e = between (number_of word most) least most n (λ number found. number_at_most word most number found) e

-- the EtherTypes of the two tags
abbrev IsTag : ℕ → Type 0
IsTag n = (n ≡ 0x8100) ⊎ (n ≡ 0x88A8)

no_tag : (n : ℕ) → None ≡ Some n → IsTag n
no_tag n e = cc

pub tpid_range : (word : List ℕ) (n : ℕ) → tpid_of word ≡ Some n → (n ≡ 0x8100) ⊎ (n ≡ 0x88A8)
unfolding tpid_of
tpid_range word =
    chosen IsTag (bytes_eq word (codes "802.1Q")) 0x8100 _ (inl refl)
    (chosen IsTag (bytes_eq word (codes "802.1q")) 0x8100 _ (inl refl) (chosen IsTag (bytes_eq word (codes "802.1ad")) 0x88A8 _ (inr refl) (chosen IsTag (bytes_eq word (codes "802.1AD")) 0x88A8 None (inr refl) no_tag)))

-- an EtherType
abbrev IsShort : ℕ → Type 0
IsShort n = n < 65536

tag_short : (n : ℕ) → (n ≡ 0x8100) ⊎ (n ≡ 0x88A8) → n < 65536
tag_short n (inl e) = omega (arith, e)
tag_short n (inr e) = omega (arith, e)

number_by_mark : (b : Bool) (word : List ℕ) (n : ℕ) → cond b (marked_hex_of word 4) None ≡ Some n → n < 65536
number_by_mark true word n e = marked_hex_below word 4 n e
number_by_mark false word n e = cc

tag_or_number : (o : Option ℕ) (word : List ℕ) (n : ℕ) → tpid_of word ≡ o → option_or o (ether_number_of word) ≡ Some n → n < 65536
tag_or_number None word n is e = number_by_mark (has_mark word) word n e
tag_or_number (Some tag) word n is e =
    let same : tag ≡ n = cc in
    omega (arith, tag_short tag (tpid_range word tag is), same)

pub ether_type_range : (word : List ℕ) (n : ℕ) → ether_type_of word ≡ Some n → n < 65536
unfolding ether_type_of
ether_type_range word =
    chosen IsShort (bytes_eq word (codes "ip")) 0x0800 _ (omega arith)
    (chosen IsShort (bytes_eq word (codes "ipv4")) 0x0800 _ (omega arith)
    (chosen IsShort (bytes_eq word (codes "ipv6")) 0x86DD _ (omega arith)
    (chosen IsShort (bytes_eq word (codes "arp")) 0x0806 (option_or (tpid_of word) (ether_number_of word)) (omega arith) (λ n e. tag_or_number (tpid_of word) word n refl e))))

-- the protocol of a filter
mapped_ether : (o : Option ℕ) (n : ℕ) → option_map Ether o ≡ Some (Ether n) → o ≡ Some n
mapped_ether None n e = cc
mapped_ether (Some number) n e = cc

protocol_by : (b : Bool) (word : List ℕ) (n : ℕ) → cond b (Some All) (option_map Ether (ether_type_of word)) ≡ Some (Ether n) → n < 65536
protocol_by true word n e = cc
protocol_by false word n e = ether_type_range word n (mapped_ether (ether_type_of word) n e)

pub protocol_range : (word : List ℕ) (n : ℕ) → protocol_of word ≡ Some (Ether n) → n < 65536
unfolding protocol_of
protocol_range word n e = protocol_by (bytes_eq word (codes "all")) word n e

-- a protocol over IP
abbrev IsOctet : ℕ → Type 0
IsOctet n = n < 256

pub ip_protocol_range : (word : List ℕ) (n : ℕ) → ip_protocol_of word ≡ Some n → n < 256
unfolding ip_protocol_of
ip_protocol_range word =
    chosen IsOctet (bytes_eq word (codes "tcp")) 6 _ (omega arith)
    (chosen IsOctet (bytes_eq word (codes "udp")) 17 _ (omega arith)
    (chosen IsOctet (bytes_eq word (codes "icmp")) 1 _ (omega arith)
    (chosen IsOctet (bytes_eq word (codes "icmpv6")) 58 _ (omega arith)
    (chosen IsOctet (bytes_eq word (codes "sctp")) 132 (marked_hex_of word 2) (omega arith) (λ n e. marked_hex_below word 2 n e)))))

-- a class
joined_below : (major minor : Option ℕ) (n : ℕ) → ((half : ℕ) → major ≡ Some half → half < 65536) → ((half : ℕ) → minor ≡ Some half → half < 65536) → joined_class major minor ≡ Some n → n < 2 ^ 32
joined_below None minor n major_below minor_below e = cc
joined_below (Some major) None n major_below minor_below e = cc
joined_below (Some major) (Some minor) n major_below minor_below e =
    let same : major * 65536 + minor ≡ n = cc in
    omega (arith, major_below major refl, minor_below minor refl, same)

class_below : (parts : List (List ℕ)) (n : ℕ) → class_of_parts parts ≡ Some n → n < 2 ^ 32
class_below [] n e = cc
class_below (major ∷ []) n e = cc
class_below (major ∷ minor ∷ []) n e = joined_below (hex_of major 4) (hex_of minor 4) n (λ half found. hex_below major 4 half found) (λ half found. hex_below minor 4 half found) e
class_below (major ∷ minor ∷ part ∷ parts) n e = cc

pub class_range : (word : List ℕ) (n : ℕ) → class_of word ≡ Some n → n < 2 ^ 32
unfolding class_of
class_range word n e = class_below (slice_split (λ b. eqb b 58) word) n e

-- a value AND a mask, beside the mask
pub masked_again : (value mask v m : ℕ) → ◌≡◌ {A = Option (ℕ × ℕ)} (Some (bit_and value mask, mask)) (Some (v, m)) → (mask ≡ m) × (v ≤ m) × (bit_and v m ≡ v)
masked_again value mask v m e =
    let pair : ◌≡◌ {A = ℕ × ℕ} (bit_and value mask, mask) (v, m) = cc in
    let is_value : bit_and value mask ≡ v = ap (λ (p : ℕ × ℕ). p.0) pair in
    let is_mask : mask ≡ m = ap (λ (p : ℕ × ℕ). p.1) pair in (
      is_mask,
      omega (arith, and_le_r value mask, is_value, is_mask),
      sym (ap (λ n. bit_and n m) is_value) ∙ sym (ap (bit_and (bit_and value mask)) is_mask) ∙ masked_twice value mask ∙ is_value,
    )

under_below : (top : ℕ) (value mask : Option ℕ) (v m : ℕ) → ((n : ℕ) → mask ≡ Some n → n < top) → under_mask value mask ≡ Some (v, m) → (v < top) × (m < top) × (bit_and v m ≡ v)
under_below top None mask v m below e = cc
under_below top (Some value) None v m below e = cc
under_below top (Some value) (Some mask) v m below e =
    let again = masked_again value mask v m e in
    let small : m < top = omega (arith, below mask refl, again.0) in
    (omega (arith, small, again.1), small, again.2)

masked_below : (says : List ℕ → Option ℕ) (whole top : ℕ) (parts : List (List ℕ)) (v m : ℕ) → whole < top → ((part : List ℕ) (n : ℕ) → says part ≡ Some n → n < top)
    → masked_by says whole parts ≡ Some (v, m) → (v < top) × (m < top) × (bit_and v m ≡ v)
masked_below says whole top [] v m small below e = cc
masked_below says whole top (value ∷ []) v m small below e = under_below top (says value) (Some whole) v m (λ n found. let same : whole ≡ n = cc in omega (arith, small, same)) e
masked_below says whole top (value ∷ mask ∷ []) v m small below e = under_below top (says value) (says mask) v m (λ n found. below mask n found) e
masked_below says whole top (value ∷ mask ∷ part ∷ parts) v m small below e = cc

pub masked_hex_range : (word : List ℕ) (digits v m : ℕ) → masked_hex_of word digits ≡ Some (v, m) → (v < 16 ^ digits) × (m < 16 ^ digits) × (bit_and v m ≡ v)
unfolding masked_hex_of
masked_hex_range word digits v m e =
    let some = pow-le-pow_right {n = 16} (omega arith) {i = 0} {j = digits} (omega arith) in
    masked_below (λ part. marked_hex_of part digits) (16 ^ digits - 1) (16 ^ digits) (slice_split (λ b. eqb b 47) word) v m (omega (arith, some)) (λ part n found. marked_hex_below part digits n found) e

pub masked_octet_range : (word : List ℕ) (v m : ℕ) → masked_octet_of word ≡ Some (v, m) → (v < 256) × (m < 256) × (bit_and v m ≡ v)
unfolding masked_octet_of
masked_octet_range word v m e =
    masked_below (λ part. number_of part 255) 255 256 (slice_split (λ b. eqb b 47) word) v m (omega arith) (λ part n found. omega (arith, number_at_most part 255 n found)) e
