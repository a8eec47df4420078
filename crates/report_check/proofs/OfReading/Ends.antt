-- A number at the front of a text ends where a byte below the digits comes.
use Rattle.std.proofs.Common.{◌≡◌, ◌∙◌, ℕ, zero, suc, ◌+◌, ◌-◌, ◌<◌, ◌≤◌, ◌==◌, true, false, List, [], ◌∷◌, ◌++◌, length, take, drop, get_or, refl, sym, ap, arith}
use Rattle.std.proofs.lemmas.List.{drop_more, take_all, length-drop, take-append-drop}
use Rattle.std.specs.Fmt.{decimal}
use Rattle.std.specs.List.{position_or_len}
use Rattle.std.proofs.lemmas.Bool.Decides.{nat_tests}
use Rattle.report_laws.specs.OfLineCuts.Numbers.{Low}
use Rattle.report_laws.proofs.OfLineCuts.Digits.{High, digits_high, Free}
use Rattle.report_laws.proofs.OfLineCuts.Tails.{last_same}
use Rattle.report_check.specs.OfReading.Packets.{is_low}

low_at : (rest : List ℕ) → Low rest → position_or_len is_low rest ≡ 0
low_at [] low = refl
low_at (byte ∷ rest) low = grind (arith, nat_tests, low)

ends_behind : (digits rest : List ℕ) → High digits → Low rest → position_or_len is_low (digits ++ rest) ≡ length digits
ends_behind [] rest high low = low_at rest low
ends_behind (digit ∷ digits) rest high low =
    let later = ends_behind digits rest high.1 low in let first = high.0 in grind (arith, nat_tests, first, later)

pub number_ends : (number : ℕ) (rest : List ℕ) → Low rest → position_or_len is_low (decimal number ++ rest) ≡ length (decimal number)
number_ends number rest low = ends_behind (decimal number) rest (digits_high 10 false number) low

-- cut there, the text gives back both parts
cut_cons : (digits rest : List ℕ) → (take (length digits) (digits ++ rest) ≡ digits) × (drop (length digits) (digits ++ rest) ≡ rest)
cut_cons [] rest = (refl, refl)
cut_cons (digit ∷ digits) rest = let later = cut_cons digits rest in (ap (λ ds. digit ∷ ds) later.0, later.1)

long_append : (digits rest : List ℕ) → length (digits ++ rest) ≡ length digits + length rest
long_append [] rest = omega arith
long_append (digit ∷ digits) rest = let later = long_append digits rest in omega (arith, later)

pub cut_there : (text digits rest : List ℕ) (k : ℕ) → k ≡ length digits → text ≡ digits ++ rest → (take k text ≡ digits) × (take (length text - k) (drop k text) ≡ rest)
cut_there text digits rest k is parts =
    let both : length text ≡ length digits + length rest = ap length parts ∙ long_append digits rest in
    let cut = cut_cons digits rest in
    let front : take k text ≡ digits = ap (take k) parts ∙ ap (λ n. take n (digits ++ rest)) is ∙ cut.0 in
    let back : drop k text ≡ rest = ap (drop k) parts ∙ ap (λ n. drop n (digits ++ rest)) is ∙ cut.1 in
    (front, ap (take (length text - k)) back ∙ take_all (length text - k) rest (omega (arith, both, is)))

-- what follows the last byte of a kind has none
pub free_behind : (byte : ℕ) (bytes : List ℕ) (k : ℕ) → ((place : ℕ) → k ≤ place → place < length bytes → (get_or bytes place 0 == byte) ≡ true → ⊥) → Free byte (drop k bytes)
free_behind byte [] zero other = tt
free_behind byte [] (suc k) other = tt
free_behind byte (b ∷ bytes) zero other =
    ((λ same. other 0 (omega arith) (omega arith) (grind (arith, nat_tests, same))), free_behind byte bytes zero (λ place low less. other (suc place) (omega arith) (omega (arith, less))))
free_behind byte (b ∷ bytes) (suc k) other = free_behind byte bytes k (λ place low less. other (suc place) (omega (arith, low)) (omega (arith, less)))

same_byte : (a b : ℕ) → (a == b) ≡ true → a ≡ b
same_byte a b is = grind (arith, nat_tests, is)

-- so it is what follows that byte, wherever it stands
pub last_cut : (byte : ℕ) (bytes front tail : List ℕ) (place : ℕ) → place < length bytes → (get_or bytes place 0 == byte) ≡ true → Free byte (drop (place + 1) bytes) → Free byte tail
    → bytes ≡ front ++ (byte ∷ tail) → take (length bytes - (place + 1)) (drop (place + 1) bytes) ≡ tail
last_cut byte bytes front tail place less is free behind parts =
    let split : take place bytes ++ (byte ∷ drop (place + 1) bytes) ≡ bytes =
    sym (sym (take-append-drop place bytes) ∙ ap (λ (bs : List ℕ). take place bytes ++ bs) (drop_more bytes place 0 less ∙ ap (λ (b : ℕ). b ∷ drop (place + 1) bytes) (same_byte (get_or bytes place 0) byte is))) in
    let long = length-drop (place + 1) bytes in
    take_all (length bytes - (place + 1)) (drop (place + 1) bytes) (omega (arith, long))
    ∙ last_same byte (take place bytes) front (drop (place + 1) bytes) tail free behind (split ∙ parts)
