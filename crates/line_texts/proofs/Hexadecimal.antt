-- The hexadecimal digits of a number are read back as the number.
use Rattle.std.proofs.Common.{◌≡◌, ◌∙◌, ℕ, zero, suc, ◌+◌, ◌*◌, ◌/◌, ◌%◌, ◌^◌, ◌<◌, ◌≤◌, Bool, true, false, cond, List, [], ◌∷◌, ◌++◌, length, length-append, append_assoc, lit<, Some, None, refl, sym, ap, subst, arith}
use Rattle.std.specs.Prelude.{◌&&◌, ◌==◌, fold, nat_lt, if◌then◌else◌}
use Rattle.std.specs.List.{list_all}
use Rattle.std.specs.Char.{is_ascii_hexdigit, digit_value, digit_char}
use Rattle.std.specs.Fmt.{digits, digits_onto}
use Rattle.std.proofs.lemmas.Bool.Decides.{nat_tests}
use Rattle.std.proofs.lemmas.List.Sums.{fold-append}
use Rattle.std.proofs.lemmas.List.Folds.{list_all-append}
use Rattle.std.proofs.lemmas.Grind.{pow_more}
use borrow.Author.Tests.{eq-eqb, ne_eqb}
use mathlib.Core.Logic.{⊎_elim}
use Rattle.std.proofs.lemmas.Bool.{cases_lt}
use Rattle.tc_words.specs.Hexadecimal.{hex_value, hex_of, marked_hex_of}
use Rattle.tc_words.specs.Groups.{group_of, followed_by}
use Rattle.line_texts.specs.Texts.{hex_text, marked, two_digits, four_digits}
use Rattle.line_texts.specs.CleanWords.{is_plain, is_clean}
use Rattle.line_texts.proofs.Joins.{and-both, all-wider}
use Rattle.line_texts.proofs.Clean.{clean-from, hexdigit-plain}

abbrev onto : ℕ → ℕ → List ℕ → List ℕ
onto k n rest = digits_onto k 16 false n rest

onto-last : (k n : ℕ) (rest : List ℕ) → n < 16 → onto (suc k) n rest ≡ digit_char (n % 16) ∷ rest
onto-last k n rest h = ap (λ t. cond t (digit_char (n % 16) ∷ rest) (onto k (n / 16) (digit_char (n % 16) ∷ rest))) (eq-eqb (n / 16) 0 (omega arith))

onto-next : (k n : ℕ) (rest : List ℕ) → 16 ≤ n → onto (suc k) n rest ≡ onto k (n / 16) (digit_char (n % 16) ∷ rest)
onto-next k n rest h = ap (λ t. cond t (digit_char (n % 16) ∷ rest) (onto k (n / 16) (digit_char (n % 16) ∷ rest))) (ne_eqb (n / 16) 0 (λ e. omega arith))

-- what is put in front does not look at what stands behind
onto-append : (k n : ℕ) (rest : List ℕ) → onto k n rest ≡ onto k n [] ++ rest
onto-append zero n rest = refl
onto-append (suc k) n rest = ⊎_elim
    (λ l. onto-last k n rest l ∙ ap (λ x. x ++ rest) (sym (onto-last k n [] l)))
    (λ l. onto-next k n rest l ∙ onto-append k (n / 16) (digit_char (n % 16) ∷ rest) ∙ sym (append_assoc (onto k (n / 16) []) (digit_char (n % 16) ∷ []) rest)
    ∙ ap (λ x. x ++ rest) (sym (onto-next k n [] l ∙ onto-append k (n / 16) (digit_char (n % 16) ∷ []))))
    (cases_lt n 16)

-- one place more changes nothing where there are places enough
onto-enough : (k n : ℕ) (rest : List ℕ) → n < 16 ^ suc k → onto (suc k) n rest ≡ onto (suc (suc k)) n rest
onto-enough zero n rest p = onto-last zero n rest (omega arith) ∙ sym (onto-last 1 n rest (omega arith))
onto-enough (suc k) n rest p = ⊎_elim
    (λ l. onto-last (suc k) n rest l ∙ sym (onto-last (suc (suc k)) n rest l))
    (λ l. onto-next (suc k) n rest l ∙ onto-enough k (n / 16) (digit_char (n % 16) ∷ rest) (omega arith) ∙ sym (onto-next (suc (suc k)) n rest l))
    (cases_lt n 16)

is-onto : (n : ℕ) → hex_text n ≡ onto 64 n []
unfolding digits
is-onto n = refl

pub hex_text-one : (n : ℕ) → n < 16 → hex_text n ≡ digit_char n ∷ []
hex_text-one n lt = let same : n % 16 ≡ n = omega arith in is-onto n ∙ onto-last 63 n [] lt ∙ ap (λ d. digit_char d ∷ []) same

pub hex_text-more : (n : ℕ) → 16 ≤ n → n < 2 ^ 64 → hex_text n ≡ hex_text (n / 16) ++ (digit_char (n % 16) ∷ [])
hex_text-more n le lt =
    is-onto n ∙ onto-next 63 n [] le ∙ onto-enough 62 (n / 16) (digit_char (n % 16) ∷ []) (omega arith) ∙ onto-append 64 (n / 16) (digit_char (n % 16) ∷ [])
    ∙ ap (λ x. x ++ (digit_char (n % 16) ∷ [])) (sym (is-onto (n / 16)))

-- what up to `most` hexadecimal digits of a number are
pub record Spells (n most : ℕ) (ds : List ℕ) : Type 0 where
  pub value : hex_value ds ≡ n
  pub digits : list_all is_ascii_hexdigit ds ≡ true
  pub some : 0 < length ds
  pub short : length ds ≤ most

-- a digit is a decimal one below ten, and a letter from there on
digit-by_size : (b : Bool) (d : ℕ) → nat_lt d 10 ≡ b → d < 16 → (digit_value (cond b (48 + d) (87 + d)) ≡ d) × (is_ascii_hexdigit (cond b (48 + d) (87 + d)) ≡ true)
digit-by_size true d is lt = let small : d < 10 = grind (arith, nat_tests, is) in (grind (arith, nat_tests, small), grind (arith, nat_tests, small))
digit-by_size false d is lt = let large : 10 ≤ d = grind (arith, nat_tests, is) in (grind (arith, nat_tests, large, lt), grind (arith, nat_tests, large, lt))

digit-is : (d : ℕ) → d < 16 → (digit_value (digit_char d) ≡ d) × (is_ascii_hexdigit (digit_char d) ≡ true)
digit-is d lt = digit-by_size (nat_lt d 10) d refl lt

spells-one : (n : ℕ) → n < 16 → Spells n 1 (digit_char n ∷ [])
spells-one n lt = let is = digit-is n lt in record {
  value = let v = is.0 in omega arith;
  digits = and-both (is_ascii_hexdigit (digit_char n)) true is.1 refl;
  some = lit< tt;
  short = omega arith;
}

-- one digit more behind others
spells-digit : (front d most : ℕ) (ds : List ℕ) → d < 16 → Spells front most ds → Spells (16 * front + d) (most + 1) (ds ++ (digit_char d ∷ []))
spells-digit front d most ds lt h =
    let is = digit-is d lt in
    record {
      value = let e = fold-append (λ (m : ℕ) (d : ℕ). 16 * m + digit_value d) 0 ds (digit_char d ∷ []) in e ∙ (let v = h.value in let w = is.0 in cc (v, w));
      digits = list_all-append is_ascii_hexdigit ds (digit_char d ∷ []) ∙ and-both (list_all is_ascii_hexdigit ds) (is_ascii_hexdigit (digit_char d) && true) h.digits (and-both (is_ascii_hexdigit (digit_char d)) true is.1 refl);
      some = simp length-append (omega arith);
      short = let s = h.short in simp length-append (omega arith);
    }

spells-more : (n most : ℕ) (ds : List ℕ) → Spells (n / 16) most ds → Spells n (most + 1) (ds ++ (digit_char (n % 16) ∷ []))
spells-more n most ds h = subst (λ m. Spells m (most + 1) (ds ++ (digit_char (n % 16) ∷ []))) (omega arith) (spells-digit (n / 16) (n % 16) most ds (omega arith) h)

wider : (n low high : ℕ) (ds : List ℕ) → low ≤ high → Spells n low ds → Spells n high ds
wider n low high ds le h = record { value = h.value; digits = h.digits; some = h.some; short = let s = h.short in omega arith }

-- a number has as many digits as its size asks for
pub hex_text-spells : (k n : ℕ) → n < 16 ^ suc k → n < 2 ^ 64 → Spells n (suc k) (hex_text n)
hex_text-spells zero n lt small = subst (Spells n 1) (sym (hex_text-one n (omega arith))) (spells-one n (omega arith))
hex_text-spells (suc k) n lt small = ⊎_elim
    (λ l. subst (Spells n (suc (suc k))) (sym (hex_text-one n l)) (wider n 1 (suc (suc k)) (digit_char n ∷ []) (omega arith) (spells-one n l)))
    (λ l. subst (Spells n (suc (suc k))) (sym (hex_text-more n l small)) (wider n (suc k + 1) (suc (suc k)) _ (omega arith) (spells-more n (suc k) (hex_text (n / 16)) (hex_text-spells k (n / 16) (omega (arith, lt, pow_more 16 (suc k))) (omega arith)))))
    (cases_lt n 16)

pub two_digits-spells : (n : ℕ) → n < 256 → Spells n 2 (two_digits n)
two_digits-spells n lt = spells-more n 1 (digit_char (n / 16) ∷ []) (spells-one (n / 16) (omega arith))

pub four_digits-spells : (n : ℕ) → n < 65536 → Spells n 4 (four_digits n)
four_digits-spells n lt =
    let high = two_digits-spells (n / 256) (omega arith) in
    let third = spells-digit (n / 256) (n % 256 / 16) 2 (two_digits (n / 256)) (omega arith) high in
    let fourth = spells-digit (16 * (n / 256) + n % 256 / 16) (n % 256 % 16) 3 (two_digits (n / 256) ++ (digit_char (n % 256 / 16) ∷ [])) (omega arith) third in
    subst (λ m. Spells m 4 (four_digits n)) (omega arith) fourth

pub spells-read : (n most : ℕ) (ds : List ℕ) → Spells n most ds → hex_of ds most ≡ Some n
unfolding hex_of
spells-read n most ds h =
    choices (length ds == 0) (nat_lt most (length ds)) (list_all is_ascii_hexdigit ds) (let some = h.some in grind (arith, nat_tests, some)) (let short = h.short in grind (arith, nat_tests, short)) h.digits
    ∙ ap (λ (m : ℕ). Some m) h.value
  where
    choices : (a b c : Bool) → a ≡ false → b ≡ false → c ≡ true → (if (if a then false else if b then false else c) then Some (hex_value ds) else None) ≡ Some (hex_value ds)
    choices false false c p q r = ap (λ (t : Bool). if t then Some (hex_value ds) else None) r
    choices false true c p q r = absurd (cc q)
    choices true b c p q r = absurd (cc p)

pub spells-clean : (n most : ℕ) (ds : List ℕ) → Spells n most ds → is_clean ds ≡ true
spells-clean n most ds h = clean-from ds h.some (all-wider is_ascii_hexdigit is_plain hexdigit-plain ds h.digits)

-- the mark is seen, and what stands behind it is read
pub has-mark : (ds : List ℕ) → nat_lt 1 (length (marked ds)) ≡ true
has-mark ds = grind (arith, nat_tests)

pub marked-read : (n most : ℕ) (ds : List ℕ) → Spells n most ds → marked_hex_of (marked ds) most ≡ Some n
unfolding marked_hex_of
marked-read n most ds h = choice (nat_lt 1 (length (marked ds))) (has-mark ds) ∙ spells-read n most ds h
  where
    choice : (b : Bool) → b ≡ true → hex_of (if ((b && 48 == 0x30) && 120 == 0x78) then ds else marked ds) most ≡ hex_of ds most
    choice true is = refl
    choice false is = absurd (cc is)

pub marked-clean : (n most : ℕ) (ds : List ℕ) → Spells n most ds → is_clean (marked ds) ≡ true
marked-clean n most ds h = clean-from (marked ds) (omega arith) (all-wider is_ascii_hexdigit is_plain hexdigit-plain ds h.digits)

-- one group more: what it spells stands behind the number so far
pub value-next : (least most number n : ℕ) (group : List ℕ) (groups : List (List ℕ)) → group_of least most group ≡ Some n
    → fold (λ total part. followed_by most total (group_of least most part)) (Some number) (group ∷ groups) ≡ fold (λ total part. followed_by most total (group_of least most part)) (Some (number * 16 ^ most + n)) groups
value-next least most number n group groups is = ap (λ o. fold (λ total part. followed_by most total (group_of least most part)) (followed_by most (Some number) o) groups) is
