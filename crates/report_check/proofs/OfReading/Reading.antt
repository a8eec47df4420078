-- What is left of numbers behind blanks, when some were read.
use Rattle.std.proofs.Common.{◌≡◌, ◌∙◌, ℕ, ◌<◌, ◌^◌, true, List, [], ◌∷◌, ◌++◌, length, refl, sym, ap, arith, append_assoc, append-nil, nat_eq, Some, None}
use Rattle.std.specs.Prelude.{Option}
use Rattle.std.specs.Fmt.{decimal}
use Rattle.filter_state.specs.Sound.{Each}
use Rattle.report_laws.specs.OfLineCuts.Numbers.{Low, numbers_text}
use Rattle.report_laws.proofs.OfLineCuts.Tails.{numbers_low}

abbrev pub AreSmall : List ℕ → Type 0
AreSmall numbers = Each (λ number. number < 2 ^ 32) numbers

-- whatever small numbers the text has, those that were read come first, and the others are left
abbrev pub IsLeft : List ℕ → List ℕ → List ℕ → Type 0
IsLeft text left read = (numbers : List ℕ) → AreSmall numbers → text ≡ numbers_text numbers ++ (10 ∷ [])
    → (rest : List ℕ) × (numbers ≡ read ++ rest) × AreSmall rest × (left ≡ numbers_text rest ++ (10 ∷ []))

tail_of : (a b : ℕ) (xs ys : List ℕ) → a ∷ xs ≡ b ∷ ys → xs ≡ ys
tail_of a b xs ys is = cc is

head_of : (a b : ℕ) (xs ys : List ℕ) → a ∷ xs ≡ b ∷ ys → a ≡ b
head_of a b xs ys is = cc is

pub same_pair : (a b : ℕ) (xs ys : List ℕ) → ◌≡◌ {A = Option (ℕ × List ℕ)} (Some (a, xs)) (Some (b, ys)) → (a ≡ b) × (xs ≡ ys)
same_pair a b xs ys is =
    let pair : ◌≡◌ {A = ℕ × List ℕ} (a, xs) (b, ys) = cc is in
    (ap (λ (both : ℕ × List ℕ). both.0) pair, ap (λ (both : ℕ × List ℕ). both.1) pair)

pub no_pair : (pair : ℕ × List ℕ) → ◌≡◌ {A = Option (ℕ × List ℕ)} None (Some pair) → ⊥
no_pair pair is = cc is

pub all_left : (text : List ℕ) → IsLeft text text []
all_left text numbers small is = (numbers, refl, small, is)

-- ---- behind a blank comes a number
pub record NumberNext (after read numbers : List ℕ) : Type 0 where
  pub number : ℕ
  pub rest : List ℕ
  pub is : numbers ≡ read ++ (number ∷ rest)
  pub few : number < 2 ^ 32
  pub small : AreSmall rest
  pub there : after ≡ decimal number ++ (numbers_text rest ++ (10 ∷ []))

pub next_number : (text left read after : List ℕ) → IsLeft text left read → left ≡ 32 ∷ after → (numbers : List ℕ) → AreSmall numbers → text ≡ numbers_text numbers ++ (10 ∷ []) → NumberNext after read numbers
next_number text left read after are blank numbers small is = by_rest (are numbers small is)
  where
    by_rest : ((rest : List ℕ) × (numbers ≡ read ++ rest) × AreSmall rest × (left ≡ numbers_text rest ++ (10 ∷ []))) → NumberNext after read numbers
    by_rest ([], same, few, there) = absurd (let wrong = head_of 32 10 after [] (sym blank ∙ there) in omega (arith, wrong))
    by_rest (number ∷ rest, same, few, there) = record {
      number = number;
      rest = rest;
      is = same;
      few = few.0;
      small = few.1;
      there = tail_of 32 32 after _ (sym blank ∙ there) ∙ append_assoc (decimal number) (numbers_text rest) (10 ∷ []);
    }

-- one number more was read
pub one_more : (text left read after rest : List ℕ) (number : ℕ) → IsLeft text left read → left ≡ 32 ∷ after
    → ((n : ℕ) (later : List ℕ) → n < 2 ^ 32 → Low later → after ≡ decimal n ++ later → (number ≡ n) × (rest ≡ later)) → IsLeft text rest (read ++ (number ∷ []))
one_more text left read after rest number are blank told numbers small is =
    let next = next_number text left read after are blank numbers small is in
    let same = told next.number (numbers_text next.rest ++ (10 ∷ [])) next.few (numbers_low next.rest) next.there in
    (next.rest, next.is ∙ ap (λ (n : ℕ). read ++ (n ∷ next.rest)) (sym same.0) ∙ sym (append_assoc read (number ∷ []) next.rest), next.small, same.1)

-- where no blank comes, all were read
pub all_read : (text left read : List ℕ) → IsLeft text left read → ((after : List ℕ) → left ≡ 32 ∷ after → ⊥) → (numbers : List ℕ) → AreSmall numbers → text ≡ numbers_text numbers ++ (10 ∷ [])
    → (nat_eq (length left) 1 ≡ true) × (read ≡ numbers)
all_read text left read are last numbers small is = by_rest (are numbers small is)
  where
    by_rest : ((rest : List ℕ) × (numbers ≡ read ++ rest) × AreSmall rest × (left ≡ numbers_text rest ++ (10 ∷ []))) → (nat_eq (length left) 1 ≡ true) × (read ≡ numbers)
    by_rest ([], same, few, there) = (ap (λ (ls : List ℕ). nat_eq (length ls) 1) there, sym (same ∙ append-nil read))
    by_rest (number ∷ rest, same, few, there) = absurd (last _ there)
