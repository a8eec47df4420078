-- Texts that are equal have equal numbers, and equal tails.
use Rattle.std.proofs.Common.{◌≡◌, ◌∙◌, ℕ, ◌<◌, ◌≤◌, ◌^◌, false, List, [], ◌∷◌, ◌++◌, refl, sym, ap, subst, arith, append_assoc}
use Rattle.std.specs.Fmt.{decimal}
use Rattle.std.proofs.lemmas.Fmt.{decimal_injective}
use Rattle.report_laws.specs.OfLineCuts.Numbers.{Low, numbers_text, AreShort}
use Rattle.report_laws.proofs.OfLineCuts.Digits.{High, digits_high, Free, digits_free}

abbrev Split : List ℕ → List ℕ → List ℕ → List ℕ → Type 0
Split ds es x y = (ds ≡ es) × (x ≡ y)

head_of : (a b : ℕ) (xs ys : List ℕ) → a ∷ xs ≡ b ∷ ys → a ≡ b
head_of a b xs ys is = cc is

tail_of : (a b : ℕ) (xs ys : List ℕ) → a ∷ xs ≡ b ∷ ys → xs ≡ ys
tail_of a b xs ys is = cc is

never_low : (e : ℕ) (es x y : List ℕ) {A : Type 0} → 48 ≤ e → Low x → x ≡ e ∷ (es ++ y) → A
never_low e es [] y high low is = absurd (cc is)
never_low e es (b ∷ x) y high low is = let same = head_of b e x (es ++ y) is in absurd (omega (arith, high, low, same))

-- bytes of digits end where a lower byte comes
pub split : (ds es x y : List ℕ) → High ds → High es → Low x → Low y → ds ++ x ≡ es ++ y → Split ds es x y
split [] [] x y hd he lx ly is = (refl, is)
split [] (e ∷ es) x y hd he lx ly is = never_low e es x y he.0 lx is
split (d ∷ ds) [] x y hd he lx ly is = never_low d ds y x hd.0 ly (sym is)
split (d ∷ ds) (e ∷ es) x y hd he lx ly is =
    let rest = split ds es x y hd.1 he.1 lx ly (tail_of d e (ds ++ x) (es ++ y) is) in
    (ap (λ (n : ℕ). n ∷ ds) (head_of d e (ds ++ x) (es ++ y) is) ∙ ap (λ (ns : List ℕ). e ∷ ns) rest.0, rest.1)

-- a number, and what follows it
pub number_split : (a b : ℕ) (x y : List ℕ) → a < 2 ^ 64 → b < 2 ^ 64 → Low x → Low y → decimal a ++ x ≡ decimal b ++ y → (a ≡ b) × (x ≡ y)
number_split a b x y la lb lx ly is =
    let both = split (decimal a) (decimal b) x y (digits_high 10 false a) (digits_high 10 false b) lx ly is in
    (decimal_injective a b la lb both.0, both.1)

-- ---- numbers behind blanks, up to the end of the line
pub numbers_low : (ns : List ℕ) → Low (numbers_text ns ++ (10 ∷ []))
numbers_low [] = omega arith
numbers_low (n ∷ ns) = omega arith

pub numbers_same : (ms ns : List ℕ) → AreShort ms → AreShort ns → numbers_text ms ++ (10 ∷ []) ≡ numbers_text ns ++ (10 ∷ []) → ms ≡ ns
numbers_same [] [] sm sn is = refl
numbers_same [] (n ∷ ns) sm sn is = absurd (let same = head_of 10 32 [] ((decimal n ++ numbers_text ns) ++ (10 ∷ [])) is in omega (arith, same))
numbers_same (m ∷ ms) [] sm sn is = absurd (let same = head_of 32 10 ((decimal m ++ numbers_text ms) ++ (10 ∷ [])) [] is in omega (arith, same))
numbers_same (m ∷ ms) (n ∷ ns) sm sn is =
    let cut : (decimal m ++ numbers_text ms) ++ (10 ∷ []) ≡ (decimal n ++ numbers_text ns) ++ (10 ∷ []) = tail_of 32 32 _ _ is in
    let inner : decimal m ++ (numbers_text ms ++ (10 ∷ [])) ≡ decimal n ++ (numbers_text ns ++ (10 ∷ [])) =
    sym (append_assoc (decimal m) (numbers_text ms) (10 ∷ [])) ∙ cut ∙ append_assoc (decimal n) (numbers_text ns) (10 ∷ []) in
    let both = number_split m n (numbers_text ms ++ (10 ∷ [])) (numbers_text ns ++ (10 ∷ [])) sm.0 sn.0 (numbers_low ms) (numbers_low ns) inner in
    ap (λ (k : ℕ). k ∷ ms) both.0 ∙ ap (λ (ks : List ℕ). n ∷ ks) (numbers_same ms ns sm.1 sn.1 both.1)

-- ---- what follows the last byte of a kind
pub free_not : (byte : ℕ) (front back : List ℕ) → Free byte (front ++ (byte ∷ back)) → ⊥
free_not byte [] back free = free.0 refl
free_not byte (b ∷ front) back free = free_not byte front back free.1

pub last_same : (byte : ℕ) (front other x y : List ℕ) → Free byte x → Free byte y → front ++ (byte ∷ x) ≡ other ++ (byte ∷ y) → x ≡ y
last_same byte [] [] x y fx fy is = tail_of byte byte x y is
last_same byte [] (o ∷ other) x y fx fy is = absurd (free_not byte other y (subst (Free byte) (tail_of byte o x (other ++ (byte ∷ y)) is) fx))
last_same byte (f ∷ front) [] x y fx fy is = absurd (free_not byte front x (subst (Free byte) (sym (tail_of f byte (front ++ (byte ∷ x)) y is)) fy))
last_same byte (f ∷ front) (o ∷ other) x y fx fy is = last_same byte front other x y fx fy (tail_of f o (front ++ (byte ∷ x)) (other ++ (byte ∷ y)) is)

free_append : (byte : ℕ) (xs ys : List ℕ) → Free byte xs → Free byte ys → Free byte (xs ++ ys)
free_append byte [] ys first second = second
free_append byte (x ∷ xs) ys first second = (first.0, free_append byte xs ys first.1 second)

numbers_all_free : (ns : List ℕ) → Free 115 (numbers_text ns)
numbers_all_free [] = tt
numbers_all_free (n ∷ ns) = ((λ same. omega (arith, same)), free_append 115 (decimal n) (numbers_text ns) (digits_free 115 n (omega arith)) (numbers_all_free ns))

pub numbers_free : (ns : List ℕ) → Free 115 (numbers_text ns ++ (10 ∷ []))
numbers_free ns = free_append 115 (numbers_text ns) (10 ∷ []) (numbers_all_free ns) ((λ same. omega (arith, same)), tt)
