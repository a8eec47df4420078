-- Parts that are joined by a byte, and cut at it again.
use Rattle.std.proofs.Common.{◌≡◌, ◌∙◌, ℕ, zero, suc, ◌+◌, ◌<◌, Bool, true, false, cond, eqb, List, [], ◌∷◌, ◌++◌, length, length-append, append_assoc, refl, sym, ap, arith}
use Rattle.std.specs.Prelude.{◌&&◌, ◌||◌, ◌==◌, not, nat_lt, position, slice_index_or, Some, None}
use Rattle.std.specs.List.{list_all, list_any, All, slice_split, join_with_byte, prefix_len, position_or_len}
use Rattle.std.specs.Int.{is_in_range}
use Rattle.std.specs.Char.{is_ascii_hexdigit, is_ascii_digit}
use Rattle.std.proofs.lemmas.Bool.Decides.{nat_tests}
use Rattle.std.proofs.lemmas.List.Folds.{list_all-append, list_any-append}
use Rattle.std.proofs.lemmas.List.Splits.{slice_split_none, slice_split_at}
use borrow.Author.Tests.{eqb-true}

pub and-left : (a b : Bool) → (a && b) ≡ true → a ≡ true
and-left true b h = refl
and-left false b h = h

pub and-right : (a b : Bool) → (a && b) ≡ true → b ≡ true
and-right true b h = h
and-right false b h = absurd (cc h)

pub and-both : (a b : Bool) → a ≡ true → b ≡ true → (a && b) ≡ true
and-both true b p q = q
and-both false b p q = p

pub not-true : (a : Bool) → not a ≡ true → a ≡ false
not-true true h = sym h
not-true false h = refl

-- no byte of the text passes
abbrev pub avoids : (ℕ → Bool) → List ℕ → Bool
avoids p text = list_all (λ b. not (p b)) text

pub avoids-All : (p : ℕ → Bool) (text : List ℕ) → avoids p text ≡ true → All (λ b. p b ≡ false) text
avoids-All p [] h = λ k d lt. absurd (omega arith)
avoids-All p (b ∷ text) h = at (not-true (p b) (and-left (not (p b)) (avoids p text) h)) (avoids-All p text (and-right (not (p b)) (avoids p text) h))
  where
    at : p b ≡ false → All (λ c. p c ≡ false) text → (k d : ℕ) → k < length (b ∷ text) → p (slice_index_or (b ∷ text) k d) ≡ false
    at first rest zero d lt = first
    at first rest (suc k) d lt = rest k d (omega arith)

-- parts that avoid what they are joined by are the parts of the whole
pub split-joined : (p : ℕ → Bool) (byte : ℕ) → p byte ≡ true → (part : List ℕ) (parts : List (List ℕ)) → list_all (avoids p) (part ∷ parts) ≡ true
    → slice_split p (join_with_byte byte (part ∷ parts)) ≡ part ∷ parts
split-joined p byte cuts part [] h = slice_split_none p part (avoids-All p part (and-left (avoids p part) true h))
split-joined p byte cuts part (next ∷ parts) h =
    slice_split_at p part byte (join_with_byte byte (next ∷ parts)) (avoids-All p part (and-left (avoids p part) (list_all (avoids p) (next ∷ parts)) h)) cuts
    ∙ ap (λ (rest : List (List ℕ)). part ∷ rest) (split-joined p byte cuts next parts (and-right (avoids p part) (list_all (avoids p) (next ∷ parts)) h))

-- bytes of one class, joined by a byte of the class
pub all-joined : (q : ℕ → Bool) (byte : ℕ) → q byte ≡ true → (parts : List (List ℕ)) → list_all (list_all q) parts ≡ true → list_all q (join_with_byte byte parts) ≡ true
all-joined q byte hit [] h = refl
all-joined q byte hit (part ∷ []) h = and-left (list_all q part) true h
all-joined q byte hit (part ∷ next ∷ parts) h =
    list_all-append q part (byte ∷ join_with_byte byte (next ∷ parts))
    ∙ and-both (list_all q part) (q byte && list_all q (join_with_byte byte (next ∷ parts))) (and-left (list_all q part) (list_all (list_all q) (next ∷ parts)) h)
    (and-both (q byte) (list_all q (join_with_byte byte (next ∷ parts))) hit (all-joined q byte hit (next ∷ parts) (and-right (list_all q part) (list_all (list_all q) (next ∷ parts)) h)))

-- bytes of one class are bytes of a wider one
pub all-wider : (q r : ℕ → Bool) → ((b : ℕ) → q b ≡ true → r b ≡ true) → (text : List ℕ) → list_all q text ≡ true → list_all r text ≡ true
all-wider q r wider [] h = refl
all-wider q r wider (b ∷ text) h = and-both (r b) (list_all r text) (wider b (and-left (q b) (list_all q text) h)) (all-wider q r wider text (and-right (q b) (list_all q text) h))

-- what is joined is not empty
pub some-joined : (byte : ℕ) (part next : List ℕ) (parts : List (List ℕ)) → 0 < length (join_with_byte byte (part ∷ next ∷ parts))
some-joined byte part next parts = omega (arith, length-append part (byte ∷ join_with_byte byte (next ∷ parts)))

-- where no item passes there is no first place
prefix-all : {X : Type 0} (q : X → Bool) (xs : List X) → list_all q xs ≡ true → prefix_len q xs ≡ length xs
prefix-all q [] h = refl
prefix-all q (x ∷ xs) h = next (q x) (and-left (q x) (list_all q xs) h) (prefix-all q xs (and-right (q x) (list_all q xs) h))
  where
    next : (t : Bool) → t ≡ true → prefix_len q xs ≡ length xs → cond t (1 + prefix_len q xs) 0 ≡ suc (length xs)
    next true is rest = omega arith
    next false is rest = absurd (cc is)

pub no-position : {X : Type 0} (p : X → Bool) (xs : List X) → list_all (λ x. not (p x)) xs ≡ true → position p xs ≡ None
no-position p xs h =
    let e : position_or_len p xs ≡ length xs = prefix-all (λ x. not (p x)) xs h in
    none (nat_lt (position_or_len p xs) (length xs)) (grind (arith, nat_tests, e))
  where
    none : (b : Bool) → b ≡ false → cond b (Some (position_or_len p xs)) None ≡ None
    none true is = absurd (cc is)
    none false is = refl

-- two, three and four parts of a class
pub all-two : {A : Type 0} (q : A → Bool) (a b : A) → q a ≡ true → q b ≡ true → list_all q (a ∷ b ∷ []) ≡ true
all-two q a b is_a is_b = and-both (q a) (q b && true) is_a (and-both (q b) true is_b refl)

pub all-three : {A : Type 0} (q : A → Bool) (a b c : A) → q a ≡ true → q b ≡ true → q c ≡ true → list_all q (a ∷ b ∷ c ∷ []) ≡ true
all-three q a b c is_a is_b is_c = and-both (q a) (q b && (q c && true)) is_a (all-two q b c is_b is_c)

pub all-four : {A : Type 0} (q : A → Bool) (a b c d : A) → q a ≡ true → q b ≡ true → q c ≡ true → q d ≡ true → list_all q (a ∷ b ∷ c ∷ d ∷ []) ≡ true
all-four q a b c d is_a is_b is_c is_d = and-both (q a) (q b && (q c && (q d && true))) is_a (all-three q b c d is_b is_c is_d)

-- a class avoids each byte that is not of it
pub other-byte : (q : ℕ → Bool) (byte : ℕ) → q byte ≡ false → (b : ℕ) → q b ≡ true → not (b == byte) ≡ true
other-byte q byte miss b hit = by (eqb b byte) refl
  where
    by : (t : Bool) → eqb b byte ≡ t → not t ≡ true
    by true is = absurd (cc (sym hit ∙ ap q (eqb-true b byte is) ∙ miss))
    by false is = refl

pub avoids-byte : (q : ℕ → Bool) (byte : ℕ) → q byte ≡ false → (text : List ℕ) → list_all q text ≡ true → avoids (λ b. b == byte) text ≡ true
avoids-byte q byte miss text h = all-wider q (λ b. not (b == byte)) (other-byte q byte miss) text h

-- a text that avoids a byte does not hold it
pub not-any : (byte : ℕ) (text : List ℕ) → avoids (λ b. b == byte) text ≡ true → list_any (λ b. b == byte) text ≡ false
not-any byte [] h = refl
not-any byte (b ∷ text) h = by (b == byte) (and-left (not (b == byte)) (avoids (λ c. c == byte) text) h) (not-any byte text (and-right (not (b == byte)) (avoids (λ c. c == byte) text) h))
  where
    by : (t : Bool) → not t ≡ true → list_any (λ c. c == byte) text ≡ false → (t || list_any (λ c. c == byte) text) ≡ false
    by true miss rest = absurd (cc miss)
    by false miss rest = rest

or-left : (a b : Bool) → a ≡ true → (a || b) ≡ true
or-left true b h = refl
or-left false b h = absurd (cc h)

-- a decimal digit is a hexadecimal digit
pub digit-hexdigit : (b : ℕ) → is_ascii_digit b ≡ true → is_ascii_hexdigit b ≡ true
digit-hexdigit b h = or-left (is_in_range 48 57 b || is_in_range 65 70 b) (is_in_range 97 102 b) (or-left (is_in_range 48 57 b) (is_in_range 65 70 b) h)

-- what is joined of joined parts is joined of all
pub joined-twice : (byte : ℕ) (part next : List ℕ) (parts others : List (List ℕ))
    → join_with_byte byte (join_with_byte byte (part ∷ parts) ∷ join_with_byte byte (next ∷ others) ∷ []) ≡ join_with_byte byte (part ∷ parts ++ (next ∷ others))
joined-twice byte part next [] others = refl
joined-twice byte part next (more ∷ parts) others =
    append_assoc part (byte ∷ join_with_byte byte (more ∷ parts)) (byte ∷ join_with_byte byte (next ∷ others))
    ∙ ap (λ (rest : List ℕ). part ++ (byte ∷ rest)) (joined-twice byte more next parts others)

or-right : (a b : Bool) → b ≡ true → (a || b) ≡ true
or-right true b h = refl
or-right false b h = h

-- a byte that stands between two texts, or in the first, stands in both together
pub any-between : (byte : ℕ) (front back : List ℕ) → list_any (λ b. b == byte) (front ++ (byte ∷ back)) ≡ true
any-between byte front back =
    list_any-append (λ b. b == byte) front (byte ∷ back)
    ∙ or-right (list_any (λ b. b == byte) front) (byte == byte || list_any (λ b. b == byte) back) (or-left (byte == byte) (list_any (λ b. b == byte) back) (grind (arith, nat_tests)))

pub any-front : (byte : ℕ) (front back : List ℕ) → list_any (λ b. b == byte) front ≡ true → list_any (λ b. b == byte) (front ++ back) ≡ true
any-front byte front back h = list_any-append (λ b. b == byte) front back ∙ or-left (list_any (λ b. b == byte) front) (list_any (λ b. b == byte) back) h
