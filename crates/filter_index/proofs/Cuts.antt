-- Slots cut at the place where a test finds its value, and what is found, left out or changed there.
use Rattle.std.proofs.Common.{◌≡◌, ℕ, suc, ◌<◌, Bool, true, false, cond, not, ◌||◌, List, [], ◌∷◌, ◌++◌, length, get_or, set, Option, Some, None, refl, ap, ◌∙◌, arith}
use Rattle.std.specs.Prelude.{option_map, find, filter, map}
use Rattle.std.specs.List.{list_any}
use Rattle.std.proofs.Math.Seq.{get_or-append_seam, set-append_seam}
use Rattle.std.proofs.lemmas.List.{length-append}
use Rattle.filter_index.specs.Listed.{those_there}
use Rattle.filter_index.specs.Places.{place_of}

-- the slots before and behind the first value that passes, and that value
pub record Cut {X : Type 0} (test : X → Bool) (slots : List (Option X)) (at : ℕ) : Type 0 where
  pub front : List (Option X)
  pub value : X
  pub back : List (Option X)
  pub is : slots ≡ front ++ Some value ∷ back
  pub at_is : at ≡ length front
  pub passes : test value ≡ true
  pub found : find test (those_there slots) ≡ Some value

earlier : (place : Option ℕ) (at : ℕ) → option_map suc place ≡ Some at → (n : ℕ) × (place ≡ Some n) × (at ≡ suc n)
earlier None at e = cc
earlier (Some n) at e = (n, refl, cc)

behind_empty : {X : Type 0} (test : X → Bool) (slots : List (Option X)) (at n : ℕ) → at ≡ suc n → Cut test slots n → Cut test (None ∷ slots) at
behind_empty test slots at n e c = record {
  front = None ∷ c.front;
  value = c.value;
  back = c.back;
  is = ap (λ rest. None ∷ rest) c.is;
  at_is = e ∙ ap suc c.at_is;
  passes = c.passes;
  found = c.found;
}

behind_other : {X : Type 0} (test : X → Bool) (x : X) (slots : List (Option X)) (at n : ℕ) → test x ≡ false → at ≡ suc n → Cut test slots n → Cut test (Some x ∷ slots) at
behind_other test x slots at n other e c = record {
  front = Some x ∷ c.front;
  value = c.value;
  back = c.back;
  is = ap (λ rest. Some x ∷ rest) c.is;
  at_is = e ∙ ap suc c.at_is;
  passes = c.passes;
  found = rw other c.found;
}

at_first : {X : Type 0} (test : X → Bool) (x : X) (slots : List (Option X)) (at : ℕ) → test x ≡ true → Some 0 ≡ Some at → Cut test (Some x ∷ slots) at
at_first test x slots at passes e = record {
  front = [];
  value = x;
  back = slots;
  is = refl;
  at_is = cc;
  passes = passes;
  found = rw passes refl;
}

cut_at : {X : Type 0} (test : X → Bool) (x : X) (slots : List (Option X)) (first : Bool) (at : ℕ) → test x ≡ first →
    ((n : ℕ) → place_of test slots ≡ Some n → Cut test slots n) → cond first (Some 0) (option_map suc (place_of test slots)) ≡ Some at → Cut test (Some x ∷ slots) at
cut_at test x slots true at is rest e = at_first test x slots at is e
cut_at test x slots false at is rest e =
    let n = earlier (place_of test slots) at e in
    behind_other test x slots at n.0 is n.2 (rest n.0 n.1)

pub cut : {X : Type 0} (test : X → Bool) (slots : List (Option X)) (at : ℕ) → place_of test slots ≡ Some at → Cut test slots at
cut test [] at e = cc
cut test (Some x ∷ slots) at e = cut_at test x slots (test x) at refl (λ n p. cut test slots n p) e
cut test (None ∷ slots) at e =
    let n = earlier (place_of test slots) at e in
    behind_empty test slots at n.0 n.2 (cut test slots n.0 n.1)

-- ---- the slot at the place
pub cut_within : {X : Type 0} (test : X → Bool) (slots : List (Option X)) (at : ℕ) → Cut test slots at → at < length slots
cut_within test slots at c = rw (c.is, c.at_is) (omega (arith, length-append c.front (Some c.value ∷ c.back)))

pub cut_read : {X : Type 0} (test : X → Bool) (slots : List (Option X)) (at : ℕ) (d : Option X) (c : Cut test slots at) → get_or slots at d ≡ Some c.value
cut_read test slots at d c =
    ap (λ s. get_or s at d) c.is ∙ ap (λ n. get_or (c.front ++ Some c.value ∷ c.back) n d) c.at_is ∙ get_or-append_seam c.front (Some c.value) c.back d

pub cut_set : {X : Type 0} (test : X → Bool) (slots : List (Option X)) (at : ℕ) (slot : Option X) (c : Cut test slots at) → set slots at slot ≡ c.front ++ slot ∷ c.back
cut_set test slots at slot c =
    ap (λ s. set s at slot) c.is ∙ ap (λ n. set (c.front ++ Some c.value ∷ c.back) n slot) c.at_is ∙ set-append_seam c.front (Some c.value) c.back slot

-- ---- no place
none_step : {X : Type 0} (first : Bool) (x : X) (place : Option ℕ) (found : Option X) → (place ≡ None → found ≡ None) →
    cond first (Some 0) (option_map suc place) ≡ None → cond first (Some x) found ≡ None
none_step true x place found rest e = cc
none_step false x None found rest e = rest refl
none_step false x (Some n) found rest e = cc

none_later : {X : Type 0} (place : Option ℕ) (found : Option X) → (place ≡ None → found ≡ None) → option_map suc place ≡ None → found ≡ None
none_later None found rest e = rest refl
none_later (Some n) found rest e = cc

pub none_found : {X : Type 0} (test : X → Bool) (slots : List (Option X)) → place_of test slots ≡ None → find test (those_there slots) ≡ None
none_found test [] e = refl
none_found test (Some x ∷ slots) e = none_step (test x) x (place_of test slots) (find test (those_there slots)) (λ n. none_found test slots n) e
none_found test (None ∷ slots) e = none_later (place_of test slots) (find test (those_there slots)) (λ n. none_found test slots n) e

-- ---- one value of a list left out or changed, where no other passes
first_false : (a b : Bool) → (a || b) ≡ false → (a ≡ false) × (b ≡ false)
first_false true b e = cc
first_false false b e = (refl, e)

filter_none : {X : Type 0} (test : X → Bool) (xs : List X) → list_any test xs ≡ false → filter (λ x. not (test x)) xs ≡ xs
filter_none test [] none = refl
filter_none test (x ∷ xs) none =
    let parts = first_false (test x) (list_any test xs) none in
    rw parts.0 (ap (λ rest. x ∷ rest) (filter_none test xs parts.1))

pub filter_one : {X : Type 0} (test : X → Bool) (front back : List X) (x : X) → list_any test front ≡ false → test x ≡ true → list_any test back ≡ false →
    filter (λ y. not (test y)) (front ++ x ∷ back) ≡ front ++ back
filter_one test [] back x before here behind = rw here (filter_none test back behind)
filter_one test (y ∷ front) back x before here behind =
    let parts = first_false (test y) (list_any test front) before in
    rw parts.0 (ap (λ rest. y ∷ rest) (filter_one test front back x parts.1 here behind))

map_none : {X : Type 0} (test : X → Bool) (change : X → X) (xs : List X) → list_any test xs ≡ false → map (λ x. cond (test x) (change x) x) xs ≡ xs
map_none test change [] none = refl
map_none test change (x ∷ xs) none =
    let parts = first_false (test x) (list_any test xs) none in
    rw parts.0 (ap (λ rest. x ∷ rest) (map_none test change xs parts.1))

pub map_one : {X : Type 0} (test : X → Bool) (change : X → X) (front back : List X) (x : X) → list_any test front ≡ false → test x ≡ true →
    list_any test back ≡ false → map (λ y. cond (test y) (change y) y) (front ++ x ∷ back) ≡ front ++ change x ∷ back
map_one test change [] back x before here behind = rw here (ap (λ rest. change x ∷ rest) (map_none test change back behind))
map_one test change (y ∷ front) back x before here behind =
    let parts = first_false (test y) (list_any test front) before in
    rw parts.0 (ap (λ rest. y ∷ rest) (map_one test change front back x parts.1 here behind))
