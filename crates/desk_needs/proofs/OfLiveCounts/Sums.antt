-- Sums over lists of different numbers.
use Rattle.std.proofs.Common.{◌≡◌, ◌≢◌, ℕ, zero, suc, ◌+◌, ◌==◌, ◌||◌, Bool, true, false, cond, eqb, List, [], ◌∷◌, length, slice_get, Some, refl, sym, ◌∙◌, ap, subst, arith, eqb-true, eq-eqb, ne_eqb}
use Rattle.std.specs.Prelude.{sum_by}
use Rattle.std.specs.List.{list_any, IsDistinct, AllByRecursion}
use Rattle.std.proofs.lemmas.Bool.{false≢true, eqb-false}
use Rattle.std.proofs.lemmas.List.Sums.{sum_by-cons}
use Rattle.hook_law.specs.Standing.{IsIn}

abbrev pub is_among : ℕ → List ℕ → Bool
is_among n ns = list_any (λ m. m == n) ns

-- numbers, each once
abbrev pub AreApart : List ℕ → Type 0
AreApart [] = Unit {0}
AreApart (n ∷ ns) = (is_among n ns ≡ false) × AreApart ns

abbrev pub total : (ℕ → ℕ) → List ℕ → ℕ
total f [] = 0
total f (n ∷ ns) = f n + total f ns

-- nothing but numbers of the list count
abbrev pub IsWithin : (ℕ → ℕ) → List ℕ → Type 0
IsWithin f ns = (n : ℕ) → is_among n ns ≡ false → f n ≡ 0

-- ---- what is in a list
either : (b c : Bool) → c ≡ true → (b || c) ≡ true
either true c is = refl
either false c is = is

pub in_front : (n : ℕ) (ns : List ℕ) → is_among n (n ∷ ns) ≡ true
in_front n ns = ap (λ b. b || is_among n ns) (eq-eqb n n refl)

pub later : (n m : ℕ) (ns : List ℕ) → is_among n ns ≡ true → is_among n (m ∷ ns) ≡ true
later n m ns is = either (m == n) (is_among n ns) is

pub not_front : (n m : ℕ) (ns : List ℕ) → m ≢ n → is_among n ns ≡ false → is_among n (m ∷ ns) ≡ false
not_front n m ns differ none = ap (λ b. b || is_among n ns) (ne_eqb m n differ) ∙ none

-- ---- sums that agree
pub total_same : (f g : ℕ → ℕ) (ns : List ℕ) → ((n : ℕ) → is_among n ns ≡ true → f n ≡ g n) → total f ns ≡ total g ns
total_same f g [] same = refl
total_same f g (n ∷ ns) same =
    let first = same n (in_front n ns) in
    let rest = total_same f g ns (λ m is. same m (later m n ns is)) in
    omega (arith, first, rest)

pub total_sum : (f : ℕ → ℕ) (ns : List ℕ) → total f ns ≡ sum_by f ns
total_sum f [] = refl
total_sum f (n ∷ ns) = let rest = total_sum f ns in let one = sum_by-cons f n ns in omega (arith, rest, one)

pub total_long : (ns : List ℕ) → total (λ n. 1) ns ≡ length ns
total_long [] = refl
total_long (n ∷ ns) = let rest = total_long ns in omega (arith, rest)

pub total_none : (f : ℕ → ℕ) (ns : List ℕ) → ((n : ℕ) → is_among n ns ≡ true → f n ≡ 0) → total f ns ≡ 0
total_none f [] none = refl
total_none f (n ∷ ns) none = let first = none n (in_front n ns) in let rest = total_none f ns (λ m is. none m (later m n ns is)) in omega (arith, first, rest)

-- ---- without one number
abbrev except : ℕ → (ℕ → ℕ) → ℕ → ℕ
except n f m = cond (m == n) 0 (f m)

total_except : (n : ℕ) (f : ℕ → ℕ) (ns : List ℕ) → AreApart ns → total f ns ≡ total (except n f) ns + cond (is_among n ns) (f n) 0
total_except n f [] apart = refl
total_except n f (m ∷ ns) apart = step (m == n) refl (total_except n f ns apart.1)
  where
    step : (b : Bool) → (m == n) ≡ b → total f ns ≡ total (except n f) ns + cond (is_among n ns) (f n) 0
        → f m + total f ns ≡ cond b 0 (f m) + total (except n f) ns + cond (b || is_among n ns) (f n) 0
    step true is rest =
        let same : m ≡ n = eqb-true m n is in
        let none : cond (is_among n ns) (f n) 0 ≡ 0 = ap (λ b. cond b (f n) 0) (subst (λ k. is_among k ns ≡ false) same apart.0) in
        let own : f m ≡ f n = ap f same in
        omega (arith, rest, none, own)
    step false is rest = omega (arith, rest)

-- ---- lists that have all that counts
share : (n : ℕ) (ns : List ℕ) (f : ℕ → ℕ) → IsWithin f ns → cond (is_among n ns) (f n) 0 ≡ f n
share n ns f within = step (is_among n ns) refl
  where
    step : (b : Bool) → is_among n ns ≡ b → cond b (f n) 0 ≡ f n
    step true is = refl
    step false is = sym (within n is)

except_none : (n k : ℕ) (f : ℕ → ℕ) → f k ≡ 0 → except n f k ≡ 0
except_none n k f none = step (k == n)
  where
    step : (b : Bool) → cond b 0 (f k) ≡ 0
    step true = refl
    step false = none

within_rest : (m : ℕ) (ms : List ℕ) (f : ℕ → ℕ) → IsWithin f (m ∷ ms) → IsWithin (except m f) ms
within_rest m ms f within n none = step (n == m) refl
  where
    step : (b : Bool) → (n == m) ≡ b → cond b 0 (f n) ≡ 0
    step true is = refl
    step false is = within n (not_front n m ms (λ same. eqb-false n m is (sym same)) none)

pub total_anywhere : (ms ns : List ℕ) (f : ℕ → ℕ) → AreApart ms → AreApart ns → IsWithin f ms → IsWithin f ns → total f ms ≡ total f ns
total_anywhere [] ns f one two first second = sym (total_none f ns (λ n is. first n refl))
total_anywhere (m ∷ ms) ns f one two first second =
    let rest = total_anywhere ms ns (except m f) one.1 two (within_rest m ms f first) (λ n none. except_none m n f (second n none)) in
    let own = total_except m f ms one.1 in
    let none : cond (is_among m ms) (f m) 0 ≡ 0 = ap (λ b. cond b (f m) 0) one.0 in
    let other = total_except m f ns two in
    let mine = share m ns f second in
    omega (arith, rest, own, none, other, mine)

-- ---- functions that agree off a list
module _ (f g : ℕ → ℕ) (ms xs ys : List ℕ) (apart : AreApart ms) (one : AreApart xs) (two : AreApart ys) (first : IsWithin f xs) (second : IsWithin g ys)
    (same : (n : ℕ) → is_among n ms ≡ false → g n ≡ f n) where
  abbrev on : (ℕ → ℕ) → ℕ → ℕ
  on w n = cond (is_among n ms) (w n) 0

  abbrev off : (ℕ → ℕ) → ℕ → ℕ
  off w n = cond (is_among n ms) 0 (w n)

  parts : (w : ℕ → ℕ) (ns : List ℕ) → total w ns ≡ total (on w) ns + total (off w) ns
  parts w [] = refl
  parts w (n ∷ ns) = step (is_among n ms) (parts w ns)
    where
      step : (b : Bool) → total w ns ≡ total (on w) ns + total (off w) ns → w n + total w ns ≡ cond b (w n) 0 + total (on w) ns + (cond b 0 (w n) + total (off w) ns)
      step true rest = omega (arith, rest)
      step false rest = omega (arith, rest)

  on_none : (w : ℕ → ℕ) (n : ℕ) → w n ≡ 0 → on w n ≡ 0
  on_none w n none = step (is_among n ms)
    where
      step : (b : Bool) → cond b (w n) 0 ≡ 0
      step true = none
      step false = refl

  off_none : (w : ℕ → ℕ) (n : ℕ) → w n ≡ 0 → off w n ≡ 0
  off_none w n none = step (is_among n ms)
    where
      step : (b : Bool) → cond b 0 (w n) ≡ 0
      step true = refl
      step false = none

  -- what is on the list is summed there
  on_list : (w : ℕ → ℕ) (ns : List ℕ) → AreApart ns → IsWithin w ns → total (on w) ns ≡ total w ms
  on_list w ns differ within =
      total_anywhere ns ms (on w) differ apart (λ n none. on_none w n (within n none)) (λ n none. ap (λ b. cond b (w n) 0) none)
      ∙ total_same (on w) w ms (λ n is. ap (λ b. cond b (w n) 0) is)

  off_same : (n : ℕ) → off g n ≡ off f n
  off_same n = step (is_among n ms) refl
    where
      step : (b : Bool) → is_among n ms ≡ b → cond b 0 (g n) ≡ cond b 0 (f n)
      step true is = refl
      step false is = same n is

  pub total_changed : total g ys + total f ms ≡ total f xs + total g ms
  total_changed =
      let before = parts f xs in
      let after = parts g ys in
      let mine = on_list f xs one first in
      let own = on_list g ys two second in
      let alike : total (off g) ys ≡ total (off f) ys = total_same (off g) (off f) ys (λ n is. off_same n) in
      let moved : total (off f) ys ≡ total (off f) xs =
      total_anywhere ys xs (off f) two one (λ n none. sym (off_same n) ∙ off_none g n (second n none)) (λ n none. off_none f n (first n none)) in
      omega (arith, before, after, mine, own, alike, moved)

-- ---- lists as others state them
pub in_among : (n : ℕ) (ns : List ℕ) → IsIn n ns → is_among n ns ≡ true
in_among n [] at = let e = at.1 in absurd (cc e)
in_among n (m ∷ ns) at = go at.0 at.1 (in_among n ns)
  where
    go : (place : ℕ) → slice_get (m ∷ ns) place ≡ Some n → (IsIn n ns → is_among n ns ≡ true) → is_among n (m ∷ ns) ≡ true
    go zero e rest = let same : m ≡ n = cc e in ap (λ b. b || is_among n ns) (eq-eqb m n same)
    go (suc place) e rest = later n m ns (rest (place, e))

pub among_in : (n : ℕ) (ns : List ℕ) → is_among n ns ≡ true → IsIn n ns
among_in n [] is = absurd (false≢true is)
among_in n (m ∷ ns) is = step (m == n) refl is (among_in n ns)
  where
    step : (b : Bool) → (m == n) ≡ b → (b || is_among n ns) ≡ true → (is_among n ns ≡ true → IsIn n ns) → IsIn n (m ∷ ns)
    step true same is rest = (0, ap Some (eqb-true m n same))
    step false same is rest = let place = rest is in (suc place.0, place.1)

none_among : (n : ℕ) (ns : List ℕ) → AllByRecursion (λ m. eqb n m ≡ false) ns → is_among n ns ≡ false
none_among n [] all = refl
none_among n (m ∷ ns) all = not_front n m ns (λ same. eqb-false n m all.0 (sym same)) (none_among n ns all.1)

pub are_apart : (ns : List ℕ) → IsDistinct eqb ns → AreApart ns
unfolding IsDistinct
are_apart [] different = tt
are_apart (n ∷ ns) different = (none_among n ns different.0, are_apart ns different.1)
