-- Filters of which no two have the same handle or key: one of them, and the others.
use Rattle.std.proofs.Common.{◌≡◌, ℕ, ◌==◌, Bool, true, false, cond, not, List, [], ◌∷◌, ◌++◌, length, get_or, ◌<◌, ◌+◌, suc, refl, sym, ◌∙◌, subst, arith}
use Rattle.std.specs.Prelude.{map}
use Rattle.std.specs.Str.{bytes_eq}
use Rattle.std.specs.List.{AllPairs, list_any}
use Rattle.std.proofs.lemmas.Bool.{false≢true, eqb-true, eq-eqb}
use Rattle.std.proofs.lemmas.Slice.Eq.{bytes_eq-Decides}
use Rattle.std.proofs.lemmas.List.{get_or_append_left, get_or-append-add, get_or-map, length-append, length-map}
use Rattle.std.proofs.lemmas.List.Folds.{list_any_none, list_any-append, list_any_at}
use Rattle.std.proofs.lemmas.List.Kept.{AllPairs-filter}
use Rattle.std.proofs.lemmas.List.Quantifiers.{all_pairs_push}
use Rattle.std.proofs.Math.Seq.{get_or-append_seam}
use Rattle.filter_index.specs.declared.filter.Filter.{Filter}
use Rattle.filter_index.specs.Listed.{has_handle, has_key, StandApart, AreApart, without, with_actions}

-- ---- tests of handles and of keys
pub same_handle : (a b : ℕ) → (a == b) ≡ true → a ≡ b
same_handle a b e = eqb-true a b e

pub same_key : (a b : List ℕ) → bytes_eq a b ≡ true → a ≡ b
same_key a b e = (bytes_eq-Decides a b).0 e

pub key_is : (a b : List ℕ) → a ≡ b → bytes_eq a b ≡ true
key_is a b e = (bytes_eq-Decides a b).1 e

turned : (eq : Bool) (other : Bool) → (other ≡ true → eq ≡ true) → eq ≡ false → other ≡ false
turned eq true same e = absurd (false≢true (sym e ∙ same refl))
turned eq false same e = refl

handle_turned : (a b : ℕ) → (a == b) ≡ false → (b == a) ≡ false
handle_turned a b e = turned (a == b) (b == a) (λ same. eq-eqb a b (sym (eqb-true b a same))) e

key_turned : (a b : List ℕ) → bytes_eq a b ≡ false → bytes_eq b a ≡ false
key_turned a b e = turned (bytes_eq a b) (bytes_eq b a) (λ same. (bytes_eq-Decides a b).1 (sym ((bytes_eq-Decides b a).0 same))) e

-- ---- one of a list, and those before and behind it
before_fail : {X : Type 0} (R : X → X → Type 0) (test : X → Bool) (front : List X) (x : X) (back : List X) → ((y : X) → R y x → test y ≡ false) →
    AllPairs R (front ++ x ∷ back) → list_any test front ≡ false
before_fail R test front x back rule all =
    list_any_none test front (λ k d within.
    rule (get_or front k d) (subst (λ y. R y x) (get_or_append_left front (x ∷ back) d k within)
    (subst (λ z. R (get_or (front ++ x ∷ back) k d) z) (get_or-append_seam front x back d)
    (all k (length front) d within (omega (arith, length-append front (x ∷ back)))))))

behind_fail : {X : Type 0} (R : X → X → Type 0) (test : X → Bool) (front : List X) (x : X) (back : List X) → ((y : X) → R x y → test y ≡ false) →
    AllPairs R (front ++ x ∷ back) → list_any test back ≡ false
behind_fail R test front x back rule all =
    list_any_none test back (λ k d within.
    rule (get_or back k d) (subst (λ y. R x y) (get_or-append-add front (x ∷ back) (suc k) d)
    (subst (λ z. R z (get_or (front ++ x ∷ back) (length front + suc k) d)) (get_or-append_seam front x back d)
    (all (length front) (length front + suc k) d (omega arith) (omega (arith, length-append front (x ∷ back)))))))

others_fail : (test : Filter → Bool) (front back : List Filter) → list_any test front ≡ false → list_any test back ≡ false → list_any test (front ++ back) ≡ false
others_fail test front back before behind = list_any-append test front back ∙ rw (before, behind) refl

module _ (front : List Filter) (f : Filter) (back : List Filter) (apart : AreApart (front ++ f ∷ back)) where
  pub handle_before : list_any (has_handle f.handle) front ≡ false
  handle_before = before_fail StandApart (has_handle f.handle) front f back (λ y r. r.handles) apart

  pub handle_behind : list_any (has_handle f.handle) back ≡ false
  handle_behind = behind_fail StandApart (has_handle f.handle) front f back (λ y r. handle_turned f.handle y.handle r.handles) apart

  pub handle_apart : list_any (has_handle f.handle) (front ++ back) ≡ false
  handle_apart = others_fail (has_handle f.handle) front back handle_before handle_behind

  pub key_before : list_any (has_key f.key.words) front ≡ false
  key_before = before_fail StandApart (has_key f.key.words) front f back (λ y r. r.keys) apart

  pub key_apart : list_any (has_key f.key.words) (front ++ back) ≡ false
  key_apart =
      others_fail (has_key f.key.words) front back key_before
      (behind_fail StandApart (has_key f.key.words) front f back (λ y r. key_turned f.key.words y.key.words r.keys) apart)

-- ---- one filter more
fails_at : (test : Filter → Bool) (xs : List Filter) (k : ℕ) (d : Filter) → list_any test xs ≡ false → k < length xs → test (get_or xs k d) ≡ false
fails_at test xs k d none within = turned (list_any test xs) (test (get_or xs k d)) (λ e. list_any_at test xs k d within e) none

pub more_apart : (filters : List Filter) (f : Filter) → AreApart filters → list_any (has_handle f.handle) filters ≡ false →
    list_any (has_key f.key.words) filters ≡ false → AreApart (filters ++ f ∷ [])
more_apart filters f apart handle key =
    all_pairs_push StandApart filters f apart (λ k d within. record {
      handles = fails_at (has_handle f.handle) filters k d handle within;
      keys = fails_at (has_key f.key.words) filters k d key within;
    })

-- ---- one filter fewer
pub fewer_apart : (handle : ℕ) (filters : List Filter) → AreApart filters → AreApart (without handle filters)
fewer_apart handle filters apart = AllPairs-filter StandApart (λ f. not (has_handle handle f)) filters apart

-- ---- other actions
abbrev acting : ℕ → List ℕ → Filter → Filter
acting handle actions f = cond (has_handle handle f) (record f { actions = actions }) f

same_handle_acting : (b : Bool) (f : Filter) (actions : List ℕ) → (cond b (record f { actions = actions }) f).handle ≡ f.handle
same_handle_acting true f actions = refl
same_handle_acting false f actions = refl

same_key_acting : (b : Bool) (f : Filter) (actions : List ℕ) → (cond b (record f { actions = actions }) f).key.words ≡ f.key.words
same_key_acting true f actions = refl
same_key_acting false f actions = refl

acting_apart : (handle : ℕ) (actions : List ℕ) (a b : Filter) → StandApart a b → StandApart (acting handle actions a) (acting handle actions b)
acting_apart handle actions a b r = record {
  handles = rw (same_handle_acting (has_handle handle a) a actions, same_handle_acting (has_handle handle b) b actions) r.handles;
  keys = rw (same_key_acting (has_handle handle a) a actions, same_key_acting (has_handle handle b) b actions) r.keys;
}

all_pairs_map : {X : Type 0} (R : X → X → Type 0) (change : X → X) (xs : List X) → ((x y : X) → R x y → R (change x) (change y)) → AllPairs R xs → AllPairs R (map change xs)
all_pairs_map R change xs rule all =
    λ i j d below within.
    let long : j < length xs = omega (arith, length-map xs change) in
    subst (λ x. R x (get_or (map change xs) j d)) (sym (get_or-map change xs i d d (omega arith)))
    (subst (λ y. R (change (get_or xs i d)) y) (sym (get_or-map change xs j d d long)) (rule (get_or xs i d) (get_or xs j d) (all i j d below long)))

pub acting_all_apart : (handle : ℕ) (actions : List ℕ) (filters : List Filter) → AreApart filters → AreApart (with_actions handle actions filters)
acting_all_apart handle actions filters apart =
    all_pairs_map StandApart (acting handle actions) filters (acting_apart handle actions) apart
