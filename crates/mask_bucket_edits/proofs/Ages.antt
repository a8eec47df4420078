-- A mask's filters with their ages, as one is taken out, or another of its age takes its place.
use Rattle.std.proofs.Common.{◌≡◌, ◌≢◌, ◌∙◌, ◌⊎◌, inl, inr, ℕ, zero, suc, ◌≤◌, ◌==◌, Bool, true, false, List, [], ◌∷◌, ◌++◌, length, map, take, drop, slice_get, Option, Some, if◌then◌else◌, refl, sym, ap, subst, arith, eqb-true, eq-eqb, ne_eqb}
use Rattle.std.proofs.lemmas.List.{map-append}
use Rattle.block_codec.specs.declared.filter.StoredFilter.{StoredFilter}
use Rattle.mask_table.specs.Buckets.{bucket_for, IsAmong}
use Rattle.mask_table.specs.OfMirrors.Lists.{Dated, Rises, kept_as, dated_in}
use Rattle.mask_table.proofs.OfMirrors.Dates.{dated_append, rises_without, rises_swapped}
use Rattle.mask_bucket_edits.specs.Putting.{aged}
use Rattle.mask_bucket_edits.proofs.Among.{among_either, among_one}

-- filters of one age
abbrev pub dated_as : ℕ → List StoredFilter → List Dated
dated_as age fs = map (λ f. record { age = age; filter = f }) fs

pub filters_of : (age : ℕ) (fs : List StoredFilter) → map (λ (d : Dated). d.filter) (dated_as age fs) ≡ fs
filters_of age [] = refl
filters_of age (f ∷ fs) = ap (λ (gs : List StoredFilter). f ∷ gs) (filters_of age fs)

-- ---- a list of filters that has one between others
pub record IsSplit (dated : List Dated) (earlier : List StoredFilter) (old : StoredFilter) (later : List StoredFilter) : Type 0 where
  pub before : List Dated
  pub one : Dated
  pub behind : List Dated
  pub whole : dated ≡ before ++ one ∷ behind
  pub earlier_is : map (λ (d : Dated). d.filter) before ≡ earlier
  pub one_is : one.filter ≡ old
  pub later_is : map (λ (d : Dated). d.filter) behind ≡ later

pub split_at : (dated : List Dated) (earlier : List StoredFilter) (old : StoredFilter) (later : List StoredFilter) → map (λ (d : Dated). d.filter) dated ≡ earlier ++ old ∷ later → IsSplit dated earlier old later
split_at [] [] old later e = absurd (cc e)
split_at [] (x ∷ xs) old later e = absurd (cc e)
split_at (d ∷ ds) [] old later e = record { before = []; one = d; behind = ds; whole = refl; earlier_is = refl; one_is = cc e; later_is = cc e }
split_at (d ∷ ds) (x ∷ xs) old later e = let first : d.filter ≡ x = cc e in let rest : map (λ (d : Dated). d.filter) ds ≡ xs ++ old ∷ later = cc e in let r = split_at ds xs old later rest in record {
  before = d ∷ r.before;
  one = r.one;
  behind = r.behind;
  whole = ap (λ (ys : List Dated). d ∷ ys) r.whole;
  earlier_is = (λ t. first t ∷ r.earlier_is t);
  one_is = r.one_is;
  later_is = r.later_is;
}

-- the filters and the ages once that one is gone, and others of its age are in its place
pub filters_changed : (age : ℕ) (before behind : List Dated) (more earlier later : List StoredFilter) → map (λ (d : Dated). d.filter) before ≡ earlier → map (λ (d : Dated). d.filter) behind ≡ later
    → map (λ (d : Dated). d.filter) (before ++ (dated_as age more ++ behind)) ≡ earlier ++ (more ++ later)
filters_changed age before behind more earlier later e f = map-append (λ (d : Dated). d.filter) before (dated_as age more ++ behind)
    ∙ (λ t. e t ++ (map-append (λ (d : Dated). d.filter) (dated_as age more) behind ∙ (λ s. filters_of age more s ++ f s)) t)

pub rises_changed : (low high age : ℕ) (before : List Dated) (one : Dated) (behind : List Dated) (more : List StoredFilter) → length more ≤ 1 → one.age ≡ age
    → Rises low high (before ++ one ∷ behind) → Rises low high (before ++ (dated_as age more ++ behind))
rises_changed low high age before one behind [] few same r = rises_without low high before one behind r
rises_changed low high age before one behind (f ∷ []) few same r = rises_swapped low high before one (record { age = age; filter = f }) behind (sym same) r
rises_changed low high age before one behind (f ∷ g ∷ more) few same r = absurd (omega arith)

-- ---- the place of the one in its bucket
-- a filter with the handle is in no bucket of filters without it
none_in : (size bucket handle : ℕ) (ds : List Dated) → ((f : StoredFilter) → IsAmong f (map (λ (d : Dated). d.filter) ds) → f.handle ≢ handle) → (age : ℕ) (f : StoredFilter) → f.handle ≡ handle
    → IsAmong (age, Some f) (dated_in size bucket ds) → ⊥
none_in size bucket handle [] none age f named (k, e) = cc e
none_in size bucket handle (d ∷ ds) none age f named (k, e) =
    pick (none_in size bucket handle ds (λ g j. none g (suc j.0, j.1)) age f named) (among_either (age, Some f) (dated_in size bucket ds) (if bucket_for size d.filter.key.words == bucket then kept_as d ∷ [] else []) k e)
  where
    own : (t : Bool) → IsAmong (age, Some f) (if t then kept_as d ∷ [] else []) → ⊥
    own true (j, i) = let same : Some d.filter ≡ Some f = ap (λ (p : ℕ × Option StoredFilter). p.1) (among_one (age, Some f) (kept_as d) j i) in let is : d.filter ≡ f = cc same in
        none d.filter (0, refl) (ap (λ (g : StoredFilter). g.handle) is ∙ named)
    own false (j, i) = cc i

    pick : (IsAmong (age, Some f) (dated_in size bucket ds) → ⊥) → IsAmong (age, Some f) (dated_in size bucket ds) ⊎ IsAmong (age, Some f) (if bucket_for size d.filter.key.words == bucket then kept_as d ∷ [] else []) → ⊥
    pick rest (inl i) = rest i
    pick rest (inr i) = own (bucket_for size d.filter.key.words == bucket) i

-- what is found in a list stands between its two parts, where neither has it
record IsBetween {A : Type 0} (test : Bool) (one found : A) (all xs ys : List A) (n : ℕ) : Type 0 where
  tested : test ≡ true
  same : one ≡ found
  before : take n all ≡ xs
  behind : drop (suc n) all ≡ ys

between : {A : Type 0} (test : Bool) (one found : A) (xs ys : List A) (n : ℕ) → (IsAmong found xs → ⊥) → (IsAmong found ys → ⊥) → slice_get ((xs ++ (if test then one ∷ [] else [])) ++ ys) n ≡ Some found
    → IsBetween test one found ((xs ++ (if test then one ∷ [] else [])) ++ ys) xs ys n
between true one found [] ys zero left right e = record { tested = refl; same = cc e; before = refl; behind = refl }
between true one found [] ys (suc k) left right e = absurd (right (k, e))
between false one found [] ys n left right e = absurd (right (n, e))
between test one found (x ∷ xs) ys zero left right e = absurd (left (0, e))
between test one found (x ∷ xs) ys (suc k) left right e = let r = between test one found xs ys k (λ i. left (suc i.0, i.1)) right e in record {
  tested = r.tested;
  same = r.same;
  before = ap (λ (zs : List _). x ∷ zs) r.before;
  behind = r.behind;
}

-- the one that is found in a bucket is the mask's only one with the handle
pub record IsTheOne (size bucket n age : ℕ) (all : List (ℕ × Option StoredFilter)) (before : List Dated) (one : Dated) (behind : List Dated) : Type 0 where
  pub hashed : bucket_for size one.filter.key.words ≡ bucket
  pub same_age : one.age ≡ age
  pub front : take n all ≡ dated_in size bucket behind
  pub rest : drop (suc n) all ≡ dated_in size bucket before

pub the_one : (size bucket handle n age : ℕ) (filter : StoredFilter) (before : List Dated) (one : Dated) (behind : List Dated)
    → ((f : StoredFilter) → IsAmong f (map (λ (d : Dated). d.filter) before) → f.handle ≢ handle) → ((f : StoredFilter) → IsAmong f (map (λ (d : Dated). d.filter) behind) → f.handle ≢ handle)
    → filter.handle ≡ handle → slice_get (dated_in size bucket (before ++ one ∷ behind)) n ≡ Some (age, Some filter) → IsTheOne size bucket n age (dated_in size bucket (before ++ one ∷ behind)) before one behind
the_one size bucket handle n age filter before one behind none_before none_behind named e =
    let all = dated_append size bucket before (one ∷ behind) in
    let test = (bucket_for size one.filter.key.words == bucket) in
    let b = between test (kept_as one) (age, Some filter) (dated_in size bucket behind) (dated_in size bucket before) n
    (none_in size bucket handle behind none_behind age filter named) (none_in size bucket handle before none_before age filter named)
    (subst (λ (xs : List (ℕ × Option StoredFilter)). slice_get xs n ≡ Some (age, Some filter)) all e) in record {
      hashed = eqb-true (bucket_for size one.filter.key.words) bucket b.tested;
      same_age = ap (λ (p : ℕ × Option StoredFilter). p.0) b.same;
      front = ap (take n) all ∙ b.before;
      rest = ap (drop (suc n)) all ∙ b.behind;
    }

-- ---- the buckets once it is gone
abbrev one_if : Bool → ℕ × Option StoredFilter → List (ℕ × Option StoredFilter)
one_if test kept = if test then kept ∷ [] else []

own_aged : (size bucket age : ℕ) (more : List StoredFilter) → length more ≤ 1 → ((f : StoredFilter) → IsAmong f more → bucket_for size f.key.words ≡ bucket) → dated_in size bucket (dated_as age more) ≡ aged age more
own_aged size bucket age [] few of = refl
own_aged size bucket age (f ∷ []) few of =
    ap (λ (t : Bool). one_if t (age, Some f)) (eq-eqb (bucket_for size f.key.words) bucket (of f (0, refl)))
own_aged size bucket age (f ∷ g ∷ more) few of = absurd (omega arith)

other_aged : (size bucket age : ℕ) (more : List StoredFilter) → ((f : StoredFilter) → IsAmong f more → bucket_for size f.key.words ≢ bucket) → dated_in size bucket (dated_as age more) ≡ []
other_aged size bucket age [] apart = refl
other_aged size bucket age (f ∷ more) apart = let rest = other_aged size bucket age more (λ g i. apart g (suc i.0, i.1)) in
    let own = ap (λ (t : Bool). one_if t (age, Some f)) (ne_eqb (bucket_for size f.key.words) bucket (apart f (0, refl))) in
    λ t. rest t ++ own t

parts : (size bucket : ℕ) (before middle behind : List Dated) → dated_in size bucket (before ++ (middle ++ behind)) ≡ (dated_in size bucket behind ++ dated_in size bucket middle) ++ dated_in size bucket before
parts size bucket before middle behind = dated_append size bucket before (middle ++ behind) ∙ ap (λ (xs : List (ℕ × Option StoredFilter)). xs ++ dated_in size bucket before) (dated_append size bucket middle behind)

pub own_changed : (size bucket age : ℕ) (before behind : List Dated) (more : List StoredFilter) → length more ≤ 1 → ((f : StoredFilter) → IsAmong f more → bucket_for size f.key.words ≡ bucket)
    → dated_in size bucket (before ++ (dated_as age more ++ behind)) ≡ (dated_in size bucket behind ++ aged age more) ++ dated_in size bucket before
own_changed size bucket age before behind more few of = parts size bucket before (dated_as age more) behind
    ∙ ap (λ (xs : List (ℕ × Option StoredFilter)). (dated_in size bucket behind ++ xs) ++ dated_in size bucket before) (own_aged size bucket age more few of)

pub other_changed : (size bucket other age : ℕ) (before : List Dated) (one : Dated) (behind : List Dated) (more : List StoredFilter) → other ≢ bucket → bucket_for size one.filter.key.words ≡ bucket
    → ((f : StoredFilter) → IsAmong f more → bucket_for size f.key.words ≡ bucket) → dated_in size other (before ++ one ∷ behind) ≡ dated_in size other (before ++ (dated_as age more ++ behind))
other_changed size bucket other age before one behind more apart hashed of =
    let gone = other_aged size other one.age (one.filter ∷ []) (λ f i e. apart (sym e ∙ (ap (λ (g : StoredFilter). bucket_for size g.key.words) (sym (among_one f one.filter i.0 i.1)) ∙ hashed))) in
    let none = other_aged size other age more (λ f i e. apart (sym e ∙ of f i)) in
    parts size other before (one ∷ []) behind
    ∙ (ap (λ (xs : List (ℕ × Option StoredFilter)). (dated_in size other behind ++ xs) ++ dated_in size other before) (gone ∙ sym none)
    ∙ sym (parts size other before (dated_as age more) behind))
