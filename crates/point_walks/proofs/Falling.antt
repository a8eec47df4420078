-- Points of one mask or one action that never fall.
use Rattle.std.proofs.Common.{◌≡◌, ◌∙◌, ℕ, zero, suc, ◌<◌, ◌≤◌, ◌==◌, Bool, true, false, List, [], ◌∷◌, ◌++◌, length, Some, refl, sym, ap, subst, arith, ◌⊎◌, inl, inr}
use Rattle.std.specs.Prelude.{max, if◌then◌else◌}
use Rattle.std.specs.List.{slice_get}
use Rattle.std.proofs.lemmas.Bool.{cases_lt}
use Rattle.std.proofs.lemmas.Bool.Decides.{nat_tests}
use Rattle.walk_rules.specs.Questions.{Question, heads_of, filter_of, params_of}
use Rattle.walk_rules.specs.OfPoints.Points.{Visit, IsSameThing}
use Rattle.point_walks.specs.declared.at_points.Thing.{Thing}
use Rattle.point_walks.specs.Faults.{Falls}
use Rattle.point_walks.specs.Visits.{thing_of, is_same}

-- ---- questions of one thing
equal : (a b : ℕ) → a ≡ b → (a == b) ≡ true
equal a b is = grind (arith, nat_tests, is)

one_number : (a b : ℕ) → (a == b) ≡ true → a ≡ b
one_number a b is = grind (arith, nat_tests, is)

one_thing : (q r : Question) → IsSameThing q r → is_same (thing_of q) (thing_of r) ≡ true
one_thing (heads_of hook) (heads_of other) same = absurd same
one_thing (heads_of hook) (filter_of table mask values) same = absurd same
one_thing (heads_of hook) (params_of serial) same = absurd same
one_thing (filter_of table mask values) (heads_of hook) same = absurd same
one_thing (filter_of table mask values) (filter_of other more words) same = equal mask more same
one_thing (filter_of table mask values) (params_of serial) same = absurd same
one_thing (params_of serial) (heads_of hook) same = absurd same
one_thing (params_of serial) (filter_of table mask values) same = absurd same
one_thing (params_of serial) (params_of other) same = equal serial other same

same_thing : (q r : Question) → is_same (thing_of q) (thing_of r) ≡ true → IsSameThing q r
same_thing (heads_of hook) (heads_of other) is = absurd (cc is)
same_thing (heads_of hook) (filter_of table mask values) is = absurd (cc is)
same_thing (heads_of hook) (params_of serial) is = absurd (cc is)
same_thing (filter_of table mask values) (heads_of hook) is = absurd (cc is)
same_thing (filter_of table mask values) (filter_of other more words) is = one_number mask more is
same_thing (filter_of table mask values) (params_of serial) is = absurd (cc is)
same_thing (params_of serial) (heads_of hook) is = absurd (cc is)
same_thing (params_of serial) (filter_of table mask values) is = absurd (cc is)
same_thing (params_of serial) (params_of other) is = one_number serial other is

-- ---- the highest point of a thing among visits
abbrev pub highest : Thing → List Visit → ℕ
highest thing [] = 0
highest thing (visit ∷ visits) =
    if is_same (thing_of visit.question) thing then max visit.point (highest thing visits) else highest thing visits

no_less : (b : Bool) (point rest : ℕ) → rest ≤ (if b then max point rest else rest)
no_less true point rest = omega arith
no_less false point rest = omega arith

its_own : (b : Bool) (point rest : ℕ) → b ≡ true → point ≤ (if b then max point rest else rest)
its_own true point rest is = omega arith
its_own false point rest is = absurd (cc is)

pub highest_least : (thing : Thing) (visits : List Visit) (place : ℕ) (visit : Visit) → slice_get visits place ≡ Some visit → is_same (thing_of visit.question) thing ≡ true → visit.point ≤ highest thing visits
highest_least thing [] place visit is same = absurd (cc is)
highest_least thing (x ∷ visits) zero visit is same =
    let first : x ≡ visit = cc is in
    subst (λ (v : Visit). v.point ≤ highest thing (x ∷ visits)) first
    (its_own (is_same (thing_of x.question) thing) x.point (highest thing visits) (ap (λ (v : Visit). is_same (thing_of v.question) thing) first ∙ same))
highest_least thing (x ∷ visits) (suc place) visit is same =
    let rest = highest_least thing visits place visit is same in
    let more = no_less (is_same (thing_of x.question) thing) x.point (highest thing visits) in
    omega (arith, rest, more)

-- a visit of the thing above a point
pub record IsAbove (thing : Thing) (visits : List Visit) (most : ℕ) : Type 0 where
  pub place : ℕ
  pub visit : Visit
  pub there : slice_get visits place ≡ Some visit
  pub same : is_same (thing_of visit.question) thing ≡ true
  pub above : most < visit.point

pub highest_found : (thing : Thing) (visits : List Visit) (most : ℕ) → most < highest thing visits → IsAbove thing visits most
highest_found thing [] most above = absurd (omega (arith, above))
highest_found thing (x ∷ visits) most above = by_test (is_same (thing_of x.question) thing) refl above (λ less. highest_found thing visits most less)
  where
    behind : IsAbove thing visits most → IsAbove thing (x ∷ visits) most
    behind rest = record { place = suc rest.place; visit = rest.visit; there = rest.there; same = rest.same; above = rest.above }

    by_test : (b : Bool) → is_same (thing_of x.question) thing ≡ b → most < (if b then max x.point (highest thing visits) else highest thing visits)
        → (most < highest thing visits → IsAbove thing visits most) → IsAbove thing (x ∷ visits) most
    by_test false is less rest = behind (rest less)
    by_test true is less rest = elim (cases_lt most x.point) [
      | inl here ↦ record { place = 0; visit = x; there = refl; same = is; above = here }
      | inr more ↦ behind (rest (omega (arith, less, more)))
    ]

two_more : (c b : Bool) (x p h : ℕ) → (if c then max x (if b then max h p else h) else (if b then max h p else h)) ≡ (if b then max (if c then max x h else h) p else (if c then max x h else h))
two_more true true x p h = omega arith
two_more true false x p h = refl
two_more false true x p h = refl
two_more false false x p h = refl

first_one : (b : Bool) (p : ℕ) → (if b then max p 0 else 0) ≡ (if b then max 0 p else 0)
first_one true p = omega arith
first_one false p = refl

pub highest_push : (thing : Thing) (visits : List Visit) (visit : Visit)
    → highest thing (visits ++ (visit ∷ [])) ≡ (if is_same (thing_of visit.question) thing then max (highest thing visits) visit.point else highest thing visits)
highest_push thing [] visit = first_one (is_same (thing_of visit.question) thing) visit.point
highest_push thing (x ∷ visits) visit =
    ap (λ (h : ℕ). if is_same (thing_of x.question) thing then max x.point h else h) (highest_push thing visits visit)
    ∙ two_more (is_same (thing_of x.question) thing) (is_same (thing_of visit.question) thing) x.point visit.point (highest thing visits)

-- ---- places
inside : {X : Type 0} (xs : List X) (n : ℕ) (x : X) → slice_get xs n ≡ Some x → n < length xs
inside [] n x is = absurd (cc is)
inside (y ∷ xs) zero x is = omega arith
inside (y ∷ xs) (suc n) x is = let rest = inside xs n x is in omega (arith, rest)

place_in : {X : Type 0} (xs : List X) (y x : X) (n : ℕ) → slice_get (xs ++ (y ∷ [])) n ≡ Some x → (slice_get xs n ≡ Some x) ⊎ ((n ≡ length xs) × (x ≡ y))
place_in [] y x zero is = let same : y ≡ x = cc is in inr (refl, sym same)
place_in [] y x (suc n) is = absurd (cc is)
place_in (z ∷ xs) y x zero is = inl is
place_in (z ∷ xs) y x (suc n) is = elim (place_in xs y x n is) [
  | inl old ↦ inl old
  | inr last ↦ inr (ap suc last.0, last.1)
]

in_front : {X : Type 0} (xs ys : List X) (x : X) (n : ℕ) → slice_get xs n ≡ Some x → slice_get (xs ++ ys) n ≡ Some x
in_front [] ys x n is = absurd (cc is)
in_front (z ∷ xs) ys x zero is = is
in_front (z ∷ xs) ys x (suc n) is = in_front xs ys x n is

at_seam : {X : Type 0} (xs ys : List X) (y : X) → slice_get (xs ++ (y ∷ ys)) (length xs) ≡ Some y
at_seam [] ys y = refl
at_seam (z ∷ xs) ys y = at_seam xs ys y

-- ---- visits whose points never fall
abbrev pub NeverFall : List Visit → Type 0
NeverFall visits = (early late : ℕ) (one other : Visit) → early ≤ late → slice_get visits early ≡ Some one → slice_get visits late ≡ Some other
    → IsSameThing one.question other.question → one.point ≤ other.point

pub none_falls : NeverFall []
none_falls early late one other order first second same = absurd (cc first)

pub one_more : (visits : List Visit) (visit : Visit) → NeverFall visits → highest (thing_of visit.question) visits ≤ visit.point → NeverFall (visits ++ (visit ∷ []))
one_more visits visit never up early late one other order first second same = elim (place_in visits visit other late second) [
  | inl later ↦ elim (place_in visits visit one early first) [
    | inl before ↦ never early late one other order before later same
    | inr last ↦ let at = last.0 in let less = inside visits late other later in absurd (omega (arith, at, less, order))
  ]
  | inr end ↦ elim (place_in visits visit one early first) [
    | inl before ↦
        let it : is_same (thing_of one.question) (thing_of visit.question) ≡ true =
        ap (λ (v : Visit). is_same (thing_of one.question) (thing_of v.question)) (sym end.1) ∙ one_thing one.question other.question same in
        let low = highest_least (thing_of visit.question) visits early one before it in
        let point = ap (λ (v : Visit). v.point) end.1 in
        omega (arith, low, up, point)
    | inr last ↦ let one_point = ap (λ (v : Visit). v.point) (last.1 ∙ sym end.1) in omega (arith, one_point)
  ]
]

pub one_fall : (visits more : List Visit) (visit : Visit) → visit.point < highest (thing_of visit.question) visits → Falls (visits ++ (visit ∷ more))
one_fall visits more visit less =
    let it = highest_found (thing_of visit.question) visits visit.point less in
    let within = inside visits it.place it.visit it.there in
    record {
      early = it.place;
      late = length visits;
      one = it.visit;
      other = visit;
      order = omega (arith, within);
      first = in_front visits (visit ∷ more) it.visit it.place it.there;
      second = at_seam visits more visit;
      same = same_thing it.visit.question visit.question it.same;
      fall = it.above;
    }

pub never_both_fall : (visits : List Visit) → Falls visits → NeverFall visits → ⊥
never_both_fall visits falls never =
    let up = never falls.early falls.late falls.one falls.other falls.order falls.first falls.second falls.same in
    let down = falls.fall in
    omega (arith, up, down)
