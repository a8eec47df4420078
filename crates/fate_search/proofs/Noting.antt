-- The fates of some ways, and of one way more.
use Rattle.std.proofs.Common.{◌≡◌, ◌∙◌, ℕ, Bool, true, false, ◌||◌, List, [], ◌∷◌, ◌++◌, map}
use Rattle.std.proofs.Common.{Option, Some, None, refl, sym, ap}
use Rattle.std.specs.Prelude.{if◌then◌else◌, option_map}
use Rattle.std.specs.List.{list_any}
use Rattle.std.specs.Option.{unwrap_or}
use Rattle.walk_rules.specs.declared.verdict.Verdict.{Verdict}
use Rattle.walk_rules.specs.declared.verdict.Verdict.TheVariants as verdicts
use Rattle.walk_rules.specs.Walks.{Outcome, outcome_with, outcome_of}
use Rattle.walk_fate_laws.specs.Fates.{Fate, fate_by, fate_of, same_fate}
use Rattle.walk_fate_laws.specs.Firsts.{First, first_by, firsts}
use Rattle.walk_fate_laws.specs.Told.{Told, fate_at, first_fates}
use Rattle.fate_search.specs.Found.{Found, found_with, found_by, found_of, all_found}
use Rattle.fate_search.specs.Found.{fate_found, is_known, noted}
use Rattle.fate_search.specs.Paths.{WalkWay}
use Rattle.fate_search.proofs.Rows.{or_swap}

or_group : (a b c : Bool) → (a || (b || c)) ≡ ((a || b) || c)
or_group true b c = refl
or_group false b c = refl

module _ {X K : Type 0} (same : K → K → Bool) (key : X → Option K) where
  -- the first ones of a list and of one element more
  abbrev keys_of : List (First X K) → List K
  keys_of all = map (λ (one : First X K). one.key) all

  abbrev known : List K → List (First X K) → K → Bool
  known seen all k = list_any (same k) seen || list_any (same k) (keys_of all)

  abbrev with_one : List K → List (First X K) → X → K → List (First X K)
  with_one seen all x k = if known seen all k then all else all ++ (record { item = x; key = k } ∷ [])

  put_one : (b : Bool) (first : First X K) (all more : List (First X K))
      → (first ∷ (if b then all else all ++ more)) ≡ (if b then first ∷ all else (first ∷ all) ++ more)
  put_one true first all more = refl
  put_one false first all more = refl

  -- the same of what comes behind
  abbrev Rest : List X → X → K → Type 0
  Rest xs x k = (now : List K) → firsts same key now (xs ++ (x ∷ [])) ≡ with_one now (firsts same key now xs) x k

  by_test : (seen : List K) (y : X) (xs : List X) (x : X) (k a : K) (t : Bool) → Rest xs x k
      → (if t then firsts same key seen (xs ++ (x ∷ []))
      else record { item = y; key = a } ∷ firsts same key (a ∷ seen) (xs ++ (x ∷ [])))
      ≡ with_one seen (if t then firsts same key seen xs
      else record { item = y; key = a } ∷ firsts same key (a ∷ seen) xs) x k
  by_test seen y xs x k a true rest = rest seen
  by_test seen y xs x k a false rest =
      let first : First X K = record { item = y; key = a } in
      let all = firsts same key (a ∷ seen) xs in let one : First X K = record { item = x; key = k } in
      let swapped : known (a ∷ seen) all k ≡ known seen (first ∷ all) k =
      ap (λ (b : Bool). b || list_any (same k) (keys_of all)) (or_swap (same k a) (list_any (same k) seen))
      ∙ sym (or_group (list_any (same k) seen) (same k a) (list_any (same k) (keys_of all))) in
      ap (λ (more : List (First X K)). first ∷ more) (rest (a ∷ seen))
      ∙ put_one (known (a ∷ seen) all k) first all (one ∷ [])
      ∙ ap (λ (b : Bool). if b then first ∷ all else (first ∷ all) ++ (one ∷ [])) swapped

  by_key : (seen : List K) (y : X) (xs : List X) (x : X) (k : K) (o : Option K) → Rest xs x k
      → first_by same seen y o (λ now. firsts same key now (xs ++ (x ∷ [])))
      ≡ with_one seen (first_by same seen y o (λ now. firsts same key now xs)) x k
  by_key seen y xs x k None rest = rest seen
  by_key seen y xs x k (Some a) rest = by_test seen y xs x k a (list_any (same a) seen) rest

  at_last : (b : Bool) (one : First X K) → (if b then [] else (one ∷ [])) ≡ (if b || false then [] else [] ++ (one ∷ []))
  at_last true one = refl
  at_last false one = refl

  one_more : (seen : List K) (xs : List X) (x : X) (k : K) → key x ≡ Some k
      → firsts same key seen (xs ++ (x ∷ [])) ≡ with_one seen (firsts same key seen xs) x k
  one_more seen [] x k is =
      ap (λ (o : Option K). first_by same seen x o (λ now. [])) is
      ∙ at_last (list_any (same k) seen) (record { item = x; key = k })
  one_more seen (y ∷ xs) x k is = by_key seen y xs x k (key y) (λ now. one_more now xs x k is)

-- ---- a fate and what is found of it
fate_of_found : (points : List ℕ) (outcome : Outcome) → fate_found (found_by points outcome) ≡ fate_of outcome
fate_of_found points outcome = by_verdict outcome.verdict
  where
    by_verdict : (verdict : Verdict) → fate_found (found_with points verdict outcome.frame)
        ≡ fate_by verdict outcome.frame
    by_verdict verdicts.Pass = refl
    by_verdict verdicts.Drop = refl

some_mapped : {X Y : Type 0} (f : X → Y) (o : Option X) (y : Y) → option_map f o ≡ Some y
    → (x : X) × (o ≡ Some x) × (f x ≡ y)
some_mapped f None y is = absurd (cc is)
some_mapped f (Some x) y is = let same : f x ≡ y = cc is in (x, refl, same)

-- each that is told has its way's fate
abbrev HasFate : Told → Type 0
HasFate told = fate_at told.item ≡ Some told.key

abbrev HaveFates : List Told → Type 0
HaveFates [] = Unit {0}
HaveFates (told ∷ all) = HasFate told × HaveFates all

have_fates : (seen : List Fate) (ways : List WalkWay) → HaveFates (firsts same_fate fate_at seen ways)
have_fates seen [] = tt
have_fates seen (way ∷ ways) = by_key (fate_at way) refl (λ now. have_fates now ways)
  where
    by_test : (fate : Fate) (t : Bool) → fate_at way ≡ Some fate
        → ((now : List Fate) → HaveFates (firsts same_fate fate_at now ways))
        → HaveFates (if t then firsts same_fate fate_at seen ways
        else record { item = way; key = fate } ∷ firsts same_fate fate_at (fate ∷ seen) ways)
    by_test fate true is rest = rest seen
    by_test fate false is rest = (is, rest (fate ∷ seen))

    by_key : (o : Option Fate) → fate_at way ≡ o
        → ((now : List Fate) → HaveFates (firsts same_fate fate_at now ways))
        → HaveFates (first_by same_fate seen way o (λ now. firsts same_fate fate_at now ways))
    by_key None is rest = rest seen
    by_key (Some fate) is rest = by_test fate (list_any (same_fate fate) seen) is rest

found_key : (told : Told) → HasFate told → fate_found (found_of told) ≡ told.key
found_key told has =
    let it = some_mapped fate_of (outcome_of told.item.end) told.key has in
    ap (λ (o : Option Outcome). fate_found (found_by told.item.points
    (unwrap_or o (outcome_with verdicts.Drop told.item.end)))) it.1
    ∙ fate_of_found told.item.points it.0 ∙ it.2

known_so : (fate : Fate) (all : List Told) → HaveFates all
    → list_any (same_fate fate) (map (λ (one : Told). one.key) all)
    ≡ list_any (λ (other : Found). same_fate fate (fate_found other)) (all_found all)
known_so fate [] have = refl
known_so fate (told ∷ all) have =
    ap (λ (f : Fate). same_fate fate f || list_any (same_fate fate) (map (λ (one : Told). one.key) all))
    (sym (found_key told have.0))
    ∙ ap (λ (b : Bool). same_fate fate (fate_found (found_of told)) || b) (known_so fate all have.1)

map_joined : {X Y : Type 0} (f : X → Y) (xs ys : List X) → map f (xs ++ ys) ≡ map f xs ++ map f ys
map_joined f [] ys = refl
map_joined f (x ∷ xs) ys = ap (λ (rest : List _). f x ∷ rest) (map_joined f xs ys)

found_either : (b : Bool) (all : List Told) (one : Told)
    → all_found (if b then all else all ++ (one ∷ []))
    ≡ (if b then all_found all else all_found all ++ (found_of one ∷ []))
found_either true all one = refl
found_either false all one = map_joined found_of all (one ∷ [])

-- ONE WAY MORE
pub one_noted : (ways : List WalkWay) (way : WalkWay) (outcome : Outcome) → outcome_of way.end ≡ Some outcome
    → all_found (first_fates (ways ++ (way ∷ [])))
    ≡ noted (all_found (first_fates ways)) (found_by way.points outcome)
one_noted ways way outcome ends =
    let fate = fate_of outcome in let all = first_fates ways in
    let is : fate_at way ≡ Some fate = ap (option_map fate_of) ends in
    let one : Told = record { item = way; key = fate } in
    let found : found_of one ≡ found_by way.points outcome =
    ap (λ (o : Option Outcome). found_by way.points
    (unwrap_or o (outcome_with verdicts.Drop way.end))) ends in
    let same : list_any (same_fate fate) (map (λ (told : Told). told.key) all)
    ≡ is_known (all_found all) (found_by way.points outcome) =
    known_so fate all (have_fates [] ways)
    ∙ ap (λ (f : Fate). list_any (λ (other : Found). same_fate f (fate_found other)) (all_found all))
    (sym (fate_of_found way.points outcome)) in
    ap all_found (one_more same_fate fate_at [] ways way fate is)
    ∙ found_either (list_any (same_fate fate) (map (λ (told : Told). told.key) all)) all one
    ∙ ap (λ (b : Bool). if b then all_found all else all_found all ++ (found_of one ∷ [])) same
    ∙ ap (λ (f : Found). if is_known (all_found all) (found_by way.points outcome) then all_found all
    else all_found all ++ (f ∷ [])) found
