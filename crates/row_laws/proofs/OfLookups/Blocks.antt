-- A test on a list of lists, where each inner list passes whole or not at all.
use Rattle.std.proofs.Common.{◌≡◌, Bool, true, false, cond, ◌||◌, List, [], ◌∷◌, ◌++◌, map, refl, ◌∙◌, ap}
use Rattle.std.specs.Prelude.{filter}
use Rattle.std.specs.List.{list_any, flat_map}
use Rattle.std.proofs.lemmas.List.Folds.{list_any-append}
use Rattle.std.proofs.lemmas.List.Elements.{filter-append}
use Rattle.filter_state.specs.Sound.{Each}
use Rattle.filter_tables.specs.Changes.{is_none_left}
use Rattle.filter_tables.specs.Whole.{HasSome}
use Rattle.row_laws.proofs.OfLookups.Heads.{filter_all, filter_none}

-- ---- what holds of each element of a list that is made from another
pub each_map : {X Y : Type 0} (f : X → Y) (P : Y → Type 0) → ((x : X) → P (f x)) → (xs : List X) → Each P (map f xs)
each_map f P one [] = tt
each_map f P one (x ∷ xs) = (one x, each_map f P one xs)

-- ---- a filter takes or leaves each inner list
filter_step : {X Y : Type 0} (p : Y → Bool) (f : X → List Y) (b : Bool) (x : X) (xs : List X) → Each (λ y. p y ≡ b) (f x) → filter p (f x) ++ flat_map f xs ≡ flat_map f (cond b (x ∷ xs) xs)
filter_step p f true x xs all = ap (λ ys. ys ++ flat_map f xs) (filter_all p (f x) all)
filter_step p f false x xs all = ap (λ ys. ys ++ flat_map f xs) (filter_none p (f x) all)

pub filter_blocks : {X Y : Type 0} (p : Y → Bool) (q : X → Bool) (f : X → List Y) → ((x : X) → Each (λ y. p y ≡ q x) (f x)) →
    (xs : List X) → filter p (flat_map f xs) ≡ flat_map f (filter q xs)
filter_blocks p q f each [] = refl
filter_blocks p q f each (x ∷ xs) =
    filter-append p (f x) (flat_map f xs) ∙ ap (λ ys. filter p (f x) ++ ys) (filter_blocks p q f each xs)
    ∙ filter_step p f (q x) x (filter q xs) (each x)

-- ---- a test passes if it passes in an inner list
pub any_blocks : {X Y : Type 0} (p : Y → Bool) (q : X → Bool) (f : X → List Y) → ((x : X) → list_any p (f x) ≡ q x) →
    (xs : List X) → list_any p (flat_map f xs) ≡ list_any q xs
any_blocks p q f each [] = refl
any_blocks p q f each (x ∷ xs) =
    list_any-append p (f x) (flat_map f xs) ∙ ap (λ b. b || list_any p (flat_map f xs)) (each x)
    ∙ ap (λ b. q x || b) (any_blocks p q f each xs)

-- ---- full inner lists
some_front : {X : Type 0} (xs ys : List X) → HasSome xs → HasSome (xs ++ ys)
some_front [] ys some = elim some [ ]
some_front (x ∷ xs) ys some = tt

pub some_map : {X Y : Type 0} (f : X → Y) (xs : List X) → HasSome xs → HasSome (map f xs)
some_map f [] some = elim some [ ]
some_map f (x ∷ xs) some = tt

pub some_blocks : {X Y : Type 0} (f : X → List Y) (xs : List X) → HasSome xs → Each (λ x. HasSome (f x)) xs → HasSome (flat_map f xs)
some_blocks f [] some all = elim some [ ]
some_blocks f (x ∷ xs) some all = some_front (f x) (flat_map f xs) all.0

has_left : {X : Type 0} (xs : List X) → HasSome xs → is_none_left xs ≡ false
has_left [] some = elim some [ ]
has_left (x ∷ xs) some = refl

pub left_blocks : {X Y : Type 0} (f : X → List Y) (xs : List X) → Each (λ x. HasSome (f x)) xs → is_none_left (flat_map f xs) ≡ is_none_left xs
left_blocks f [] all = refl
left_blocks f (x ∷ xs) all = has_left (f x ++ flat_map f xs) (some_front (f x) (flat_map f xs) all.0)
