-- Tests, changes and choices on the elements of a list, and on what a function makes of them.
use Rattle.std.proofs.Common.{◌≡◌, Bool, true, false, cond, ◌||◌, List, [], ◌∷◌, map, Option, Some, refl, ◌∙◌, ap}
use Rattle.std.specs.Prelude.{filter, find, option_map, is_some, if◌then◌else◌}
use Rattle.std.specs.List.{list_any}
use Rattle.filter_state.specs.Actions.{change_where}
use Rattle.filter_state.specs.Tables.{first_where}

-- ---- whether an element passes, and the first that does
pub any_mapped : {X Y : Type 0} (f : X → Y) (p : X → Bool) (q : Y → Bool) → ((x : X) → p x ≡ q (f x)) → (xs : List X) → list_any p xs ≡ list_any q (map f xs)
any_mapped f p q same [] = refl
any_mapped f p q same (x ∷ xs) = ap (λ b. b || list_any p xs) (same x) ∙ ap (λ b. q (f x) || b) (any_mapped f p q same xs)

first_step : {X Y : Type 0} (f : X → Y) (b : Bool) (x : X) (found : Option X) (first : Option Y) → option_map f found ≡ first →
    option_map f (cond b (Some x) found) ≡ cond b (Some (f x)) first
first_step f true x found first e = refl
first_step f false x found first e = e

pub first_mapped : {X Y : Type 0} (f : X → Y) (p : X → Bool) (q : Y → Bool) → ((x : X) → p x ≡ q (f x)) → (xs : List X) →
    option_map f (find p xs) ≡ first_where q (map f xs)
first_mapped f p q same [] = refl
first_mapped f p q same (x ∷ xs) =
    first_step f (p x) x (find p xs) (first_where q (map f xs)) (first_mapped f p q same xs)
    ∙ ap (λ b. cond b (Some (f x)) (first_where q (map f xs))) (same x)

any_step : {X : Type 0} (b rest : Bool) (x : X) (first : Option X) → rest ≡ is_some first → (b || rest) ≡ is_some (cond b (Some x) first)
any_step true rest x first e = refl
any_step false rest x first e = e

pub any_first : {X : Type 0} (p : X → Bool) (xs : List X) → list_any p xs ≡ is_some (first_where p xs)
any_first p [] = refl
any_first p (x ∷ xs) = any_step (p x) (list_any p xs) x (first_where p xs) (any_first p xs)

-- ---- the elements that pass, changed or alone
change_step : {X Y : Type 0} (f : X → Y) (c : X → X) (d : Y → Y) (b : Bool) (x : X) → f (c x) ≡ d (f x) →
    f (if b then c x else x) ≡ (if b then d (f x) else f x)
change_step f c d true x e = e
change_step f c d false x e = refl

pub change_mapped : {X Y : Type 0} (f : X → Y) (p : X → Bool) (q : Y → Bool) (c : X → X) (d : Y → Y) → ((x : X) → p x ≡ q (f x)) → ((x : X) → f (c x) ≡ d (f x)) →
    (xs : List X) → map f (change_where p c xs) ≡ change_where q d (map f xs)
change_mapped f p q c d same change [] = refl
change_mapped f p q c d same change (x ∷ xs) =
    ap (λ y. y ∷ map f (change_where p c xs)) (change_step f c d (p x) x (change x) ∙ ap (λ b. if b then d (f x) else f x) (same x))
    ∙ ap (λ ys. (if q (f x) then d (f x) else f x) ∷ ys) (change_mapped f p q c d same change xs)

filter_step : {X Y : Type 0} (f : X → Y) (b : Bool) (x : X) (xs : List X) → map f (cond b (x ∷ xs) xs) ≡ cond b (f x ∷ map f xs) (map f xs)
filter_step f true x xs = refl
filter_step f false x xs = refl

pub filter_mapped : {X Y : Type 0} (f : X → Y) (p : X → Bool) (q : Y → Bool) → ((x : X) → p x ≡ q (f x)) → (xs : List X) →
    map f (filter p xs) ≡ filter q (map f xs)
filter_mapped f p q same [] = refl
filter_mapped f p q same (x ∷ xs) =
    filter_step f (p x) x (filter p xs) ∙ ap (λ b. cond b (f x ∷ map f (filter p xs)) (map f (filter p xs))) (same x)
    ∙ ap (λ ys. cond (q (f x)) (f x ∷ ys) ys) (filter_mapped f p q same xs)
