-- Two places in one list: they are one place, or one comes before the other.
use Rattle.std.proofs.Common.{◌≡◌, ◌⊎◌, inl, inr, List, [], ◌∷◌, ◌++◌, refl, ap, subst}

-- an element with what stands before it is the other one, or comes before it, or behind it
abbrev pub InOrder : {A : Type 0} → List A → A → List A → A → Type 0
InOrder {A} before x other y = ((before ≡ other) × (x ≡ y))
    ⊎ (((between : List A) × (other ≡ before ++ (x ∷ between)))
    ⊎ ((between : List A) × (before ≡ other ++ (y ∷ between))))

step : {A : Type 0} (z : A) (before : List A) (x : A) (other : List A) (y : A) → InOrder before x other y
    → InOrder (z ∷ before) x (z ∷ other) y
step z before x other y (inl same) = inl (ap (λ (xs : List _). z ∷ xs) same.0, same.1)
step z before x other y (inr (inl first)) = inr (inl (first.0, ap (λ (xs : List _). z ∷ xs) first.1))
step z before x other y (inr (inr second)) = inr (inr (second.0, ap (λ (xs : List _). z ∷ xs) second.1))

head_is : {A : Type 0} (x y : A) (xs ys : List A) → x ∷ xs ≡ y ∷ ys → x ≡ y
head_is x y xs ys e = cc

tail_is : {A : Type 0} (x y : A) (xs ys : List A) → x ∷ xs ≡ y ∷ ys → xs ≡ ys
tail_is x y xs ys e = cc

pub in_order : {A : Type 0} (before : List A) (x : A) (after other : List A) (y : A) (behind : List A)
    → before ++ (x ∷ after) ≡ other ++ (y ∷ behind) → InOrder before x other y
in_order [] x after [] y behind e = inl (refl, head_is x y after behind e)
in_order [] x after (z ∷ other) y behind e =
    let same = head_is x z after (other ++ (y ∷ behind)) e in
    inr (inl (other, cc))
in_order (z ∷ before) x after [] y behind e =
    let same = head_is z y (before ++ (x ∷ after)) behind e in
    inr (inr (before, cc))
in_order {A} (z ∷ before) x after (w ∷ other) y behind e =
    let same : z ≡ w = head_is z w (before ++ (x ∷ after)) (other ++ (y ∷ behind)) e in
    let found = step z before x other y (in_order before x after other y behind
    (tail_is z w (before ++ (x ∷ after)) (other ++ (y ∷ behind)) e)) in
    subst (λ (v : A). InOrder (z ∷ before) x (v ∷ other) y) same found
