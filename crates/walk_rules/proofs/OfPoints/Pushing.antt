-- Lawful points with one visit more.
use Rattle.std.proofs.Common.{◌≡◌, ◌∙◌, ℕ, zero, suc, ◌≤◌, ◌⊎◌, List, [], ◌∷◌, ◌++◌, length, slice_get, Some, refl, sym, ap, subst, inl, inr, arith}
use Rattle.std.proofs.lemmas.Option.{slice_get_within, none-some, same_Some}
use Rattle.walk_rules.specs.OfPoints.Points.{Visit, IsSameThing, AreLawfulPoints}

-- ---- places of a list with one element more
pub at_push : {X : Type 0} (xs : List X) (y : X) (place : ℕ) (x : X) → slice_get (xs ++ y ∷ []) place ≡ Some x → (slice_get xs place ≡ Some x) ⊎ ((place ≡ length xs) × (y ≡ x))
at_push [] y zero x is = inr (refl, same_Some y x is)
at_push [] y (suc place) x is = absurd (none-some x is)
at_push (z ∷ xs) y zero x is = inl is
at_push (z ∷ xs) y (suc place) x is = elim (at_push xs y place x is) [
  | inl there ↦ inl there
  | inr last ↦ inr (ap suc last.0, last.1)
]

first_push : {X : Type 0} (xs : List X) (y first : X) → slice_get (xs ++ y ∷ []) 0 ≡ Some first → (slice_get xs 0 ≡ Some first) ⊎ ((xs ≡ []) × (y ≡ first))
first_push [] y first is = inr (refl, same_Some y first is)
first_push (x ∷ xs) y first is = inl is

none_at : {X : Type 0} (xs : List X) (place : ℕ) (x : X) → xs ≡ [] → slice_get xs place ≡ Some x → ⊥
none_at xs place x none is = none-some x (subst (λ (ys : List _). slice_get ys place ≡ Some x) none is)

-- ---- one visit more
pub points_pushed : (floor ceiling longer : ℕ) (visits : List Visit) (last : Visit) → AreLawfulPoints floor ceiling visits → ceiling ≤ longer → last.point ≤ longer → (visits ≡ [] → floor ≤ last.point)
    → ((first : Visit) → slice_get visits 0 ≡ Some first → first.point ≤ last.point) → ((place : ℕ) (early : Visit) → slice_get visits place ≡ Some early → IsSameThing early.question last.question → early.point ≤ last.point)
    → AreLawfulPoints floor longer (visits ++ last ∷ [])
points_pushed floor ceiling longer visits last lawful more within least above falls = record {
  head = λ first is. elim (first_push visits last first is) [
    | inl there ↦ lawful.head first there
    | inr alone ↦ subst (λ (v : Visit). floor ≤ v.point) alone.1 (least alone.0)
  ];
  above_head = λ place first visit is there. elim (first_push visits last first is) [
    | inl first_there ↦ elim (at_push visits last place visit there) [
      | inl early ↦ lawful.above_head place first visit first_there early
      | inr late ↦ subst (λ (v : Visit). first.point ≤ v.point) late.1 (above first first_there)
    ]
    | inr alone ↦ elim (at_push visits last place visit there) [
      | inl early ↦ absurd (none_at visits place visit alone.0 early)
      | inr late ↦ let same : first ≡ visit = sym alone.1 ∙ late.1 in let e = ap (λ (v : Visit). v.point) same in omega (arith, e)
    ]
  ];
  below = λ place visit there. elim (at_push visits last place visit there) [
    | inl early ↦ (let b = lawful.below place visit early in omega (arith, b, more))
    | inr late ↦ subst (λ (v : Visit). v.point ≤ longer) late.1 within
  ];
  never_fall = λ early late one other order is there thing. elim (at_push visits last early one is) [
    | inl front ↦ elim (at_push visits last late other there) [
      | inl behind ↦ lawful.never_fall early late one other order front behind thing
      | inr final ↦ subst (λ (v : Visit). one.point ≤ v.point) final.1 (falls early one front (subst (λ (v : Visit). IsSameThing one.question v.question) (sym final.1) thing))
    ]
    | inr final ↦ elim (at_push visits last late other there) [
      | inl behind ↦ (let less = slice_get_within visits late other behind in let at = final.0 in absurd (omega (arith, order, less, at)))
      | inr also ↦ let same : one ≡ other = sym final.1 ∙ also.1 in let e = ap (λ (v : Visit). v.point) same in omega (arith, e)
    ]
  ];
}

-- there are none
pub no_points : (floor ceiling : ℕ) → AreLawfulPoints floor ceiling []
no_points floor ceiling = record {
  head = λ first is. absurd (none_at [] 0 first refl is);
  above_head = λ place first visit is there. absurd (none_at [] place visit refl there);
  below = λ place visit there. absurd (none_at [] place visit refl there);
  never_fall = λ early late one other order is there thing. absurd (none_at [] early one refl is);
}
