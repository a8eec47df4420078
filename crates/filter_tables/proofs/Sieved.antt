-- The filters that a sieve lets through, or covers: one more, one fewer, and one with other actions.
use Rattle.std.proofs.Common.{◌≡◌, ℕ, ◌==◌, ◌||◌, ◌&&◌, Bool, true, false, cond, not, List, [], ◌∷◌, ◌++◌, get_or, refl, sym, ap, ◌∙◌, subst, arith}
use Rattle.std.proofs.lemmas.Bool.{eq-eqb}
use Rattle.std.specs.List.{All}
use Rattle.std.proofs.lemmas.List.Elements.{All-push, All-filter, All-map}
use Rattle.filter_index.specs.declared.filter.Filter.{Filter}
use Rattle.filter_index.specs.Listed.{has_handle, without, with_actions}
use Rattle.filter_index.specs.Sieves.{MarkedPlaces, mark_of, lets_through, LetsAll, FitsSieve, IsWithin, AreCovered}

or_true : (b : Bool) → (b || true) ≡ true
or_true true = refl
or_true false = refl

pub lets_none : (s : MarkedPlaces) (filters : List Filter) → filters ≡ [] → LetsAll s filters
lets_none s filters none = subst (LetsAll s) (sym none) (λ k d within. absurd (omega arith))

pub lets_more : (s t : MarkedPlaces) (filters now : List Filter) (f : Filter) → LetsAll s filters →
    ((other : List ℕ) → lets_through t other ≡ (lets_through s other || mark_of s other == mark_of s f.key.words)) → now ≡ filters ++ (f ∷ []) → LetsAll t now
lets_more s t filters now f all marks is =
    subst (LetsAll t) (sym is)
    (All-push (λ (g : Filter). lets_through t g.key.words ≡ true) filters f
    (λ k d within.
    let words : List ℕ = (get_or filters k d).key.words in
    marks words ∙ ap (λ b. b || mark_of s words == mark_of s f.key.words) (all k d within))
    (marks f.key.words ∙ ap (λ b. lets_through s f.key.words || b) (eq-eqb (mark_of s f.key.words) (mark_of s f.key.words) refl) ∙ or_true (lets_through s f.key.words)))

pub lets_fewer : (s : MarkedPlaces) (filters now : List Filter) (handle : ℕ) → LetsAll s filters → now ≡ without handle filters → LetsAll s now
lets_fewer s filters now handle all is =
    subst (LetsAll s) (sym is) (All-filter (λ (f : Filter). not (has_handle handle f)) (λ (f : Filter). lets_through s f.key.words ≡ true) filters all)

same_key : (b : Bool) (f : Filter) (actions : List ℕ) → (cond b (record f { actions = actions }) f).key.words ≡ f.key.words
same_key true f actions = refl
same_key false f actions = refl

abbrev acting : ℕ → List ℕ → Filter → Filter
acting handle actions f = cond (has_handle handle f) (record f { actions = actions }) f

pub lets_acting : (s : MarkedPlaces) (filters now : List Filter) (handle : ℕ) (actions : List ℕ) → LetsAll s filters → now ≡ with_actions handle actions filters → LetsAll s now
lets_acting s filters now handle actions all is =
    subst (LetsAll s) (sym is)
    (All-map (λ (f : Filter). lets_through s f.key.words ≡ true) (acting handle actions) filters
    (λ k d within.
    let f : Filter = get_or filters k d in
    ap (lets_through s) (same_key (has_handle handle f) f actions) ∙ all k d within))

-- ---- filters that are told apart by what a sieve looks at
pub covers_more : (mask : List ℕ) (filters now : List Filter) (f : Filter) → FitsSieve mask → All (λ g. IsWithin mask g.key.words) filters → IsWithin mask f.key.words →
    now ≡ filters ++ (f ∷ []) → AreCovered mask now
covers_more mask filters now f fits within own is = record {
  fits = fits;
  within = subst (All (λ (g : Filter). IsWithin mask g.key.words)) (sym is) (All-push (λ (g : Filter). IsWithin mask g.key.words) filters f within own);
}

-- one filter more is told apart too, if it was asked about
pub covers_also : (mask : List ℕ) (filters now : List Filter) (f : Filter) (was own : Bool) → (was ≡ true → AreCovered mask filters) → (own ≡ true → IsWithin mask f.key.words) →
    now ≡ filters ++ (f ∷ []) → (was && own) ≡ true → AreCovered mask now
covers_also mask filters now f true true covered within is both = covers_more mask filters now f (covered refl).fits (covered refl).within (within refl) is
covers_also mask filters now f true false covered within is both = cc
covers_also mask filters now f false own covered within is both = cc

pub within_none : (mask : List ℕ) (filters : List Filter) → filters ≡ [] → All (λ g. IsWithin mask g.key.words) filters
within_none mask filters none = subst (All (λ (g : Filter). IsWithin mask g.key.words)) (sym none) (λ k d within. absurd (omega arith))

pub covers_fewer : (mask : List ℕ) (filters now : List Filter) (handle : ℕ) → AreCovered mask filters → now ≡ without handle filters → AreCovered mask now
covers_fewer mask filters now handle covered is = record {
  fits = covered.fits;
  within = subst (All (λ (f : Filter). IsWithin mask f.key.words)) (sym is)
      (All-filter (λ (f : Filter). not (has_handle handle f)) (λ (f : Filter). IsWithin mask f.key.words) filters covered.within);
}

pub covers_acting : (mask : List ℕ) (filters now : List Filter) (handle : ℕ) (actions : List ℕ) → AreCovered mask filters → now ≡ with_actions handle actions filters → AreCovered mask now
covers_acting mask filters now handle actions covered is = record {
  fits = covered.fits;
  within = subst (All (λ (f : Filter). IsWithin mask f.key.words)) (sym is)
      (All-map (λ (f : Filter). IsWithin mask f.key.words) (acting handle actions) filters
      (λ k d within.
      let f : Filter = get_or filters k d in
      subst (IsWithin mask) (sym (same_key (has_handle handle f) f actions)) (covered.within k d within)));
}
