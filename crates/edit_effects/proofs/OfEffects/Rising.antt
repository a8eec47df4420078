-- The actions of a list are made or bound, and those of a list that is gone are unbound: none gets other
-- parameters.
use Rattle.std.proofs.Common.{◌≡◌, inl, inr, ℕ, ◌+◌, ◌≤◌, Bool, true, false, cond, if◌then◌else◌, List, [], ◌∷◌, map, Option, Some, None, Ok, refl, ◌∙◌, subst, arith}
use Rattle.act_kinds.specs.declared.params.Kind.{Kind}
use Rattle.act_kinds.specs.declared.params.Params.{Params}
use Rattle.filter_state.specs.declared.action_line.ActionLine.{ActionLine}
use Rattle.filter_state.specs.declared.refusal.Refusal.TheVariants as refusals
use Rattle.filter_state.specs.States.{Action}
use Rattle.filter_state.specs.Actions.{is_named, has_serial, serial_of, more_bound, less_bound, is_referred, unbound, all_unbound, index_or_free, Resolved, bound_more, made_bound, bound_or_made, resolved_by, resolved}
use Rattle.filter_state.specs.Sound.{Each, EachPair}
use Rattle.state_laws.proofs.Answers.{same_ok, err_ok, and_then_ok}
use Rattle.filter_state.proofs.Pairs.{each_weaker, each_append, each_map, pairs_push, pairs_filter, pairs_map}
use Rattle.edit_effects.proofs.OfEffects.Params.{params_in, params_before, params_mapped, Rise, StayOrGo, params_left}

-- ---- serials rise, up to the last one that was given
abbrev IsGiven : ℕ → Action → Type 0
IsGiven made x = x.serial ≤ made

pub record AreRising (made : ℕ) (actions : List Action) : Type 0 where
  pub given : Each (IsGiven made) actions
  pub rise : EachPair Rise actions

-- a change that keeps serials and parameters
record KeepsBoth (f : Action → Action) (x : Action) : Type 0 where
  serial : (f x).serial ≡ x.serial
  params : (f x).params ≡ x.params

either_way : (b : Bool) (x y : Action) → y.serial ≡ x.serial → y.params ≡ x.params → ((cond b y x).serial ≡ x.serial) × ((cond b y x).params ≡ x.params)
either_way true x y serial params = (serial, params)
either_way false x y serial params = (refl, refl)

bound_keeps : (test : Action → Bool) (x : Action) → KeepsBoth (λ y. if test y then more_bound y else y) x
bound_keeps test x = let both = either_way (test x) x (more_bound x) refl refl in record { serial = both.0; params = both.1 }

unbound_keeps : (test : Action → Bool) (x : Action) → KeepsBoth (λ y. if test y then less_bound y else y) x
unbound_keeps test x = let both = either_way (test x) x (less_bound x) refl refl in record { serial = both.0; params = both.1 }

module _ (f : Action → Action) (keeps : (x : Action) → KeepsBoth f x) where
  serials : (x : Action) → (f x).serial ≡ x.serial
  serials x = let k = keeps x in k.serial

  still : (serial : ℕ) (xs : List Action) → params_in (map f xs) serial ≡ params_in xs serial
  still = params_mapped f serials (λ x. let k = keeps x in k.params)

  still_rise : (xs : List Action) → EachPair Rise xs → EachPair Rise (map f xs)
  still_rise = pairs_map Rise f (λ x y less. let a = serials x in let b = serials y in omega (arith, less, a, b))

  still_rising : (made : ℕ) (xs : List Action) → AreRising made xs → AreRising made (map f xs)
  still_rising made xs rising = record {
    given = each_map (IsGiven made) f xs (each_weaker (IsGiven made) (λ x. IsGiven made (f x)) (λ x low. let a = serials x in omega (arith, low, a)) xs rising.given);
    rise = still_rise xs rising.rise;
  }

-- ---- one place of a list
pub record Grows (r next : Resolved) : Type 0 where
  pub rising : AreRising next.so_far.made next.so_far.actions
  pub more : r.so_far.made ≤ next.so_far.made
  pub kept : (serial : ℕ) → serial ≤ r.so_far.made → params_in next.so_far.actions serial ≡ params_in r.so_far.actions serial

abbrev IsRising : Resolved → Type 0
IsRising r = AreRising r.so_far.made r.so_far.actions

bound_grows : (r : Resolved) (kind : Kind) (index serial : ℕ) → IsRising r → Grows r (bound_more r kind index serial)
bound_grows r kind index serial rising =
    let change : Action → Action = λ x. if is_named kind index x then more_bound x else x in record {
      rising = still_rising change (bound_keeps (is_named kind index)) r.so_far.made r.so_far.actions rising;
      more = omega arith;
      kept = λ n low. still change (bound_keeps (is_named kind index)) n r.so_far.actions;
    }

made_grows : (r : Resolved) (params : Params) (index : ℕ) → IsRising r → Grows r (made_bound r params index)
made_grows r params index rising =
    let made : ℕ = r.so_far.made in
    let xs : List Action = r.so_far.actions in
    let new : Action = record { serial = made + 1; index = index; params = params; references = 1; binds = 1 } in record {
      rising = record {
        given = each_append (IsGiven (made + 1)) xs (new ∷ []) (each_weaker (IsGiven made) (IsGiven (made + 1)) (λ x low. omega (arith, low)) xs rising.given) (omega arith, tt);
        rise = pairs_push Rise xs new rising.rise (each_weaker (IsGiven made) (λ x. Rise x new) (λ x low. omega (arith, low)) xs rising.given);
      };
      more = omega arith;
      kept = λ n low. params_before n xs new (λ e. absurd (omega (arith, low, e)));
    }

either_grows : (r next : Resolved) (line : ActionLine) (index : ℕ) (serial : Option ℕ) (given : Option Params) → IsRising r → bound_or_made r line index serial given ≡ Ok next → Grows r next
either_grows r next line index (Some serial) given rising e = subst (Grows r) (same_ok (bound_more r line.kind index serial) next e) (bound_grows r line.kind index serial rising)
either_grows r next line index None (Some params) rising e = subst (Grows r) (same_ok (made_bound r params index) next e) (made_grows r params index rising)
either_grows r next line index None None rising e = absurd (err_ok (refusals.NoSuchAction line.kind index) next e)

one_grows : (r next : Resolved) (line : ActionLine) → IsRising r → resolved_by r line ≡ Ok next → Grows r next
one_grows r next line rising e =
    let index : ℕ = index_or_free line.index line.kind r.so_far.actions in
    either_grows r next line index (serial_of line.kind index r.so_far.actions) line.params rising e

-- ---- the whole list
then_grows : (r next last : Resolved) → Grows r next → Grows next last → Grows r last
then_grows r next last one rest =
    let a = one.more in
    let b = rest.more in
    record { rising = rest.rising; more = omega (arith, a, b); kept = λ n low. rest.kept n (omega (arith, low, a)) ∙ one.kept n low }

pub list_grows : (r last : Resolved) (lines : List ActionLine) → IsRising r → resolved r lines ≡ Ok last → Grows r last
list_grows r last [] rising e = subst (Grows r) (same_ok r last e) (record { rising = rising; more = omega arith; kept = λ n low. refl })
list_grows r last (line ∷ lines) rising e =
    let step = and_then_ok (λ next. resolved next lines) (resolved_by r line) last e in
    let one = one_grows r step.0 line rising step.1 in
    then_grows r step.0 last one (list_grows step.0 last lines one.rising step.2)

-- ---- unbound again
pub stay_or_go : (serial : ℕ) (xs ys zs : List Action) → StayOrGo xs ys serial → StayOrGo ys zs serial → StayOrGo xs zs serial
stay_or_go serial xs ys zs (inl same) (inl more) = inl (more ∙ same)
stay_or_go serial xs ys zs (inr none) (inl more) = inr (more ∙ none)
stay_or_go serial xs ys zs first (inr none) = inr none

one_unbound : (n serial : ℕ) (xs : List Action) → EachPair Rise xs → StayOrGo xs (unbound n xs) serial
one_unbound n serial xs rise =
    let change : Action → Action = λ x. if has_serial n x then less_bound x else x in
    stay_or_go serial xs (map change xs) (unbound n xs) (inl (still change (unbound_keeps (has_serial n)) serial xs))
    (params_left is_referred serial (map change xs) (still_rise change (unbound_keeps (has_serial n)) xs rise))

pub list_unbound : (ns : List ℕ) (serial : ℕ) (xs : List Action) → EachPair Rise xs → StayOrGo xs (all_unbound ns xs) serial
list_unbound [] serial xs rise = inl refl
list_unbound (n ∷ ns) serial xs rise =
    let change : Action → Action = λ x. if has_serial n x then less_bound x else x in
    let still_up = pairs_filter Rise is_referred (map change xs) (still_rise change (unbound_keeps (has_serial n)) xs rise) in
    stay_or_go serial xs (unbound n xs) (all_unbound ns (unbound n xs)) (one_unbound n serial xs rise) (list_unbound ns serial (unbound n xs) still_up)
