-- The parameters of an action, where actions are made, changed or taken out.
use Rattle.std.proofs.Common.{◌≡◌, ◌≢◌, ◌⊎◌, inl, inr, ℕ, ◌<◌, ◌==◌, Bool, true, false, cond, ◌||◌, if◌then◌else◌, List, [], ◌∷◌, ◌++◌, map, Option, Some, None, refl, sym, ◌∙◌, ap, arith, eqb-true, eq-eqb}
use Rattle.std.specs.Prelude.{filter}
use Rattle.std.specs.List.{list_any}
use Rattle.std.specs.Option.{option_map}
use Rattle.std.proofs.lemmas.Bool.{false≢true, ne_eqb}
use Rattle.act_kinds.specs.declared.params.Params.{Params}
use Rattle.filter_state.specs.States.{Action}
use Rattle.filter_state.specs.Actions.{has_serial, change_where}
use Rattle.filter_state.specs.Tables.{first_where}
use Rattle.filter_state.specs.Sound.{Each, EachPair}
use Rattle.filter_state.proofs.Pairs.{each_passing, pairs_filter}
use Rattle.state_laws.proofs.Changes.{put_params}
use Rattle.row_laws.proofs.OfLookups.Heads.{head_of, first_head, filter_none}
use Rattle.edit_effects.proofs.OfEffects.Kept.{last_left, last_kept, either_order}

abbrev pub params_in : List Action → ℕ → Option Params
params_in actions serial = option_map (λ (action : Action). action.params) (first_where (has_serial serial) actions)

abbrev params_of : Option Action → Option Params
params_of action = option_map (λ (a : Action). a.params) action

-- the actions with a serial tell
pub params_same : (serial : ℕ) (xs ys : List Action) → filter (has_serial serial) xs ≡ filter (has_serial serial) ys → params_in xs serial ≡ params_in ys serial
params_same serial xs ys same = ap params_of (first_head (has_serial serial) xs ∙ ap head_of same ∙ sym (first_head (has_serial serial) ys))

pub params_none : (serial : ℕ) (xs : List Action) → Each (λ x. has_serial serial x ≡ false) xs → params_in xs serial ≡ None
params_none serial xs none = ap params_of (first_head (has_serial serial) xs ∙ ap head_of (filter_none (has_serial serial) xs none))

-- ---- an action at the end
pub params_before : (serial : ℕ) (xs : List Action) (new : Action) → serial ≢ new.serial → params_in (xs ++ new ∷ []) serial ≡ params_in xs serial
params_before serial xs new other = params_same serial (xs ++ new ∷ []) xs (last_left (has_serial serial) xs new (ne_eqb new.serial serial (λ e. other (sym e))))

pub params_last : (xs : List Action) (new : Action) → Each (λ x. has_serial new.serial x ≡ false) xs → params_in (xs ++ new ∷ []) new.serial ≡ Some new.params
params_last xs new none =
    ap params_of (first_head (has_serial new.serial) (xs ++ new ∷ [])
    ∙ ap head_of (last_kept (has_serial new.serial) xs new (eq-eqb new.serial new.serial refl) ∙ ap (λ ys. ys ++ new ∷ []) (filter_none (has_serial new.serial) xs none)))

-- ---- actions that keep serials and parameters
pub params_mapped : (f : Action → Action) → ((x : Action) → (f x).serial ≡ x.serial) → ((x : Action) → (f x).params ≡ x.params) → (serial : ℕ) (xs : List Action) →
    params_in (map f xs) serial ≡ params_in xs serial
params_mapped f serials params serial [] = refl
params_mapped f serials params serial (x ∷ xs) =
    ap (λ n. params_of (cond (n == serial) (Some (f x)) (first_where (has_serial serial) (map f xs)))) (serials x) ∙ step (x.serial == serial) (params_mapped f serials params serial xs)
  where
    step : (b : Bool) → params_in (map f xs) serial ≡ params_in xs serial →
        params_of (cond b (Some (f x)) (first_where (has_serial serial) (map f xs))) ≡ params_of (cond b (Some x) (first_where (has_serial serial) xs))
    step true e = ap (λ p. Some p) (params x)
    step false e = e

-- ---- some taken out, where no two have one serial
abbrev pub Rise : Action → Action → Type 0
Rise x y = x.serial < y.serial

one_at_most : (keep : Action → Bool) (serial : ℕ) (xs : List Action) → EachPair Rise xs → Each (λ x. has_serial serial x ≡ true) xs →
    (head_of (filter keep xs) ≡ head_of xs) ⊎ (head_of (filter keep xs) ≡ None)
one_at_most keep serial [] rise all = inl refl
one_at_most keep serial (x ∷ []) rise all = step (keep x)
  where
    step : (b : Bool) → (head_of (cond b (x ∷ []) []) ≡ Some x) ⊎ (head_of (cond b (x ∷ []) []) ≡ None)
    step true = inl refl
    step false = inr refl
one_at_most keep serial (x ∷ y ∷ xs) rise all =
    let less = rise.0.0 in
    let first = eqb-true x.serial serial all.0 in
    let second = eqb-true y.serial serial all.1.0 in
    absurd (omega (arith, less, first, second))

either_params : (xs ys : List Action) → (head_of xs ≡ head_of ys) ⊎ (head_of xs ≡ None) → (params_of (head_of xs) ≡ params_of (head_of ys)) ⊎ (params_of (head_of xs) ≡ None)
either_params xs ys (inl same) = inl (ap params_of same)
either_params xs ys (inr none) = inr (ap params_of none)

-- the parameters stay, or the action is gone
abbrev pub StayOrGo : List Action → List Action → ℕ → Type 0
StayOrGo before after serial = (params_in after serial ≡ params_in before serial) ⊎ (params_in after serial ≡ None)

told_so : (before after : List Action) (serial : ℕ) (xs ys : List Action) → params_in after serial ≡ params_of (head_of xs) → params_in before serial ≡ params_of (head_of ys) →
    (params_of (head_of xs) ≡ params_of (head_of ys)) ⊎ (params_of (head_of xs) ≡ None) → StayOrGo before after serial
told_so before after serial xs ys a b (inl same) = inl (a ∙ same ∙ sym b)
told_so before after serial xs ys a b (inr none) = inr (a ∙ none)

pub params_left : (keep : Action → Bool) (serial : ℕ) (xs : List Action) → EachPair Rise xs → StayOrGo xs (filter keep xs) serial
params_left keep serial xs rise =
    let those : List Action = filter (has_serial serial) xs in
    told_so xs (filter keep xs) serial (filter keep those) those
    (ap params_of (first_head (has_serial serial) (filter keep xs) ∙ ap head_of (either_order (has_serial serial) keep xs))) (ap params_of (first_head (has_serial serial) xs))
    (either_params (filter keep those) those (one_at_most keep serial those (pairs_filter Rise (has_serial serial) xs rise) (each_passing (has_serial serial) xs)))

-- ---- other parameters for the action with a serial
module _ (test : Action → Bool) (params : Params) where
  abbrev given : Action → Action
  given x = if test x then put_params params x else x

  same_serial : (b : Bool) (x : Action) → (cond b (put_params params x) x).serial ≡ x.serial
  same_serial true x = refl
  same_serial false x = refl

  pub params_given : (serial : ℕ) (xs : List Action) → Each (λ x. test x ≡ has_serial serial x) xs → list_any (has_serial serial) xs ≡ true → params_in (change_where test (put_params params) xs) serial ≡ Some params
  params_given serial [] all some = absurd (false≢true some)
  params_given serial (x ∷ xs) all some =
      ap (λ n. params_of (cond (n == serial) (Some (given x)) after)) (same_serial (test x) x) ∙ step (x.serial == serial) all.0 some (params_given serial xs all.1)
    where
      after : Option Action
      after = first_where (has_serial serial) (change_where test (put_params params) xs)

      step : (b : Bool) → test x ≡ b → (b || list_any (has_serial serial) xs) ≡ true → (list_any (has_serial serial) xs ≡ true → params_of after ≡ Some params) →
          params_of (cond b (Some (given x)) after) ≡ Some params
      step true is some more = ap (λ b. Some (cond b (put_params params x) x).params) is
      step false is some more = more some

  pub params_spared : (serial : ℕ) (xs : List Action) → Each (λ x. has_serial serial x ≡ true → test x ≡ false) xs → params_in (change_where test (put_params params) xs) serial ≡ params_in xs serial
  params_spared serial [] all = refl
  params_spared serial (x ∷ xs) all =
      ap (λ n. params_of (cond (n == serial) (Some (given x)) after)) (same_serial (test x) x) ∙ step (x.serial == serial) all.0 (params_spared serial xs all.1)
    where
      after : Option Action
      after = first_where (has_serial serial) (change_where test (put_params params) xs)

      step : (b : Bool) → (b ≡ true → test x ≡ false) → params_of after ≡ params_in xs serial → params_of (cond b (Some (given x)) after) ≡ params_of (cond b (Some x) (first_where (has_serial serial) xs))
      step true spared e = ap (λ b. Some (cond b (put_params params x) x).params) (spared refl)
      step false spared e = e
