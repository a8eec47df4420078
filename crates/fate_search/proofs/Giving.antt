-- Between two changes no answer is given for the first time.
use Rattle.std.proofs.Common.{◌≡◌, ◌∙◌, ℕ, suc, ◌-◌, ◌<◌, ◌≤◌, Bool, true, false, ◌&&◌, not, Option, Some, None}
use Rattle.std.proofs.Common.{is_some, inl, inr, refl, sym, ap, arith}
use Rattle.std.proofs.lemmas.Bool.{cases_lt}
use Rattle.std.specs.List.{list_any, range_with_len}
use Rattle.walk_rules.specs.Questions.{Answer}
use Rattle.walk_fate_laws.proofs.Same.{answer_itself}
use Rattle.slot_pasts.specs.Next.{IsBefore, IsSteady}
use Rattle.state_past.specs.NextChange.{IsNextChange}
use Rattle.fate_search.specs.Branches.{same_told, is_given, is_first, IsNextFirst}
use Rattle.fate_search.proofs.Rows.{any_there, none_there}

none_given : (b t : Bool) → t ≡ true → (b && not t) ≡ false
none_given true t is = ap not is
none_given false t is = refl

and_true : (b t : Bool) → b ≡ true → t ≡ false → (b && not t) ≡ true
and_true true t is none = ap not none
and_true false t is none = absurd (cc is)

module _ (told : ℕ → Option Answer) (low : ℕ) where
  -- ---- what is given
  pub given_by : (point at : ℕ) → low ≤ at → at < point → same_told (told point) (told at) ≡ true
      → is_given told low point ≡ true
  given_by point at least less is =
      any_there (λ (earlier : ℕ). same_told (told point) (told earlier)) low (point - low) at least
      (omega (arith, least, less)) is

  pub not_given : (point : ℕ)
      → ((earlier : ℕ) → low ≤ earlier → earlier < point → same_told (told point) (told earlier) ≡ false)
      → is_given told low point ≡ false
  not_given point none =
      none_there (λ (earlier : ℕ). same_told (told point) (told earlier)) low (point - low)
      (λ at above below. none at above (omega (arith, above, below)))

  -- an answer that isn't given so far, nor where it changed last, isn't up to the next change
  abbrev pub NoneSame : Option Answer → ℕ → Type 0
  NoneSame o to = (earlier : ℕ) → low ≤ earlier → earlier < to → same_told o (told earlier) ≡ false

  pub none_same_ever : (o : Option Answer) (at point : ℕ) → NoneSame o at → same_told o (told at) ≡ false
      → IsNextChange told at None → NoneSame o point
  none_same_ever o at point none here change = λ earlier above below.
      elim (cases_lt earlier at) [
        | inl before ↦ none earlier above before
        | inr behind ↦ ap (same_told o) (change.steady earlier behind tt) ∙ here
      ]

  pub none_same_within : (o : Option Answer) (at point : ℕ) → NoneSame o at → point ≤ at → NoneSame o point
  none_same_within o at point none within = λ earlier above below.
      none earlier above (omega (arith, below, within))

  -- what a comparison with the answer that is held says
  pub held_same : (o other : Option Answer) (held now : Answer) (b : Bool) → o ≡ Some held → now ≡ held
      → b ≡ same_told (Some now) other → same_told o other ≡ b
  held_same o other held now b is kept same =
      ap (λ (p : Option Answer). same_told p other) (is ∙ ap (λ (a : Answer). Some a) (sym kept)) ∙ sym same

  -- ---- what comes later isn't first
  same_both : (one other : Option Answer) (answer : Answer) → one ≡ Some answer → other ≡ Some answer
      → same_told one other ≡ true
  same_both one other answer is at =
      ap (λ (o : Option Answer). same_told o other) is ∙ ap (same_told (Some answer)) at ∙ answer_itself answer

  pub later_not_first : (point at : ℕ) → low ≤ at → at < point → told point ≡ told at
      → is_first told low point ≡ false
  later_not_first point at least less same = by_answer (told at) refl
    where
      by_answer : (o : Option Answer) → told at ≡ o → is_first told low point ≡ false
      by_answer None is = ap (λ (o : Option Answer). is_some o && not (is_given told low point)) (same ∙ is)
      by_answer (Some answer) is =
          none_given (is_some (told point)) (is_given told low point)
          (given_by point at least less (same_both (told point) (told at) answer (same ∙ is) is))

  pub steady_not_first : (at : ℕ) (next : Option ℕ) (point : ℕ) → low ≤ at → IsSteady told at next
      → at < point → IsBefore point next → is_first told low point ≡ false
  steady_not_first at next point least steady less before =
      later_not_first point at least less (steady point (omega (arith, less)) before)

  -- ---- the first one from a point on
  abbrev pub NoneFrom : ℕ → ℕ → Type 0
  NoneFrom from to = (point : ℕ) → from ≤ point → point < to → is_first told low point ≡ false

  -- none before a change, and the point of the last change before it isn't one
  pub none_to_change : (from at later : ℕ) → low ≤ at → NoneFrom from at → is_first told low at ≡ false
      → IsNextChange told at (Some later) → NoneFrom from later
  none_to_change from at later least none here change = λ point above below.
      elim (cases_lt point at) [
        | inl before ↦ none point above before
        | inr behind ↦ (elim (cases_lt at point) [
          | inl less ↦ steady_not_first at (Some later) point least change.steady less below
          | inr most ↦ (let same : point ≡ at = omega (arith, behind, most) in ap (is_first told low) same ∙ here)
        ])
      ]

  pub none_at_all : (from at ceiling : ℕ) → low ≤ at → NoneFrom from at → is_first told low at ≡ false
      → IsNextChange told at None → IsNextFirst told low from ceiling None
  none_at_all from at ceiling least none here change = λ point above below.
      elim (cases_lt point at) [
        | inl before ↦ none point above before
        | inr behind ↦ (elim (cases_lt at point) [
          | inl less ↦ steady_not_first at None point least change.steady less tt
          | inr most ↦ (let same : point ≡ at = omega (arith, behind, most) in ap (is_first told low) same ∙ here)
        ])
      ]

  -- ---- the one behind a point
  pub behind_change : (at later ceiling : ℕ) (next : Option ℕ) → low ≤ at → IsNextChange told at (Some later)
      → IsNextFirst told low later ceiling next → IsNextFirst told low (suc at) ceiling next
  behind_change at later ceiling None least change none = λ point above below.
      elim (cases_lt point later) [
        | inl before ↦ steady_not_first at (Some later) point least change.steady (omega (arith, above)) before
        | inr behind ↦ none point behind below
      ]
  behind_change at later ceiling (Some next) least change found =
      let later_is = change.other.0 in let behind = found.0 in (
        omega (arith, later_is, behind),
        found.1,
        found.2,
        (λ point above below. elim (cases_lt point later) [
          | inl before ↦ steady_not_first at (Some later) point least change.steady (omega (arith, above)) before
          | inr within ↦ found.3 point within below
        ]),
      )

  pub behind_last : (at ceiling : ℕ) → low ≤ at → IsNextChange told at None → IsNextFirst told low (suc at) ceiling None
  behind_last at ceiling least change = λ point above below.
      steady_not_first at None point least change.steady (omega (arith, above)) tt

  -- ---- at the bound
  pub first_at_bound : is_first told low low ≡ is_some (told low)
  first_at_bound =
      let none : low - low ≡ 0 = omega arith in
      ap (λ (n : ℕ). is_some (told low) && not (list_any (λ (earlier : ℕ). same_told (told low) (told earlier))
      (range_with_len low n))) none ∙ plain (is_some (told low))
    where
      plain : (b : Bool) → (b && true) ≡ b
      plain true = refl
      plain false = refl
