-- When something is put next, found by halving.
use Rattle.std.proofs.Common.{◌≡◌, ◌∙◌, ◌⊎◌, inl, inr, ℕ, zero, suc, ◌<◌, ◌≤◌, Bool, true, false, refl, sym}
use Rattle.std.proofs.Common.{List, [], ◌∷◌, length, get_or, Option, Some, None, ap, subst, arith}
use Rattle.std.specs.Prelude.{nat_le, if◌then◌else◌}
use Rattle.std.proofs.lemmas.Bool.{cases_lt, le-leb, lt-leb}
use Rattle.slot_pasts.specs.declared.past.Change.{Change}
use Rattle.slot_pasts.specs.Pasts.{or_earlier, value_at}
use Rattle.slot_pasts.specs.Next.{IsPutAt, IsBefore, IsNextPut, IsSteady}

pub before_too : (one other : ℕ) (next : Option ℕ) → one ≤ other → IsBefore other next → IsBefore one next
before_too one other None less before = tt
before_too one other (Some next) less before = omega (arith, less, before)

-- nothing is put between, where each change is up to the one point, or not before the next
pub none_between : {V : Type 0} (point : ℕ) (next : Option ℕ) (changes : List (Change V))
    → ((i : ℕ) (d : Change V) → i < length changes
    → ((get_or changes i d).from ≤ point) ⊎ (IsBefore (get_or changes i d).from next → ⊥))
    → (other : ℕ) → point < other → IsBefore other next → IsPutAt changes other → ⊥
none_between point next [] apart other behind before put = put
none_between point next (change ∷ changes) apart other behind before (inl same) =
    elim (apart 0 change (omega arith)) [
      | inl most ↦ omega (arith, most, same, behind)
      | inr not ↦ not (before_too change.from other next (omega (arith, same)) before)
    ]
none_between point next (change ∷ changes) apart other behind before (inr put) =
    none_between point next changes (λ i d less. apart (suc i) d (omega (arith, less))) other behind before
    put

pub put_there : {V : Type 0} (k : ℕ) (changes : List (Change V)) (d : Change V) → k < length changes
    → IsPutAt changes (get_or changes k d).from
put_there k [] d within = absurd (omega (arith, within))
put_there zero (change ∷ changes) d within = inl refl
put_there (suc k) (change ∷ changes) d within = inr (put_there k changes d (omega (arith, within)))

module _ {V : Type 0} where
  pub never_put : (past : List (Change V)) (point : ℕ) (next : Option ℕ) → past ≡ [] → next ≡ None
      → IsNextPut past point next
  never_put past point next none is =
      subst (λ (p : List (Change V)). IsNextPut p point next) (sym none)
      (subst (λ (o : Option ℕ). IsNextPut {V = V} [] point o) (sym is)
      (record { behind = tt; put = tt; least = λ other behind before put. put }))

-- ---- what stands there meanwhile
alike : {V : Type 0} (change : Change V) (point later : ℕ) → point ≤ later
    → (point < change.from → change.from ≤ later → ⊥)
    → nat_le change.from later ≡ nat_le change.from point
alike change point later from none = elim (cases_lt point change.from) [
  | inr most ↦
      let long : nat_le change.from later ≡ true = le-leb change.from later (omega (arith, most, from)) in
      let short : nat_le change.from point ≡ true = le-leb change.from point most in long ∙ sym short
  | inl behind ↦ elim (cases_lt later change.from) [
    | inl late ↦ let long : nat_le change.from later ≡ false = lt-leb change.from later late in
        let short : nat_le change.from point ≡ false = lt-leb change.from point behind in long ∙ sym short
    | inr early ↦ absurd (none behind early)
  ]
]

pub steady_to : {V : Type 0} (changes : List (Change V)) (point : ℕ) (next : Option ℕ)
    → ((other : ℕ) → point < other → IsBefore other next → IsPutAt changes other → ⊥)
    → IsSteady (λ at. value_at at changes) point next
steady_to [] point next least later from before = refl
steady_to (change ∷ changes) point next least later from before =
    ap (λ (o : Option _). or_earlier o (if nat_le change.from later then Some change.value else None))
    (steady_to changes point next (λ other behind within put. least other behind within (inr put)) later from
    before)
    ∙ ap (λ (b : Bool). or_earlier (value_at point changes) (if b then Some change.value else None))
    (alike change point later from (λ behind early.
    least change.from behind (before_too change.from later next early before) (inl refl)))
