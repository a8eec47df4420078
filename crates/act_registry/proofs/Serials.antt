-- Entries by their serials, and by kind and index.
use Rattle.std.proofs.Common.{◌≡◌, ℕ, ◌<◌, ◌≤◌, true, false, ltb, List, length, get_or, inl, inr, subst, arith}
use Rattle.std.specs.List.Sorted.{IsPartitionPoint, IsNonDecreasingBy}
use Rattle.std.proofs.lemmas.Bool.{cases_lt}
use Rattle.std.proofs.lemmas.Bool.Decides.{nat_tests}
use Rattle.act_registry.specs.declared.entry.Entry.{Entry}
use Rattle.act_registry.specs.Entries.{AreRising, AreApart, has_serial, is_named}
use Rattle.act_registry.specs.OnePlace.{OnlyAt, NoPlace}

pub rising-order : {P : Type 0} (es : List (Entry P)) → AreRising es → IsNonDecreasingBy (λ e. e.serial) es
rising-order es rising = λ i j d le within.
    elim (cases_lt i j) [
      | inl less ↦ (let step = rising i j d less within in omega (arith, step))
      | inr same ↦
          let e : i ≡ j = omega (arith, le, same) in
          let Q : ℕ → Type 0 = λ k. (get_or es i d).serial ≤ (get_or es k d).serial in
          subst Q e (omega arith)
    ]

-- two places with one serial are one
pub serial-only : {P : Type 0} (serial : ℕ) (es : List (Entry P)) (at : ℕ) → AreRising es → at < length es →
    ((d : Entry P) → (get_or es at d).serial ≡ serial) → OnlyAt (has_serial serial) es at
serial-only serial es at rising within here = (
  within,
  (λ d. let e = here d in grind (arith, nat_tests)),
  λ k d inside other. elim (cases_lt k at) [
    | inl less ↦ (let step = rising k at d less within in let e = here d in grind (arith, nat_tests))
    | inr up ↦ elim (cases_lt at k) [
      | inl more ↦ (let step = rising at k d more inside in let e = here d in grind (arith, nat_tests))
      | inr le ↦ absurd (other (omega (arith, up, le)))
    ]
  ],
)

-- where the search by halving ended beside the serial, no entry has it
pub serial-none : {P : Type 0} (serial : ℕ) (es : List (Entry P)) (at : ℕ) → AreRising es →
    IsPartitionPoint (λ e. ltb e.serial serial ≡ true) (λ e. ltb e.serial serial ≡ false) es at →
    (at < length es → (d : Entry P) → ((get_or es at d).serial ≡ serial → ⊥)) → NoPlace (has_serial serial) es
serial-none serial es at rising point not_here = λ k d within.
    elim (cases_lt k at) [
      | inl less ↦ (let low = point.0 k d (omega arith) less in grind (arith, nat_tests))
      | inr up ↦
          let high = point.1 at d (omega arith) (omega arith) in
          let other = not_here (omega arith) d in
          elim (cases_lt at k) [
            | inl more ↦ (let step = rising at k d more within in grind (arith, nat_tests))
            | inr le ↦
                let e : at ≡ k = omega (arith, up, le) in
                let Q : ℕ → Type 0 = λ n. has_serial serial (get_or es n d) ≡ false in
                subst Q e (grind (arith, nat_tests))
          ]
    ]

-- two entries with one kind and index are one
named-later : {P : Type 0} (kind_of : P → ℕ) (kind index : ℕ) (a b : Entry P) → is_named kind_of (kind_of b.params) b.index a ≡ false →
    is_named kind_of kind index b ≡ true → is_named kind_of kind index a ≡ false
named-later kind_of kind index a b apart named = grind (arith, nat_tests)

named-earlier : {P : Type 0} (kind_of : P → ℕ) (kind index : ℕ) (a b : Entry P) → is_named kind_of (kind_of b.params) b.index a ≡ false →
    is_named kind_of kind index a ≡ true → is_named kind_of kind index b ≡ false
named-earlier kind_of kind index a b apart named = grind (arith, nat_tests)

pub named-only : {P : Type 0} (kind_of : P → ℕ) (kind index : ℕ) (es : List (Entry P)) (at : ℕ) → AreApart kind_of es → at < length es →
    ((d : Entry P) → is_named kind_of kind index (get_or es at d) ≡ true) → OnlyAt (is_named kind_of kind index) es at
named-only kind_of kind index es at apart within here = (
  within,
  here,
  λ k d inside other. elim (cases_lt k at) [
    | inl less ↦ named-later kind_of kind index (get_or es k d) (get_or es at d) (apart k at d less within) (here d)
    | inr up ↦ elim (cases_lt at k) [
      | inl more ↦ named-earlier kind_of kind index (get_or es at d) (get_or es k d) (apart at k d more inside) (here d)
      | inr le ↦ absurd (other (omega (arith, up, le)))
    ]
  ],
)
