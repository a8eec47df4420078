-- Branches stand where answers change.
use Rattle.std.proofs.Common.{◌≡◌, ◌∙◌, ℕ, zero, suc, ◌+◌, ◌-◌, ◌≤◌, [], ◌⊎◌, inl, inr, subst, arith, refl}
use Rattle.std.specs.Prelude.{◌≢◌}
use Rattle.std.specs.List.{range_with_len}
use Rattle.std.proofs.lemmas.Bool.{cases_lt}
use Rattle.walk_fate_laws.specs.Firsts.{IsAmong, First}
use Rattle.walk_fate_laws.specs.Games.{Game, IsExact}
use Rattle.walk_fate_laws.specs.Ways.{branches}
use Rattle.walk_fate_laws.proofs.Finding.{one_first}
use Rattle.walk_fate_laws.proofs.Searching.{has_branch, is_branch}

module _ {S Q A : Type 0} (g : Game S Q A) (ceiling : ℕ) where
  abbrev pub ChangesAt : (Q → ℕ) → Q → ℕ → Type 0
  ChangesAt low question point = (point ≡ low question) ⊎ ((before : ℕ) × (point ≡ suc before)
      × (low question ≤ before) × (g.answer before question ≢ g.answer point question))

  -- an answer that was given just before has its branch there or earlier
  not_before : IsExact g → (low : Q → ℕ) (question : Q) (b : First ℕ A) (before : ℕ)
      → IsAmong b (branches g ceiling low question) → b.item ≡ suc before → low question ≤ before
      → g.answer before question ≡ g.answer b.item question → ⊥
  not_before exact low question b before there at least same =
      let it = is_branch g ceiling low question b there in
      let most = it.most in
      let earlier = has_branch g ceiling exact low question before b.key least (omega (arith, at, most))
      (same ∙ it.told) in
      let one : earlier.branch ≡ b =
      one_first g.same (λ point. g.answer point question) exact.itself []
      (range_with_len (low question) ((ceiling + 1) - low question)) earlier.branch b earlier.there there
      earlier.told in
      let below = subst (λ (c : First ℕ A). c.item ≤ before) one earlier.least in
      absurd (omega (arith, below, at))

  pub at_change : IsExact g → (low : Q → ℕ) (question : Q) (b : First ℕ A)
      → IsAmong b (branches g ceiling low question) → ChangesAt low question b.item
  at_change exact low question b there = by_item b.item refl
    where
      least : low question ≤ b.item
      least = (is_branch g ceiling low question b there).least

      by_item : (n : ℕ) → b.item ≡ n → ChangesAt low question b.item
      by_item zero is = let bound = least in inl (omega (arith, is, bound))
      by_item (suc before) is = elim (cases_lt before (low question)) [
        | inl under ↦ (let bound = least in inl (omega (arith, is, bound, under)))
        | inr above ↦ inr (
          before,
          is,
          omega (arith, above),
          λ same. not_before exact low question b before there is (omega (arith, above)) same,
        )
      ]
