-- Changes that are kept of what is told at each point.
use Rattle.std.proofs.Common.{◌≡◌, ◌∙◌, ◌⊎◌, inl, inr, ℕ, zero, suc, ◌+◌, ◌≤◌, List, [], ◌∷◌, ◌++◌}
use Rattle.std.proofs.Common.{Option, Some, None, sym, ap, arith}
use Rattle.slot_pasts.specs.declared.past.Change.{Change}
use Rattle.slot_pasts.specs.Pasts.{value_at, UpTo}
use Rattle.slot_pasts.specs.Next.{IsPutAt, IsNextPut, IsSteady}
use Rattle.state_past_laws.proofs.Longer.{before_it, from_it}
use Rattle.state_past_laws.proofs.OfChanges.Moved.{up_to_more, grows_itself, grows_put}
use Rattle.state_past.specs.NextChange.{IsNextChange}
use Rattle.change_points.specs.Changes.{AreChanges}

module _ {V : Type 0} where
  some_none : (value : V) → Some value ≡ None → ⊥
  some_none value is = cc is

  -- ---- what is put where one change more is
  put_behind : (at : ℕ) (change : Change V) (past : List (Change V)) → IsPutAt (past ++ (change ∷ [])) at
      → IsPutAt past at ⊎ (change.from ≡ at)
  put_behind at change [] put = elim put [
    | inl is ↦ inr is
    | inr none ↦ inl none
  ]
  put_behind at change (first ∷ past) put = elim put [
    | inl is ↦ inl (inl is)
    | inr rest ↦ elim (put_behind at change past rest) [
      | inl own ↦ inl (inr own)
      | inr last ↦ inr last
    ]
  ]

  put_within : (most at : ℕ) (past : List (Change V)) → UpTo most past → IsPutAt past at → at ≤ most
  put_within most at [] up put = absurd put
  put_within most at (change ∷ past) up put = elim put [
    | inl is ↦ (let own : change.from ≤ most = up 0 change (omega arith) in omega (arith, own, is))
    | inr rest ↦ put_within most at past (λ k d less. up (suc k) d (omega (arith, less))) rest
  ]

  -- ---- one point more
  pub still_kept : (before point : ℕ) (past : List (Change V)) → AreChanges before point past
      → AreChanges before (point + 1) past
  still_kept before point past kept =
      let since = kept.since in
      record {
        since = omega (arith, since);
        up_to = up_to_more point (point + 1) past (omega arith) kept.up_to;
        differ = kept.differ;
      }

  pub more_kept : (before point : ℕ) (value : V) (past : List (Change V)) → AreChanges before point past
      → (value_at point past ≡ Some value → ⊥)
      → AreChanges before (point + 1) (past ++ (record { from = point + 1; value = value } ∷ []))
  more_kept before point value past kept other =
      let since = kept.since in
      let up = up_to_more point (point + 1) past (omega arith) kept.up_to in
      record {
        since = omega (arith, since);
        up_to = (grows_put (point + 1) value past past (grows_itself (point + 1) past up)).up_to;
        differ = λ at put same. elim (put_behind (suc at) (record { from = point + 1; value = value }) past put) [
          | inl own ↦ (let within = put_within point (suc at) past kept.up_to own in
              kept.differ at own (sym (before_it (suc at) (point + 1) value past (omega (arith, within))) ∙ same
              ∙ before_it at (point + 1) value past (omega (arith, within))))
          | inr last ↦ (let here : at ≡ point = omega (arith, last) in
              other (ap (λ (n : ℕ). value_at n past) (sym here)
              ∙ sym (before_it at (point + 1) value past (omega (arith, here))) ∙ sym same
              ∙ from_it (suc at) (point + 1) value past (omega (arith, here))))
        ];
      }

  -- ---- the next change is the next that is put
  pub next_is : (before last point : ℕ) (next : Option ℕ) (past : List (Change V)) → AreChanges before last past
      → IsNextPut past point next → IsSteady (λ at. value_at at past) point next
      → IsNextChange (λ at. value_at at past) point next
  next_is before last point None past kept put steady = record { other = tt; steady = steady }
  next_is before last point (Some zero) past kept put steady =
      let behind = put.behind in absurd (omega (arith, behind))
  next_is before last point (Some (suc at)) past kept put steady =
      let behind = put.behind in
      record {
        other = (
          behind,
          (λ same. kept.differ at put.put
              (same ∙ sym (steady at (omega (arith, behind)) (omega arith)))),
        );
        steady = steady;
      }
