-- A past that tells a journal, with one edit more.
use Rattle.std.proofs.Common.{◌≡◌, ◌∙◌, ℕ, suc, ◌+◌, ◌<◌, ◌≤◌, Bool, true, false, List, [], ◌∷◌, ◌++◌, length, Option, Some, None, refl, sym, ap, arith, inl, inr}
use Rattle.std.specs.Prelude.{nat_le, if◌then◌else◌}
use Rattle.std.proofs.lemmas.Bool.{cases_lt}
use Rattle.std.proofs.lemmas.Bool.Decides.{nat_tests}
use Rattle.std.proofs.lemmas.List.{length-append, take-append-le, take_all}
use Rattle.std.proofs.lemmas.List.Elements.{All-append, All-cons, All-nil}
use Rattle.filter_state.specs.declared.edit.Edit.{Edit}
use Rattle.filter_state.specs.States.{State, no_state}
use Rattle.filter_state.specs.Journals.{state_from, state_at}
use Rattle.slot_pasts.specs.declared.past.Change.{Change}
use Rattle.slot_pasts.specs.Pasts.{or_earlier, value_at, UpTo}
use Rattle.state_past_laws.specs.Telling.{Tells}

reached : (from point : ℕ) → from ≤ point → nat_le from point ≡ true
reached from point least = grind (arith, nat_tests, least)

unreached : (from point : ℕ) → point < from → nat_le from point ≡ false
unreached from point less = grind (arith, nat_tests, less)

module _ {V : Type 0} where
  -- behind the last change nothing else comes
  pub settled : (most point : ℕ) (past : List (Change V)) → UpTo most past → most ≤ point → value_at point past ≡ value_at most past
  settled most point [] up least = refl
  settled most point (change ∷ past) up least =
      let from : change.from ≤ most = up 0 change (omega arith) in
      ap (λ (o : Option V). or_earlier o (if nat_le change.from point then Some change.value else None)) (settled most point past (λ k d less. up (suc k) d (omega (arith, less))) least)
      ∙ ap (λ (b : Bool). or_earlier (value_at most past) (if b then Some change.value else None))
      (reached change.from point (omega (arith, from, least)) ∙ sym (reached change.from most from))

  -- ---- one change more
  or_assoc : (a b c : Option V) → or_earlier a (or_earlier b c) ≡ or_earlier (or_earlier a b) c
  or_assoc (Some a) b c = refl
  or_assoc None b c = refl

  pushed : (point : ℕ) (past : List (Change V)) (change : Change V)
      → value_at point (past ++ (change ∷ [])) ≡ or_earlier (if nat_le change.from point then Some change.value else None) (value_at point past)
  pushed point [] change = alone (if nat_le change.from point then Some change.value else None)
    where
      alone : (o : Option V) → o ≡ or_earlier o None
      alone (Some value) = refl
      alone None = refl
  pushed point (first ∷ past) change =
      ap (λ (o : Option V). or_earlier o (if nat_le first.from point then Some first.value else None)) (pushed point past change)
      ∙ sym (or_assoc (if nat_le change.from point then Some change.value else None) (value_at point past) (if nat_le first.from point then Some first.value else None))

  pub before_it : (point from : ℕ) (value : V) (past : List (Change V)) → point < from → value_at point (past ++ (record { from = from; value = value } ∷ [])) ≡ value_at point past
  before_it point from value past less =
      pushed point past (record { from = from; value = value })
      ∙ ap (λ (b : Bool). or_earlier (if b then Some value else None) (value_at point past)) (unreached from point less)

  pub from_it : (point from : ℕ) (value : V) (past : List (Change V)) → from ≤ point → value_at point (past ++ (record { from = from; value = value } ∷ [])) ≡ Some value
  from_it point from value past least =
      pushed point past (record { from = from; value = value })
      ∙ ap (λ (b : Bool). or_earlier (if b then Some value else None) (value_at point past)) (reached from point least)

  weaker : (most more : ℕ) (past : List (Change V)) → most ≤ more → UpTo most past → UpTo more past
  weaker most more past least up = λ k d less. let own = up k d less in omega (arith, own, least)

  up_to_push : (most from : ℕ) (value : V) (past : List (Change V)) → from ≤ most → UpTo most past → UpTo most (past ++ (record { from = from; value = value } ∷ []))
  up_to_push most from value past least up =
      let IsUp : Change V → Type 0 = λ (change : Change V). change.from ≤ most in
      All-append IsUp past (record { from = from; value = value } ∷ []) up (All-cons IsUp (record { from = from; value = value }) [] least (All-nil IsUp))

-- ---- one edit more
module _ (journal : List Edit) (edit : Edit) where
  longer : List Edit
  longer = journal ++ (edit ∷ [])

  count : length (journal ++ (edit ∷ [])) ≡ length journal + 1
  count = length-append journal (edit ∷ [])

  here : state_at (length journal) journal ≡ state_from no_state journal
  here = ap (state_from no_state) (take_all (length journal) journal (omega arith))

  earlier : (point : ℕ) → point < length journal + 1 → state_at point (journal ++ (edit ∷ [])) ≡ state_at point journal
  earlier point less = ap (state_from no_state) (take-append-le point journal (edit ∷ []) (omega (arith, less)))

  there : (point : ℕ) → length journal + 1 ≤ point → state_at point (journal ++ (edit ∷ [])) ≡ state_from no_state (journal ++ (edit ∷ []))
  there point least = let sum = count in ap (state_from no_state) (take_all point (journal ++ (edit ∷ [])) (omega (arith, sum, least)))

  pub stays : (V W : Type 0) (has : State → W) (read : Option V → W) (past : List (Change V)) → Tells has read past journal
      → has (state_from no_state (journal ++ (edit ∷ []))) ≡ has (state_from no_state journal) → Tells has read past (journal ++ (edit ∷ []))
  stays V W has read past tells same = record {
    told = λ point within. elim (cases_lt point (length journal + 1)) [
      | inl less ↦ ap has (earlier point less) ∙ tells.told point (omega (arith, less))
      | inr most ↦ ap has (there point (omega (arith, most))) ∙ same ∙ ap has (sym here) ∙ tells.told (length journal) (omega arith)
          ∙ ap read (sym (settled (length journal) point past tells.up_to (omega (arith, most))))
    ];
    up_to = let sum = count in weaker (length journal) (length (journal ++ (edit ∷ []))) past (omega (arith, sum)) tells.up_to;
  }

  pub comes : (V W : Type 0) (has : State → W) (read : Option V → W) (past : List (Change V)) (value : V) → Tells has read past journal
      → read (Some value) ≡ has (state_from no_state (journal ++ (edit ∷ []))) → Tells has read (past ++ (record { from = length journal + 1; value = value } ∷ [])) (journal ++ (edit ∷ []))
  comes V W has read past value tells new = record {
    told = λ point within. elim (cases_lt point (length journal + 1)) [
      | inl less ↦ ap has (earlier point less) ∙ tells.told point (omega (arith, less)) ∙ ap read (sym (before_it point (length journal + 1) value past less))
      | inr most ↦ ap has (there point (omega (arith, most))) ∙ sym new ∙ ap read (sym (from_it point (length journal + 1) value past (omega (arith, most))))
    ];
    up_to = let sum = count in
        up_to_push (length (journal ++ (edit ∷ []))) (length journal + 1) value past (omega (arith, sum)) (weaker (length journal) (length (journal ++ (edit ∷ []))) past (omega (arith, sum)) tells.up_to);
  }

  pub again : (V W : Type 0) (has : State → W) (read : Option V → W) (past : List (Change V)) (value : V) → Tells has read past (journal ++ (edit ∷ []))
      → read (Some value) ≡ has (state_from no_state (journal ++ (edit ∷ []))) → Tells has read (past ++ (record { from = length journal + 1; value = value } ∷ [])) (journal ++ (edit ∷ []))
  again V W has read past value tells new = record {
    told = λ point within. elim (cases_lt point (length journal + 1)) [
      | inl less ↦ let sum = count in tells.told point (omega (arith, less, sum)) ∙ ap read (sym (before_it point (length journal + 1) value past less))
      | inr most ↦ ap has (there point (omega (arith, most))) ∙ sym new ∙ ap read (sym (from_it point (length journal + 1) value past (omega (arith, most))))
    ];
    up_to = let sum = count in up_to_push (length (journal ++ (edit ∷ []))) (length journal + 1) value past (omega (arith, sum)) tells.up_to;
  }
