-- The fate of a walk that has ended, and those that were found.
use Rattle.std.proofs.Common.{◌≡◌, ◌∙◌, ℕ, ◌==◌, Bool, true, false, List, [], ◌∷◌, map, take, Option, Some, None}
use Rattle.std.proofs.Common.{inl, inr, refl, sym, ap}
use Rattle.std.specs.Prelude.{if◌then◌else◌}
use Rattle.std.specs.Option.{option_map, unwrap_or}
use Rattle.std.proofs.lemmas.Option.{same_Some}
use Rattle.tc_base.specs.declared.hook.Hook.{Hook}
use Rattle.frame_edit.specs.EditedFrame.{EditedFrame}
use Rattle.walk_rules.specs.declared.limits.TheConstants.{VISITS_MAX}
use Rattle.walk_rules.specs.declared.verdict.Verdict.{Verdict}
use Rattle.walk_rules.specs.declared.verdict.Verdict.TheVariants as verdicts
use Rattle.walk_rules.specs.Steps.{Standing, Place, at_head, at_mask, at_action, ended}
use Rattle.walk_rules.specs.Walks.{Outcome, outcome_at, outcome_of, outcome_with}
use Rattle.point_walks.specs.Over.{Answering}
use Rattle.walk_fate_laws.specs.declared.kinds.When.{When}
use Rattle.walk_fate_laws.specs.Fates.{Fate, fate_by, fate_of, same_fate}
use Rattle.walk_fate_laws.specs.Firsts.{IsAmong}
use Rattle.walk_fate_laws.specs.declared.limits.TheConstants.{WAYS_MAX}
use Rattle.walk_fate_laws.specs.Walks.{ways_of}
use Rattle.walk_fate_laws.specs.Told.{Told, fate_at, told_fates}
use Rattle.walk_fate_laws.specs.Stays.{fate_at_end}
use Rattle.walk_fate_laws.specs.Times.{when_of, whens_at}
use Rattle.walk_fate_laws.proofs.Finding.{first_told}
use Rattle.fate_search.specs.Found.{Found, kept_bytes, found_by, outcome_there, found_of, all_found}
use Rattle.fate_search.specs.Found.{fate_found_by, fate_found}
use Rattle.fate_times.specs.Marks.{times_of}

-- ---- the outcome's frame is the walk's
frame_by : (b : Bool) (verdict : Verdict) (st : Standing) (outcome : Outcome)
    → (if b then Some (outcome_with verdict st) else None) ≡ Some outcome → outcome.frame ≡ st.frame
frame_by true verdict st outcome is =
    ap (λ (o : Outcome). o.frame) (sym (same_Some (outcome_with verdict st) outcome is))
frame_by false verdict st outcome is = absurd (cc is)

frame_at : (place : Place) (st : Standing) (outcome : Outcome) → outcome_at place st ≡ Some outcome
    → outcome.frame ≡ st.frame
frame_at at_head st outcome is = frame_by (st.visits == VISITS_MAX) verdicts.Drop st outcome is
frame_at (at_mask head masks tables) st outcome is =
    frame_by (st.visits == VISITS_MAX) verdicts.Drop st outcome is
frame_at (at_action head actions position jumps tables) st outcome is =
    frame_by (st.visits == VISITS_MAX) verdicts.Drop st outcome is
frame_at (ended verdict) st outcome is =
    ap (λ (o : Outcome). o.frame) (sym (same_Some (outcome_with verdict st) outcome is))

-- so its fate is that of its verdict and that frame
pub fate_is : (st : Standing) (outcome : Outcome) → outcome_of st ≡ Some outcome
    → fate_at_end st ≡ Some (fate_by outcome.verdict st.frame)
fate_is st outcome is = ap (option_map fate_of) is
    ∙ ap (λ (frame : EditedFrame). Some (fate_by outcome.verdict frame)) (frame_at st.place st outcome is)

-- ---- what is found of a fate that is told has that fate
found_fate : (verdict : Verdict) (points : List ℕ) (outcome : Outcome) → outcome.verdict ≡ verdict
    → fate_found (found_by points outcome) ≡ fate_of outcome
found_fate verdicts.Pass points outcome is =
    (λ x. fate_found_by (is x) (kept_bytes (is x) outcome.frame.bytes) outcome.frame.meta)
    ∙ sym (λ x. fate_by (is x) outcome.frame)
found_fate verdicts.Drop points outcome is =
    (λ x. fate_found_by (is x) (kept_bytes (is x) outcome.frame.bytes) outcome.frame.meta)
    ∙ sym (λ x. fate_by (is x) outcome.frame)

found_key : (told : Told) → fate_at told.item ≡ Some told.key → fate_found (found_of told) ≡ told.key
found_key told is = by_outcome (outcome_of told.item.end) refl
  where
    by_outcome : (o : Option Outcome) → outcome_of told.item.end ≡ o → fate_found (found_of told) ≡ told.key
    by_outcome None none = absurd (cc (ap (option_map fate_of) none, is))
    by_outcome (Some outcome) some =
        let there : outcome_there told.item.end ≡ outcome =
        ap (λ (o : Option Outcome). unwrap_or o (outcome_with verdicts.Drop told.item.end)) some in
        ap (λ (o : Outcome). fate_found (found_by told.item.points o)) there
        ∙ found_fate outcome.verdict told.item.points outcome refl
        ∙ same_Some (fate_of outcome) told.key (sym (ap (option_map fate_of) some) ∙ is)

module _ (answers : Answering) (before ceiling : ℕ) (hook : Hook) (bytes : List ℕ) where
  key_found : (told : Told) → IsAmong told (told_fates answers before ceiling hook bytes)
      → fate_found (found_of told) ≡ told.key
  key_found told there = found_key told
      (first_told same_fate fate_at [] (take WAYS_MAX (ways_of answers before ceiling hook bytes)) told
      there).key

  all_times : (when : Fate → When) (all : List Told)
      → ((told : Told) → IsAmong told all → fate_found (found_of told) ≡ told.key)
      → times_of when (all_found all) ≡ map (λ (told : Told). when told.key) all
  all_times when [] keys = refl
  all_times when (told ∷ all) keys =
      let rest = all_times when all (λ other there. keys other (inr there)) in
      let first = ap when (keys told (inl refl)) in λ x. first x ∷ rest x

  pub told_times : (fates : List Found) → fates ≡ all_found (told_fates answers before ceiling hook bytes)
      → times_of (when_of answers before ceiling hook bytes) fates
      ≡ whens_at answers before ceiling hook bytes
  told_times fates are = ap (times_of (when_of answers before ceiling hook bytes)) are
      ∙ all_times (when_of answers before ceiling hook bytes) (told_fates answers before ceiling hook bytes)
      key_found
