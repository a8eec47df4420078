-- A fate that was found, as it is told (this project's own).
use Rattle.std.specs.Prelude.{ℕ, Bool, List, [], ◌∷◌, ◌++◌, length, map, if◌then◌else◌}
use Rattle.std.specs.List.{list_any}
use Rattle.std.specs.Option.{unwrap_or}
use Rattle.frame_edit.specs.declared.meta.Meta.{Meta}
use Rattle.frame_edit.specs.EditedFrame.{EditedFrame}
use Rattle.walk_rules.specs.declared.verdict.Verdict.{Verdict}
use Rattle.walk_rules.specs.declared.verdict.Verdict.TheVariants as verdicts
use Rattle.walk_rules.specs.Steps.{Standing}
use Rattle.walk_rules.specs.Walks.{Outcome, outcome_of, outcome_with}
use Rattle.walk_fate_laws.specs.Fates.{Fate, dropped, passed, same_fate}
use Rattle.walk_fate_laws.specs.Told.{Told}

-- how the first walk with that fate ended, and the point of each of its visits; the bytes of a packet that is
-- dropped are let go
pub record Found : Type 0 where
  pub verdict : Verdict
  pub length : ℕ
  pub meta : Meta
  pub bytes : List ℕ
  pub points : List ℕ

abbrev pub kept_bytes : Verdict → List ℕ → List ℕ
kept_bytes verdicts.Pass bytes = bytes
kept_bytes verdicts.Drop bytes = []

abbrev pub found_with : List ℕ → Verdict → EditedFrame → Found
found_with points verdict frame = record {
  verdict = verdict;
  length = length frame.bytes;
  meta = frame.meta;
  bytes = kept_bytes verdict frame.bytes;
  points = points;
}

abbrev pub found_by : List ℕ → Outcome → Found
found_by points outcome = found_with points outcome.verdict outcome.frame

-- the outcome of a walk that has ended
abbrev pub outcome_there : Standing → Outcome
outcome_there end = unwrap_or (outcome_of end) (outcome_with verdicts.Drop end)

-- WHAT IS FOUND OF A FATE THAT IS TOLD
abbrev pub found_of : Told → Found
found_of told = found_by told.item.points (outcome_there told.item.end)

abbrev pub all_found : List Told → List Found
all_found fates = map found_of fates

-- the fate that it is
abbrev pub fate_found_by : Verdict → List ℕ → Meta → Fate
fate_found_by verdicts.Drop bytes meta = dropped
fate_found_by verdicts.Pass bytes meta = passed bytes meta

abbrev pub fate_found : Found → Fate
fate_found found = fate_found_by found.verdict found.bytes found.meta

-- one more, where none before has its fate
abbrev pub is_known : List Found → Found → Bool
is_known founds found = list_any (λ (other : Found). same_fate (fate_found found) (fate_found other)) founds

abbrev pub noted : List Found → Found → List Found
noted founds found = if is_known founds found then founds else founds ++ (found ∷ [])
