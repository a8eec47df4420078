-- A walk of a packet without bytes, over states whose head is empty.
use Rattle.std.proofs.Common.{◌≡◌, ℕ, ◌≤◌, [], ◌∷◌, Some, refl, ap, arith}
use Rattle.tc_base.specs.declared.hook.Hook.TheVariants as hooks
use Rattle.frame_edit.specs.EditedFrame.{loaded_frame}
use Rattle.filter_state.specs.Journals.{state_at}
use Rattle.walk_rules.specs.declared.verdict.Verdict.TheVariants as verdicts
use Rattle.walk_rules.specs.Questions.{heads_of, told_heads}
use Rattle.walk_rules.specs.Heads.{heads_on}
use Rattle.lawful_runs.specs.Outcomes.{IsWalked}
use Rattle.lawful_runs.specs.Cases.{head_at, empty_packet, walked_by, three_edits}
use Rattle.lawful_runs.proofs.LawfulPoints.{lawful_points}

pub walks_at : (worker floor ceiling point : ℕ) → floor ≤ point → point ≤ ceiling → heads_on hooks.Ingress (state_at point three_edits) ≡ []
    → IsWalked three_edits floor ceiling empty_packet (walked_by worker (point ∷ []))
walks_at worker floor ceiling point least most empty = record {
  walk = record { verdict = verdicts.Pass; frame = loaded_frame []; executed = [] };
  visits = head_at point ∷ [];
  walks = (heads_of hooks.Ingress, told_heads [], head_at point ∷ [], refl, (ap (λ heads. Some (told_heads heads)) empty, refl), (refl, refl));
  recorded = record { verdict = refl; bytes = refl; meta = refl; executed = refl };
  points = lawful_points floor ceiling (head_at point) [] least ((omega arith, most), tt) (tt, tt);
}
