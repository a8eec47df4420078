-- A walk whose answers come from lists that stay as they are.
use Rattle.std.proofs.Common.{◌≡◌, ◌∙◌, ℕ, List, [], ◌∷◌, refl, sym, ap, subst}
use Rattle.std.proofs.lemmas.Option.{none-some}
use Rattle.tc_base.specs.declared.hook.Hook.{Hook}
use Rattle.filter_state.specs.States.{State}
use Rattle.filter_state.specs.Sound.{Each}
use Rattle.hook_lists.specs.declared.kept.Kept.{Kept}
use Rattle.hook_lists.specs.States.{state_of, AreKept}
use Rattle.filter_lists.specs.Spells.{Spells}
use Rattle.state_laws.proofs.OfOrder.Soundness.{sound_same}
use Rattle.walk_rules.specs.Questions.{Question, Answer}
use Rattle.walk_rules.specs.Steps.{Standing, begun}
use Rattle.walk_rules.specs.Walks.{Outcome, IsWalk}
use Rattle.walk_rules.specs.Plain.{plain_walk}
use Rattle.walk_rules.proofs.Stilled.{walk_is_plain}
use Rattle.classify_walk.specs.declared.still.Still.{Still}
use Rattle.classify_walk.specs.Answered.{StillTold}

-- what `Still` tells at a visit
abbrev pub told_still : Still → Question → Answer → ℕ → Still → Type 0
told_still old question answer point new = StillTold old.lists.now old.point question answer point × (new ≡ old)

-- a walk that has begun makes a visit
lists_kept : (hook : Hook) (bytes points : List ℕ) (before now : Still) (outcome : Outcome) → IsWalk told_still before (begun hook bytes) points now outcome → AreKept before.lists.now
lists_kept hook bytes [] before now outcome walk = absurd (none-some outcome walk.1)
lists_kept hook bytes (point ∷ points) before now outcome walk = let told = walk.4.0 in told.kept

pub still_is_plain : (hook : Hook) (bytes points : List ℕ) (before now : Still) (outcome : Outcome) → IsWalk told_still before (begun hook bytes) points now outcome →
    (s : State) → Spells before.lists.now s → outcome ≡ plain_walk s hook bytes
still_is_plain hook bytes points before now outcome walk s spelled =
    let kept : AreKept before.lists.now = lists_kept hook bytes points before now outcome walk in
    walk_is_plain s (sound_same (state_of before.lists.now) s spelled kept.sound) told_still (λ (still : Still). still.lists.now ≡ before.lists.now)
    (λ old new question answer point same told.
    let still = told.0 in
    (still.answers s (subst (λ (lists : Kept). Spells lists s) (sym same) spelled), ap (λ (it : Still). it.lists.now) told.1 ∙ same))
    hook bytes points before now outcome refl walk

pub all_at_point : (at : ℕ) (points : List ℕ) (before now : Still) (st : Standing) (outcome : Outcome) → before.point ≡ at → IsWalk told_still before st points now outcome →
    Each (λ visited. visited ≡ at) points
all_at_point at [] before now st outcome is walk = tt
all_at_point at (point ∷ points) before now st outcome is walk =
    let told = walk.4.0 in
    (told.here ∙ is, all_at_point at points walk.2 now _ outcome (ap (λ (it : Still). it.point) walk.4.1 ∙ is) walk.5)
