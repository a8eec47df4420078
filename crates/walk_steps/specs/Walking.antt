-- A walk as contracts see it.
use Rattle.std.specs.Prelude.{◌≡◌, ℕ, List, [], ◌∷◌, ◌++◌, Option, Some, None}
use Rattle.tc_base.specs.declared.hook.Hook.{Hook}
use Rattle.filter_state.specs.Sound.{Each}
use Rattle.visit_room.specs.declared.names.MaskName.{MaskName}
use Rattle.visit_room.specs.declared.names.ActionName.{ActionName}
use Rattle.visit_room.specs.declared.table_head.TableHead.{TableHead}
use Rattle.walk_rules.specs.Questions.{Question, Answer}
use Rattle.walk_rules.specs.Steps.{Standing, begun, question_of, after}
use Rattle.walk_steps.specs.declared.walk.Progress.{Progress}
use Rattle.walk_steps.specs.declared.walk.Progress.TheVariants as progresses
use Rattle.walk_steps.specs.Told.{MasksKnown}

-- where it stands, the points of its visits, and the names that it was told and may still ask for
pub record Walking : Type 0 where
  pub standing : Standing
  pub points : List ℕ
  pub heads : List TableHead
  pub actions : List ActionName

-- a further visit is needed, and may be made
abbrev pub IsOnWay : Standing → Type 0
IsOnWay st = (question : Question) × (question_of st ≡ Some question)

abbrev pub progress_at : Option Question → Progress
progress_at None = progresses.Ended
progress_at (Some question) = progresses.Going

abbrev pub progress_of : Standing → Progress
progress_of st = progress_at (question_of st)

-- nothing was visited yet
pub record IsBegun (hook : Hook) (bytes : List ℕ) (walk : Walking) : Type 0 where
  pub standing : walk.standing ≡ begun hook bytes
  pub points : walk.points ≡ []
  pub heads : walk.heads ≡ []
  pub actions : walk.actions ≡ []

-- whoever answers knows all that the walk was told and may still ask for
pub record KnowsTold {V : Type 0} (knows_mask : V → ℕ → MaskName → Type 0)
    (knows_action : V → ActionName → Type 0) (visits : V) (walk : Walking) : Type 0 where
  pub masks : MasksKnown (knows_mask visits) walk.heads
  pub actions : Each (knows_action visits) walk.actions

-- one visit was made, and the walk went on by its answer
pub record WasVisited {V : Type 0} (told : V → Question → Answer → ℕ → V → Type 0) (before now : V)
    (old new : Walking) : Type 0 where
  pub question : Question
  pub answer : Answer
  pub point : ℕ
  pub asks : question_of old.standing ≡ Some question
  pub answered : told before question answer point now
  pub goes : new.standing ≡ after old.standing answer
  pub points : new.points ≡ old.points ++ (point ∷ [])
