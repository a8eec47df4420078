-- A visit counts, and its point is kept.
use Rattle.std.proofs.Common.{◌≡◌, ℕ, true, ◌+◌, ◌<◌, nat_lt, List, [], ◌∷◌, ◌++◌, length, refl, ap, ◌∙◌, arith, length-append}
use Rattle.std.proofs.lemmas.Bool.Decides.{nat_tests}
use Rattle.visit_room.specs.declared.names.ActionName.{ActionName}
use Rattle.walk_rules.specs.Steps.{Place, Standing, question_at, question_of, moved}
use Rattle.walk_steps.specs.declared.course.Course.{Course}
use Rattle.walk_steps.specs.declared.course.Stage.{Stage}
use Rattle.walk_steps.specs.Standings.{place_of, standing_of}

-- another visit may be made
pub is_asked : (st : Standing) → st.visits < 65536 → question_of st ≡ question_at st st.place
is_asked st left = let test : nat_lt st.visits 65536 ≡ true = grind (arith, nat_tests) in rw test refl

pub one_more : (points given : List ℕ) (point : ℕ) → given ≡ points ++ (point ∷ []) → length given ≡ length points + 1
one_more points given point kept = ap length kept ∙ length-append points (point ∷ [])

-- a course that has gone on to a stage by a visit
pub gone : (c : Course) (hit : List ActionName) (points : List ℕ) (stage : Stage) (point : ℕ) (place : Place) → points ≡ c.points ++ (point ∷ []) →
    place_of c.heads.tables hit stage ≡ place → standing_of (record c { hit = hit; points = points; stage = stage }) ≡ moved (standing_of c) place
gone c hit points stage point place kept is = rw (one_more c.points points point kept, is) refl
