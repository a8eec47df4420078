-- A walk on its way, by the walks that lead from there to an end.
use Rattle.std.proofs.Common.{◌≡◌, ℕ, Bool, true, false, ◌<◌, ◌==◌, nat_lt, List, [], ◌∷◌, ◌++◌, length, Some, refl, sym, ap, ◌∙◌, subst, arith, append_assoc, append-nil}
use Rattle.std.proofs.lemmas.Bool.Decides.{nat_tests}
use Rattle.visit_room.specs.declared.names.ActionName.{ActionName}
use Rattle.visit_room.specs.declared.table_head.TableHead.{TableHead}
use Rattle.walk_rules.specs.declared.verdict.Verdict.TheVariants as verdicts
use Rattle.walk_rules.specs.Questions.{Question, Answer}
use Rattle.walk_rules.specs.Steps.{Place, at_head, at_mask, at_action, ended, Standing, question_at}
use Rattle.walk_rules.specs.Walks.{Outcome, IsWalk, outcome_of, outcome_at, outcome_with}
use Rattle.walk_steps.specs.declared.course.Course.{Course}
use Rattle.walk_steps.specs.declared.course.Stage.{Stage}
use Rattle.walk_steps.specs.declared.course.Stage.TheVariants as stages
use Rattle.walk_steps.specs.declared.walk.Progress.TheVariants as progresses
use Rattle.walk_steps.specs.Standings.{IsStop, IsCourse, Stepped, place_of, standing_of}
use Rattle.walk_steps.specs.Walking.{progress_at, progress_of}
use Rattle.walk_steps.proofs.Visited.{is_asked}
use Rattle.walk_steps.proofs.Going.{asks_at}

-- each walk that goes on from there is the end of one from the first standing
abbrev pub LeadsOn : {V : Type 0} → (V → Question → Answer → ℕ → V → Type 0) → V → Course → V → Course → Type 0
LeadsOn {V = V} told before first between c = (points : List ℕ) (now : V) (outcome : Outcome) → IsWalk told between (standing_of c) points now outcome →
    (whole : List ℕ) × IsWalk told before (standing_of first) whole now outcome × (first.points ++ whole ≡ c.points ++ points)

pub leads_here : {V : Type 0} (told : V → Question → Answer → ℕ → V → Type 0) (before : V) (c : Course) → LeadsOn told before c before c
leads_here told before c = λ points now outcome walk. (points, walk, refl)

-- a visit before a walk is a walk
visit_first : {V : Type 0} (told : V → Question → Answer → ℕ → V → Type 0) (before between : V) (old new : Course) (s : Stepped told before between old new)
    (points : List ℕ) (now : V) (outcome : Outcome) → IsWalk told between (standing_of new) points now outcome →
    IsWalk told before (standing_of old) (s.point ∷ points) now outcome
visit_first {V = V} told before between old new s points now outcome walk =
    let P : Standing → Type 0 = λ st. IsWalk told between st points now outcome in
    (s.question, s.answer, between, s.asks, s.answered, subst P s.goes walk)

pub leads_further : {V : Type 0} (told : V → Question → Answer → ℕ → V → Type 0) (before between after : V) (first old new : Course) →
    LeadsOn told before first between old → Stepped told between after old new → LeadsOn told before first after new
leads_further told before between after first old new leads s = λ points now outcome walk.
    let all = leads (s.point ∷ points) now outcome (visit_first told between after old new s points now outcome walk) in
    (all.0, all.1, all.2 ∙ sym (ap (λ xs. xs ++ points) s.kept ∙ append_assoc old.points (s.point ∷ []) points))

-- ---- the end
-- all visits were made
at_last : (place : Place) (st : Standing) → st.visits ≡ 65536 → (outcome : Outcome) × (outcome_at place st ≡ Some outcome)
at_last (ended verdict) st last = (_, refl)
at_last at_head st last = let test : (st.visits == 65536) ≡ true = grind (arith, nat_tests) in (outcome_with verdicts.Drop st, rw test refl)
at_last (at_mask head masks tables) st last = let test : (st.visits == 65536) ≡ true = grind (arith, nat_tests) in (outcome_with verdicts.Drop st, rw test refl)
at_last (at_action head actions position jumps tables) st last =
    let test : (st.visits == 65536) ≡ true = grind (arith, nat_tests) in (outcome_with verdicts.Drop st, rw test refl)

-- nothing is asked any more
unasked : (heads : List TableHead) (hit : List ActionName) (stage : Stage) (st : Standing) → IsStop heads hit stage →
    (progresses.Going ≡ progress_at (question_at st (place_of heads hit stage)) → ⊥) →
    (outcome : Outcome) × (outcome_at (place_of heads hit stage) st ≡ Some outcome)
unasked heads hit stages.AtHead st stop none = absurd (none refl)
unasked heads hit (stages.AtMask table mask) st stop none =
    absurd (none (sym (ap progress_at (asks_at heads hit (stages.AtMask table mask) st stop (λ verdict same. cc)).1)))
unasked heads hit (stages.AtAction table run) st stop none =
    absurd (none (sym (ap progress_at (asks_at heads hit (stages.AtAction table run) st stop (λ verdict same. cc)).1)))
unasked heads hit (stages.Over verdict) st stop none = (_, refl)

by_count : (c : Course) (left : Bool) → nat_lt (length c.points) 65536 ≡ left → IsCourse c → (progresses.Going ≡ progress_of (standing_of c) → ⊥) →
    (outcome : Outcome) × (outcome_of (standing_of c) ≡ Some outcome)
by_count c true left course none =
    let some : length c.points < 65536 = grind (arith, nat_tests) in
    unasked c.heads.tables c.hit c.stage (standing_of c) course.stop (λ going. none (going ∙ sym (ap progress_at (is_asked (standing_of c) some))))
by_count c false left course none =
    let most = course.visits in
    let last : length c.points ≡ 65536 = grind (arith, nat_tests) in
    at_last (place_of c.heads.tables c.hit c.stage) (standing_of c) last

-- a walk that needs no visit more, or may make none, has ended so
pub leads_to_end : {V : Type 0} (told : V → Question → Answer → ℕ → V → Type 0) (before now : V) (first c : Course) →
    LeadsOn told before first now c → IsCourse c → (progresses.Going ≡ progress_of (standing_of c) → ⊥) →
    (points : List ℕ) × (outcome : Outcome) × IsWalk told before (standing_of first) points now outcome
    × (outcome_of (standing_of c) ≡ Some outcome) × (c.points ≡ first.points ++ points)
leads_to_end told before now first c leads course none =
    let end = by_count c (nat_lt (length c.points) 65536) refl course none in
    let all = leads [] now end.0 (refl, end.1) in
    (all.0, end.0, all.1, end.1, sym (all.2 ∙ append-nil c.points))
