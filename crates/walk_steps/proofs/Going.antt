-- A walk that stands at a table has something to ask.
use Rattle.std.proofs.Common.{◌≡◌, ℕ, Bool, true, false, ◌<◌, ◌+◌, ◌==◌, cond, List, ◌∷◌, length, drop, get_or, Some, None, refl, sym, ap, ◌∙◌, subst, arith}
use Rattle.std.proofs.lemmas.List.{drop_more}
use Rattle.std.specs.Option.{IfSome}
use Rattle.visit_room.specs.declared.names.ActionName.{ActionName}
use Rattle.visit_room.specs.declared.table_head.TableHead.{TableHead}
use Rattle.walk_rules.specs.declared.verdict.Verdict.{Verdict}
use Rattle.walk_rules.specs.declared.verdict.Verdict.TheVariants as verdicts
use Rattle.walk_rules.specs.Questions.{Question}
use Rattle.walk_rules.specs.Steps.{Place, Standing, at_mask, question_at}
use Rattle.walk_rules.specs.Walks.{outcome_at, outcome_with}
use Rattle.walk_steps.specs.declared.course.Course.{Course}
use Rattle.walk_steps.specs.declared.course.Stage.{Stage}
use Rattle.walk_steps.specs.declared.course.Stage.TheVariants as stages
use Rattle.walk_steps.specs.declared.walk.Progress.TheVariants as progresses
use Rattle.walk_steps.specs.Told.{mask_serials, head_told, heads_told}
use Rattle.walk_steps.specs.Standings.{IsStop, IsMask, place_of, mask_place, standing_of}
use Rattle.walk_steps.specs.Walking.{progress_at, progress_of}
use Rattle.walk_steps.proofs.Drops.{no_table, as_many}
use Rattle.walk_steps.proofs.Acts.{action_opened}
use Rattle.walk_steps.proofs.Visited.{is_asked}

-- a mask that is there
pub mask_there : (heads : List TableHead) (table mask : ℕ) → table < length heads → IsMask heads table mask →
    mask_place (heads_told (drop table heads)) mask
    ≡ at_mask (head_told (get_or heads table no_table))
    (get_or (mask_serials (get_or heads table no_table).masks) mask 0 ∷ drop (mask + 1) (mask_serials (get_or heads table no_table).masks))
    (heads_told (drop (table + 1) heads))
mask_there heads table mask here is =
    let head = get_or heads table no_table in
    let inside = is no_table in
    let many = as_many head.masks in
    ap (λ tables. mask_place (heads_told tables) mask) (drop_more heads table no_table here)
    ∙ ap (λ rest. at_mask (head_told head) rest (heads_told (drop (table + 1) heads))) (drop_more (mask_serials head.masks) mask 0 (omega arith))

-- the walk is not over
abbrev pub IsOpen : Stage → Type 0
IsOpen stage = (verdict : Verdict) → stage ≡ stages.Over verdict → ⊥

-- something is asked there
pub asks_at : (heads : List TableHead) (hit : List ActionName) (stage : Stage) (st : Standing) → IsStop heads hit stage → IsOpen stage →
    (question : Question) × (question_at st (place_of heads hit stage) ≡ Some question)
asks_at heads hit stages.AtHead st stop unended = (_, refl)
asks_at heads hit (stages.AtMask table mask) st stop unended = (_, ap (question_at st) (mask_there heads table mask stop.0 stop.1))
asks_at heads hit (stages.AtAction table run) st stop unended = (_, ap (question_at st) (action_opened heads hit table run stop.0))
asks_at heads hit (stages.Over verdict) st stop unended = absurd (unended verdict refl)

pub is_going : (c : Course) → IsStop c.heads.tables c.hit c.stage → IsOpen c.stage → length c.points < 65536 → progresses.Going ≡ progress_of (standing_of c)
is_going c stop unended left =
    let asks = asks_at c.heads.tables c.hit c.stage (standing_of c) stop unended in
    sym (ap progress_at (is_asked (standing_of c) left ∙ asks.1))

-- a walk that is not over is dropped, if it has an outcome
dropped : (b : Bool) (st : Standing) → IfSome (cond b (Some (outcome_with verdicts.Drop st)) None) (λ outcome. verdicts.Drop ≡ outcome.verdict)
dropped true st = refl
dropped false st = tt

pub is_dropped : (heads : List TableHead) (hit : List ActionName) (stage : Stage) (st : Standing) → IsStop heads hit stage → IsOpen stage →
    IfSome (outcome_at (place_of heads hit stage) st) (λ outcome. verdicts.Drop ≡ outcome.verdict)
is_dropped heads hit stages.AtHead st stop unended = dropped (st.visits == 65536) st
is_dropped heads hit (stages.AtMask table mask) st stop unended =
    let P : Place → Type 0 = λ place. IfSome (outcome_at place st) (λ outcome. verdicts.Drop ≡ outcome.verdict) in
    subst P (sym (mask_there heads table mask stop.0 stop.1)) (dropped (st.visits == 65536) st)
is_dropped heads hit (stages.AtAction table run) st stop unended =
    let P : Place → Type 0 = λ place. IfSome (outcome_at place st) (λ outcome. verdicts.Drop ≡ outcome.verdict) in
    subst P (sym (action_opened heads hit table run stop.0)) (dropped (st.visits == 65536) st)
is_dropped heads hit (stages.Over verdict) st stop unended = absurd (unended verdict refl)
