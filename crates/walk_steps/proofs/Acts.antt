-- An action that ran, and what follows its control.
use Rattle.std.proofs.Common.{◌≡◌, ℕ, ◌+◌, ◌<◌, Some, List, [], ◌∷◌, ◌++◌, length, drop, get_or, refl, sym, ap, ◌∙◌}
use Rattle.std.proofs.lemmas.List.{drop_more, get_or-map, length-map}
use Rattle.act_kinds.specs.declared.params.Params.{Params}
use Rattle.act_kinds.specs.Acts.{control_given}
use Rattle.act_list.specs.declared.run.Ending.{Ending}
use Rattle.act_list.specs.declared.run.Ending.TheVariants as endings
use Rattle.act_list.specs.declared.run.Next.TheVariants as nexts
use Rattle.act_list.specs.Run as runs
use Rattle.act_list.specs.Run.{Run, Stand, on, over, stand_after}
use Rattle.visit_room.specs.declared.names.ActionName.{ActionName}
use Rattle.visit_room.specs.declared.table_head.TableHead.{TableHead}
use Rattle.walk_rules.specs.Questions.{Head, params_of, told_params}
use Rattle.walk_rules.specs.Steps.{Standing, at_action, action_at, question_of, ran, after, after_list, after_action}
use Rattle.walk_steps.specs.declared.course.Course.{Course}
use Rattle.walk_steps.specs.declared.course.Stage.TheVariants as stages
use Rattle.walk_steps.specs.declared.stand.Stand.TheVariants as told_stands
use Rattle.walk_steps.specs.Stands.{stand_of}
use Rattle.walk_steps.specs.Told.{action_serials, head_told, heads_told}
use Rattle.walk_steps.specs.Standings.{place_of, action_place, standing_of, stands_at, list_ended, list_ended_at}
use Rattle.walk_steps.proofs.Drops.{no_table, ended_at}
use Rattle.walk_steps.proofs.Visited.{is_asked, one_more}

-- ---- what the run of the list tells
pub goes_on : (run next : Run) (at : ℕ) (s : Stand) → nexts.At at ≡ runs.told s → next ≡ runs.moved run s → s ≡ on next.at next.jumps
goes_on run next at (on at' jumps) told is = rw is refl
goes_on run next at (over ending) told is = absurd (cc)

pub has_ended : (ending : Ending) (s : Stand) → nexts.Ended ending ≡ runs.told s → s ≡ over ending
has_ended ending (on at jumps) told = absurd (cc)
has_ended ending (over ending') told = cc

-- ---- places
abbrev pub no_action : ActionName
no_action = record { serial = 0; slot = 0 }

-- the place is before that action
pub action_opened : (heads : List TableHead) (hit : List ActionName) (table : ℕ) (run : Run) → table < length heads →
    place_of heads hit (stages.AtAction table run)
    ≡ at_action (head_told (get_or heads table no_table)) (action_serials hit) run.at run.jumps (heads_told (drop (table + 1) heads))
action_opened heads hit table run here =
    ap (λ tables. action_place (heads_told tables) (action_serials hit) run.at run.jumps) (drop_more heads table no_table here)

-- what is told of that place
pub told_at_action : (heads : List TableHead) (hit given : List ActionName) (table at : ℕ) (run : Run) → table < length heads → at ≡ run.at → given ≡ hit →
    told_stands.AtAction at (length given) ≡ stand_of (place_of heads hit (stages.AtAction table run))
told_at_action heads hit given table at run here same_at same =
    ap (λ position. told_stands.AtAction position (length given)) same_at
    ∙ ap (told_stands.AtAction run.at) (ap length same ∙ sym (length-map hit (λ (action : ActionName). action.serial)))
    ∙ sym (ap stand_of (action_opened heads hit table run here))

-- the serial of an action, as it is read from a slice
pub serial_at : (hit given : List ActionName) (at read : ℕ) (d : ActionName) → given ≡ hit → read ≡ at → at < length hit →
    (get_or given read d).serial ≡ action_at (action_serials hit) at
serial_at hit given at read d same is here =
    ap (λ xs. (get_or xs read d).serial) same ∙ ap (λ n. (get_or hit n d).serial) is ∙ sym (get_or-map (λ (x : ActionName). x.serial) hit at d 0 here)

-- what is asked there
pub action_asked : (c : Course) (table : ℕ) (run : Run) (serial : ℕ) → c.stage ≡ stages.AtAction table run → table < length c.heads.tables →
    serial ≡ action_at (action_serials c.hit) run.at → length c.points < 65536 →
    question_of (standing_of c) ≡ Some (params_of serial)
action_asked c table run serial stage here is left =
    is_asked (standing_of c) left ∙ rw (stage, action_opened c.heads.tables c.hit table run here, is) refl

-- ---- what follows
-- one visit more
abbrev pub counted : Standing → Standing
counted st = record st { visits = st.visits + 1 }

-- the execution of an action whose visit is counted
pub ran_counted : (c : Course) (points : List ℕ) (point serial : ℕ) (params : Params) → points ≡ c.points ++ (point ∷ []) →
    ran (standing_of (record c { points = points })) serial params ≡ counted (ran (standing_of c) serial params)
ran_counted c points point serial params kept = rw (one_more c.points points point kept) refl

list_counted : (st : Standing) (head : Head) (tables : List Head) (ending : Ending) →
    list_ended_at (counted st) head tables ending ≡ after_list st head tables ending
list_counted st head tables endings.Accept = refl
list_counted st head tables endings.Pipe = refl
list_counted st head tables endings.Shot = refl
list_counted st head tables endings.Unspec = refl
list_counted st head tables endings.Reclassify = refl
list_counted st head tables (endings.Goto chain) = refl

-- after the answer, by where the run of the list stands then
after_params : (c : Course) (table : ℕ) (run : Run) (params : Params) (s : Stand) → c.stage ≡ stages.AtAction table run → table < length c.heads.tables →
    run.length ≡ length c.hit → runs.after run (control_given params c.frame) ≡ s →
    after (standing_of c) (told_params params)
    ≡ after_action (ran (standing_of c) (action_at (action_serials c.hit) run.at) params) (head_told (get_or c.heads.tables table no_table)) (action_serials c.hit)
    (heads_told (drop (table + 1) c.heads.tables)) s
after_params c table run params s stage here same stands =
    let many : length (action_serials c.hit) ≡ run.length = length-map c.hit (λ (x : ActionName). x.serial) ∙ sym same in
    rw (stage, action_opened c.heads.tables c.hit table run here, many, stands) refl

-- the run goes on
pub goes_in_list : (c e : Course) (points : List ℕ) (point table serial : ℕ) (run next : Run) (params : Params) →
    c.stage ≡ stages.AtAction table run → table < length c.heads.tables → run.length ≡ length c.hit →
    points ≡ c.points ++ (point ∷ []) → serial ≡ action_at (action_serials c.hit) run.at →
    standing_of e ≡ ran (standing_of (record c { points = points })) serial params → e.heads.tables ≡ c.heads.tables → e.hit ≡ c.hit →
    runs.after run (control_given params c.frame) ≡ on next.at next.jumps →
    standing_of (record e { stage = stages.AtAction table next }) ≡ after (standing_of c) (told_params params)
goes_in_list c e points point table serial run next params stage here same kept is did heads hit stands =
    let head = head_told (get_or c.heads.tables table no_table) in
    let tables = heads_told (drop (table + 1) c.heads.tables) in
    let place : place_of e.heads.tables e.hit (stages.AtAction table next) ≡ at_action head (action_serials c.hit) next.at next.jumps tables =
    rw (heads, hit) (action_opened c.heads.tables c.hit table next here) in
    ap (λ st. stands_at st (place_of e.heads.tables e.hit (stages.AtAction table next))) (did ∙ ran_counted c points point serial params kept)
    ∙ rw (place, is, after_params c table run params _ stage here same stands) refl

-- the run has ended
pub goes_past_list : (c e : Course) (points : List ℕ) (point table serial : ℕ) (run : Run) (params : Params) (ending : Ending) →
    c.stage ≡ stages.AtAction table run → table < length c.heads.tables → run.length ≡ length c.hit →
    points ≡ c.points ++ (point ∷ []) → serial ≡ action_at (action_serials c.hit) run.at →
    standing_of e ≡ ran (standing_of (record c { points = points })) serial params → e.heads.tables ≡ c.heads.tables →
    runs.after run (control_given params c.frame) ≡ over ending →
    list_ended (standing_of e) (heads_told (drop table e.heads.tables)) ending ≡ after (standing_of c) (told_params params)
goes_past_list c e points point table serial run params ending stage here same kept is did heads stands =
    let head = head_told (get_or c.heads.tables table no_table) in
    let tables = heads_told (drop (table + 1) c.heads.tables) in
    ap (λ xs. list_ended (standing_of e) (heads_told (drop table xs)) ending) heads
    ∙ ended_at (standing_of e) c.heads.tables table ending here
    ∙ ap (λ st. list_ended_at st head tables ending) (did ∙ ran_counted c points point serial params kept)
    ∙ list_counted (ran (standing_of c) serial params) head tables ending
    ∙ rw (is, after_params c table run params _ stage here same stands) refl
