-- A look-up in a mask, and what follows it.
use Rattle.std.proofs.Common.{◌≡◌, ℕ, ◌+◌, ◌<◌, Some, List, [], ◌∷◌, ◌++◌, length, drop, get_or, refl, sym, ap, ◌∙◌, arith}
use Rattle.std.proofs.lemmas.List.{drop_more, get_or-map}
use Rattle.frame_edit.specs.Tags.{ether_type_of}
use Rattle.flow_fields.specs.Values.{values_of}
use Rattle.flow_dissect.specs.Fields.{frame_values}
use Rattle.visit_room.specs.declared.names.MaskName.{MaskName}
use Rattle.visit_room.specs.declared.names.ActionName.{ActionName}
use Rattle.visit_room.specs.declared.table_head.TableHead.{TableHead}
use Rattle.walk_rules.specs.Questions.{Head, filter_of, told_no_filter, told_actions}
use Rattle.walk_rules.specs.Steps.{Standing, at_mask, question_of, moved, after, after_found}
use Rattle.walk_steps.specs.declared.course.Course.{Course}
use Rattle.walk_steps.specs.declared.course.Stage.{Stage}
use Rattle.walk_steps.specs.declared.course.Stage.TheVariants as stages
use Rattle.walk_steps.specs.Told.{mask_serials, action_serials, head_told, heads_told}
use Rattle.walk_steps.specs.Standings.{place_of, mask_place, place_unhit, place_hit, standing_of, IsMask}
use Rattle.walk_steps.proofs.Drops.{opened, within, as_many}
use Rattle.walk_steps.proofs.Visited.{is_asked, gone}

-- the place is before a look-up in that mask
pub mask_opened : (heads given : List TableHead) (table mask : ℕ) (head : TableHead) (masks : List MaskName) (d : MaskName) → table < length heads →
    IsMask heads table mask → given ≡ heads → head ≡ get_or given table head → masks ≡ head.masks →
    mask_place (heads_told (drop table heads)) mask
    ≡ at_mask (head_told head) ((get_or masks mask d).serial ∷ drop (mask + 1) (mask_serials head.masks)) (heads_told (drop (table + 1) heads))
mask_opened heads given table mask head masks d here is_mask same is same_masks =
    let inside = within heads given table mask head same is is_mask in
    let many = as_many head.masks in
    let first : get_or (mask_serials head.masks) mask 0 ≡ (get_or masks mask d).serial =
    get_or-map (λ (x : MaskName). x.serial) head.masks mask d 0 inside ∙ ap (λ xs. (get_or xs mask d).serial) (sym same_masks) in
    ap (λ tables. mask_place tables mask) (opened heads given table head here same is)
    ∙ ap (λ rest. at_mask (head_told head) rest (heads_told (drop (table + 1) heads)))
    (drop_more (mask_serials head.masks) mask 0 (omega arith) ∙ ap (λ x. x ∷ drop (mask + 1) (mask_serials head.masks)) first)

-- what is asked there
pub mask_asked : (c : Course) (table mask serial : ℕ) (head : Head) (masks : List ℕ) (tables : List Head) → c.stage ≡ stages.AtMask table mask →
    mask_place (heads_told (drop table c.heads.tables)) mask ≡ at_mask head (serial ∷ masks) tables → length c.points < 65536 →
    values_of c.key.words ≡ frame_values c.frame.bytes → question_of (standing_of c) ≡ Some (filter_of head.serial serial (values_of c.key.words))
mask_asked c table mask serial head masks tables stage is left same = is_asked (standing_of c) left ∙ rw (stage, is, same) refl

-- no filter was found
pub goes_unhit : (c : Course) (hit : List ActionName) (points : List ℕ) (stop : Stage) (point table mask serial : ℕ) (head : Head) (masks : List ℕ) (tables : List Head) →
    c.stage ≡ stages.AtMask table mask → mask_place (heads_told (drop table c.heads.tables)) mask ≡ at_mask head (serial ∷ masks) tables →
    points ≡ c.points ++ (point ∷ []) →
    place_of c.heads.tables hit stop ≡ place_unhit (ether_type_of c.frame.bytes) (mask_place (heads_told (drop table c.heads.tables)) mask) →
    standing_of (record c { hit = hit; points = points; stage = stop }) ≡ after (standing_of c) told_no_filter
goes_unhit c hit points stop point table mask serial head masks tables stage is kept place =
    gone c hit points stop point _ kept place ∙ rw (stage, is) refl

-- a filter was found
after_hit : (st : Standing) (head : Head) (mask : ℕ) (masks : List ℕ) (tables : List Head) (hit : List ActionName) →
    moved st (place_hit hit (at_mask head (mask ∷ masks) tables)) ≡ after_found st head tables (action_serials hit)
after_hit st head mask masks tables [] = refl
after_hit st head mask masks tables (action ∷ actions) = refl

pub goes_hit : (c : Course) (hit : List ActionName) (points : List ℕ) (stop : Stage) (point table mask serial : ℕ) (head : Head) (masks : List ℕ) (tables : List Head) →
    c.stage ≡ stages.AtMask table mask → mask_place (heads_told (drop table c.heads.tables)) mask ≡ at_mask head (serial ∷ masks) tables →
    points ≡ c.points ++ (point ∷ []) →
    place_of c.heads.tables hit stop ≡ place_hit hit (mask_place (heads_told (drop table c.heads.tables)) mask) →
    standing_of (record c { hit = hit; points = points; stage = stop }) ≡ after (standing_of c) (told_actions (action_serials hit))
goes_hit c hit points stop point table mask serial head masks tables stage is kept place =
    gone c hit points stop point _ kept place ∙ rw (stage, is) (after_hit (standing_of c) head serial masks tables hit)
