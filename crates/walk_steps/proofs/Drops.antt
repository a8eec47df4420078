-- Places by what is left of lists.
use Rattle.std.proofs.Common.{subst, ◌≡◌, ℕ, ◌+◌, ◌<◌, ◌≤◌, List, [], ◌∷◌, length, drop, get_or, refl, sym, ap, ◌∙◌, arith}
use Rattle.std.proofs.lemmas.List.{drop_more, drop_all, length-map}
use Rattle.tc_base.specs.declared.hook.Proto.TheVariants as protocols
use Rattle.act_list.specs.declared.run.Ending.{Ending}
use Rattle.visit_room.specs.declared.table_head.TableHead.{TableHead}
use Rattle.visit_room.specs.declared.names.MaskName.{MaskName}
use Rattle.walk_rules.specs.Questions.{Head}
use Rattle.walk_rules.specs.Steps.{Standing, at_mask, first_stop}
use Rattle.walk_steps.specs.Told.{mask_serials, head_told, heads_told}
use Rattle.walk_steps.specs.Standings.{IsMask, place_unhit, list_ended, list_ended_at}

abbrev pub no_table : TableHead
no_table = record { serial = 0; chain = 0; pref = 0; protocol = protocols.All; masks = [] }

abbrev pub no_mask : MaskName
no_mask = record { serial = 0; slot = 0 }

-- the tables from one on
pub opened : (heads given : List TableHead) (table : ℕ) (head : TableHead) → table < length heads → given ≡ heads → head ≡ get_or given table head →
    heads_told (drop table heads) ≡ head_told head ∷ heads_told (drop (table + 1) heads)
opened heads given table head here same is =
    ap heads_told (drop_more heads table head here) ∙ ap (λ x. head_told x ∷ heads_told (drop (table + 1) heads)) (sym (is ∙ ap (λ xs. get_or xs table head) same))

-- a mask of a table, by the table as it is read from a slice
pub within : (heads given : List TableHead) (table mask : ℕ) (head : TableHead) → given ≡ heads → head ≡ get_or given table head →
    IsMask heads table mask → mask < length head.masks
within heads given table mask head same is here =
    let P : TableHead → Type 0 = λ x. mask < length x.masks in
    subst P (sym (is ∙ ap (λ xs. get_or xs table head) same)) (here head)

-- the masks are as many as their serials
pub as_many : (masks : List MaskName) → length (mask_serials masks) ≡ length masks
as_many masks = length-map masks (λ (mask : MaskName). mask.serial)

-- a mask that had no filter, with a further one behind it
pub unhit_more : (head : TableHead) (mask ether : ℕ) (tables : List Head) → mask + 1 < length head.masks →
    at_mask (head_told head) (drop (mask + 1) (mask_serials head.masks)) tables
    ≡ place_unhit ether (at_mask (head_told head) (drop mask (mask_serials head.masks)) tables)
unhit_more head mask ether tables more =
    let same = as_many head.masks in
    rw (drop_more (mask_serials head.masks) mask 0 (omega arith), drop_more (mask_serials head.masks) (mask + 1) 0 (omega arith)) refl

-- the last mask of a table had no filter
pub unhit_last : (head : TableHead) (mask ether : ℕ) (tables : List Head) → mask < length head.masks → length head.masks ≤ mask + 1 →
    first_stop head.chain ether tables ≡ place_unhit ether (at_mask (head_told head) (drop mask (mask_serials head.masks)) tables)
unhit_last head mask ether tables here last =
    let same = as_many head.masks in
    rw (drop_more (mask_serials head.masks) mask 0 (omega arith), drop_all (mask + 1) (mask_serials head.masks) (omega arith)) refl

-- what follows the ending of a list, at a table that is there
pub ended_at : (st : Standing) (heads : List TableHead) (table : ℕ) (ending : Ending) → table < length heads →
    list_ended st (heads_told (drop table heads)) ending
    ≡ list_ended_at st (head_told (get_or heads table no_table)) (heads_told (drop (table + 1) heads)) ending
ended_at st heads table ending here = ap (λ tables. list_ended st (heads_told tables) ending) (drop_more heads table no_table here)
