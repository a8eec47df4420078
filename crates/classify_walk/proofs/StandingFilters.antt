-- What holds of the filters of a mask that stands in lists, and what a look-up in it answers.
use Rattle.std.proofs.Common.{◌≡◌, ◌∙◌, ℕ, ◌≤◌, ◌&&◌, Bool, true, false, cond, List, [], ◌∷◌, length, Option, Some, None, is_some, refl, sym, ap, subst}
use Rattle.std.specs.Prelude.{map, filter, find}
use Rattle.std.proofs.lemmas.Option.{none-some, same_Some}
use Rattle.flow_fields.specs.Values.{IsTidy}
use Rattle.filter_index.specs.declared.filter.Filter.{Filter}
use Rattle.filter_state.specs.States.{Row, State}
use Rattle.filter_state.specs.Order.{of_mask}
use Rattle.filter_state.specs.Sound.{Each, IsRow}
use Rattle.filter_state.specs.Tables.{first_where}
use Rattle.filter_tables.specs.Plain.{PlainMask}
use Rattle.filter_tables.specs.Whole.{HasSome}
use Rattle.filter_tables.specs.Rows.{row_of, rows_of_mask, all_rows}
use Rattle.hook_lists.specs.declared.kept.Kept.{Kept}
use Rattle.hook_lists.specs.States.{both_of, state_of}
use Rattle.filter_lists.specs.Spells.{Spells}
use Rattle.row_laws.proofs.OfLookups.Heads.{first_and}
use Rattle.filter_state.proofs.Pairs.{each_weaker, each_filter}
use Rattle.visit_room.specs.declared.names.ActionName.{ActionName}
use Rattle.walk_rules.specs.Questions.{filter_of}
use Rattle.walk_rules.specs.Answers.{meets, actions_or_none, answer_of}
use Rattle.walk_rules.proofs.OtherOrder.{answers_same}
use Rattle.walk_steps.specs.Told.{action_serials, filter_told}
use Rattle.classify_walk.specs.Answered.{StandsMask, StandsAction}
use Rattle.classify_walk.specs.Found.{IsMaskOf, is_met, actions_in, FewActions, AreTidy}
use Rattle.head_laws.proofs.MaskRows.{mask_rows, filters_stand}
use Rattle.classify_walk.proofs.MetFilters.{met_actions, told_is}

-- ---- of all to one
pub each_mapped : {X Y : Type 0} (P : Y → Type 0) (f : X → Y) (xs : List X) → Each P (map f xs) → Each (λ x. P (f x)) xs
each_mapped P f [] all = tt
each_mapped P f (x ∷ xs) all = (all.0, each_mapped P f xs all.1)

first_holds : (P : Filter → Type 0) (Q : Type 0) (filters : List Filter) → HasSome filters → Each P filters → ((f : Filter) → P f → Q) → Q
first_holds P Q [] some all tell = absurd some
first_holds P Q (f ∷ filters) some all tell = tell f all.0

found_step : {X : Type 0} (P : X → Type 0) (b : Bool) (x y : X) (o : Option X) → P x → (o ≡ Some y → P y) → cond b (Some x) o ≡ Some y → P y
found_step P true x y o here later e = subst P (same_Some x y e) here
found_step P false x y o here later e = later e

pub found_holds : {X : Type 0} (P : X → Type 0) (test : X → Bool) (xs : List X) (y : X) → find test xs ≡ Some y → Each P xs → P y
found_holds P test [] y e all = absurd (none-some y e)
found_holds P test (x ∷ xs) y e all = found_step P (test x) x y (find test xs) all.0 (λ later. found_holds P test xs y later all.1) e

actions_hold : (P : ℕ → Type 0) (found : Option Filter) → ((f : Filter) → found ≡ Some f → Each P f.actions) → Each P (actions_in found)
actions_hold P None holds = tt
actions_hold P (Some f) holds = holds f refl

-- ---- the filters of the mask
abbrev pub IsRowOf : (kept : Kept) (serial : ℕ) (m : PlainMask) → IsMaskOf kept serial m → Filter → Type 0
IsRowOf kept serial m is f = let stands = is.stands in IsRow (state_of kept) (row_of is.hook stands.table m f)

pub its_rows : (kept : Kept) (serial : ℕ) (m : PlainMask) (is : IsMaskOf kept serial m) → let stands = is.stands in filter (of_mask serial) (all_rows (both_of kept)) ≡ rows_of_mask is.hook stands.table m
its_rows kept serial m is =
    let stands = is.stands in
    let within = stands.within in
    let kept_is = is.kept in
    let sound = kept_is.sound in
    ap (λ n. filter (of_mask n) (all_rows (both_of kept))) (sym within.named)
    ∙ mask_rows (both_of kept) is.hook stands.place within.place stands.table m kept_is.whole sound.together stands.there within.there

pub filters_are : (kept : Kept) (serial : ℕ) (m : PlainMask) (is : IsMaskOf kept serial m) → Each (IsRowOf kept serial m is) m.filters
filters_are kept serial m is =
    let stands = is.stands in
    let kept_is = is.kept in
    let sound = kept_is.sound in
    each_mapped (IsRow (state_of kept)) (row_of is.hook stands.table m) m.filters
    (subst (Each (IsRow (state_of kept))) (its_rows kept serial m is) (each_filter (IsRow (state_of kept)) (of_mask serial) (all_rows (both_of kept)) sound.rows))

pub few_actions : (kept : Kept) (serial : ℕ) (m : PlainMask) → IsMaskOf kept serial m → FewActions m
few_actions kept serial m is = each_weaker (IsRowOf kept serial m is) (λ (f : Filter). length f.actions ≤ 16) (λ f row. row.most) m.filters (filters_are kept serial m is)

pub are_tidy : (kept : Kept) (serial : ℕ) (m : PlainMask) → IsMaskOf kept serial m → AreTidy m
are_tidy kept serial m is =
    let stands = is.stands in
    let within = stands.within in
    let kept_is = is.kept in
    let some : HasSome m.filters =
    filters_stand (both_of kept) is.hook stands.place within.place stands.table m kept_is.whole stands.there within.there in
    let rows = filters_are kept serial m is in record {
      mask_count = first_holds (IsRowOf kept serial m is) (length m.mask ≡ 14) m.filters some rows (λ f row. let keys = row.keys in keys.mask_count);
      keys_count = each_weaker (IsRowOf kept serial m is) (λ (f : Filter). length f.key.words ≡ 14) (λ f row. let keys = row.keys in keys.key_count) m.filters rows;
      mask_tidy = first_holds (IsRowOf kept serial m is) (IsTidy m.mask) m.filters some rows (λ f row. let keys = row.keys in keys.mask_tidy);
      keys_tidy = each_weaker (IsRowOf kept serial m is) (λ (f : Filter). IsTidy f.key.words) (λ f row. let keys = row.keys in keys.key_tidy) m.filters rows;
    }

-- ---- the answer
pub filter_answered : (kept : Kept) (serial table : ℕ) (m : PlainMask) (values : List ℕ) (s : State) → IsMaskOf kept serial m → StandsMask kept serial → Spells kept s →
    (result : Bool) (into : List ActionName) → result ≡ is_some (find (is_met values m) m.filters) → action_serials into ≡ actions_in (find (is_met values m) m.filters) →
    answer_of s (filter_of table serial values) ≡ Some (filter_told result into)
filter_answered kept serial table m values s is stands spelled result into found actions =
    let rows : List Row = all_rows (both_of kept) in
    sym (answers_same (state_of kept) s (filter_of table serial values) spelled)
    ∙ ap (λ b. cond b (Some (actions_or_none (first_where (λ row. of_mask serial row && meets values row) rows))) None) stands
    ∙ ap (λ o. Some (actions_or_none o)) (first_and (of_mask serial) (meets values) rows ∙ ap (first_where (meets values)) (its_rows kept serial m is))
    ∙ ap Some (met_actions is.hook (is.stands).table m values)
    ∙ ap Some (sym (told_is (find (is_met values m) m.filters) result into found actions))

pub actions_stand : (kept : Kept) (serial : ℕ) (m : PlainMask) (test : Filter → Bool) (into : List ActionName) → IsMaskOf kept serial m →
    action_serials into ≡ actions_in (find test m.filters) → Each (λ (action : ActionName). StandsAction kept action.serial) into
actions_stand kept serial m test into is actions =
    each_mapped (StandsAction kept) (λ (action : ActionName). action.serial) into
    (subst (Each (StandsAction kept)) (sym actions)
    (actions_hold (StandsAction kept) (find test m.filters)
    (λ f found. found_holds (λ (g : Filter). Each (StandsAction kept) g.actions) test m.filters f found
    (each_weaker (IsRowOf kept serial m is) (λ (g : Filter). Each (StandsAction kept) g.actions) (λ g row. row.live) m.filters (filters_are kept serial m is)))))
