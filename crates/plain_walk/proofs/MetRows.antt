-- What a look-up finds in a table is what decides there in each state that the lists spell.
use Rattle.std.proofs.Common.{◌≡◌, ◌∙◌, ℕ, suc, ◌+◌, ◌-◌, ◌<◌, nat_lt, cond, true, false, List, [], ◌∷◌, length, Option, Some, None, option_map, refl, sym, ap, subst, arith}
use Rattle.std.specs.Prelude.{◌≤◌}
use Rattle.std.proofs.lemmas.Bool.Decides.{nat_tests}
use Rattle.std.proofs.lemmas.Option.{none-some}
use Rattle.tc_base.specs.declared.hook.Hook.{Hook}
use Rattle.flow_fields.specs.Values.{values_of}
use Rattle.flow_dissect.specs.Fields.{frame_values}
use Rattle.filter_index.specs.declared.filter.Filter.{Filter}
use Rattle.filter_state.specs.States.{Row, State}
use Rattle.filter_state.specs.Order.{of_mask}
use Rattle.filter_state.specs.Sound.{Each, Sound}
use Rattle.filter_state.specs.Tables.{first_where}
use Rattle.filter_tables.specs.Plain.{PlainMask, PlainTable}
use Rattle.filter_tables.specs.Places.{item_at}
use Rattle.filter_tables.specs.Rows.{row_of, tables_on}
use Rattle.hook_lists.specs.declared.kept.Kept.{Kept}
use Rattle.hook_lists.specs.States.{both_of, state_of}
use Rattle.filter_lists.specs.Spells.{Spells}
use Rattle.filter_state.proofs.Pairs.{each_weaker}
use Rattle.filter_index.specs.Listed.{has_key}
use Rattle.flow_mask.specs.Masks.{each_and}
use Rattle.act_list.specs.declared.limits.TheConstants.{LIST_MAX}
use Rattle.state_laws.proofs.OfOrder.Same.{order_same}
use Rattle.state_laws.proofs.OfOrder.Soundness.{sound_same}
use Rattle.row_laws.proofs.OfLookups.Heads.{first_and}
use Rattle.row_laws.proofs.OfLookups.Found.{item_each}
use Rattle.walk_rules.specs.declared.verdict.Verdict.TheVariants as verdicts
use Rattle.walk_rules.specs.Questions.{Head}
use Rattle.walk_rules.specs.Answers.{meets}
use Rattle.walk_rules.specs.Walks.{Outcome}
use Rattle.walk_rules.specs.Plain.{Carried, ends_with, decider, filter_outcome, decided, table_outcome}
use Rattle.walk_rules.specs.Plain as plain
use Rattle.walk_rules.proofs.Deciding.{IsKept, meeting, or_later, one_or_more, masks_met, decides, looks}
use Rattle.walk_rules.proofs.Deciding as rows
use Rattle.walk_rules.proofs.KeptHeads.{heads_kept}
use Rattle.head_laws.specs.Heads.{serials_of, head_of}
use Rattle.head_laws.proofs.ListedHeads.{heads_listed}
use Rattle.classify_walk.specs.Found.{IsMaskOf}
use Rattle.classify_walk.proofs.EvenKeys.{all_even}
use Rattle.classify_walk.proofs.MetFilters.{found_is_met}
use Rattle.classify_walk.proofs.MetFilters as filters
use Rattle.classify_walk.specs.Answered.{StandsAction}
use Rattle.classify_walk.proofs.StandingFilters.{each_mapped, found_holds, IsRowOf, its_rows, filters_are, are_tidy}
use Rattle.plain_walk.specs.Lookups.{met_in, or_else, first_met, up_to, looked_at}
use Rattle.plain_walk.specs.Places.{IsTableOf}

-- ---- all elements, by their places
each_at : {X : Type 0} (P : X → Type 0) (xs : List X) → ((place : ℕ) (x : X) → item_at xs place ≡ Some x → P x) → Each P xs
each_at P [] at = tt
each_at P (x ∷ xs) at = (at 0 x refl, each_at P xs (λ place y there. at (suc place) y there))

-- ---- one mask of a table
abbrev pub mask_of : (kept : Kept) (t : PlainTable) → IsTableOf kept t → (place : ℕ) (m : PlainMask) → item_at t.masks place ≡ Some m → IsMaskOf kept m.serial m
mask_of kept t is place m there = record {
  kept = is.kept;
  hook = is.hook;
  stands = record { table = t; place = is.place; there = is.there; within = record { place = place; there = there; named = refl } };
}

-- the row that is met there is that of the filter that the mask has for the key
abbrev IsMet : Hook → PlainTable → List ℕ → List Row → PlainMask → Type 0
IsMet hook t words rs m = meeting (values_of words) rs m.serial ≡ option_map (row_of hook t m) (met_in words m)

one_met : (kept : Kept) (s : State) (t : PlainTable) (is : IsTableOf kept t) → Spells kept s → (words : List ℕ) → length words ≡ 14 → (place : ℕ) (m : PlainMask) → item_at t.masks place ≡ Some m →
    IsMet is.hook t words s.rows m
one_met kept s t is spelled words count place m there =
    let mask = mask_of kept t is place m there in
    let tidy = are_tidy kept m.serial m mask in
    first_and (of_mask m.serial) (meets (values_of words)) s.rows
    ∙ ap (first_where (meets (values_of words))) (sym (order_same m.serial spelled.rows) ∙ its_rows kept m.serial m mask)
    ∙ filters.first_met is.hook t m (values_of words) m.filters
    ∙ ap (option_map (row_of is.hook t m)) (sym (found_is_met words m (all_even words m count tidy) tidy))

-- ---- the masks in turn
abbrev pub acts_of : Option Filter → Option (List ℕ)
acts_of found = option_map (λ (f : Filter). f.actions) found

abbrev acts_in : Option Row → Option (List ℕ)
acts_in row = option_map (λ (r : Row). r.actions) row

module _ (hook : Hook) (t : PlainTable) (words : List ℕ) (rs : List Row) where
  count_one : (m : PlainMask) (found : Option Filter) (n k : ℕ) → n ≡ k → one_or_more (option_map (row_of hook t m) found) n ≡ up_to found k
  count_one m None n k e = ap suc e
  count_one m (Some f) n k e = refl

  counts : (masks : List PlainMask) → Each (IsMet hook t words rs) masks → masks_met (values_of words) rs (serials_of masks) ≡ looked_at words masks
  counts [] all = refl
  counts (m ∷ masks) all =
      ap (λ o. one_or_more o (masks_met (values_of words) rs (serials_of masks))) all.0
      ∙ count_one m (met_in words m) (masks_met (values_of words) rs (serials_of masks)) (looked_at words masks) (counts masks all.1)

  acts_one : (m : PlainMask) (found other : Option Filter) (later : Option Row) → acts_in later ≡ acts_of other →
      acts_in (or_later (option_map (row_of hook t m) found) later) ≡ acts_of (or_else found other)
  acts_one m None other later e = e
  acts_one m (Some f) other later e = refl

  acts_are : (masks : List PlainMask) → Each (IsMet hook t words rs) masks → acts_in (rows.first_met (values_of words) rs (serials_of masks)) ≡ acts_of (first_met words masks)
  acts_are [] all = refl
  acts_are (m ∷ masks) all =
      ap (λ o. acts_in (or_later o (rows.first_met (values_of words) rs (serials_of masks)))) all.0
      ∙ acts_one m (met_in words m) (first_met words masks) (rows.first_met (values_of words) rs (serials_of masks)) (acts_are masks all.1)

-- ---- a table
-- what follows the list that decides, if there is one
abbrev pub decided_by : State → (ℕ → ℕ → Carried → Outcome) → (ℕ → Carried → Outcome) → ℕ → Carried → Option (List ℕ) → Outcome
decided_by s restart next left carried None = next left carried
decided_by s restart next left carried (Some actions) = filter_outcome s restart next left carried actions

decided_is : (s : State) (restart : ℕ → ℕ → Carried → Outcome) (next : ℕ → Carried → Outcome) (left : ℕ) (carried : Carried) (row : Option Row) →
    decided s restart next left carried row ≡ decided_by s restart next left carried (acts_in row)
decided_is s restart next left carried None = refl
decided_is s restart next left carried (Some row) = refl

-- after so many masks were looked at
abbrev pub table_by : State → (ℕ → ℕ → Carried → Outcome) → (ℕ → Carried → Outcome) → ℕ → Carried → ℕ → Option (List ℕ) → Outcome
table_by s restart next left carried looked actions =
    cond (nat_lt left looked) (ends_with verdicts.Drop carried) (decided_by s restart next (left - looked) carried actions)

kept_head : (kept : Kept) (s : State) (t : PlainTable) → IsTableOf kept t → Spells kept s → IsKept s.rows (head_of t)
kept_head kept s t is spelled =
    let lists_kept = is.kept in
    let sound : Sound s = sound_same (state_of kept) s spelled lists_kept.sound in
    item_each (λ (u : PlainTable). IsKept s.rows (head_of u)) (tables_on is.hook (both_of kept)) is.place t
    (each_mapped (IsKept s.rows) head_of (tables_on is.hook (both_of kept))
    (subst (Each (IsKept s.rows)) (sym (heads_listed kept s is.hook lists_kept spelled)) (heads_kept is.hook s sound))) is.there

pub table_is : (kept : Kept) (s : State) (t : PlainTable) → IsTableOf kept t → Spells kept s → (words : List ℕ) → length words ≡ 14 →
    (restart : ℕ → ℕ → Carried → Outcome) (next : ℕ → Carried → Outcome) (left : ℕ) (carried : Carried) → values_of words ≡ frame_values carried.frame.bytes →
    table_outcome s restart next left carried (head_of t) (decider s (head_of t) carried.frame)
    ≡ table_by s restart next left carried (looked_at words t.masks) (acts_of (first_met words t.masks))
table_is kept s t is spelled words count restart next left carried same =
    let head : Head = head_of t in
    let stands = kept_head kept s t is spelled in
    let all : Each (IsMet is.hook t words s.rows) t.masks = each_at (IsMet is.hook t words s.rows) t.masks (one_met kept s t is spelled words count) in
    let row : Option Row = decider s head carried.frame in
    let found : row ≡ rows.first_met (values_of words) s.rows head.masks =
    sym (decides (frame_values carried.frame.bytes) s.rows head stands) ∙ ap (λ values. rows.first_met values s.rows head.masks) (sym same) in
    let looked : plain.looked_at head row ≡ looked_at words t.masks =
    ap (plain.looked_at head) found ∙ sym (looks (values_of words) s.rows head stands) ∙ counts is.hook t words s.rows t.masks all in
    let acts : acts_in row ≡ acts_of (first_met words t.masks) = ap acts_in found ∙ acts_are is.hook t words s.rows t.masks all in
    ap (λ then. cond (nat_lt left (plain.looked_at head row)) (ends_with verdicts.Drop carried) then) (decided_is s restart next (left - plain.looked_at head row) carried row)
    ∙ ap (λ n. table_by s restart next left carried n (acts_in row)) looked
    ∙ ap (table_by s restart next left carried (looked_at words t.masks)) acts

pub spent_table : (s : State) (restart : ℕ → ℕ → Carried → Outcome) (next : ℕ → Carried → Outcome) (left : ℕ) (carried : Carried) (looked : ℕ) (actions : Option (List ℕ)) → left < looked →
    table_by s restart next left carried looked actions ≡ ends_with verdicts.Drop carried
spent_table s restart next left carried looked actions less =
    let test : nat_lt left looked ≡ true = grind (arith, nat_tests) in
    ap (λ b. cond b (ends_with verdicts.Drop carried) (decided_by s restart next (left - looked) carried actions)) test

pub left_table : (s : State) (restart : ℕ → ℕ → Carried → Outcome) (next : ℕ → Carried → Outcome) (left after : ℕ) (carried : Carried) (looked : ℕ) (actions : Option (List ℕ)) →
    looked + after ≡ left → table_by s restart next left carried looked actions ≡ decided_by s restart next after carried actions
left_table s restart next left after carried looked actions is =
    let test : nat_lt left looked ≡ false = grind (arith, nat_tests) in
    let rest : left - looked ≡ after = omega arith in
    ap (λ b. cond b (ends_with verdicts.Drop carried) (decided_by s restart next (left - looked) carried actions)) test
    ∙ ap (λ n. decided_by s restart next n carried actions) rest

-- ---- the filter that is found
-- its actions stand in the lists, and are few
abbrev pub FitsList : Kept → Filter → Type 0
FitsList kept f = (length f.actions ≤ LIST_MAX) × Each (StandsAction kept) f.actions

either_has : (P : Filter → Type 0) (found other : Option Filter) (f : Filter) → or_else found other ≡ Some f → (found ≡ Some f → P f) → (other ≡ Some f → P f) → P f
either_has P (Some g) other f is here later = here is
either_has P None other f is here later = later is

met_has : (P : Filter → Type 0) (words : List ℕ) (masks : List PlainMask) (f : Filter) → Each (λ m. met_in words m ≡ Some f → P f) masks → first_met words masks ≡ Some f → P f
met_has P words [] f all is = absurd (none-some f is)
met_has P words (m ∷ masks) f all is = either_has P (met_in words m) (first_met words masks) f is all.0 (met_has P words masks f all.1)

pub met_fits : (kept : Kept) (t : PlainTable) → IsTableOf kept t → (words : List ℕ) (f : Filter) → first_met words t.masks ≡ Some f → FitsList kept f
met_fits kept t is words f found =
    met_has (FitsList kept) words t.masks f
    (each_at (λ m. met_in words m ≡ Some f → FitsList kept f) t.masks
    (λ place m there met.
    let mask = mask_of kept t is place m there in
    found_holds (FitsList kept) (has_key (each_and words m.mask)) m.filters f met
    (each_weaker (IsRowOf kept m.serial m mask) (FitsList kept) (λ g row. (row.most, row.live)) m.filters (filters_are kept m.serial m mask))))
    found
