-- The filter that is found by a frame's key under the mask is the one whose fields the frame meets.
use Rattle.std.proofs.Common.{◌≡◌, ◌∙◌, ℕ, Bool, true, false, cond, List, [], ◌∷◌, length, Option, Some, None, option_map, is_some, refl, sym, ap}
use Rattle.std.specs.Prelude.{map, find}
use Rattle.std.specs.Str.{bytes_eq}
use Rattle.std.proofs.lemmas.Slice.Eq.{bytes_eq-Decides}
use Rattle.tc_base.specs.declared.hook.Hook.{Hook}
use Rattle.flow_fields.specs.Values.{values_of, IsTidy}
use Rattle.flow_mask.specs.Masks.{each_and}
use Rattle.flow_mask.proofs.FieldsAndWords.{words_are_fields}
use Rattle.filter_index.specs.declared.filter.Filter.{Filter}
use Rattle.filter_index.specs.Listed.{has_key}
use Rattle.filter_state.specs.States.{Row, State}
use Rattle.filter_state.specs.Sound.{Each, IsRow}
use Rattle.filter_state.specs.Tables.{first_where}
use Rattle.filter_tables.specs.Plain.{PlainMask, PlainTable}
use Rattle.filter_tables.specs.Rows.{row_of, rows_of_mask}
use Rattle.visit_room.specs.declared.names.ActionName.{ActionName}
use Rattle.walk_rules.specs.Questions.{told_actions}
use Rattle.walk_rules.specs.Answers.{meets, actions_or_none}
use Rattle.walk_steps.specs.Told.{filter_told, action_serials}
use Rattle.classify_walk.specs.Found.{is_met, actions_in, actions_told, AreTidy, AreEven}

-- ---- tests that agree
alike : (b c : Bool) → (b ≡ true → c ≡ true) → (c ≡ true → b ≡ true) → b ≡ c
alike true c there back = sym (there refl)
alike false true there back = back refl
alike false false there back = refl

found_step : {X : Type 0} (b c : Bool) (x : X) (o p : Option X) → b ≡ c → o ≡ p → cond b (Some x) o ≡ cond c (Some x) p
found_step true c x o p e same = ap (λ d. cond d (Some x) p) e
found_step false c x o p e same = same ∙ ap (λ d. cond d (Some x) p) e

found_alike : {X : Type 0} (p q : X → Bool) (xs : List X) → Each (λ x. p x ≡ q x) xs → find p xs ≡ find q xs
found_alike p q [] all = refl
found_alike p q (x ∷ xs) all = found_step (p x) (q x) x (find p xs) (find q xs) all.0 (found_alike p q xs all.1)

-- ---- words and fields
same_test : (words : List ℕ) (m : PlainMask) (f : Filter) → length m.mask ≡ length words → IsTidy m.mask → length f.key.words ≡ length words → IsTidy f.key.words →
    has_key (each_and words m.mask) f ≡ is_met (values_of words) m f
same_test words m f mask_even mask_tidy key_even key_tidy =
    let law = words_are_fields words m.mask f.key.words (sym key_even) (mask_even ∙ sym key_even) mask_tidy key_tidy in
    let by_words = bytes_eq-Decides f.key.words (each_and words m.mask) in
    let by_fields = bytes_eq-Decides (each_and (values_of words) (values_of m.mask)) (values_of f.key.words) in
    alike (bytes_eq f.key.words (each_and words m.mask)) (bytes_eq (each_and (values_of words) (values_of m.mask)) (values_of f.key.words))
    (λ is. by_fields.1 (law.0 (sym (by_words.0 is)))) (λ is. by_words.1 (sym (law.1 (by_fields.0 is))))

same_tests : (words : List ℕ) (m : PlainMask) (filters : List Filter) → length m.mask ≡ length words → IsTidy m.mask → Each (λ (f : Filter). length f.key.words ≡ length words) filters →
    Each (λ (f : Filter). IsTidy f.key.words) filters → Each (λ f. has_key (each_and words m.mask) f ≡ is_met (values_of words) m f) filters
same_tests words m [] mask_even mask_tidy even tidy = tt
same_tests words m (f ∷ filters) mask_even mask_tidy even tidy = (same_test words m f mask_even mask_tidy even.0 tidy.0, same_tests words m filters mask_even mask_tidy even.1 tidy.1)

pub found_is_met : (words : List ℕ) (m : PlainMask) → AreEven words m → AreTidy m → find (has_key (each_and words m.mask)) m.filters ≡ find (is_met (values_of words) m) m.filters
found_is_met words m even tidy =
    found_alike (has_key (each_and words m.mask)) (is_met (values_of words) m) m.filters
    (same_tests words m m.filters even.mask_even tidy.mask_tidy even.keys_even tidy.keys_tidy)

-- ---- a frame and a row
-- in a sound state a frame meets a row of a mask exactly where the row's key is the frame's under the mask
pub row_met : (s : State) (row : Row) (words : List ℕ) → IsRow s row → length words ≡ 14 →
    (meets (values_of words) row ≡ true → row.key ≡ each_and words row.mask) × (row.key ≡ each_and words row.mask → meets (values_of words) row ≡ true)
row_met s row words is count =
    let keys = is.keys in
    let law = words_are_fields words row.mask row.key (count ∙ sym keys.key_count) (keys.mask_count ∙ sym keys.key_count) keys.mask_tidy keys.key_tidy in
    let by_fields = bytes_eq-Decides (each_and (values_of words) (values_of row.mask)) (values_of row.key) in
    (λ met. sym (law.1 (by_fields.0 met)), λ same. by_fields.1 (law.0 (sym same)))

-- ---- the first row of the mask that is met
first_step : (hook : Hook) (t : PlainTable) (m : PlainMask) (b : Bool) (f : Filter) (o : Option Row) (p : Option Filter) → o ≡ option_map (row_of hook t m) p →
    cond b (Some (row_of hook t m f)) o ≡ option_map (row_of hook t m) (cond b (Some f) p)
first_step hook t m true f o p e = refl
first_step hook t m false f o p e = e

pub first_met : (hook : Hook) (t : PlainTable) (m : PlainMask) (values : List ℕ) (filters : List Filter) →
    first_where (meets values) (map (row_of hook t m) filters) ≡ option_map (row_of hook t m) (find (is_met values m) filters)
first_met hook t m values [] = refl
first_met hook t m values (f ∷ filters) =
    first_step hook t m (is_met values m f) f (first_where (meets values) (map (row_of hook t m) filters)) (find (is_met values m) filters) (first_met hook t m values filters)

row_actions : (hook : Hook) (t : PlainTable) (m : PlainMask) (o : Option Filter) → actions_or_none (option_map (row_of hook t m) o) ≡ actions_told o
row_actions hook t m None = refl
row_actions hook t m (Some f) = refl

pub met_actions : (hook : Hook) (t : PlainTable) (m : PlainMask) (values : List ℕ) →
    actions_or_none (first_where (meets values) (rows_of_mask hook t m)) ≡ actions_told (find (is_met values m) m.filters)
met_actions hook t m values = ap actions_or_none (first_met hook t m values m.filters) ∙ row_actions hook t m (find (is_met values m) m.filters)

-- ---- what is told
pub told_is : (found : Option Filter) (result : Bool) (into : List ActionName) → result ≡ is_some found → action_serials into ≡ actions_in found → filter_told result into ≡ actions_told found
told_is None result into is serials = ap (λ b. filter_told b into) is
told_is (Some f) result into is serials = ap (λ b. filter_told b into) is ∙ ap told_actions serials
