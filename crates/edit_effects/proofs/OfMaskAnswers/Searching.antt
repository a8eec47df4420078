-- A search of a mask's filters for the frame's key under the mask answers what the state answers.
use Rattle.std.proofs.Common.{◌≡◌, ◌∙◌, ℕ, zero, suc, ◌&&◌, Bool, true, false, cond, List, [], ◌∷◌, length, map, filter, slice_get, Option, Some, None, refl, sym, ap, eqb-true}
use Rattle.std.specs.Str.{bytes_eq}
use Rattle.std.proofs.lemmas.Slice.Eq.{bytes_eq-Decides}
use Rattle.std.specs.Bool.{Decides}
use Rattle.flow_fields.specs.Values.{values_of}
use Rattle.flow_mask.specs.Masks.{each_and}
use Rattle.flow_mask.proofs.FieldsAndWords.{words_are_fields}
use Rattle.filter_state.specs.States.{Row, State}
use Rattle.filter_state.specs.Tables.{first_where}
use Rattle.filter_state.specs.Order.{of_mask}
use Rattle.filter_state.specs.Sound.{Each, EachPair, GoTogether, IsRow, Sound}
use Rattle.filter_state.proofs.Pairs.{each_both, each_weaker, pairs_all, pairs_weaker, found, any_first}
use Rattle.edit_effects.specs.OfEffects.Parts.{Filter, filter_of, filters_of, Stands, words_in, words_of}
use Rattle.walk_rules.specs.Questions.{Answer, told_no_filter, told_actions}
use Rattle.walk_rules.specs.Questions as questions
use Rattle.walk_rules.specs.Answers.{meets, actions_or_none, answer_of}
use Rattle.edit_effects.specs.OfMaskAnswers.Searched.{IsSearched, searched_told}

alike : (b c : Bool) → (b ≡ true → c ≡ true) → (c ≡ true → b ≡ true) → b ≡ c
alike true c there back = sym (there refl)
alike false true there back = back refl
alike false false there back = refl

-- ---- the rows of one mask
abbrev SameMask : Row → Row → Type 0
SameMask x y = x.mask_serial ≡ y.mask_serial → x.mask ≡ y.mask

abbrev OwnKeys : Row → Row → Type 0
OwnKeys x y = x.mask_serial ≡ y.mask_serial → x.key ≡ y.key → ⊥

go_same : (x y : Row) → GoTogether x y → SameMask x y
go_same x y g is = (g.same_mask is).1

go_own : (x y : Row) → GoTogether x y → OwnKeys x y
go_own x y g is key = let r = g.same_mask is in g.matches r.0 r.1 key

same_row : (m : ℕ) (row : Row) → of_mask m row ≡ true → row.mask_serial ≡ m
same_row m row e = eqb-true row.mask_serial m e

module _ (m : ℕ) (words mask : List ℕ) (long : length words ≡ 14) where
  abbrev key_is : Row → Bool
  key_is row = of_mask m row && bytes_eq row.key (each_and words mask)

  abbrev is_met : Row → Bool
  is_met row = of_mask m row && meets (values_of words) row

  -- the two tests say the same of a row
  same_test : (s : State) (row : Row) → (row.mask_serial ≡ m → row.mask ≡ mask) → IsRow s row → is_met row ≡ key_is row
  same_test s row own is = pick (of_mask m row) refl
    where
      one : row.mask ≡ mask → meets (values_of words) row ≡ bytes_eq row.key (each_and words mask)
      one same =
          let keys = is.keys in
          let law = words_are_fields words row.mask row.key (long ∙ sym keys.key_count) (keys.mask_count ∙ sym keys.key_count) keys.mask_tidy keys.key_tidy in
          let by_words = bytes_eq-Decides row.key (each_and words mask) in
          let by_fields = bytes_eq-Decides (each_and (values_of words) (values_of row.mask)) (values_of row.key) in
          alike (meets (values_of words) row) (bytes_eq row.key (each_and words mask))
          (λ met. by_words.1 (sym (law.1 (by_fields.0 met)) ∙ ap (each_and words) same))
          (λ key. by_fields.1 (law.0 (ap (each_and words) (same) ∙ sym (by_words.0 key))))

      pick : (t : Bool) → of_mask m row ≡ t → (t && meets (values_of words) row) ≡ (t && bytes_eq row.key (each_and words mask))
      pick false e = refl
      pick true e = one (own (same_row m row e))

  same_tests : (s : State) (rows : List Row) → Each (λ (row : Row). row.mask_serial ≡ m → row.mask ≡ mask) rows → Each (IsRow s) rows → Each (λ (row : Row). is_met row ≡ key_is row) rows
  same_tests s rows own is = each_both (λ (row : Row). row.mask_serial ≡ m → row.mask ≡ mask) (IsRow s) (λ (row : Row). is_met row ≡ key_is row) (same_test s) rows own is

  found_alike : (rows : List Row) → Each (λ (row : Row). is_met row ≡ key_is row) rows → first_where is_met rows ≡ first_where key_is rows
  found_alike [] all = refl
  found_alike (row ∷ rows) all = λ t. cond (all.0 t) (Some row) (found_alike rows all.1 t)

  abbrev of_rows : List Row → List Filter
  of_rows rows = map filter_of (filter (of_mask m) rows)

  -- behind a row of the mask with the key there is no other
  no_more : (row : Row) (xs : List Row) → Each (OwnKeys row) xs → row.mask_serial ≡ m → row.key ≡ each_and words mask → (place : ℕ) (f : Filter) → slice_get (of_rows xs) place ≡ Some f → f.key ≡ each_and words mask → ⊥
  no_more row [] all serial key place f at is_key = absurd (cc at)
  no_more row (x ∷ xs) all serial key place f at is_key = sort (of_mask m x) refl (λ p e. no_more row xs all.1 serial key p f e is_key) place at
    where
      sort : (t : Bool) → of_mask m x ≡ t → ((p : ℕ) → slice_get (of_rows xs) p ≡ Some f → ⊥) → (place : ℕ) → slice_get (map filter_of (cond t (x ∷ filter (of_mask m) xs) (filter (of_mask m) xs))) place ≡ Some f → ⊥
      sort false e rest place at = rest place at
      sort true e rest zero at = let same : filter_of x ≡ f = cc at in
          all.0 (serial ∙ sym (same_row m x e)) (key ∙ sym (ap (λ (g : Filter). g.key) same ∙ is_key))
      sort true e rest (suc place) at = rest place at

  -- what is searched among the filters is what is found among the rows
  searched : (rows : List Row) → EachPair OwnKeys rows → (hit : Bool) (actions : List ℕ) → IsSearched (of_rows rows) (each_and words mask) hit actions
      → actions_or_none (first_where key_is rows) ≡ searched_told hit actions
  searched [] own true actions is = let at = is.1.1 in absurd (cc at)
  searched [] own false actions is = refl
  searched (row ∷ rows) own hit actions is = pick (of_mask m row) (bytes_eq row.key (each_and words mask)) refl refl (searched rows own.1) hit is
    where
      decides : Decides (bytes_eq row.key (each_and words mask)) (row.key ≡ each_and words mask)
      decides = bytes_eq-Decides row.key (each_and words mask)

      here : (f : Filter) → f.key ≡ each_and words mask → actions ≡ f.actions → of_mask m row ≡ true → row.key ≡ each_and words mask → (place : ℕ)
          → slice_get (filter_of row ∷ map filter_of (filter (of_mask m) rows)) place ≡ Some f → told_actions row.actions ≡ told_actions actions
      here f key acts e d zero at = let same : filter_of row ≡ f = cc at in ap (λ (g : Filter). told_actions g.actions) same ∙ ap told_actions (sym acts)
      here f key acts e d (suc place) at = absurd (no_more row rows own.0 (same_row m row e) d place f at key)

      there : (f : Filter) → f.key ≡ each_and words mask → actions ≡ f.actions → bytes_eq row.key (each_and words mask) ≡ false
          → ((hit : Bool) (actions : List ℕ) → IsSearched (of_rows rows) (each_and words mask) hit actions → actions_or_none (first_where key_is rows) ≡ searched_told hit actions) → (place : ℕ)
          → slice_get (filter_of row ∷ map filter_of (filter (of_mask m) rows)) place ≡ Some f → actions_or_none (first_where key_is rows) ≡ told_actions actions
      there f key acts d rest zero at = let same : filter_of row ≡ f = cc at in let no = decides.1 (ap (λ (g : Filter). g.key) same ∙ key) in absurd (cc (no, d))
      there f key acts d rest (suc place) at = rest true actions (f, (place, at), key, acts)

      pick : (t q : Bool) → of_mask m row ≡ t → bytes_eq row.key (each_and words mask) ≡ q
          → ((hit : Bool) (actions : List ℕ) → IsSearched (of_rows rows) (each_and words mask) hit actions → actions_or_none (first_where key_is rows) ≡ searched_told hit actions)
          → (hit : Bool) → IsSearched (map filter_of (cond t (row ∷ filter (of_mask m) rows) (filter (of_mask m) rows))) (each_and words mask) hit actions
          → actions_or_none (cond (t && q) (Some row) (first_where key_is rows)) ≡ searched_told hit actions
      pick false q e d rest hit is = rest hit actions is
      pick true true e d rest false is = absurd (is (filter_of row) 0 refl (decides.0 d))
      pick true true e d rest true is = here is.0 is.2 is.3 e (decides.0 d) is.1.0 is.1.1
      pick true false e d rest false is = rest false actions (λ f place at. is f (suc place) at)
      pick true false e d rest true is = there is.0 is.2 is.3 d rest is.1.0 is.1.1

-- ---- the answer of a mask that stands
module _ (s : State) (m table : ℕ) (words : List ℕ) (hit : Bool) (actions : List ℕ) (sound : Sound s) (stands : Stands s m) (long : length words ≡ 14) where
  -- the words of each of its rows are the mask's
  own_words : Each (λ (row : Row). row.mask_serial ≡ m → row.mask ≡ words_of s m) s.rows
  own_words = pick (any_first (of_mask m) s.rows stands)
    where
      pick : (first : Row) × (first_where (of_mask m) s.rows ≡ Some first) → Each (λ (row : Row). row.mask_serial ≡ m → row.mask ≡ words_of s m) s.rows
      pick o = let all = pairs_all SameMask (λ x is. refl) (λ x y r is. sym (r (sym is))) s.rows (pairs_weaker GoTogether SameMask go_same s.rows sound.together) in
          let f = found (λ (x : Row). Each (SameMask x) s.rows) (of_mask m) s.rows o.0 all o.1 in
          each_weaker (SameMask o.0) (λ (row : Row). row.mask_serial ≡ m → row.mask ≡ words_of s m)
          (λ row r is. sym (r (same_row m o.0 f.1 ∙ sym is)) ∙ sym (ap words_in o.1)) s.rows f.0

  pub search_answers : IsSearched (filters_of s m) (each_and words (words_of s m)) hit actions
      → answer_of s (questions.filter_of table m (values_of words)) ≡ Some (searched_told hit actions)
  search_answers is =
      ap (λ (b : Bool). cond b (Some (actions_or_none (first_where (λ row. of_mask m row && meets (values_of words) row) s.rows))) None) stands
      ∙ ap (λ (o : Option Row). Some (actions_or_none o)) (found_alike m words (words_of s m) long s.rows (same_tests m words (words_of s m) long s s.rows own_words sound.rows))
      ∙ ap Some (searched m words (words_of s m) long s.rows (pairs_weaker GoTogether OwnKeys go_own s.rows sound.together) hit actions is)
