-- What a past finds is what the states answer.
use Rattle.std.proofs.Common.{◌≡◌, ◌∙◌, ℕ, List, [], ◌∷◌, length, Option, Some, None, option_map}
use Rattle.std.proofs.Common.{refl, sym, ap, subst}
use Rattle.flow_fields.specs.Values.{values_of}
use Rattle.flow_mask.specs.Masks.{each_and}
use Rattle.act_kinds.specs.declared.params.Params.{Params}
use Rattle.filter_state.specs.declared.edit.Edit.{Edit}
use Rattle.filter_state.specs.States.{Row, State}
use Rattle.filter_state.specs.Journals.{state_at}
use Rattle.filter_state.specs.Order.{of_mask}
use Rattle.filter_state.specs.Sound.{Sound, IsRow}
use Rattle.filter_state.specs.Tables.{first_where}
use Rattle.filter_state.proofs.Pairs.{found}
use Rattle.edit_effects.specs.OfEffects.Parts.{words_in, words_of}
use Rattle.edit_effects.specs.OfMaskAnswers.Searched.{searched_told}
use Rattle.walk_rules.specs.Questions.{Answer, filter_of, told_params}
use Rattle.walk_rules.specs.Answers.{answer_of}
use Rattle.slot_pasts.specs.Pasts.{value_at}
use Rattle.slot_pasts.specs.Serials.{past_at}
use Rattle.state_past_laws.specs.Slots.{is_taken, actions_in}
use Rattle.state_past.specs.declared.past.StatePast.{StatePast}
use Rattle.state_past.specs.Told.{words_told}
use Rattle.state_past.specs.Remembering.{Remembers}
use Rattle.state_past.specs.Found.{found_under, found_at}
use Rattle.state_past.proofs.Recalled.{unanswered, slot_answers, sound_there, slot_there, words_there}

-- the answer, of what was found
abbrev pub found_told : Option (Option (List ℕ)) → Option Answer
found_told None = None
found_told (Some o) = Some (searched_told (is_taken o) (actions_in o))

pub found_apart : (a b : Option (Option (List ℕ))) → found_told a ≡ found_told b → a ≡ b
found_apart None None same = refl
found_apart None (Some None) same = absurd (cc same)
found_apart None (Some (Some ys)) same = absurd (cc same)
found_apart (Some None) None same = absurd (cc same)
found_apart (Some (Some xs)) None same = absurd (cc same)
found_apart (Some None) (Some None) same = refl
found_apart (Some None) (Some (Some ys)) same = absurd (cc same)
found_apart (Some (Some xs)) (Some None) same = absurd (cc same)
found_apart (Some (Some xs)) (Some (Some ys)) same =
    let inner : xs ≡ ys = cc same in ap (λ (ns : List ℕ). Some (Some ns)) inner

pub params_apart : (a b : Option Params) → option_map told_params a ≡ option_map told_params b → a ≡ b
params_apart None None same = refl
params_apart None (Some y) same = absurd (cc same)
params_apart (Some x) None same = absurd (cc same)
params_apart (Some x) (Some y) same = let inner : x ≡ y = cc same in ap (λ (p : Params). Some p) inner

-- the words of a mask that stands
counted : (s : State) (mask : ℕ) (words : List ℕ) → Sound s → words_of s mask ≡ words → (words ≡ [] → ⊥)
    → length words ≡ 14
counted s mask words sound are some = pick (first_where (of_mask mask) s.rows) refl are
  where
    pick : (o : Option Row) → first_where (of_mask mask) s.rows ≡ o → words_in o ≡ words → length words ≡ 14
    pick None first same = absurd (some (sym same))
    pick (Some row) first same =
        let own = found (IsRow s) (of_mask mask) s.rows row sound.rows first in
        let keys = (own.0).keys in
        subst (λ (ws : List ℕ). length ws ≡ 14) same keys.mask_count

module _ (past : StatePast) (journal : List Edit) (remembers : Remembers past journal) (point : ℕ) where
  pub found_answers : (mask table : ℕ) (key : List ℕ) → length key ≡ 14
      → answer_of (state_at point journal) (filter_of table mask (values_of key))
      ≡ found_told (found_at past mask key point)
  found_answers mask table key long = by_words (words_told (value_at point (past_at past.masks mask))) refl
    where
      by_words : (words : List ℕ) → words_told (value_at point (past_at past.masks mask)) ≡ words
          → answer_of (state_at point journal) (filter_of table mask (values_of key))
          ≡ found_told (found_under past mask key point words)
      by_words [] is = unanswered (state_at point journal) mask table (values_of key)
          (sound_there past journal remembers point) (words_there past journal remembers point mask ∙ is)
      by_words (word ∷ words) is =
          let sound = sound_there past journal remembers point in
          let are = words_there past journal remembers point mask ∙ is in
          slot_answers (state_at point journal) mask table key (word ∷ words) _ sound are
          (counted (state_at point journal) mask (word ∷ words) sound are (λ none. cc none)) long
          (slot_there past journal remembers point mask (each_and key (word ∷ words)))
