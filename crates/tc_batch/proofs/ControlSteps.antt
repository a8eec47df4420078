-- Controls and what follows them, a word on.
use Rattle.std.proofs.Common.{◌≡◌, ◌∙◌, ℕ, zero, suc, ◌⊎◌, true, false, List, [], ◌∷◌, ◌++◌, Option, Some, None, refl, sym, ap, subst, inl, inr}
use Rattle.std.specs.Prelude.{codes, IsSomeAnd}
use Rattle.std.specs.Str.{bytes_eq}
use Rattle.act_kinds.specs.declared.params.Params.{Params}
use Rattle.act_kinds.specs.Params.{with_control}
use Rattle.filter_state.specs.declared.action_line.ActionLine.{ActionLine}
use Rattle.filter_state.specs.declared.edit.Edit.{Edit}
use Rattle.tc_batch.specs.declared.action_keywords.Site.{Site}
use Rattle.tc_batch.specs.declared.action_keywords.ControlWord.{ControlWord}
use Rattle.tc_batch.specs.declared.action_keywords.ControlWord.TheVariants as control_words
use Rattle.tc_batch.specs.declared.draft.Head.{Head}
use Rattle.tc_batch.specs.States.{Context, State}
use Rattle.tc_batch.specs.declared.stage.Place.TheVariants as places
use Rattle.tc_batch.specs.ActionKeywords.{control_word}
use Rattle.tc_batch.specs.Actions.{full_action}
use Rattle.tc_batch.specs.Grammar.{Tail, ControlRest, ControlledBy, Placed, ActionList}
use Rattle.tc_batch.specs.Machine.{site_of, after_control, on_control, after_whole, after_placed, on_placed, on_acting}
use Rattle.tc_batch.proofs.Languages.{After, ActionLanguage, Language}
use Rattle.tc_batch.proofs.Choices.{Goes, choose, chosen, map_to, map_from, is_text, not_nil}
use Rattle.tc_batch.proofs.LineSteps.{listed_to, listed_from, list_not_index}

-- controls
pub rest_to : (edit : Edit) (context : Context) (base : Params) (words : List (List ℕ)) (it : ControlWord) → ControlRest (site_of context) (λ control. Tail (site_of context) (After edit context) (with_control base control)) it words → Language edit (after_control context base it) words
rest_to edit context base words (control_words.Plain control) h = h
rest_to edit context base words control_words.Jump h = h
rest_to edit context base words control_words.Goto h = h

pub rest_from : (edit : Edit) (context : Context) (base : Params) (words : List (List ℕ)) (it : ControlWord) → Language edit (after_control context base it) words → ControlRest (site_of context) (λ control. Tail (site_of context) (After edit context) (with_control base control)) it words
rest_from edit context base words (control_words.Plain control) h = h
rest_from edit context base words control_words.Jump h = h
rest_from edit context base words control_words.Goto h = h

pub control_to : (edit : Edit) (context : Context) (base : Params) (word : List ℕ) (words : List (List ℕ)) → ControlledBy (site_of context) (After edit context) base (word ∷ words) → Goes edit (on_control context base word) words
control_to edit context base word words h =
    map_to (control_word (site_of context) word) (after_control context base) (λ it. ControlRest (site_of context) (λ control. Tail (site_of context) (After edit context) (with_control base control)) it words) (λ s. Language edit s words) (rest_to edit context base words) h

pub control_from : (edit : Edit) (context : Context) (base : Params) (word : List ℕ) (words : List (List ℕ)) → Goes edit (on_control context base word) words → ControlledBy (site_of context) (After edit context) base (word ∷ words)
control_from edit context base word words h =
    map_from (control_word (site_of context) word) (after_control context base) (λ it. ControlRest (site_of context) (λ control. Tail (site_of context) (After edit context) (with_control base control)) it words) (λ s. Language edit s words) (rest_from edit context base words) h

-- no control begins with these words
pub no_control : {A : Type 0} (edit : Edit) (context : Context) (base : Params) (text word : List ℕ) (words : List (List ℕ)) → control_word (site_of context) text ≡ None → word ≡ text → ControlledBy (site_of context) (After edit context) base (word ∷ words) → A
no_control {A} edit context base text word words none is h =
    let e : control_word (site_of context) word ≡ None = ap (control_word (site_of context)) is ∙ none in
    absurd (subst (λ (o : Option ControlWord). IsSomeAnd o (λ it. ControlRest (site_of context) (λ control. Tail (site_of context) (After edit context) (with_control base control)) it words)) e h)

-- a tail begins with "index" or "action"
pub list_word : (edit : Edit) (head : Head) (actions : List ActionLine) (more : ℕ) (word : List ℕ) (words : List (List ℕ)) → ActionList more head edit actions (word ∷ words) → word ≡ codes "action"
list_word edit head actions zero word words (ends, is) = not_nil word words ends
list_word edit head actions (suc more) word words (inl (ends, is)) = not_nil word words ends
list_word edit head actions (suc more) word words (inr (is, h)) = is_text word (codes "action") is

pub tail_word : (edit : Edit) (context : Context) (base : Params) (word : List ℕ) (words : List (List ℕ)) → Tail (site_of context) (After edit context) base (word ∷ words) → (word ≡ codes "action") ⊎ (word ≡ codes "index")
tail_word edit (Context.Filter head actions more) base word words (inl h) = inl (list_word edit head (actions ++ (full_action base None ∷ [])) more word words h)
tail_word edit (Context.Filter head actions more) base word words (inr (is, h)) = inr (is_text word (codes "index") is)
tail_word edit Context.Add base word words (inl (ends, is)) = not_nil word words ends
tail_word edit Context.Add base word words (inr (is, h)) = inr (is_text word (codes "index") is)
tail_word edit Context.Change base word words (is, h) = inr (is_text word (codes "index") is)

pub whole_to : (edit : Edit) (context : Context) (given : Params) (word : List ℕ) (words : List (List ℕ)) → ActionLanguage edit context (places.Whole given) (word ∷ words) → Goes edit (on_acting context (places.Whole given) word) words
whole_to edit (Context.Filter head actions more) given word words (inl h) =
    choose (bytes_eq word (codes "index")) _ _ (λ s. Language edit s words)
    (λ hit. list_not_index edit head (actions ++ (full_action given None ∷ [])) more words (subst (λ (w : List ℕ). ActionList more head edit (actions ++ (full_action given None ∷ [])) (w ∷ words)) (is_text word (codes "index") hit) h))
    (λ miss. listed_to edit head (actions ++ (full_action given None ∷ [])) more word words h)
whole_to edit (Context.Filter head actions more) given word words (inr (is, h)) = choose (bytes_eq word (codes "index")) _ _ (λ s. Language edit s words) (λ hit. h) (λ miss. absurd (cc (is, miss)))
whole_to edit Context.Add given word words (inl (ends, is)) = not_nil word words ends
whole_to edit Context.Add given word words (inr (is, h)) = choose (bytes_eq word (codes "index")) _ _ (λ s. Language edit s words) (λ hit. h) (λ miss. absurd (cc (is, miss)))
whole_to edit Context.Change given word words (is, h) = choose (bytes_eq word (codes "index")) _ _ (λ s. Language edit s words) (λ hit. h) (λ miss. absurd (cc (is, miss)))

pub whole_from : (edit : Edit) (context : Context) (given : Params) (word : List ℕ) (words : List (List ℕ)) → Goes edit (on_acting context (places.Whole given) word) words → ActionLanguage edit context (places.Whole given) (word ∷ words)
whole_from edit (Context.Filter head actions more) given word words h =
    elim (chosen (bytes_eq word (codes "index")) _ _ (λ s. Language edit s words) h) [
      | inl hit ↦ inr (hit.0, hit.1)
      | inr miss ↦ inl (listed_from edit head (actions ++ (full_action given None ∷ [])) more word words miss.1)
    ]
whole_from edit Context.Add given word words h = elim (chosen (bytes_eq word (codes "index")) _ _ (λ s. Language edit s words) h) [ inl hit ↦ inr (hit.0, hit.1) | inr miss ↦ absurd miss.1 ]
whole_from edit Context.Change given word words h = elim (chosen (bytes_eq word (codes "index")) _ _ (λ s. Language edit s words) h) [ inl hit ↦ (hit.0, hit.1) | inr miss ↦ absurd miss.1 ]

-- the two ways after a whole of parameters
pub placed_control : (edit : Edit) (context : Context) (base : Params) (word : List ℕ) (words : List (List ℕ)) (it : Option ControlWord) → IsSomeAnd it (λ i. ControlRest (site_of context) (λ control. Tail (site_of context) (After edit context) (with_control base control)) i words) → Goes edit (after_placed context base word it) words
placed_control edit context base word words None h = absurd h
placed_control edit context base word words (Some it) h = rest_to edit context base words it h

pub action_none : (site : Site) → control_word site (codes "action") ≡ None
action_none site = refl

pub placed_to : (edit : Edit) (context : Context) (base : Params) (word : List ℕ) (words : List (List ℕ)) → Placed (site_of context) (After edit context) base (word ∷ words) → Goes edit (on_placed context base word) words
placed_to edit context base word words (inr h) =
    choose (bytes_eq word (codes "index")) _ _ (λ s. Language edit s words) (λ hit. no_control edit context base (codes "index") word words refl (is_text word (codes "index") hit) h) (λ miss. placed_control edit context base word words (control_word (site_of context) word) h)
placed_to edit context base word words (inl h) = at (tail_word edit context base word words h)
  where
    at : (word ≡ codes "action") ⊎ (word ≡ codes "index") → Goes edit (on_placed context base word) words
    at (inl is) = let w : Goes edit (on_acting context (places.Whole base) (codes "action")) words = whole_to edit context base (codes "action") words (subst (λ (v : List ℕ). Tail (site_of context) (After edit context) base (v ∷ words)) is h) in
        subst (λ (v : List ℕ). Goes edit (on_placed context base v) words) (sym is) w
    at (inr is) = let w : Goes edit (on_acting context (places.Whole base) (codes "index")) words = whole_to edit context base (codes "index") words (subst (λ (v : List ℕ). Tail (site_of context) (After edit context) base (v ∷ words)) is h) in
        subst (λ (v : List ℕ). Goes edit (on_placed context base v) words) (sym is) w

pub index_tail : (edit : Edit) (context : Context) (base : Params) (word : List ℕ) (words : List (List ℕ)) → bytes_eq word (codes "index") ≡ true → Language edit (State.Acting context (places.FullIndex base)) words → Tail (site_of context) (After edit context) base (word ∷ words)
index_tail edit (Context.Filter head actions more) base word words is h = inr (is, h)
index_tail edit Context.Add base word words is h = inr (is, h)
index_tail edit Context.Change base word words is h = (is, h)

pub after_tail : (edit : Edit) (context : Context) (base : Params) (word : List ℕ) (words : List (List ℕ)) → Goes edit (after_whole context base word) words → Tail (site_of context) (After edit context) base (word ∷ words)
after_tail edit (Context.Filter head actions more) base word words h = inl (listed_from edit head (actions ++ (full_action base None ∷ [])) more word words h)
after_tail edit Context.Add base word words h = absurd h
after_tail edit Context.Change base word words h = absurd h

pub placed_other : (edit : Edit) (context : Context) (base : Params) (word : List ℕ) (words : List (List ℕ)) (it : Option ControlWord) → control_word (site_of context) word ≡ it → Goes edit (after_placed context base word it) words → Placed (site_of context) (After edit context) base (word ∷ words)
placed_other edit context base word words None is h = inl (after_tail edit context base word words h)
placed_other edit context base word words (Some it) is h =
    inr (subst (λ (o : Option ControlWord). IsSomeAnd o (λ i. ControlRest (site_of context) (λ control. Tail (site_of context) (After edit context) (with_control base control)) i words)) (sym is) (rest_from edit context base words it h))

pub placed_from : (edit : Edit) (context : Context) (base : Params) (word : List ℕ) (words : List (List ℕ)) → Goes edit (on_placed context base word) words → Placed (site_of context) (After edit context) base (word ∷ words)
placed_from edit context base word words h =
    elim (chosen (bytes_eq word (codes "index")) _ _ (λ s. Language edit s words) h) [
      | inl hit ↦ inl (index_tail edit context base word words hit.0 hit.1)
      | inr miss ↦ placed_other edit context base word words (control_word (site_of context) word) refl miss.1
    ]

-- what follows a whole of parameters is none of these words
pub placed_not : {A : Type 0} (edit : Edit) (context : Context) (base : Params) (text word : List ℕ) (words : List (List ℕ)) → control_word (site_of context) text ≡ None → bytes_eq text (codes "action") ≡ false → bytes_eq text (codes "index") ≡ false → word ≡ text
    → Placed (site_of context) (After edit context) base (word ∷ words) → A
placed_not edit context base text word words none a i is (inr h) = no_control edit context base text word words none is h
placed_not {A} edit context base text word words none a i is (inl h) = at (tail_word edit context base word words h)
  where
    at : (word ≡ codes "action") ⊎ (word ≡ codes "index") → A
    at (inl e) = let same : bytes_eq text (codes "action") ≡ true = ap (λ (w : List ℕ). bytes_eq w (codes "action")) (sym is ∙ e) in absurd (cc (a, same))
    at (inr e) = let same : bytes_eq text (codes "index") ≡ true = ap (λ (w : List ℕ). bytes_eq w (codes "index")) (sym is ∙ e) in absurd (cc (i, same))
