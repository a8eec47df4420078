-- Keywords, options, fields and lists of actions, a word on.
use Rattle.std.proofs.Common.{◌≡◌, ℕ, zero, suc, ◌-◌, true, List, [], ◌∷◌, None, refl, sym, ap, subst, inl, inr}
use Rattle.std.specs.Prelude.{◌==◌, codes}
use Rattle.tc_base.specs.declared.hook.Hook.{Hook}
use Rattle.filter_state.specs.declared.action_line.ActionLine.{ActionLine}
use Rattle.filter_state.specs.declared.edit.Edit.{Edit}
use Rattle.tc_batch.specs.States.{Context, State}
use Rattle.tc_batch.specs.declared.keywords.LineKind.{LineKind}
use Rattle.tc_batch.specs.declared.keywords.LineKind.TheVariants as lines
use Rattle.tc_batch.specs.declared.keywords.FilterVerb.{FilterVerb}
use Rattle.tc_batch.specs.declared.keywords.FilterVerb.TheVariants as filter_verbs
use Rattle.tc_batch.specs.declared.keywords.ActionVerb.{ActionVerb}
use Rattle.tc_batch.specs.declared.keywords.ActionVerb.TheVariants as action_verbs
use Rattle.tc_batch.specs.declared.options.Options.{Options}
use Rattle.tc_batch.specs.declared.draft.Head.{Head}
use Rattle.tc_batch.specs.declared.stage.Place.TheVariants as places
use Rattle.tc_batch.specs.Keywords.{option_name}
use Rattle.tc_batch.specs.FieldNames.{field_name}
use Rattle.tc_batch.specs.Options.{is_given, with_option, may_flower}
use Rattle.tc_batch.specs.Fields.{head_refuses, head_takes}
use Rattle.tc_batch.specs.Grammar.{Then, ActionList, AfterFields, AfterFlower, AfterSettings, ActionsRest, LineRest}
use Rattle.tc_batch.specs.Machine.{on_text, after_kind, after_flower, on_flower, on_setting, on_listed, on_field, after_actions}
use Rattle.tc_batch.proofs.Languages.{Language}
use Rattle.tc_batch.proofs.Choices.{Goes, choose, only, other, one_less, not_zero, is_text, not_nil, text_to, text_from}
use Rattle.tc_batch.proofs.PairSteps.{pairs_to, pairs_from}

-- the kinds of lines
pub kind_to : (edit : Edit) (words : List (List ℕ)) (kind : LineKind) → LineRest edit kind words → Language edit (after_kind kind) words
kind_to edit words lines.Qdisc h = h
kind_to edit words lines.Filter h = h
kind_to edit words lines.Actions h = h

pub kind_from : (edit : Edit) (words : List (List ℕ)) (kind : LineKind) → Language edit (after_kind kind) words → LineRest edit kind words
kind_from edit words lines.Qdisc h = h
kind_from edit words lines.Filter h = h
kind_from edit words lines.Actions h = h

pub verb_to : (edit : Edit) (words : List (List ℕ)) (verb : ActionVerb) → ActionsRest edit verb words → Language edit (after_actions verb) words
verb_to edit words action_verbs.Add h = h
verb_to edit words action_verbs.Change h = h
verb_to edit words action_verbs.Del h = h

pub verb_from : (edit : Edit) (words : List (List ℕ)) (verb : ActionVerb) → Language edit (after_actions verb) words → ActionsRest edit verb words
verb_from edit words action_verbs.Add h = h
verb_from edit words action_verbs.Change h = h
verb_from edit words action_verbs.Del h = h

-- flower
pub flower_same : (edit : Edit) (verb : FilterVerb) (hook : Hook) (options : Options) (words : List (List ℕ)) → AfterFlower verb hook options edit words → Language edit (after_flower verb hook options) words
flower_same edit filter_verbs.Add hook options words h = h
flower_same edit filter_verbs.Replace hook options words h = h
flower_same edit filter_verbs.Del hook options words h = h

pub flower_back : (edit : Edit) (verb : FilterVerb) (hook : Hook) (options : Options) (words : List (List ℕ)) → Language edit (after_flower verb hook options) words → AfterFlower verb hook options edit words
flower_back edit filter_verbs.Add hook options words h = h
flower_back edit filter_verbs.Replace hook options words h = h
flower_back edit filter_verbs.Del hook options words h = h

pub flower_to : (edit : Edit) (verb : FilterVerb) (hook : Hook) (options : Options) (word : List ℕ) (words : List (List ℕ)) → AfterSettings verb hook edit options (word ∷ words) → (option_name word ≡ None) × Goes edit (on_flower verb hook options word) words
flower_to edit verb hook options word words (inl (may, (ends, is))) = not_nil word words ends
flower_to edit verb hook options word words (inr (may, (is, more))) = (
  ap option_name (is_text word (codes "flower") is),
  choose (may_flower verb options) (on_text (codes "flower") (after_flower verb hook options) word) None (λ s. Language edit s words)
      (λ hit. text_to edit (codes "flower") (after_flower verb hook options) word words (is, flower_same edit verb hook options words more)) (λ miss. absurd (cc (may, miss))),
)

pub flower_from : (edit : Edit) (verb : FilterVerb) (hook : Hook) (options : Options) (word : List ℕ) (words : List (List ℕ)) → Goes edit (on_flower verb hook options word) words → AfterSettings verb hook edit options (word ∷ words)
flower_from edit verb hook options word words h =
    let may : (may_flower verb options ≡ true) × Goes edit (on_text (codes "flower") (after_flower verb hook options) word) words = only (may_flower verb options) (on_text (codes "flower") (after_flower verb hook options) word) (λ s. Language edit s words) h in
    let is : Then (codes "flower") (Language edit (after_flower verb hook options)) (word ∷ words) = text_from edit (codes "flower") (after_flower verb hook options) word words may.1 in
    inr (may.0, (is.0, flower_back edit verb hook options words is.1))

pub settings_to : (edit : Edit) (verb : FilterVerb) (hook : Hook) (options : Options) (word : List ℕ) (words : List (List ℕ)) → Language edit (State.Settings verb hook options) (word ∷ words) → Goes edit (on_setting verb hook options word) words
settings_to edit verb hook options word words h =
    pairs_to edit option_name is_given with_option (AfterSettings verb hook edit) options (State.SettingValue verb hook options) (on_flower verb hook options word) word words (λ name more it. it) (flower_to edit verb hook options word words) h

pub settings_from : (edit : Edit) (verb : FilterVerb) (hook : Hook) (options : Options) (word : List ℕ) (words : List (List ℕ)) → Goes edit (on_setting verb hook options word) words → Language edit (State.Settings verb hook options) (word ∷ words)
settings_from edit verb hook options word words h =
    pairs_from edit option_name is_given with_option (AfterSettings verb hook edit) options (State.SettingValue verb hook options) (on_flower verb hook options word) word words (λ name more it. it) (flower_from edit verb hook options word words) (option_name word) refl h

-- lists of actions
pub listed_to : (edit : Edit) (head : Head) (actions : List ActionLine) (more : ℕ) (word : List ℕ) (words : List (List ℕ)) → ActionList more head edit actions (word ∷ words) → Goes edit (on_listed head actions more word) words
listed_to edit head actions zero word words (ends, is) = not_nil word words ends
listed_to edit head actions (suc more) word words (inl (ends, is)) = not_nil word words ends
listed_to edit head actions (suc more) word words (inr (is, h)) =
    choose (suc more == 0) None _ (λ s. Language edit s words) (λ hit. absurd (not_zero more hit))
    (λ miss. text_to edit (codes "action") (State.Acting (Context.Filter head actions (suc more - 1)) places.Begun) word words
    (is, subst (λ (n : ℕ). Language edit (State.Acting (Context.Filter head actions n) places.Begun) words) (sym (one_less more)) h))

pub listed_from : (edit : Edit) (head : Head) (actions : List ActionLine) (more : ℕ) (word : List ℕ) (words : List (List ℕ)) → Goes edit (on_listed head actions more word) words → ActionList more head edit actions (word ∷ words)
listed_from edit head actions zero word words h = absurd h
listed_from edit head actions (suc more) word words h =
    let is : Then (codes "action") (Language edit (State.Acting (Context.Filter head actions (suc more - 1)) places.Begun)) (word ∷ words) =
    text_from edit (codes "action") (State.Acting (Context.Filter head actions (suc more - 1)) places.Begun) word words (other (suc more == 0) _ (λ s. Language edit s words) h) in
    inr (is.0, subst (λ (n : ℕ). Language edit (State.Acting (Context.Filter head actions n) places.Begun) words) (one_less more) is.1)

pub list_not_index : {A : Type 0} (edit : Edit) (head : Head) (actions : List ActionLine) (more : ℕ) (words : List (List ℕ)) → ActionList more head edit actions (codes "index" ∷ words) → A
list_not_index edit head actions zero words (ends, is) = not_nil (codes "index") words ends
list_not_index edit head actions (suc more) words (inl (ends, is)) = not_nil (codes "index") words ends
list_not_index edit head actions (suc more) words (inr (is, h)) = absurd (cc is)

-- an action list begins with no name of a field
pub list_name : (edit : Edit) (head : Head) (more : ℕ) (word : List ℕ) (words : List (List ℕ)) → ActionList more head edit [] (word ∷ words) → field_name word ≡ None
list_name edit head zero word words (ends, is) = not_nil word words ends
list_name edit head (suc more) word words (inl (ends, is)) = not_nil word words ends
list_name edit head (suc more) word words (inr (is, h)) = ap field_name (is_text word (codes "action") is)

pub fields_to : (edit : Edit) (head : Head) (word : List ℕ) (words : List (List ℕ)) → Language edit (State.Fielding head) (word ∷ words) → Goes edit (on_field head word) words
fields_to edit head word words h =
    pairs_to edit field_name head_refuses head_takes (AfterFields edit) head (State.FieldValue head) (on_listed head [] 16 word) word words (λ name more it. it) (λ it. (list_name edit head 16 word words it, listed_to edit head [] 16 word words it)) h

pub fields_from : (edit : Edit) (head : Head) (word : List ℕ) (words : List (List ℕ)) → Goes edit (on_field head word) words → Language edit (State.Fielding head) (word ∷ words)
fields_from edit head word words h =
    pairs_from edit field_name head_refuses head_takes (AfterFields edit) head (State.FieldValue head) (on_listed head [] 16 word) word words (λ name more it. it) (listed_from edit head [] 16 word words) (field_name word) refl h
