-- Texts that grow by lists of words.
use Rattle.std.proofs.Common.{◌≡◌, ◌∙◌, ℕ, zero, suc, ◌+◌, ◌<◌, List, [], ◌∷◌, ◌++◌, length, take, get_or, append-nil, append_assoc, sym, ap, arith}
use Rattle.std.specs.Prelude.{fold}
use Rattle.std.proofs.lemmas.List.Sums.{fold-append}
use Rattle.filter_state.specs.declared.action_line.ActionLine.{ActionLine}
use Rattle.tc_print.specs.ActionWords.{action_words, list_words}
use Rattle.tc_batch.specs.declared.field_name.FieldName.{FieldName}
use Rattle.tc_print.specs.FieldWords.{field_words, named_words}
use Rattle.tc_print.specs.Texts.{onto}

pub onto_append : (text : List ℕ) (a b : List (List ℕ)) → fold onto text (a ++ b) ≡ fold onto (fold onto text a) b
onto_append text a b = fold-append onto text a b

-- one action more
list_next : (actions : List ActionLine) (k : ℕ) (d : ActionLine) → k < length actions → list_words (take (k + 1) actions) ≡ list_words (take k actions) ++ action_words (get_or actions k d)
list_next [] k d here = absurd (omega arith)
list_next (action ∷ actions) zero d here = append-nil (action_words action)
list_next (action ∷ actions) (suc k) d here =
    let next : suc k + 1 ≡ suc (k + 1) = omega arith in
    ap (λ n. list_words (take n (action ∷ actions))) next
    ∙ ap (λ (ws : List (List ℕ)). action_words action ++ ws) (list_next actions k d (omega arith))
    ∙ sym (append_assoc (action_words action) (list_words (take k actions)) (action_words (get_or actions k d)))

-- a text with the first actions, and then with one more
pub actions_grow : (text before after : List ℕ) (actions : List ActionLine) (k : ℕ) (action : ActionLine) → k < length actions
    → before ≡ fold onto text (list_words (take k actions)) → after ≡ fold onto before (action_words (get_or actions k action))
    → after ≡ fold onto text (list_words (take (k + 1) actions))
actions_grow text before after actions k action here first last =
    last ∙ ap (λ (t : List ℕ). fold onto t (action_words (get_or actions k action))) first
    ∙ sym (onto_append text (list_words (take k actions)) (action_words (get_or actions k action)))
    ∙ ap (fold onto text) (sym (list_next actions k action here))

-- one field more
names_next : (key mask : List ℕ) (names : List FieldName) (k : ℕ) (d : FieldName) → k < length names
    → named_words key mask (take (k + 1) names) ≡ named_words key mask (take k names) ++ field_words key mask (get_or names k d)
names_next key mask [] k d here = absurd (omega arith)
names_next key mask (name ∷ names) zero d here = append-nil (field_words key mask name)
names_next key mask (name ∷ names) (suc k) d here =
    let next : suc k + 1 ≡ suc (k + 1) = omega arith in
    ap (λ n. named_words key mask (take n (name ∷ names))) next
    ∙ ap (λ (ws : List (List ℕ)). field_words key mask name ++ ws) (names_next key mask names k d (omega arith))
    ∙ sym (append_assoc (field_words key mask name) (named_words key mask (take k names)) (field_words key mask (get_or names k d)))

-- a text with the first fields, and then with one more
pub names_grow : (text before after key mask : List ℕ) (names : List FieldName) (k : ℕ) (name : FieldName) → k < length names
    → before ≡ fold onto text (named_words key mask (take k names)) → after ≡ fold onto before (field_words key mask (get_or names k name))
    → after ≡ fold onto text (named_words key mask (take (k + 1) names))
names_grow text before after key mask names k name here first last =
    last ∙ ap (λ (t : List ℕ). fold onto t (field_words key mask (get_or names k name))) first
    ∙ sym (onto_append text (named_words key mask (take k names)) (field_words key mask (get_or names k name)))
    ∙ ap (fold onto text) (sym (names_next key mask names k name here))
