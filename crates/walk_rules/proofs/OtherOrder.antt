-- States that differ in the order between rows of different masks answer alike, and so have the same plain
-- walks.
use Rattle.std.proofs.Common.{◌≡◌, ◌∙◌, ℕ, ◌&&◌, Bool, true, false, cond, List, [], ◌∷◌, Option, Some, None, refl, sym, ap}
use Rattle.std.specs.Prelude.{filter}
use Rattle.std.specs.List.{list_any}
use Rattle.tc_base.specs.declared.hook.Hook.{Hook}
use Rattle.filter_state.specs.States.{Row, State}
use Rattle.filter_state.specs.Actions.{has_serial}
use Rattle.filter_state.specs.Tables.{first_where, in_hook}
use Rattle.filter_state.specs.Order.{SameRows, SameState, of_mask}
use Rattle.filter_state.specs.Sound.{Sound}
use Rattle.row_laws.proofs.Passed.{any_same, filter_same, order_same, sound_same}
use Rattle.row_laws.proofs.OfOrder.OrderedRows.{sorted_same}
use Rattle.walk_rules.specs.Questions.{Question, heads_of, filter_of, params_of, told_heads}
use Rattle.walk_rules.specs.Heads.{heads_in}
use Rattle.walk_rules.specs.Answers.{meets, actions_or_none, filter_answer, params_answer, answer_of}
use Rattle.walk_rules.specs.Walks.{AnsweredBy}
use Rattle.walk_rules.specs.Plain.{plain_walk}
use Rattle.walk_rules.proofs.Stilled.{leads_to_plain, walk_is_plain}

-- the first that passes two tests is the first of those that pass the one that passes the other
kept_at : {X : Type 0} (p q : X → Bool) (b : Bool) (x : X) (xs : List X) (o : Option X) → o ≡ first_where q (filter p xs) →
    cond (b && q x) (Some x) o ≡ first_where q (cond b (x ∷ filter p xs) (filter p xs))
kept_at p q true x xs o e = ap (λ rest. cond (q x) (Some x) rest) e
kept_at p q false x xs o e = e

first_of_both : {X : Type 0} (p q : X → Bool) (xs : List X) → first_where (λ x. p x && q x) xs ≡ first_where q (filter p xs)
first_of_both p q [] = refl
first_of_both p q (x ∷ xs) = kept_at p q (p x) x xs (first_where (λ y. p y && q y) xs) (first_of_both p q xs)

filter_answers : (mask : ℕ) (values : List ℕ) {xs ys : List Row} → SameRows xs ys → filter_answer mask values xs ≡ filter_answer mask values ys
filter_answers mask values {xs = xs} {ys = ys} same =
    let met : first_where (λ row. of_mask mask row && meets values row) xs ≡ first_where (λ row. of_mask mask row && meets values row) ys =
    first_of_both (of_mask mask) (meets values) xs ∙ ap (first_where (meets values)) (order_same mask same) ∙ sym (first_of_both (of_mask mask) (meets values) ys) in
    ap (λ b. cond b (Some (actions_or_none (first_where (λ row. of_mask mask row && meets values row) xs))) None) (any_same (of_mask mask) same)
    ∙ ap (λ o. cond (list_any (of_mask mask) ys) (Some (actions_or_none o)) None) met

pub answers_same : (s t : State) (question : Question) → SameState s t → answer_of s question ≡ answer_of t question
answers_same s t (heads_of hook) same = ap (λ rows. Some (told_heads (heads_in rows))) (sorted_same (filter_same (in_hook hook) same.rows))
answers_same s t (filter_of table mask values) same = filter_answers mask values same.rows
answers_same s t (params_of serial) same = ap (λ actions. params_answer (first_where (has_serial serial) actions)) same.actions

pub plain_same : (s t : State) (hook : Hook) (bytes : List ℕ) → Sound s → SameState s t → plain_walk s hook bytes ≡ plain_walk t hook bytes
plain_same s t hook bytes sound same =
    let plain = leads_to_plain s sound hook bytes in
    walk_is_plain t (sound_same s t same sound) (AnsweredBy (λ point. s)) (λ held. Unit {0})
    (λ before now question answer point held told. (sym (answers_same s t question same) ∙ told, tt)) hook bytes plain.0 tt tt (plain_walk s hook bytes) tt plain.1
