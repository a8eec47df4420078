-- The actions of a filter, by kind and index.
use Rattle.std.proofs.Common.{◌≡◌, ◌∙◌, ℕ, ◌+◌, ◌<◌, Bool, true, false, cond, List, [], ◌∷◌, ◌++◌, length, take, get_or, Option, Some, None, append-nil, append_assoc, refl, sym, ap}
use Rattle.std.specs.Prelude.{fold, find, option_map}
use Rattle.std.specs.List.{flat_map}
use Rattle.act_kinds.specs.declared.params.Params.{Params}
use Rattle.act_kinds.specs.Params.{kind_of}
use Rattle.act_registry.specs.declared.entry.Entry.{Entry}
use Rattle.act_registry.specs.Entries as registry
use Rattle.action_plan.specs.Entries.{action_of, actions_of}
use Rattle.filter_state.specs.declared.action_line.ActionLine.{ActionLine}
use Rattle.filter_state.specs.States.{Action}
use Rattle.filter_state.specs.Actions.{has_serial}
use Rattle.filter_state.specs.Tables.{first_where}
use Rattle.tc_print.specs.ActionWords.{action_words, list_words}
use Rattle.tc_print.specs.Texts.{onto}
use Rattle.tc_print.proofs.Grown.{onto_append}
use Rattle.tc_report.specs.Show.{named}
use Rattle.tc_report.proofs.Lines.{flat_more}

pub first_found : (serial : ℕ) (entries : List (Entry Params)) → first_where (has_serial serial) (actions_of entries) ≡ option_map action_of (find (registry.has_serial serial) entries)
first_found serial [] = refl
first_found serial (e ∷ entries) = at (registry.has_serial serial e) (first_found serial entries)
  where
    at : (b : Bool) → first_where (has_serial serial) (actions_of entries) ≡ option_map action_of (find (registry.has_serial serial) entries) →
        cond b (Some (action_of e)) (first_where (has_serial serial) (actions_of entries)) ≡ option_map action_of (cond b (Some e) (find (registry.has_serial serial) entries))
    at true rest = refl
    at false rest = rest

pub named_words : (o : Option Action) (a : Action) → o ≡ Some a → list_words (named o) ≡ action_words (record { kind = kind_of a.params; index = Some a.index; params = None })
named_words o a is = ap (λ (p : Option Action). list_words (named p)) is ∙ append-nil (action_words (record { kind = kind_of a.params; index = Some a.index; params = None }))

list_joined : (a b : List ActionLine) → list_words (a ++ b) ≡ list_words a ++ list_words b
list_joined [] b = refl
list_joined (line ∷ a) b = ap (λ (ws : List (List ℕ)). action_words line ++ ws) (list_joined a b) ∙ sym (append_assoc (action_words line) (list_words a) (list_words b))

pub words_more : (g : ℕ → List ActionLine) (old before after serials : List ℕ) (k x : ℕ) → k < length serials →
    before ≡ fold onto old (list_words (flat_map g (take k serials))) → after ≡ fold onto before (list_words (g (get_or serials k x))) →
    after ≡ fold onto old (list_words (flat_map g (take (k + 1) serials)))
words_more g old before after serials k x within first last =
    last ∙ ap (λ (t : List ℕ). fold onto t (list_words (g (get_or serials k x)))) first
    ∙ sym (onto_append old (list_words (flat_map g (take k serials))) (list_words (g (get_or serials k x))))
    ∙ ap (fold onto old) (sym (list_joined (flat_map g (take k serials)) (g (get_or serials k x))) ∙ ap list_words (sym (flat_more g serials k x within)))
