-- What is answered of a hook's tables, and where that changes.
use Rattle.std.proofs.Common.{◌≡◌, ◌∙◌, ℕ, ◌≤◌, Bool, true, false, List, Option, Some, None, option_map}
use Rattle.std.proofs.Common.{refl, sym, ap, arith}
use Rattle.std.specs.Prelude.{◌&&◌, nat_le, if◌then◌else◌}
use Rattle.std.proofs.lemmas.Bool.Decides.{nat_tests}
use Rattle.tc_base.specs.declared.hook.Hook.{Hook}
use Rattle.filter_state.specs.Tables.{hook_eq}
use Rattle.filter_state.specs.Journals.{state_at}
use Rattle.state_laws.proofs.Tests.{hook_eq_true, hook_eq_self}
use Rattle.walk_rules.specs.Questions.{Head, Question, heads_of, filter_of, params_of, told_heads}
use Rattle.walk_rules.specs.Heads.{heads_on}
use Rattle.walk_rules.specs.Answers.{answer_of}
use Rattle.state_past.specs.NextChange.{IsNextChange}
use Rattle.walk_fate_laws.specs.Walks.{answers_over, ways_of}
use Rattle.walk_fate_laws.proofs.Underway.{IsNoHead}
use Rattle.change_points.specs.Heads.{heads_since}
use Rattle.change_points.specs.Answers.{HookChange, states_of, answer_in}
use Rattle.change_points.proofs.Alike.{all_alike}

module _ (change : HookChange) where
  abbrev since : ℕ → Option (List Head)
  since at = heads_since change.hook change.before change.journal at

  by_point : (b : Bool) (heads : List Head) → (if b then Some (told_heads heads) else None)
      ≡ option_map told_heads (if b then Some heads else None)
  by_point true heads = refl
  by_point false heads = refl

  pub own_tables : (at : ℕ) (hook : Hook) → hook_eq hook change.hook ≡ true
      → answer_in change at (heads_of hook) ≡ option_map told_heads (since at)
  own_tables at hook is =
      ap (λ (b : Bool).
      if b && nat_le change.before at then Some (told_heads (heads_on hook (state_at at change.journal))) else None) is
      ∙ by_point (nat_le change.before at) (heads_on hook (state_at at change.journal))
      ∙ ap (λ (h : Hook). option_map told_heads (heads_since h change.before change.journal at))
      (hook_eq_true hook change.hook is)

  pub other_tables : (at : ℕ) (hook : Hook) → hook_eq hook change.hook ≡ false
      → answer_in change at (heads_of hook) ≡ None
  other_tables at hook is =
      ap (λ (b : Bool).
      if b && nat_le change.before at then Some (told_heads (heads_on hook (state_at at change.journal))) else None) is

  -- ---- where they change
  same_heads : (one other : Option (List Head)) → option_map told_heads one ≡ option_map told_heads other
      → one ≡ other
  same_heads None None is = refl
  same_heads None (Some heads) is = absurd (cc is)
  same_heads (Some heads) None is = absurd (cc is)
  same_heads (Some one) (Some other) is = ap Some (cc is)

  pub next_tables : (point : ℕ) (hook : Hook) (next : Option ℕ) (told : ℕ → Option (List Head))
      → hook_eq hook change.hook ≡ true → ((at : ℕ) → told at ≡ since at) → IsNextChange told point next
      → IsNextChange (λ at. answer_in change at (heads_of hook)) point next
  next_tables point hook None told is knows change_at = record {
    other = tt;
    steady = λ later from before. own_tables later hook is
        ∙ ap (option_map told_heads) (sym (knows later) ∙ change_at.steady later from before ∙ knows point)
        ∙ sym (own_tables point hook is);
  }
  next_tables point hook (Some next) told is knows change_at = record {
    other = (
      change_at.other.0,
      (λ same. change_at.other.1 (knows next ∙ same_heads (since next) (since point)
          (sym (own_tables next hook is) ∙ same ∙ own_tables point hook is) ∙ sym (knows point))),
    );
    steady = λ later from before. own_tables later hook is
        ∙ ap (option_map told_heads) (sym (knows later) ∙ change_at.steady later from before ∙ knows point)
        ∙ sym (own_tables point hook is);
  }

  pub never_known : (point : ℕ) (hook : Hook) → hook_eq hook change.hook ≡ false
      → IsNextChange (λ at. answer_in change at (heads_of hook)) point None
  never_known point hook is = record {
    other = tt;
    steady = λ later from before. other_tables later hook is ∙ sym (other_tables point hook is);
  }

  -- ---- and that they are the states'
  reached : (from point : ℕ) → from ≤ point → nat_le from point ≡ true
  reached from point least = grind (arith, nat_tests, least)

  pub as_states : (at : ℕ) → change.before ≤ at → answer_in change at (heads_of change.hook)
      ≡ answers_over (states_of change) at (heads_of change.hook)
  as_states at least =
      ap (λ (b : Bool). if b && nat_le change.before at then answer_of (states_of change at) (heads_of change.hook)
      else None) (hook_eq_self change.hook)
      ∙ ap (λ (b : Bool). if b then answer_of (states_of change at) (heads_of change.hook) else None)
      (reached change.before at least)

  no_heads : (point : ℕ) (question : Question) → IsNoHead question
      → answer_in change point question ≡ answers_over (states_of change) point question
  no_heads point (heads_of hook) none = absurd none
  no_heads point (filter_of table mask values) none = refl
  no_heads point (params_of serial) none = refl

  pub ways_same : (ceiling : ℕ) (bytes : List ℕ)
      → ways_of (answer_in change) change.before ceiling change.hook bytes
      ≡ ways_of (answers_over (states_of change)) change.before ceiling change.hook bytes
  ways_same ceiling bytes = all_alike (answer_in change) (answers_over (states_of change)) ceiling no_heads
      change.before change.hook bytes (λ point. heads_on change.hook (states_of change point))
      (λ point. refl) as_states
