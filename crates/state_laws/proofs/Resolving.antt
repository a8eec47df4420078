-- The actions of a line, in order: each is bound where it is there, and else made.
use Rattle.std.proofs.Common.{◌≡◌, ℕ, suc, false, if◌then◌else◌, ◌+◌, ◌≤◌, List, [], ◌∷◌, ◌++◌, length, Option, Some, None, Ok, IfSome, IsSomeAnd, refl, subst, arith, inl, append_assoc, length-append}
use Rattle.act_kinds.specs.declared.params.Kind.{Kind}
use Rattle.act_kinds.specs.declared.params.Params.{Params}
use Rattle.filter_state.specs.declared.action_line.ActionLine.{ActionLine}
use Rattle.filter_state.specs.declared.refusal.Refusal.TheVariants as refusals
use Rattle.filter_state.specs.States.{Action}
use Rattle.filter_state.specs.Lines.{IsIndex, IsOfFilter, IsFilterAction, AreFilterActions}
use Rattle.filter_state.specs.Actions.{is_named, serial_of, change_where, more_bound, index_or_free, Resolved, bound_more, made_bound, bound_or_made, resolved_by, resolved}
use Rattle.filter_state.specs.Sound.{Each}
use Rattle.state_laws.proofs.Answers.{same_ok, err_ok, and_then_ok}
use Rattle.state_laws.proofs.Free.{free_index_within, length_mapped}
use Rattle.state_laws.proofs.Held.{AreHeld, new_action, held_more, names_one}
use Rattle.state_laws.proofs.Names.{unnamed}
use Rattle.state_laws.proofs.Binding.{held_bound}

-- ---- the index that an action gets
pub chosen_index : (given : Option ℕ) (kind : Kind) (actions : List Action) → IfSome given IsIndex → length actions ≤ 1040 → IsIndex (index_or_free given kind actions)
chosen_index (Some index) kind actions in_range few = in_range
chosen_index None kind actions in_range few = let within = free_index_within kind actions in (within.0, omega arith)

some_in_range : (given : Option ℕ) → IsSomeAnd given IsIndex → IfSome given IsIndex
some_in_range (Some index) in_range = in_range
some_in_range None in_range = tt

given_index : (given : Option Params) (line : ActionLine) → IsOfFilter given line → IfSome line.index IsIndex
given_index (Some params) line is = is.2
given_index None line is = some_in_range line.index is

-- ---- one action
pub record Resolves (P : List ℕ) (r : Resolved) (more : ℕ) (next : Resolved) : Type 0 where
  pub held : AreHeld (P ++ next.serials) next.so_far.made next.so_far.actions
  pub count : length next.serials ≡ length r.serials + more
  pub few : length next.so_far.actions ≤ length r.so_far.actions + more
  pub made : r.so_far.made ≤ next.so_far.made

bound_resolves : (P : List ℕ) (r : Resolved) (kind : Kind) (index serial : ℕ) → AreHeld (P ++ r.serials) r.so_far.made r.so_far.actions → serial_of kind index r.so_far.actions ≡ Some serial
    → Resolves P r 1 (bound_more r kind index serial)
bound_resolves P r kind index serial h is =
    let long = length_mapped (λ (x : Action). if is_named kind index x then more_bound x else x) r.so_far.actions in record {
      held = subst (λ places. AreHeld places r.so_far.made (change_where (is_named kind index) more_bound r.so_far.actions)) (append_assoc P r.serials (serial ∷ []))
          (held_bound (P ++ r.serials) r.so_far.made kind index serial r.so_far.actions h is);
      count = length-append r.serials (serial ∷ []);
      few = omega arith;
      made = omega arith;
    }

more_by_one : (r : Resolved) (params : Params) (index : ℕ) → length (made_bound r params index).so_far.actions ≤ length r.so_far.actions + 1
more_by_one r params index = let long = length-append r.so_far.actions (new_action (r.so_far.made + 1) index params 1 ∷ []) in omega arith

made_resolves : (P : List ℕ) (r : Resolved) (line : ActionLine) (index : ℕ) (params : Params) → AreHeld (P ++ r.serials) r.so_far.made r.so_far.actions → serial_of line.kind index r.so_far.actions ≡ None
    → IsOfFilter (Some params) line → IsIndex index → Resolves P r 1 (made_bound r params index)
made_resolves P r line index params h is given in_range =
    let serial : ℕ = r.so_far.made + 1 in record {
      held = subst (λ places. AreHeld places serial (made_bound r params index).so_far.actions) (append_assoc P r.serials (serial ∷ []))
          (held_more (P ++ r.serials) ((P ++ r.serials) ++ serial ∷ []) r.so_far.made index 1 params r.so_far.actions h (names_one (P ++ r.serials) serial) in_range given.1 (inl refl)
          (subst (λ kind. Each (λ x. is_named kind index x ≡ false) r.so_far.actions) given.0 (unnamed line.kind index r.so_far.actions is)));
      count = length-append r.serials (serial ∷ []);
      few = more_by_one r params index;
      made = omega arith;
    }

either_resolves : (P : List ℕ) (r : Resolved) (line : ActionLine) (index : ℕ) (serial : Option ℕ) (given : Option Params) (next : Resolved) → AreHeld (P ++ r.serials) r.so_far.made r.so_far.actions
    → serial_of line.kind index r.so_far.actions ≡ serial → IsOfFilter given line → IsIndex index → bound_or_made r line index serial given ≡ Ok next → Resolves P r 1 next
either_resolves P r line index (Some serial) given next h is of in_range e =
    subst (λ n. Resolves P r 1 n) (same_ok (bound_more r line.kind index serial) next e) (bound_resolves P r line.kind index serial h is)
either_resolves P r line index None (Some params) next h is of in_range e =
    subst (λ n. Resolves P r 1 n) (same_ok (made_bound r params index) next e) (made_resolves P r line index params h is of in_range)
either_resolves P r line index None None next h is of in_range e = absurd (err_ok (refusals.NoSuchAction line.kind index) next e)

one_resolves : (P : List ℕ) (r : Resolved) (line : ActionLine) (next : Resolved) → AreHeld (P ++ r.serials) r.so_far.made r.so_far.actions → IsFilterAction line → length r.so_far.actions ≤ 1040
    → resolved_by r line ≡ Ok next → Resolves P r 1 next
one_resolves P r line next h is few e =
    let index : ℕ = index_or_free line.index line.kind r.so_far.actions in
    either_resolves P r line index (serial_of line.kind index r.so_far.actions) line.params next h refl is (chosen_index line.index line.kind r.so_far.actions (given_index line.params line is) few) e

-- ---- the list
then_resolves : (P : List ℕ) (r next last : Resolved) (more : ℕ) → Resolves P r 1 next → Resolves P next more last → Resolves P r (suc more) last
then_resolves P r next last more one rest =
    let c = one.count in
    let d = rest.count in
    let f = one.few in
    let g = rest.few in
    let m = one.made in
    let n = rest.made in
    record { held = rest.held; count = omega arith; few = omega arith; made = omega arith }

pub list_resolves : (P : List ℕ) (lines : List ActionLine) (r last : Resolved) → AreHeld (P ++ r.serials) r.so_far.made r.so_far.actions → AreFilterActions lines
    → length r.so_far.actions + length lines ≤ 1040 → resolved r lines ≡ Ok last → Resolves P r (length lines) last
list_resolves P [] r last h all few e =
    subst (λ n. Resolves P r 0 n) (same_ok r last e) (record { held = h; count = omega arith; few = omega arith; made = omega arith })
list_resolves P (line ∷ lines) r last h all few e =
    let step = and_then_ok (λ next. resolved next lines) (resolved_by r line) last e in
    let one = one_resolves P r line step.0 h all.0 (omega arith) step.1 in
    let f = one.few in
    then_resolves P r step.0 last (length lines) one (list_resolves P lines step.0 last one.held all.1 (omega arith) step.2)
