-- What edits need that are planned.
use Rattle.std.proofs.Common.{◌≡◌, ◌∙◌, inl, inr, ℕ, List, not, Ok, refl, sym, ap, subst, arith, true}
use Rattle.std.specs.Prelude.{filter}
use Rattle.act_kinds.specs.declared.params.Kind.{Kind}
use Rattle.store_history.specs.declared.history.Commit.{Commit}
use Rattle.filter_state.specs.declared.action_line.ActionLine.{ActionLine}
use Rattle.filter_state.specs.declared.edit.Edit.{Edit}
use Rattle.filter_state.specs.declared.edit.Edit.TheVariants as edits
use Rattle.filter_state.specs.declared.refusal.Done.{Done}
use Rattle.filter_state.specs.declared.refusal.Done.TheVariants as dones
use Rattle.filter_state.specs.declared.refusal.Refusal.TheVariants as refusals
use Rattle.filter_state.specs.States.{Action, State}
use Rattle.filter_state.specs.Actions.{is_named, is_live}
use Rattle.filter_state.specs.Refusals.{or_else, no_such_action, action_bound}
use Rattle.filter_state.specs.Steps.{Stepped, step}
use Rattle.state_laws.proofs.Answers.{not_refused, not_not, neither}
use Rattle.hook_store_law.proofs.OfEffects.Accepted.{not_unless}
use Rattle.filter_state.specs.Journals.{state_after}
use Rattle.hook_store_law.specs.OfEdits.Premises.{now, IsAccepted}
use Rattle.desk_needs.proofs.OfLiveCounts.NoFilter.{made_by_change, changed}
use Rattle.desk_needs.specs.Needs.{made, nothing, needs_from, needs_of}
use Rattle.desk_actions.specs.Kinds.{IsMaking, IsChanging}
use Rattle.desk_parts.specs.OfPlainEdits.Kinds.{IsOfQdisc}
use Rattle.shared_hook.specs.OfPlans.Plans.{IsDeleting}

-- after an accepted edit
accepted_needs : (s t : State) (y : Edit) (done : Done) → step s y ≡ Ok (t, done) → needs_of s y ≡ needs_from s t y
accepted_needs s t y done e = ap (λ (r : Stepped). needs_from s (state_after s r) y) e

pub marks_need : (h : List (Commit Edit)) (y : Edit) → IsOfQdisc y → record nothing { blocks = 0; actions = 0 } ≡ needs_of (now h) y
marks_need h y (inl is) = subst (λ (z : Edit). record nothing { blocks = 0; actions = 0 } ≡ needs_of (now h) z) (sym is) refl
marks_need h y (inr is) = subst (λ (z : Edit). record nothing { blocks = 0; actions = 0 } ≡ needs_of (now h) z) (sym is) refl

pub deletions_need : (h : List (Commit Edit)) (y : Edit) → IsDeleting h y → record nothing { blocks = 0; actions = 0 } ≡ needs_of (now h) y
deletions_need h y d = subst (λ (z : Edit). record nothing { blocks = 0; actions = 0 } ≡ needs_of (now h) z) (sym d.is) refl

pub makings_need : (h : List (Commit Edit)) (b : ℕ) (y : Edit) (t : State) (done : Done) → IsAccepted h b y t done → (line : ActionLine) × IsMaking (now h) line y
    → record nothing { blocks = 1; actions = 1 } ≡ needs_of (now h) y
makings_need h b y t done a (line, inl is) = subst (λ (z : Edit). record nothing { blocks = 1; actions = 1 } ≡ needs_of (now h) z) (sym is) refl
makings_need h b y t done a (line, inr (is, dead)) =
    let e = subst (λ (z : Edit). step (now h) z ≡ Ok (t, done)) is a.steps in
    let one : 1 ≡ made (now h) t = let m = (made_by_change (now h) t line done e dead).made in omega (arith, m) in
    subst (λ (z : Edit). record nothing { blocks = 1; actions = 1 } ≡ needs_of (now h) z) (sym is)
    (ap (λ (n : ℕ). record nothing { blocks = 1; actions = n }) one ∙ sym (accepted_needs (now h) t (edits.ActionChange line) done e))

pub changes_need : (h : List (Commit Edit)) (b : ℕ) (y : Edit) (t : State) (done : Done) → IsAccepted h b y t done → (line : ActionLine) × IsChanging (now h) line y
    → record nothing { blocks = 1; actions = 0 } ≡ needs_of (now h) y
changes_need h b y t done a (line, (is, live)) =
    let e = subst (λ (z : Edit). step (now h) z ≡ Ok (t, done)) is a.steps in
    let none : 0 ≡ made (now h) t = let m = (changed (now h) t line done e live).made in omega (arith, m) in
    subst (λ (z : Edit). record nothing { blocks = 1; actions = 0 } ≡ needs_of (now h) z) (sym is)
    (ap (λ (n : ℕ). record nothing { blocks = 1; actions = n }) none ∙ sym (accepted_needs (now h) t (edits.ActionChange line) done e))

pub deleted_live : (h : List (Commit Edit)) (b : ℕ) (y : Edit) (t : State) (done : Done) (kind : Kind) (index : ℕ) → y ≡ edits.ActionDel kind index → IsAccepted h b y t done
    → is_live kind index (now h).actions ≡ true
deleted_live h b y t done kind index is a =
    let s = now h in let left : List Action = filter (λ x. not (is_named kind index x)) s.actions in
    let e = subst (λ (z : Edit). step s z ≡ Ok (t, done)) is a.steps in
    let rest = not_unless (or_else (no_such_action s kind index) (action_bound s kind index)) (Ok (record s { actions = left }, dones.ActionGone)) (t, done) e in
    not_not (is_live kind index s.actions) (not_refused (not (is_live kind index s.actions)) (refusals.NoSuchAction kind index) (neither (no_such_action s kind index) (action_bound s kind index) rest.0).0)
