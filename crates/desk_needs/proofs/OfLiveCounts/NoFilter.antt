-- Edits of the qdisc, and of actions apart from filters.
use Rattle.std.proofs.Common.{◌≡◌, ◌⊎◌, inl, inr, ℕ, ◌+◌, ◌||◌, Bool, true, false, not, cond, List, [], ◌∷◌, Option, Some, None, Ok, length, refl, sym, ◌∙◌, ap, subst, arith, length-append}
use Rattle.std.specs.Prelude.{filter, if◌then◌else◌}
use Rattle.std.specs.List.{list_any}
use Rattle.std.specs.Option.{unwrap_or}
use Rattle.std.proofs.lemmas.Bool.{false≢true, false_from_ne_true}
use Rattle.std.proofs.lemmas.List.{length-map}
use Rattle.std.proofs.lemmas.List.Filters.{length-filter_both}
use Rattle.act_kinds.specs.declared.params.Kind.{Kind}
use Rattle.act_kinds.specs.declared.params.Params.{Params}
use Rattle.filter_state.specs.declared.action_line.ActionLine.{ActionLine}
use Rattle.filter_state.specs.declared.edit.Edit.{Edit}
use Rattle.filter_state.specs.declared.edit.Edit.TheVariants as edits
use Rattle.filter_state.specs.declared.refusal.Done.{Done}
use Rattle.filter_state.specs.declared.refusal.Done.TheVariants as dones
use Rattle.filter_state.specs.declared.refusal.Refusal.TheVariants as refusals
use Rattle.filter_state.specs.States.{Action, Row, State}
use Rattle.filter_state.specs.Order.{of_mask}
use Rattle.filter_state.specs.Actions.{is_named, is_live, index_or_free, Made, made_more}
use Rattle.filter_state.specs.Refusals.{or_else, no_hook, hook_exists, hook_in_use, action_exists, no_such_action, action_bound, actions_full, counters_full}
use Rattle.filter_state.specs.Steps.{Stepped, step, made_of, with_actions, with_params, make_given, change_given}
use Rattle.filter_state.specs.Journals.{state_after}
use Rattle.filter_state.specs.Sound.{Sound, Each, EachPair, StandApart}
use Rattle.state_laws.proofs.Answers.{not_refused, not_not, neither, err_ok}
use Rattle.state_laws.proofs.Tests.{named}
use Rattle.hook_store_law.proofs.OfEffects.Accepted.{not_unless, same_step}
use Rattle.hook_store_law.specs.OfEdits.Premises.{IsOfFilters}
use Rattle.hook_store_law.proofs.OfEdits.Stepping.{unless_refused}
use Rattle.desk_needs.specs.OfLiveCounts.Counts.{StayAsMany, ActionsStay, ActionComes, ActionGoes}
use Rattle.desk_needs.proofs.OfLiveCounts.Changes.{all_stay}

-- ---- filters stay
abbrev KeepsRows : State → Stepped → Type 0
KeepsRows s stepped = (state_after s stepped).rows ≡ s.rows

rows_by : (s t : State) (stepped : Stepped) (done : Done) → stepped ≡ Ok (t, done) → KeepsRows s stepped → t.rows ≡ s.rows
rows_by s t stepped done e keeps = subst (KeepsRows s) e keeps

rows_of_made : (s : State) (line : ActionLine) (given : Option Params) → KeepsRows s (make_given s line given)
rows_of_made s line (Some params) =
    let index : ℕ = index_or_free line.index line.kind s.actions in
    let next : Made = made_more (made_of s) params index 0 in
    unless_refused (KeepsRows s) (λ refusal. refl) (or_else (actions_full next) (counters_full next)) (Ok (with_actions s next, dones.ActionMade index (s.actions_made + 1))) refl
rows_of_made s line None = refl

rows_of_changed : (s : State) (line : ActionLine) (index : ℕ) (b : Bool) → KeepsRows s (if b then change_given s line index line.params else make_given s line line.params)
rows_of_changed s line index true = given line.params
  where
    given : (o : Option Params) → KeepsRows s (change_given s line index o)
    given (Some params) = refl
    given None = refl
rows_of_changed s line index false = rows_of_made s line line.params

pub rows_kept : (s t : State) (y : Edit) (done : Done) → (IsOfFilters y → ⊥) → step s y ≡ Ok (t, done) → t.rows ≡ s.rows
rows_kept s t edits.HookAdd done apart e = rows_by s t _ done e (unless_refused (KeepsRows s) (λ refusal. refl) (hook_exists s) (Ok (record s { hooked = true }, dones.Hooked)) refl)
rows_kept s t edits.HookDel done apart e = rows_by s t _ done e (unless_refused (KeepsRows s) (λ refusal. refl) (or_else (no_hook s) (hook_in_use s)) (Ok (record s { hooked = false }, dones.Unhooked)) refl)
rows_kept s t (edits.FilterAdd line) done apart e = absurd (apart tt)
rows_kept s t (edits.FilterReplace line) done apart e = absurd (apart tt)
rows_kept s t (edits.FilterDel hook protocol chain pref handle) done apart e = absurd (apart tt)
rows_kept s t (edits.ActionAdd line) done apart e =
    rows_by s t _ done e (unless_refused (KeepsRows s) (λ refusal. refl) (action_exists s line.kind line.index) (make_given s line line.params) (rows_of_made s line line.params))
rows_kept s t (edits.ActionChange line) done apart e = rows_by s t _ done e (rows_of_changed s line (unwrap_or line.index 0) (is_live line.kind (unwrap_or line.index 0) s.actions))
rows_kept s t (edits.ActionDel kind index) done apart e =
    rows_by s t _ done e (unless_refused (KeepsRows s) (λ refusal. refl) (or_else (no_such_action s kind index) (action_bound s kind index))
    (Ok (record s { actions = filter (λ action. not (is_named kind index action)) s.actions }, dones.ActionGone)) refl)

pub counts_kept : (s t : State) (y : Edit) (done : Done) → (IsOfFilters y → ⊥) → step s y ≡ Ok (t, done) → StayAsMany s t
counts_kept s t y done apart e = let same = rows_kept s t y done apart e in all_stay s t (λ m. ap (λ (rows : List Row). length (filter (of_mask m) rows)) same)

-- ---- the qdisc
same_actions : (s u t : State) → u ≡ t → u.actions ≡ s.actions → u.actions_made ≡ s.actions_made → ActionsStay s t
same_actions s u t same actions made = record {
  live = ap (λ (x : State). length x.actions) (sym same) ∙ ap length actions;
  made = ap (λ (x : State). x.actions_made) (sym same) ∙ made;
}

pub qdisc : (s t : State) (done : Done) → (step s edits.HookAdd ≡ Ok (t, done)) ⊎ (step s edits.HookDel ≡ Ok (t, done)) → ActionsStay s t
qdisc s t done (inl e) =
    let next : State = record s { hooked = true } in
    same_actions s next t (same_step next t dones.Hooked done (not_unless (hook_exists s) (Ok (next, dones.Hooked)) (t, done) e).1).0 refl refl
qdisc s t done (inr e) =
    let next : State = record s { hooked = false } in
    same_actions s next t (same_step next t dones.Unhooked done (not_unless (or_else (no_hook s) (hook_in_use s)) (Ok (next, dones.Unhooked)) (t, done) e).1).0 refl refl

-- ---- one comes
given_comes : (s t : State) (line : ActionLine) (given : Option Params) (done : Done) → make_given s line given ≡ Ok (t, done) → ActionComes s t
given_comes s t line (Some params) done e =
    let index : ℕ = index_or_free line.index line.kind s.actions in
    let next : Made = made_more (made_of s) params index 0 in
    let answer : Done = dones.ActionMade index (s.actions_made + 1) in
    let room = not_unless (or_else (actions_full next) (counters_full next)) (Ok (with_actions s next, answer)) (t, done) e in
    let same = (same_step (with_actions s next) t answer done room.1).0 in
    let new : Action = record { serial = s.actions_made + 1; index = index; params = params; references = 1; binds = 0 } in
    let long = length-append s.actions (new ∷ []) in
    let now = ap (λ (u : State). length u.actions) same in
    record { live = omega (arith, long, now); made = sym (ap (λ (u : State). u.actions_made) same) }
given_comes s t line None done e = absurd (err_ok (refusals.NoSuchAction line.kind (unwrap_or line.index 0)) (t, done) e)

pub added : (s t : State) (line : ActionLine) (done : Done) → step s (edits.ActionAdd line) ≡ Ok (t, done) → ActionComes s t
added s t line done e = given_comes s t line line.params done (not_unless (action_exists s line.kind line.index) (make_given s line line.params) (t, done) e).1

-- ---- a change, by whether it is live
changed_by : (s t : State) (line : ActionLine) (done : Done) (b : Bool) → step s (edits.ActionChange line) ≡ Ok (t, done) → is_live line.kind (unwrap_or line.index 0) s.actions ≡ b
    → (if b then change_given s line (unwrap_or line.index 0) line.params else make_given s line line.params) ≡ Ok (t, done)
changed_by s t line done b e live =
    sym (ap (λ c. if c then change_given s line (unwrap_or line.index 0) line.params else make_given s line line.params) live) ∙ e

pub made_by_change : (s t : State) (line : ActionLine) (done : Done) → step s (edits.ActionChange line) ≡ Ok (t, done) → is_live line.kind (unwrap_or line.index 0) s.actions ≡ false → ActionComes s t
made_by_change s t line done e live = given_comes s t line line.params done (changed_by s t line done false e live)

pub changed : (s t : State) (line : ActionLine) (done : Done) → step s (edits.ActionChange line) ≡ Ok (t, done) → is_live line.kind (unwrap_or line.index 0) s.actions ≡ true → ActionsStay s t
changed s t line done e live = given line.params (changed_by s t line done true e live)
  where
    given : (o : Option Params) → change_given s line (unwrap_or line.index 0) o ≡ Ok (t, done) → ActionsStay s t
    given (Some params) e =
        let index : ℕ = unwrap_or line.index 0 in
        let same = (same_step (with_params s line.kind index params) t dones.ActionChanged done e).0 in
        let long = length-map s.actions (λ (x : Action). if is_named line.kind index x then record x { params = params } else x) in
        let now = ap (λ (u : State). length u.actions) same in
        record { live = omega (arith, long, now); made = sym (ap (λ (u : State). u.actions_made) same) }
    given None e = absurd (err_ok (refusals.NoSuchAction line.kind (unwrap_or line.index 0)) (t, done) e)

-- ---- one goes: the only one of its name
module _ (kind : Kind) (index : ℕ) where
  abbrev it : Action → Bool
  it = is_named kind index

  -- two of one name don't stand apart
  not_again : (x y : Action) → it x ≡ true → StandApart x y → it y ≡ false
  not_again x y is apart = false_from_ne_true (it y) (λ also. let a = named kind index x is in let b = named kind index y also in apart.names (a.0 ∙ sym b.0) (a.1 ∙ sym b.1))

  no_others : (x : Action) (xs : List Action) → it x ≡ true → Each (StandApart x) xs → length (filter it xs) ≡ 0
  no_others x [] is apart = refl
  no_others x (y ∷ ys) is apart = ap (λ b. length (cond b (y ∷ filter it ys) (filter it ys))) (not_again x y is apart.0) ∙ no_others x ys is apart.1

  only_one : (xs : List Action) → EachPair StandApart xs → list_any it xs ≡ true → length (filter it xs) ≡ 1
  only_one [] apart live = absurd (false≢true live)
  only_one (x ∷ xs) apart live = step (it x) refl live (only_one xs apart.1)
    where
      step : (b : Bool) → it x ≡ b → (b || list_any it xs) ≡ true → (list_any it xs ≡ true → length (filter it xs) ≡ 1) → length (cond b (x ∷ filter it xs) (filter it xs)) ≡ 1
      step true is live rest = let none = no_others x xs is apart.0 in omega (arith, none)
      step false is live rest = rest live

pub deleted : (s t : State) (kind : Kind) (index : ℕ) (done : Done) → Sound s → step s (edits.ActionDel kind index) ≡ Ok (t, done) → ActionGoes s t
deleted s t kind index done sound e =
    let it : Action → Bool = is_named kind index in
    let left : List Action = filter (λ x. not (it x)) s.actions in
    let rest = not_unless (or_else (no_such_action s kind index) (action_bound s kind index)) (Ok (record s { actions = left }, dones.ActionGone)) (t, done) e in
    let live = not_not (is_live kind index s.actions) (not_refused (not (is_live kind index s.actions)) (refusals.NoSuchAction kind index) (neither (no_such_action s kind index) (action_bound s kind index) rest.0).0) in
    let same = (same_step (record s { actions = left }) t dones.ActionGone done rest.1).0 in
    let one = only_one kind index s.actions sound.apart live in
    let both = length-filter_both it (λ x. not (it x)) (λ x. refl) s.actions in
    let now = ap (λ (u : State). length u.actions) same in
    record { live = omega (arith, one, both, now); made = sym (ap (λ (u : State). u.actions_made) same) }
