-- An action apart from filters is made or changed: its index, and that nothing else is otherwise.
use Rattle.std.proofs.Common.{◌≡◌, ◌⊎◌, inl, inr, ℕ, ◌+◌, Bool, true, false, cond, List, [], ◌∷◌, Option, Some, None, Ok, Err, refl, sym, ◌∙◌, ap, subst, arith, eqb-true}
use Rattle.std.specs.Option.{option_map, unwrap_or}
use Rattle.std.proofs.lemmas.Option.{none-some, same_Some}
use Rattle.act_kinds.specs.declared.params.Params.{Params}
use Rattle.store_history.specs.declared.history.Commit.{Commit}
use Rattle.filter_state.specs.declared.action_line.ActionLine.{ActionLine}
use Rattle.filter_state.specs.declared.edit.Edit.{Edit}
use Rattle.filter_state.specs.declared.edit.Edit.TheVariants as edits
use Rattle.filter_state.specs.declared.refusal.Done.{Done}
use Rattle.filter_state.specs.declared.refusal.Done.TheVariants as dones
use Rattle.filter_state.specs.States.{Action, State}
use Rattle.filter_state.specs.Actions.{is_named, is_live, has_serial, index_or_free, Made, made_more}
use Rattle.filter_state.specs.Tables.{first_where}
use Rattle.filter_state.specs.Refusals.{or_else, action_exists, actions_full, counters_full}
use Rattle.filter_state.specs.Steps.{Stepped, made_of, with_actions, make_given, change_given, step}
use Rattle.filter_state.specs.Sound.{Sound, Each, IsAction}
use Rattle.filter_state.proofs.Pairs.{each_weaker, each_append, found}
use Rattle.hook_law.specs.Meaning.{IsLive}
use Rattle.hook_meaning.specs.Stated.{action_stated, hook_meaning}
use Rattle.edit_effects.specs.OfEffects.Effects.{ChangesAction}
use Rattle.edit_effects.proofs.OfEffects.Shared.{added_action, changed_in, changed_action}
use Rattle.hook_meaning.specs.OfEdits.Premises.{now, next, IsAccepted, SetsAction}
use Rattle.hook_meaning.proofs.OfEdits.Accepted.{sound, at_next}
use Rattle.hook_meaning.proofs.OfEdits.Stepping.{unless_refused}
use Rattle.hook_meaning.proofs.OfEdits.Stating.{rows_stay}
use Rattle.hook_meaning.proofs.OfEdits.Indexes.{index_in, own_indexes}
use Rattle.hook_meaning.proofs.OfEdits.Acting.{at, params_of, terms_of, with_terms, Goes, goes, same_action, serial_given, index_kept}
use Rattle.hook_meaning.proofs.OfEdits.Unfiltered.{same_rows}

-- ---- the index of what is made
abbrev HasIndex : ℕ → ℕ → Action → Type 0
HasIndex serial index x = x.serial ≡ serial → x.index ≡ index

abbrev MadeTells : Done → State → Type 0
MadeTells (dones.ActionMade index serial) t = Each (HasIndex serial index) t.actions
MadeTells done t = Unit {0}

abbrev Tells : Stepped → Type 0
Tells (Ok step) = MadeTells step.1 step.0
Tells (Err refusal) = Unit {0}

module _ (s : State) (s_sound : Sound s) where
  new_index : (index : ℕ) (x : Action) → IsAction s x → HasIndex (s.actions_made + 1) index x
  new_index index x is same = let range = is.serial in let low = range.1 in absurd (omega (arith, low, same))

  make_tells : (line : ActionLine) (given : Option Params) → Tells (make_given s line given)
  make_tells line (Some params) =
      let index : ℕ = index_or_free line.index line.kind s.actions in
      let more : Made = made_more (made_of s) params index 0 in
      let new : Action = record { serial = s.actions_made + 1; index = index; params = params; references = 1; binds = 0 } in
      unless_refused Tells (λ refusal. tt) (or_else (actions_full more) (counters_full more)) (Ok (with_actions s more, dones.ActionMade index (s.actions_made + 1)))
      (each_append (HasIndex (s.actions_made + 1) index) s.actions (new ∷ [])
      (each_weaker (IsAction s) (HasIndex (s.actions_made + 1) index) (new_index index) s.actions s_sound.actions) ((λ same. refl), tt))
  make_tells line None = tt

  given_tells : (line : ActionLine) (index : ℕ) (given : Option Params) → Tells (change_given s line index given)
  given_tells line index (Some params) = tt
  given_tells line index None = tt

  change_tells : (line : ActionLine) (index : ℕ) (b : Bool) → Tells (cond b (change_given s line index line.params) (make_given s line line.params))
  change_tells line index true = given_tells line index line.params
  change_tells line index false = make_tells line line.params

  added_tells : (line : ActionLine) → Tells (step s (edits.ActionAdd line))
  added_tells line = unless_refused Tells (λ refusal. tt) (action_exists s line.kind line.index) (make_given s line line.params) (make_tells line line.params)

  changed_tells : (line : ActionLine) → Tells (step s (edits.ActionChange line))
  changed_tells line = change_tells line (unwrap_or line.index 0) (is_live line.kind (unwrap_or line.index 0) s.actions)

-- ---- one action is set
set_case : (t : State) (serial index : ℕ) (params : Params) (o : Option Action) → at t serial ≡ o → params_of o ≡ Some params → ((y : Action) → at t serial ≡ Some y → y.index ≡ index)
    → terms_of o ≡ with_terms index params
set_case t serial index params None is same indexed = absurd (none-some params same)
set_case t serial index params (Some y) is same indexed = ap (λ i. with_terms i y.params) (indexed y is) ∙ ap (λ p. with_terms index p) (same_Some y.params params same)

sets : (s t : State) (serial index : ℕ) (params : Params) → Goes s t → t.rows ≡ s.rows → ChangesAction serial params s t → ((y : Action) → at t serial ≡ Some y → y.index ≡ index)
    → SetsAction serial index params s t
sets s t serial index params g rows c indexed = let stay = rows_stay s t rows in record {
  touches = record { heads = stay.heads; words = stay.words; filters = stay.filters; params = λ other differs. same_action s t other g (c.others other differs) };
  here = set_case t serial index params (at t serial) refl c.here indexed;
}

-- ---- made
no_action : (s : State) (serial : ℕ) (o : Option Action) → Sound s → serial ≡ s.actions_made + 1 → at s serial ≡ o → terms_of o ≡ None
no_action s serial None s_sound new is = refl
no_action s serial (Some x) s_sound new is = let low = (serial_given s serial x s_sound is).1 in absurd (omega (arith, new, low))

abbrev IsMade : State → State → ActionLine → ℕ → ℕ → Type 0
IsMade s t line index serial = (serial ≡ s.actions_made + 1) × (IsLive hook_meaning s serial → ⊥) × ((params : Params) × (line.params ≡ Some params) × SetsAction serial index params s t)

made : (s t : State) (line : ActionLine) (index serial : ℕ) → Goes s t → t.rows ≡ s.rows → Each (HasIndex serial index) t.actions
    → (serial ≡ s.actions_made + 1) × ((params : Params) × (line.params ≡ Some params) × ChangesAction serial params s t) → IsMade s t line index serial
made s t line index serial g rows indexes m =
    let indexed : (y : Action) → at t serial ≡ Some y → y.index ≡ index = λ y is.
    let has = found (HasIndex serial index) (has_serial serial) t.actions y indexes is in has.0 (eqb-true y.serial serial has.1) in
    (m.0, λ live. live (no_action s serial (at s serial) g.sound m.0 refl), (m.1.0, m.1.1, sets s t serial index m.1.0 g rows m.1.2 indexed))

made_from : (s t : State) (y : Edit) (line : ActionLine) (index serial : ℕ) → Sound s → (y ≡ edits.ActionAdd line) ⊎ (y ≡ edits.ActionChange line) → step s y ≡ Ok (t, dones.ActionMade index serial)
    → IsMade s t line index serial
made_from s t y line index serial s_sound (inl is) e =
    let done : Done = dones.ActionMade index serial in
    let e' = subst (λ x. step s x ≡ Ok (t, done)) is e in
    made s t line index serial (goes s t (edits.ActionAdd line) done s_sound e') (same_rows s t (edits.ActionAdd line) done (λ no. no) e') (subst Tells e' (added_tells s s_sound line))
    (added_action s t line index serial s_sound e')
made_from s t y line index serial s_sound (inr is) e =
    let done : Done = dones.ActionMade index serial in
    let e' = subst (λ x. step s x ≡ Ok (t, done)) is e in
    made s t line index serial (goes s t (edits.ActionChange line) done s_sound e') (same_rows s t (edits.ActionChange line) done (λ no. no) e') (subst Tells e' (changed_tells s s_sound line))
    (changed_in s t line index serial s_sound e')

pub made_after : (h : List (Commit Edit)) (b : ℕ) (y : Edit) (t : State) (line : ActionLine) (index serial : ℕ) → IsAccepted h b y t (dones.ActionMade index serial)
    → (y ≡ edits.ActionAdd line) ⊎ (y ≡ edits.ActionChange line) → IsMade (now h) (next h y) line index serial
made_after h b y t line index serial a is =
    let done : Done = dones.ActionMade index serial in
    at_next h b y t done a (λ u. IsMade (now h) u line index serial) (made_from (now h) t y line index serial (sound h b y t done a) is a.steps)

-- ---- changed
with_index : (o : Option Action) (index : ℕ) → option_map (λ (x : Action). x.index) o ≡ Some index → (x : Action) × (o ≡ Some x) × (x.index ≡ index)
with_index None index e = absurd (none-some index e)
with_index (Some x) index e = (x, refl, same_Some x.index index e)

abbrev IsChanged : State → State → ActionLine → Type 0
IsChanged s t line = (action : Action) × (params : Params) × (first_where (is_named line.kind (unwrap_or line.index 0)) s.actions ≡ Some action) × (line.params ≡ Some params)
    × IsLive hook_meaning s action.serial × SetsAction action.serial action.index params s t

changed_from : (s t : State) (line : ActionLine) → Sound s → step s (edits.ActionChange line) ≡ Ok (t, dones.ActionChanged) → IsChanged s t line
changed_from s t line s_sound e =
    let c = changed_action s t line s_sound e in
    let action : Action = c.0 in
    let own = found (λ x. index_in s.actions x.serial ≡ Some x.index) (is_named line.kind (unwrap_or line.index 0)) s.actions action (own_indexes s.actions s_sound.apart) c.2 in
    let was = with_index (at s action.serial) action.index own.0 in
    let g = goes s t (edits.ActionChange line) dones.ActionChanged s_sound e in
    let live : IsLive hook_meaning s action.serial = λ none. none-some (action_stated was.0) (sym none ∙ ap terms_of was.1) in (
      action,
      c.1,
      c.2,
      c.3,
      live,
      sets s t action.serial action.index c.1 g (same_rows s t (edits.ActionChange line) dones.ActionChanged (λ no. no) e) c.4
          (λ y is. index_kept s t action.serial was.0 y g was.1 is ∙ was.2),
    )

pub changed_after : (h : List (Commit Edit)) (b : ℕ) (t : State) (line : ActionLine) → IsAccepted h b (edits.ActionChange line) t dones.ActionChanged
    → IsChanged (now h) (next h (edits.ActionChange line)) line
changed_after h b t line a =
    let y : Edit = edits.ActionChange line in
    at_next h b y t dones.ActionChanged a (λ u. IsChanged (now h) u line) (changed_from (now h) t line (sound h b y t dones.ActionChanged a) a.steps)
