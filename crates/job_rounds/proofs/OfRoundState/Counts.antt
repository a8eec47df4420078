-- What a desk makes: over its journal, and by one edit.
use Rattle.std.proofs.Common.{◌≡◌, ◌∙◌, ℕ, ◌≤◌, ◌<◌, List, [], ◌∷◌, ◌++◌, length, Ok, sym, ap, subst, arith}
use Rattle.std.proofs.Math.Seq.{take-length}
use Rattle.store_history.specs.declared.history.Commit.{Commit}
use Rattle.store_history.specs.History.{edits_of}
use Rattle.filter_state.specs.declared.edit.Edit.{Edit}
use Rattle.filter_state.specs.declared.refusal.Done.{Done}
use Rattle.filter_state.specs.States.{Action, State, no_state}
use Rattle.filter_state.specs.Steps.{step}
use Rattle.filter_state.specs.Journals.{state_after, state_from}
use Rattle.filter_state.specs.Lines.{IsLine}
use Rattle.filter_state.specs.Sound.{Sound}
use Rattle.hook_lists.specs.declared.kept.Kept.{Kept}
use Rattle.hook_lists.specs.States.{state_of, AreKept}
use Rattle.filter_lists.specs.Spells.{Spells}
use Rattle.filter_lists.specs.Edits.{MayStep}
use Rattle.state_laws.proofs.OfOrder.Soundness.{sound_same}
use Rattle.hook_store_law.specs.OfEdits.Premises.{now}
use Rattle.hook_store_law.proofs.States.{state_is}
use Rattle.desk_needs.proofs.OfRoom.Lines.{few_made}
use Rattle.round_terms.specs.MadeAction.{MadeAction}
use Rattle.round_terms.specs.Made.{later_names, made_since}
use Rattle.round_terms.specs.Underway.{made_behind}
use Rattle.round_terms.proofs.Making.{few_from, made_count, one_behind}

-- the state that commits have come to is that of their edits
pub now_is : (h : List (Commit Edit)) → now h ≡ state_from no_state (edits_of h)
now_is h = state_is (edits_of h) (length (edits_of h)) ∙ ap (state_from no_state) (take-length (edits_of h))

pub may_step : (h : List (Commit Edit)) (lists : Kept) → Spells lists (now h) → length (edits_of h) < 262144 → MayStep lists
may_step h lists spells short =
    let few = few_from no_state (edits_of h) in
    let tables = spells.tables_made ∙ ap (λ (s : State). s.tables_made) (now_is h) in
    let masks = spells.masks_made ∙ ap (λ (s : State). s.masks_made) (now_is h) in
    let a = few.tables in
    let b = few.masks in
    record { tables = omega (arith, a, tables, short); masks = omega (arith, b, masks, short) }

-- ---- the names of new actions
-- an edit makes 16 actions at most
made_since_few : (s next : State) (edit : Edit) (done : Done) → Sound s → IsLine edit → step s edit ≡ Ok (next, done) → length (made_since s next) ≤ 16
made_since_few s next edit done sound line stepped =
    let count = made_count s next edit done sound line stepped in
    let few = few_made s next edit done line stepped in
    omega (arith, count, few)

-- the lists before and after an edit name the actions that it made
names_since : (old new : Kept) (s next : State) (names : List Action) → Spells old s → Spells new next → names ≡ (state_of new).actions → later_names old.actions.made names ≡ made_since s next
names_since old new s next names before after are =
    ap (λ (made : ℕ). later_names made names) before.actions_made ∙ ap (λ (actions : List Action). later_names s.actions_made actions) (are ∙ after.actions)

pub record IsNamed (old new : Kept) (before : ℕ) (names : List Action) (g h : List (Commit Edit)) : Type 0 where
  pub kept : AreKept old
  pub spells : Spells old (now g)
  pub after : Spells new (now h)
  pub count : before ≡ old.actions.made
  pub names_are : names ≡ (state_of new).actions

named_since : (old new : Kept) (before : ℕ) (names : List Action) (g h : List (Commit Edit)) → IsNamed old new before names g h → later_names before names ≡ made_since (now g) (now h)
named_since old new before names g h it =
    ap (λ (made : ℕ). later_names made names) it.count ∙ names_since old new (now g) (now h) names it.spells it.after it.names_are

pub few_names : (old new : Kept) (before : ℕ) (names : List Action) (g h : List (Commit Edit)) (edit : Edit) (done : Done) → IsNamed old new before names g h → IsLine edit → step (now g) edit ≡ Ok (now h, done)
    → length (later_names before names) ≤ 16
few_names old new before names g h edit done it line stepped =
    let sound : Sound (now g) = sound_same (state_of old) (now g) it.spells it.kept.sound in
    subst (λ (ns : List MadeAction). length ns ≤ 16) (sym (named_since old new before names g h it)) (made_since_few (now g) (now h) edit done sound line stepped)

-- they are those of the edit behind the journal
pub names_behind : (old new : Kept) (before : ℕ) (names : List Action) (g h : List (Commit Edit)) (edit : Edit) (done : Done) → IsNamed old new before names g h → step (now g) edit ≡ Ok (now h, done)
    → edits_of h ≡ edits_of g ++ edit ∷ [] → later_names before names ≡ made_behind (edits_of g) (edits_of h)
names_behind old new before names g h edit done it stepped grown =
    let after : state_after (now g) (step (now g) edit) ≡ now h = ap (state_after (now g)) stepped in
    named_since old new before names g h it
    ∙ ap (made_since (now g)) (sym after)
    ∙ ap (λ (s : State). made_since s (state_after s (step s edit))) (now_is g)
    ∙ sym (one_behind (edits_of g) (edits_of h) edit grown)
