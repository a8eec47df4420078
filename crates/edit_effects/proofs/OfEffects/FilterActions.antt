-- An edit of filters makes actions with new serials, takes some away, and gives none other parameters.
use Rattle.std.proofs.Common.{◌≡◌, ◌≢◌, ◌⊎◌, inl, inr, ℕ, ◌≤◌, ◌&&◌, Bool, List, [], Option, Some, None, Ok, refl, sym, ◌∙◌, ap, subst, eqb-true, lt_of_not-le}
use Rattle.std.specs.Prelude.{filter}
use Rattle.std.specs.Option.{option_map}
use Rattle.std.proofs.lemmas.Option.{none-some}
use Rattle.tc_base.specs.declared.hook.Hook.{Hook}
use Rattle.tc_base.specs.declared.hook.Proto.{Proto}
use Rattle.act_kinds.specs.declared.params.Params.{Params}
use Rattle.filter_state.specs.declared.edit.FilterLine.{FilterLine}
use Rattle.filter_state.specs.declared.edit.Edit.{Edit}
use Rattle.filter_state.specs.declared.edit.Edit.TheVariants as edits
use Rattle.filter_state.specs.declared.refusal.Done.{Done}
use Rattle.filter_state.specs.declared.refusal.Done.TheVariants as dones
use Rattle.filter_state.specs.declared.refusal.Refusal.{Refusal}
use Rattle.filter_state.specs.States.{Row, Action, State}
use Rattle.filter_state.specs.Actions.{has_serial, Resolved}
use Rattle.filter_state.specs.Tables.{first_where, in_table, has_handle}
use Rattle.filter_state.specs.Refusals.{or_else, no_hook, protocol_clash_if, no_such_table, no_such_filter}
use Rattle.filter_state.specs.Steps.{made_of, resolved_for, with_actions, with_replaced, taken_out, filter_add, replace_or_add, filter_replace, filter_del, step}
use Rattle.filter_state.specs.Sound.{Sound, IsAction, StandApart, places}
use Rattle.filter_state.proofs.Pairs.{each_weaker, pairs_weaker, found}
use Rattle.edit_effects.specs.OfEffects.Parts.{params_at}
use Rattle.edit_effects.specs.OfEffects.Effects.{KeepsActions, LosesNoAction, MakesNoAction}
use Rattle.edit_effects.proofs.OfEffects.Accepted.{not_unless, same_step}
use Rattle.edit_effects.proofs.OfEffects.Params.{params_in, Rise, StayOrGo}
use Rattle.edit_effects.proofs.OfEffects.Rising.{AreRising, Grows, list_grows, stay_or_go, list_unbound}
use Rattle.edit_effects.proofs.OfEffects.Adding.{adds}
use Rattle.edit_effects.proofs.OfEffects.Replacing.{exchanged_actions, is_there, replaces}

-- ---- a sound state's serials
rising_of : (s : State) → Sound s → AreRising s.actions_made s.actions
rising_of s sound = record {
  given = each_weaker (IsAction s) (λ x. x.serial ≤ s.actions_made) (λ x is. let range = is.serial in range.1) s.actions sound.actions;
  rise = pairs_weaker StandApart Rise (λ x y apart. apart.rising) s.actions sound.apart;
}

is_some : (o : Option Action) (params : Params) → option_map (λ (a : Action). a.params) o ≡ Some params → (x : Action) × (o ≡ Some x)
is_some None params e = absurd (none-some params e)
is_some (Some x) params e = (x, refl)

-- an action that is live has a serial that was given
was_given : (made serial : ℕ) (xs : List Action) (params : Params) → AreRising made xs → params_in xs serial ≡ Some params → serial ≤ made
was_given made serial xs params rising is =
    let first = is_some (first_where (has_serial serial) xs) params is in
    let low = found (λ x. x.serial ≤ made) (has_serial serial) xs first.0 rising.given first.1 in
    subst (λ n. n ≤ made) (eqb-true first.0.serial serial low.1) low.0

-- ---- no serial that was given gets other parameters
abbrev OldStayOrGo : State → State → Type 0
OldStayOrGo s t = (serial : ℕ) → serial ≤ s.actions_made → StayOrGo s.actions t.actions serial

as_before : (s t : State) (serial : ℕ) (params : Params) → params_at s serial ≡ Some params → StayOrGo s.actions t.actions serial → (params_at t serial ≡ Some params) ⊎ (params_at t serial ≡ None)
as_before s t serial params is (inl same) = inl (same ∙ is)
as_before s t serial params is (inr none) = inr none

not_come : (s t : State) (serial : ℕ) → params_at s serial ≡ None → params_at t serial ≢ None → StayOrGo s.actions t.actions serial → ⊥
not_come s t serial none some (inl same) = some (same ∙ none)
not_come s t serial none some (inr gone) = some gone

keeps_actions : (s t : State) → Sound s → OldStayOrGo s t → KeepsActions s t
keeps_actions s t sound old = record {
  stays = λ serial params is. as_before s t serial params is (old serial (was_given s.actions_made serial s.actions params (rising_of s sound) is));
  comes = λ serial none some. lt_of_not-le (λ low. not_come s t serial none some (old serial low));
}

-- ---- a filter is added
line_grows : (s : State) (line : FilterLine) (r : Resolved) → Sound s → resolved_for s line.actions ≡ Ok r → Grows (record { so_far = made_of s; serials = [] }) r
line_grows s line r sound = list_grows (record { so_far = made_of s; serials = [] }) r line.actions (rising_of s sound)

abbrev OldStay : State → State → Type 0
OldStay s t = (serial : ℕ) → serial ≤ s.actions_made → params_at t serial ≡ params_at s serial

old_stay : (s t : State) (line : FilterLine) (done : Done) → Sound s → filter_add s line ≡ Ok (t, done) → OldStay s t
old_stay s t line done sound e =
    let a = adds s t line done e in
    let grows = line_grows s line a.r sound a.resolves in
    subst (OldStay s) a.after (λ serial low. grows.kept serial low)

add_keeps : (s t : State) (line : FilterLine) (done : Done) → Sound s → filter_add s line ≡ Ok (t, done) → KeepsActions s t
add_keeps s t line done sound e = keeps_actions s t sound (λ serial low. inl (old_stay s t line done sound e serial low))

not_lost : (s t : State) (serial : ℕ) (o : Option Params) → Sound s → OldStay s t → params_at s serial ≡ o → params_at s serial ≢ None → params_at t serial ≢ None
not_lost s t serial None sound old is some gone = some is
not_lost s t serial (Some params) sound old is some gone =
    some (sym (old serial (was_given s.actions_made serial s.actions params (rising_of s sound) is)) ∙ gone)

pub add_loses_none : (s t : State) (done : Done) (line : FilterLine) → Sound s → filter_add s line ≡ Ok (t, done) → LosesNoAction s t
add_loses_none s t done line sound e serial = not_lost s t serial (params_at s serial) sound (old_stay s t line done sound e) refl

-- ---- a filter is replaced
replace_case : (s t : State) (line : FilterLine) (o : Option Row) (done : Done) → Sound s → is_there s line ≡ o → filter_replace s line ≡ Ok (t, done) → KeepsActions s t
replace_case s t line None done sound is e = add_keeps s t line done sound (sym (ap (replace_or_add s line) is) ∙ e)
replace_case s t line (Some old) done sound is e =
    let a = replaces s t line old done is e in
    let grows = line_grows s line a.r sound a.resolves in
    let rising = grows.rising in
    let next : State = with_actions (with_replaced s line old a.r.serials) (exchanged_actions old a.r) in
    subst (KeepsActions s) a.after
    (keeps_actions s next sound
    (λ serial low. stay_or_go serial s.actions a.r.so_far.actions next.actions (inl (grows.kept serial low)) (list_unbound old.actions serial a.r.so_far.actions rising.rise)))

replace_keeps : (s t : State) (line : FilterLine) (done : Done) → Sound s → filter_replace s line ≡ Ok (t, done) → KeepsActions s t
replace_keeps s t line done sound e = replace_case s t line (is_there s line) done sound refl e

-- ---- filters are deleted
-- some rows are taken out
deletes : (s t : State) (hook : Hook) (protocol : Option Proto) (chain pref : ℕ) (handle : Option ℕ) (done : Done) → filter_del s hook protocol chain pref handle ≡ Ok (t, done) →
    (gone : Row → Bool) × (taken_out s gone ≡ t)
deletes s t hook protocol chain pref (Some handle) done e =
    let gone : Row → Bool = λ row. in_table hook chain pref row && has_handle handle row in
    let refused : Option Refusal = or_else (no_hook s) (or_else (protocol_clash_if s hook chain pref protocol) (or_else (no_such_table s hook chain pref) (no_such_filter s hook chain pref handle))) in
    let next = not_unless refused (Ok (taken_out s gone, dones.FilterGone)) (t, done) e in
    (gone, (same_step (taken_out s gone) t dones.FilterGone done next.1).0)
deletes s t hook protocol chain pref None done e =
    let gone : Row → Bool = in_table hook chain pref in
    let refused : Option Refusal = or_else (no_hook s) (or_else (protocol_clash_if s hook chain pref protocol) (no_such_table s hook chain pref)) in
    let next = not_unless refused (Ok (taken_out s gone, dones.TableGone)) (t, done) e in
    (gone, (same_step (taken_out s gone) t dones.TableGone done next.1).0)

abbrev AllStayOrGo : State → State → Type 0
AllStayOrGo s t = (serial : ℕ) → StayOrGo s.actions t.actions serial

delete_unbinds : (s t : State) (hook : Hook) (protocol : Option Proto) (chain pref : ℕ) (handle : Option ℕ) (done : Done) → Sound s →
    filter_del s hook protocol chain pref handle ≡ Ok (t, done) → AllStayOrGo s t
delete_unbinds s t hook protocol chain pref handle done sound e =
    let taken = deletes s t hook protocol chain pref handle done e in
    let rising = rising_of s sound in
    subst (AllStayOrGo s) taken.1 (λ serial. list_unbound (places (filter taken.0 s.rows)) serial s.actions rising.rise)

none_comes : (s t : State) (serial : ℕ) → params_at s serial ≡ None → StayOrGo s.actions t.actions serial → params_at t serial ≡ None
none_comes s t serial none (inl same) = same ∙ none
none_comes s t serial none (inr gone) = gone

pub delete_makes_none : (s t : State) (done : Done) (hook : Hook) (protocol : Option Proto) (chain pref : ℕ) (handle : Option ℕ) → Sound s →
    filter_del s hook protocol chain pref handle ≡ Ok (t, done) → MakesNoAction s t
delete_makes_none s t done hook protocol chain pref handle sound e serial none = none_comes s t serial none (delete_unbinds s t hook protocol chain pref handle done sound e serial)

-- ---- each
pub filters_keep : (s t : State) (edit : Edit) (done : Done) (line : FilterLine) (hook : Hook) (protocol : Option Proto) (chain pref : ℕ) (handle : Option ℕ) → Sound s → step s edit ≡ Ok (t, done) →
    (edit ≡ edits.FilterAdd line) ⊎ ((edit ≡ edits.FilterReplace line) ⊎ (edit ≡ edits.FilterDel hook protocol chain pref handle)) → KeepsActions s t
filters_keep s t edit done line hook protocol chain pref handle sound e (inl is) = add_keeps s t line done sound (subst (λ x. step s x ≡ Ok (t, done)) is e)
filters_keep s t edit done line hook protocol chain pref handle sound e (inr (inl is)) = replace_keeps s t line done sound (subst (λ x. step s x ≡ Ok (t, done)) is e)
filters_keep s t edit done line hook protocol chain pref handle sound e (inr (inr is)) =
    let goes = delete_unbinds s t hook protocol chain pref handle done sound (subst (λ x. step s x ≡ Ok (t, done)) is e) in
    keeps_actions s t sound (λ serial low. goes serial)
