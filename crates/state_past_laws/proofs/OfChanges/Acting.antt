-- Which actions an accepted edit leaves as they were.
use Rattle.std.proofs.Common.{◌≡◌, ◌≢◌, ◌∙◌, ◌⊎◌, inl, inr, ℕ, ◌+◌, ◌<◌, ◌≤◌, ◌==◌, ◌&&◌, Bool, true, false, not, cond, List, [], ◌∷◌, Option, Some, None, Ok, refl, sym, ap, subst, arith, eqb-true}
use Rattle.std.specs.Prelude.{filter, if◌then◌else◌}
use Rattle.std.specs.List.{flat_map}
use Rattle.std.specs.Option.{option_map, unwrap_or}
use Rattle.std.proofs.lemmas.Bool.{ne_eqb, false_from_ne_true}
use Rattle.tc_base.specs.declared.hook.Hook.{Hook}
use Rattle.tc_base.specs.declared.hook.Proto.{Proto}
use Rattle.act_kinds.specs.declared.params.Kind.{Kind}
use Rattle.act_kinds.specs.declared.params.Params.{Params}
use Rattle.filter_state.specs.declared.action_line.ActionLine.{ActionLine}
use Rattle.filter_state.specs.declared.edit.Edit.{Edit}
use Rattle.filter_state.specs.declared.edit.Edit.TheVariants as edits
use Rattle.filter_state.specs.declared.edit.FilterLine.{FilterLine}
use Rattle.filter_state.specs.declared.refusal.Done.{Done}
use Rattle.filter_state.specs.declared.refusal.Done.TheVariants as dones
use Rattle.filter_state.specs.declared.refusal.Refusal.TheVariants as refusals
use Rattle.filter_state.specs.States.{Row, Action, State}
use Rattle.filter_state.specs.Actions.{is_named, is_live, has_serial, serial_of, change_where, more_bound, less_bound, is_referred, unbound, all_unbound, index_or_free, Made, made_more, Resolved, bound_more, made_bound, bound_or_made, resolved_by, resolved}
use Rattle.filter_state.specs.Tables.{first_where, in_table, has_handle, filter_row}
use Rattle.filter_state.specs.Sound.{Sound, Each, IsAction, StandApart}
use Rattle.filter_state.specs.Refusals.{or_else, no_hook, hook_exists, hook_in_use, action_exists, actions_full, counters_full, protocol_clash_if, no_such_table, no_such_filter}
use Rattle.filter_state.specs.Steps.{made_of, with_actions, with_params, taken_out, resolved_for, make_given, change_given, action_del, replace_or_add, filter_add, filter_replace, filter_del, step}
use Rattle.filter_state.proofs.Pairs.{each_weaker, each_map, each_append, each_passing, pairs_weaker}
use Rattle.state_laws.proofs.Answers.{same_ok, err_ok, and_then_ok}
use Rattle.state_laws.proofs.Tests.{named}
use Rattle.edit_effects.specs.OfEffects.Parts.{params_at}
use Rattle.edit_effects.proofs.OfEffects.Accepted.{not_unless, same_step}
use Rattle.edit_effects.proofs.OfEffects.Params.{params_in, params_none, params_before, params_spared, Rise}
use Rattle.edit_effects.proofs.OfEffects.Rising.{AreRising, list_grows}
use Rattle.edit_effects.proofs.OfEffects.Adding.{adds}
use Rattle.edit_effects.proofs.OfEffects.Replacing.{is_there, replaces}
use Rattle.edit_effects.proofs.OfEffects.Shared.{deleted_action}
use Rattle.state_past_laws.specs.OfChanges.Among.{Has, listed}
use Rattle.state_past_laws.specs.OfChanges.Going.{rows_going}
use Rattle.state_past_laws.specs.OfChanges.Serials.{serial_named, serials_going}
use Rattle.state_past_laws.proofs.OfChanges.Among.{has_left, pair_has, first_has, has_first, has_filter, filter_has, has_flat_map, flat_map_has}
use Rattle.state_past_laws.proofs.OfChanges.Going.{handle_all}

-- ---- other serials are unbound
abbrev IsHeld : Action → Type 0
IsHeld x = is_referred x ≡ true

abbrev lowered : (n : ℕ) → Action → Action
lowered n x = if has_serial n x then less_bound x else x

apart_serial : (n serial : ℕ) (x : Action) → n ≢ serial → has_serial serial x ≡ true → has_serial n x ≡ false
apart_serial n serial x other is = ne_eqb x.serial n (λ e. other (sym e ∙ eqb-true x.serial serial is))

same_serial : (n serial : ℕ) (x : Action) (b : Bool) → has_serial serial (if b then less_bound x else x) ≡ has_serial serial x
same_serial n serial x true = refl
same_serial n serial x false = refl

skipped : (serial : ℕ) (b : Bool) (y : Action) (ys : List Action) → has_serial serial y ≡ false → params_in (cond b (y ∷ ys) ys) serial ≡ params_in ys serial
skipped serial true y ys other = ap (λ (c : Bool). option_map (λ (a : Action). a.params) (cond c (Some y) (first_where (has_serial serial) ys))) other
skipped serial false y ys other = refl

one_unbound : (n serial : ℕ) (xs : List Action) → n ≢ serial → Each IsHeld xs → params_in (unbound n xs) serial ≡ params_in xs serial
one_unbound n serial [] other held = refl
one_unbound n serial (x ∷ xs) other held = pick (one_unbound n serial xs other held.1) (has_serial serial x) refl
  where
    pick : params_in (unbound n xs) serial ≡ params_in xs serial → (b : Bool) → has_serial serial x ≡ b → params_in (unbound n (x ∷ xs)) serial ≡ params_in (x ∷ xs) serial
    pick rest true is =
        ap (λ (b : Bool). params_in (cond (is_referred (if b then less_bound x else x)) ((if b then less_bound x else x) ∷ unbound n xs) (unbound n xs)) serial) (apart_serial n serial x other is)
        ∙ ap (λ (b : Bool). params_in (cond b (x ∷ unbound n xs) (unbound n xs)) serial) held.0
        ∙ ap (λ (b : Bool). option_map (λ (a : Action). a.params) (cond b (Some x) (first_where (has_serial serial) (unbound n xs)))) is
        ∙ sym (ap (λ (b : Bool). option_map (λ (a : Action). a.params) (cond b (Some x) (first_where (has_serial serial) xs))) is)
    pick rest false is =
        skipped serial (is_referred (lowered n x)) (lowered n x) (unbound n xs) (same_serial n serial x (has_serial n x) ∙ is)
        ∙ rest ∙ sym (skipped serial true x xs is)

all_others : (ns : List ℕ) (serial : ℕ) (xs : List Action) → (Has serial ns → ⊥) → Each IsHeld xs → params_in (all_unbound ns xs) serial ≡ params_in xs serial
all_others [] serial xs other held = refl
all_others (n ∷ ns) serial xs other held =
    all_others ns serial (unbound n xs) (λ has. other (inr has)) (each_passing is_referred (change_where (has_serial n) less_bound xs))
    ∙ one_unbound n serial xs (λ same. other (inl same)) held

-- ---- a line's actions are held
some_held : (n : ℕ) → 1 ≤ n → not (n == 0) ≡ true
some_held n some = ap not (ne_eqb n 0 (λ e. absurd (omega (arith, e, some))))

more_held : (test : Action → Bool) (x : Action) → IsHeld x → IsHeld (if test x then more_bound x else x)
more_held test x held = pick (test x)
  where
    pick : (b : Bool) → IsHeld (if b then more_bound x else x)
    pick true = some_held (x.references + 1) (omega arith)
    pick false = held

one_held : (r next : Resolved) (line : ActionLine) (index : ℕ) (serial : Option ℕ) (given : Option Params) → Each IsHeld r.so_far.actions → bound_or_made r line index serial given ≡ Ok next
    → Each IsHeld next.so_far.actions
one_held r next line index (Some serial) given held e = subst (λ (z : Resolved). Each IsHeld z.so_far.actions) (same_ok (bound_more r line.kind index serial) next e)
    (each_map IsHeld (λ (x : Action). if is_named line.kind index x then more_bound x else x) r.so_far.actions
    (each_weaker IsHeld (λ x. IsHeld (if is_named line.kind index x then more_bound x else x)) (more_held (is_named line.kind index)) r.so_far.actions held))
one_held r next line index None (Some params) held e = subst (λ (z : Resolved). Each IsHeld z.so_far.actions) (same_ok (made_bound r params index) next e)
    (each_append IsHeld r.so_far.actions (record { serial = r.so_far.made + 1; index = index; params = params; references = 1; binds = 1 } ∷ []) held (refl, tt))
one_held r next line index None None held e = absurd (err_ok (refusals.NoSuchAction line.kind index) next e)

all_held : (r last : Resolved) (lines : List ActionLine) → Each IsHeld r.so_far.actions → resolved r lines ≡ Ok last → Each IsHeld last.so_far.actions
all_held r last [] held e = subst (λ (z : Resolved). Each IsHeld z.so_far.actions) (same_ok r last e) held
all_held r last (line ∷ lines) held e =
    let first = and_then_ok (λ next. resolved next lines) (resolved_by r line) last e in
    let index : ℕ = index_or_free line.index line.kind r.so_far.actions in
    all_held first.0 last lines (one_held r first.0 line index (serial_of line.kind index r.so_far.actions) line.params held first.1) first.2

sound_held : (s : State) → Sound s → Each IsHeld s.actions
sound_held s sound = each_weaker (IsAction s) IsHeld (λ x is. some_held x.references is.held) s.actions sound.actions

line_held : (s : State) (lines : List ActionLine) (r : Resolved) → Sound s → resolved_for s lines ≡ Ok r → Each IsHeld r.so_far.actions
line_held s lines r sound e = all_held (record { so_far = made_of s; serials = [] }) r lines (sound_held s sound) e

rising_of : (s : State) → Sound s → AreRising s.actions_made s.actions
rising_of s sound = record {
  given = each_weaker (IsAction s) (λ x. x.serial ≤ s.actions_made) (λ x is. let range = is.serial in range.1) s.actions sound.actions;
  rise = pairs_weaker StandApart Rise (λ x y apart. apart.rising) s.actions sound.apart;
}

line_kept : (s : State) (lines : List ActionLine) (r : Resolved) → Sound s → resolved_for s lines ≡ Ok r → (serial : ℕ) → serial ≤ s.actions_made → params_in r.so_far.actions serial ≡ params_at s serial
line_kept s lines r sound e serial low = let grows = list_grows (record { so_far = made_of s; serials = [] }) r lines (rising_of s sound) e in grows.kept serial low

-- ---- edits of filters
abbrev pub KeepsOthers : State → State → List ℕ → Type 0
KeepsOthers s t going = (serial : ℕ) → serial ≤ s.actions_made → (Has serial going → ⊥) → params_at t serial ≡ params_at s serial

add_keeps : (s t : State) (line : FilterLine) (done : Done) (going : List ℕ) → Sound s → filter_add s line ≡ Ok (t, done) → KeepsOthers s t going
add_keeps s t line done going sound e = let a = adds s t line done e in
    subst (λ (u : State). KeepsOthers s u going) a.after (λ serial low other. line_kept s line.actions a.r sound a.resolves serial low)

abbrev acts_of : Row → List ℕ
acts_of row = row.actions

replace_keeps : (s t : State) (line : FilterLine) (o : Option Row) (done : Done) → Sound s → is_there s line ≡ o → filter_replace s line ≡ Ok (t, done) → KeepsOthers s t (flat_map acts_of (listed o))
replace_keeps s t line None done sound is e = add_keeps s t line done [] sound (sym (ap (replace_or_add s line) is) ∙ e)
replace_keeps s t line (Some old) done sound is e =
    let a = replaces s t line old done is e in
    subst (λ (u : State). KeepsOthers s u (flat_map acts_of (listed (Some old)))) a.after
    (λ serial low other. all_others old.actions serial a.r.so_far.actions (λ has. other (has_left serial old.actions [] has)) (line_held s line.actions a.r sound a.resolves)
    ∙ line_kept s line.actions a.r sound a.resolves serial low)

taken_keeps : (s t : State) (gone : Row → Bool) (going : List Row) → Sound s → taken_out s gone ≡ t → ((x : Row) → gone x ≡ true → Has x s.rows → Has x going) → KeepsOthers s t (flat_map acts_of going)
taken_keeps s t gone going sound is all = subst (λ (u : State). KeepsOthers s u (flat_map acts_of going)) is
    (λ serial low other. all_others (flat_map acts_of (filter gone s.rows)) serial s.actions (λ has. other (named_going serial has)) (sound_held s sound))
  where
    named_going : (serial : ℕ) → Has serial (flat_map acts_of (filter gone s.rows)) → Has serial (flat_map acts_of going)
    named_going serial has = let at = flat_map_has acts_of (filter gone s.rows) serial has in let own = filter_has gone s.rows at.0 at.1 in
        has_flat_map acts_of going at.0 serial (all at.0 own.1 own.0) at.2

del_keeps : (s t : State) (hook : Hook) (protocol : Option Proto) (chain pref : ℕ) (handle : Option ℕ) (done : Done) → Sound s → filter_del s hook protocol chain pref handle ≡ Ok (t, done)
    → KeepsOthers s t (flat_map acts_of (rows_going s (edits.FilterDel hook protocol chain pref handle)))
del_keeps s t hook protocol chain pref (Some handle) done sound stepped =
    let gone : Row → Bool = λ row. in_table hook chain pref row && has_handle handle row in
    let accepted = not_unless (or_else (no_hook s) (or_else (protocol_clash_if s hook chain pref protocol) (or_else (no_such_table s hook chain pref) (no_such_filter s hook chain pref handle)))) _ (t, done) stepped in
    taken_keeps s t gone (listed (filter_row hook chain pref handle s.rows)) sound (same_step (taken_out s gone) t dones.FilterGone done accepted.1).0 (handle_all hook chain pref handle s.rows sound.together)
del_keeps s t hook protocol chain pref None done sound stepped =
    let accepted = not_unless (or_else (no_hook s) (or_else (protocol_clash_if s hook chain pref protocol) (no_such_table s hook chain pref))) _ (t, done) stepped in
    taken_keeps s t (in_table hook chain pref) (filter (in_table hook chain pref) s.rows) sound (same_step (taken_out s (in_table hook chain pref)) t dones.TableGone done accepted.1).0
    (λ x passes has. has_filter (in_table hook chain pref) s.rows x passes has)

-- ---- edits of actions
made_keeps : (s t : State) (line : ActionLine) (o : Option Params) (done : Done) (going : List ℕ) → make_given s line o ≡ Ok (t, done) → KeepsOthers s t going
made_keeps s t line (Some params) done going e =
    let at : ℕ = index_or_free line.index line.kind s.actions in
    let next : Made = made_more (made_of s) params at 0 in
    let step = not_unless (or_else (actions_full next) (counters_full next)) (Ok (with_actions s next, dones.ActionMade at (s.actions_made + 1))) (t, done) e in
    let both = same_step (with_actions s next) t (dones.ActionMade at (s.actions_made + 1)) done step.1 in
    subst (λ (u : State). KeepsOthers s u going) both.0
    (λ serial low other. params_before serial s.actions (record { serial = s.actions_made + 1; index = at; params = params; references = 1; binds = 0 }) (λ same. absurd (omega (arith, low, same))))
made_keeps s t line None done going e = absurd (err_ok (refusals.NoSuchAction line.kind (unwrap_or line.index 0)) (t, done) e)

-- an action with that name has the serial that is told by it
one_name : (s : State) (kind : Kind) (index : ℕ) → Sound s → (x : Action) → is_named kind index x ≡ true → Has x s.actions → Has x.serial (listed (serial_named s kind index))
one_name s kind index sound x is has =
    let f = has_first (is_named kind index) s.actions x is has in let own = first_has (is_named kind index) s.actions f.0 f.1 in
    subst (λ (o : Option Action). Has x.serial (listed (option_map (λ (action : Action). action.serial) o))) (sym f.1) (inl (ap (λ (a : Action). a.serial) (pick f.0 own.1 (pair_has StandApart s.actions f.0 x sound.apart own.0 has))))
  where
    not_two : (a b : Action) → is_named kind index a ≡ true → is_named kind index b ≡ true → StandApart a b → ⊥
    not_two a b first second apart = let p = named kind index a first in let q = named kind index b second in apart.names (p.0 ∙ sym q.0) (p.1 ∙ sym q.1)

    pick : (a : Action) → is_named kind index a ≡ true → (a ≡ x) ⊎ (StandApart a x ⊎ StandApart x a) → a ≡ x
    pick a first (inl same) = same
    pick a first (inr (inl apart)) = absurd (not_two a x first is apart)
    pick a first (inr (inr apart)) = absurd (not_two x a is first apart)

has_each : {X : Type 0} (P : X → Type 0) (xs : List X) → ((x : X) → Has x xs → P x) → Each P xs
has_each P [] all = tt
has_each P (x ∷ xs) all = (all x (inl refl), has_each P xs (λ y has. all y (inr has)))

changed_keeps : (s : State) (kind : Kind) (index : ℕ) (params : Params) → Sound s → KeepsOthers s (with_params s kind index params) (listed (serial_named s kind index))
changed_keeps s kind index params sound serial low other = params_spared (is_named kind index) params serial s.actions
    (has_each (λ x. has_serial serial x ≡ true → is_named kind index x ≡ false) s.actions
    (λ x has own. false_from_ne_true (is_named kind index x) (λ is. other (subst (λ (n : ℕ). Has n (listed (serial_named s kind index))) (eqb-true x.serial serial own) (one_name s kind index sound x is has)))))

given_keeps : (s t : State) (line : ActionLine) (index : ℕ) (o : Option Params) (done : Done) → Sound s → change_given s line index o ≡ Ok (t, done) → KeepsOthers s t (listed (serial_named s line.kind index))
given_keeps s t line index (Some params) done sound e = let both = same_step (with_params s line.kind index params) t dones.ActionChanged done e in
    subst (λ (u : State). KeepsOthers s u (listed (serial_named s line.kind index))) both.0 (changed_keeps s line.kind index params sound)
given_keeps s t line index None done sound e = absurd (err_ok (refusals.NoSuchAction line.kind index) (t, done) e)

change_keeps : (s t : State) (line : ActionLine) (index : ℕ) (b : Bool) (done : Done) → Sound s → cond b (change_given s line index line.params) (make_given s line line.params) ≡ Ok (t, done)
    → KeepsOthers s t (listed (serial_named s line.kind index))
change_keeps s t line index true done sound e = given_keeps s t line index line.params done sound e
change_keeps s t line index false done sound e = made_keeps s t line line.params done (listed (serial_named s line.kind index)) e

action_del_keeps : (s t : State) (kind : Kind) (index : ℕ) (done : Done) → Sound s → action_del s kind index ≡ Ok (t, done) → KeepsOthers s t (listed (serial_named s kind index))
action_del_keeps s t kind index done sound e serial low other = let gone = deleted_action s t kind index done sound e in
    gone.3 serial (λ same. other (subst (λ (o : Option Action). Has serial (listed (option_map (λ (action : Action). action.serial) o))) (sym gone.1) (inl (sym same))))

-- ---- any edit
pub keeps_others : (s t : State) (edit : Edit) (done : Done) → Sound s → step s edit ≡ Ok (t, done) → KeepsOthers s t (serials_going s edit)
keeps_others s t edits.HookAdd done sound e = let first = not_unless (hook_exists s) (Ok (record s { hooked = true }, dones.Hooked)) (t, done) e in
    let both = same_step (record s { hooked = true }) t dones.Hooked done first.1 in subst (λ (u : State). KeepsOthers s u []) both.0 (λ serial low other. refl)
keeps_others s t edits.HookDel done sound e = let first = not_unless (or_else (no_hook s) (hook_in_use s)) (Ok (record s { hooked = false }, dones.Unhooked)) (t, done) e in
    let both = same_step (record s { hooked = false }) t dones.Unhooked done first.1 in subst (λ (u : State). KeepsOthers s u []) both.0 (λ serial low other. refl)
keeps_others s t (edits.FilterAdd line) done sound e = add_keeps s t line done [] sound e
keeps_others s t (edits.FilterReplace line) done sound e = replace_keeps s t line (is_there s line) done sound refl e
keeps_others s t (edits.FilterDel hook protocol chain pref handle) done sound e = del_keeps s t hook protocol chain pref handle done sound e
keeps_others s t (edits.ActionAdd line) done sound e = made_keeps s t line line.params done [] (not_unless (action_exists s line.kind line.index) (make_given s line line.params) (t, done) e).1
keeps_others s t (edits.ActionChange line) done sound e = change_keeps s t line (unwrap_or line.index 0) (is_live line.kind (unwrap_or line.index 0) s.actions) done sound e
keeps_others s t (edits.ActionDel kind index) done sound e = action_del_keeps s t kind index done sound e

-- what wasn't given yet isn't live
pub never_given : (s : State) (serial : ℕ) → Sound s → s.actions_made < serial → params_at s serial ≡ None
never_given s serial sound above = params_none serial s.actions
    (each_weaker (IsAction s) (λ x. has_serial serial x ≡ false) (λ x is. let low = is.serial in ne_eqb x.serial serial (λ e. absurd (omega (arith, low.1, e, above)))) s.actions sound.actions)
