-- An action that goes with an edit of filters was named by a filter that goes.
use Rattle.std.proofs.Common.{◌≡◌, ◌⊎◌, inl, inr, ℕ, zero, suc, ◌+◌, ◌&&◌, Bool, true, false, cond, if◌then◌else◌, List, [], ◌∷◌, slice_get, Option, Some, None, Ok, refl, sym, ◌∙◌, ap, subst, eqb, eqb-true}
use Rattle.std.specs.Prelude.{filter}
use Rattle.std.specs.List.{list_any, flat_map}
use Rattle.std.specs.Option.{option_map, unwrap_or}
use Rattle.std.proofs.lemmas.Bool.{eqb-false}
use Rattle.tc_base.specs.declared.hook.Hook.{Hook}
use Rattle.tc_base.specs.declared.hook.Proto.{Proto}
use Rattle.act_kinds.specs.declared.params.Params.{Params}
use Rattle.filter_state.specs.declared.action_line.ActionLine.{ActionLine}
use Rattle.filter_state.specs.declared.edit.Edit.{Edit}
use Rattle.filter_state.specs.declared.edit.Edit.TheVariants as edits
use Rattle.filter_state.specs.declared.edit.FilterLine.{FilterLine}
use Rattle.filter_state.specs.declared.refusal.Done.{Done}
use Rattle.filter_state.specs.declared.refusal.Done.TheVariants as dones
use Rattle.filter_state.specs.declared.refusal.Refusal.{Refusal}
use Rattle.filter_state.specs.declared.refusal.Refusal.TheVariants as refusals
use Rattle.filter_state.specs.States.{Row, Action, State}
use Rattle.filter_state.specs.Actions.{is_named, has_serial, serial_of, more_bound, index_or_free, Resolved, bound_more, made_bound, bound_or_made, resolved_by, resolved}
use Rattle.filter_state.specs.Tables.{first_where, in_table, has_handle}
use Rattle.filter_state.specs.Refusals.{or_else, no_hook, protocol_clash_if, no_such_table, no_such_filter}
use Rattle.filter_state.specs.Steps.{made_of, resolved_for, with_actions, with_replaced, taken_out, filter_add, replace_or_add, filter_replace, filter_del, step}
use Rattle.filter_state.specs.Sound.{Sound, Each, IsRow, IsAction}
use Rattle.filter_state.proofs.Pairs.{each_weaker, each_filter, each_flat_map, found, any_first}
use Rattle.state_laws.proofs.Answers.{same_ok, err_ok, and_then_ok}
use Rattle.hook_store_law.proofs.OfEffects.Accepted.{not_unless, same_step}
use Rattle.hook_store_law.proofs.OfEffects.Adding.{adds}
use Rattle.hook_store_law.proofs.OfEffects.Replacing.{exchanged_actions, is_there, replaces}
use Rattle.hook_law.specs.Meaning.{IsLive}
use Rattle.hook_law.specs.Standing.{IsIn}
use Rattle.hook_store_law.specs.Stated.{action_stated, hook_meaning}
use Rattle.hook_store_law.specs.OfEdits.Premises.{IsOfFilters}
use Rattle.desk_parts.specs.OfLineActions.Gone.{named_by, serials_gone}
use Rattle.desk_parts.proofs.OfLineActions.Living.{IsHeldIn, held_left, held_map, held_all, held_found, more_references}

-- ---- a live action of a sound state is held
live_held : (s : State) (xs : List Action) → Each (IsAction s) xs → (a : ℕ) → (option_map action_stated (first_where (has_serial a) xs) ≡ None → ⊥) → IsHeldIn a xs
live_held s [] all a live = absurd (live refl)
live_held s (x ∷ xs) all a live = pick (has_serial a x) refl (live_held s xs all.1 a)
  where
    pick : (t : Bool) → has_serial a x ≡ t → ((option_map action_stated (first_where (has_serial a) xs) ≡ None → ⊥) → IsHeldIn a xs) → IsHeldIn a (x ∷ xs)
    pick true e rest = let held = all.0.held in inl (eqb-true x.serial a e, held)
    pick false e rest = inr (rest (λ none. live (ap (λ (b : Bool). option_map action_stated (cond b (Some x) (first_where (has_serial a) xs))) e ∙ none)))

held_live : (s : State) (a : ℕ) → IsHeldIn a s.actions → IsLive hook_meaning s a
held_live s a held none = let f = held_found a s.actions held in
    let some : option_map action_stated (first_where (has_serial a) s.actions) ≡ Some (action_stated f.0) = ap (option_map action_stated) f.1 in cc (some, none)

-- ---- the actions of a line are bound or made, and none goes
one_held : (a : ℕ) (r last : Resolved) (line : ActionLine) (index : ℕ) (serial : Option ℕ) (given : Option Params) → IsHeldIn a r.so_far.actions → bound_or_made r line index serial given ≡ Ok last
    → IsHeldIn a last.so_far.actions
one_held a r last line index (Some serial) given held e = subst (λ (z : Resolved). IsHeldIn a z.so_far.actions) (same_ok (bound_more r line.kind index serial) last e)
    (held_map a (λ x. if is_named line.kind index x then more_bound x else x) (more_references (is_named line.kind index) a) r.so_far.actions held)
one_held a r last line index None (Some params) held e = subst (λ (z : Resolved). IsHeldIn a z.so_far.actions) (same_ok (made_bound r params index) last e)
    (held_left a r.so_far.actions (record { serial = r.so_far.made + 1; index = index; params = params; references = 1; binds = 1 } ∷ []) held)
one_held a r last line index None None held e = absurd (err_ok (refusals.NoSuchAction line.kind index) last e)

line_held : (a : ℕ) (r last : Resolved) (lines : List ActionLine) → IsHeldIn a r.so_far.actions → resolved r lines ≡ Ok last → IsHeldIn a last.so_far.actions
line_held a r last [] held e = subst (λ (z : Resolved). IsHeldIn a z.so_far.actions) (same_ok r last e) held
line_held a r last (line ∷ lines) held e =
    let first = and_then_ok (λ next. resolved next lines) (resolved_by r line) last e in
    let index : ℕ = index_or_free line.index line.kind r.so_far.actions in
    line_held a first.0 last lines (one_held a r first.0 line index (serial_of line.kind index r.so_far.actions) line.params held first.1) first.2

of_line : (s : State) (line : FilterLine) (r : Resolved) (a : ℕ) → resolved_for s line.actions ≡ Ok r → IsHeldIn a s.actions → IsHeldIn a r.so_far.actions
of_line s line r a e held = line_held a (record { so_far = made_of s; serials = [] }) r line.actions held e

-- ---- each edit of filters
abbrev StaysHeld : State → List ℕ → State → Type 0
StaysHeld s gone t = (a : ℕ) → Each (λ n. n ≡ a → ⊥) gone → IsHeldIn a s.actions → IsHeldIn a t.actions

add_stays : (s t : State) (line : FilterLine) (done : Done) → filter_add s line ≡ Ok (t, done) → StaysHeld s [] t
add_stays s t line done e = let x = adds s t line done e in subst (StaysHeld s []) x.after (λ a others held. of_line s line x.r a x.resolves held)

replace_stays : (s t : State) (line : FilterLine) (o : Option Row) (done : Done) → is_there s line ≡ o → filter_replace s line ≡ Ok (t, done) → StaysHeld s (named_by o) t
replace_stays s t line None done is e = add_stays s t line done (sym (ap (replace_or_add s line) is) ∙ e)
replace_stays s t line (Some old) done is e = let x = replaces s t line old done is e in
    let next : State = with_actions (with_replaced s line old x.r.serials) (exchanged_actions old x.r) in
    let after : StaysHeld s old.actions next = λ a others held. held_all a old.actions x.r.so_far.actions others (of_line s line x.r a x.resolves held) in subst (StaysHeld s old.actions) x.after after

taken_stays : (s : State) (gone : Row → Bool) → StaysHeld s (flat_map (λ (row : Row). row.actions) (filter gone s.rows)) (taken_out s gone)
taken_stays s gone a others held = held_all a (flat_map (λ (row : Row). row.actions) (filter gone s.rows)) s.actions others held

delete_stays : (s t : State) (hook : Hook) (protocol : Option Proto) (chain pref : ℕ) (handle : Option ℕ) (done : Done) → filter_del s hook protocol chain pref handle ≡ Ok (t, done)
    → StaysHeld s (serials_gone s (edits.FilterDel hook protocol chain pref handle)) t
delete_stays s t hook protocol chain pref (Some handle) done e =
    let gone : Row → Bool = λ row. in_table hook chain pref row && has_handle handle row in
    let refused : Option Refusal = or_else (no_hook s) (or_else (protocol_clash_if s hook chain pref protocol) (or_else (no_such_table s hook chain pref) (no_such_filter s hook chain pref handle))) in
    let next = not_unless refused (Ok (taken_out s gone, dones.FilterGone)) (t, done) e in
    subst (StaysHeld s (flat_map (λ (row : Row). row.actions) (filter gone s.rows))) (same_step (taken_out s gone) t dones.FilterGone done next.1).0 (taken_stays s gone)
delete_stays s t hook protocol chain pref None done e =
    let gone : Row → Bool = in_table hook chain pref in
    let refused : Option Refusal = or_else (no_hook s) (or_else (protocol_clash_if s hook chain pref protocol) (no_such_table s hook chain pref)) in
    let next = not_unless refused (Ok (taken_out s gone, dones.TableGone)) (t, done) e in
    subst (StaysHeld s (flat_map (λ (row : Row). row.actions) (filter gone s.rows))) (same_step (taken_out s gone) t dones.TableGone done next.1).0 (taken_stays s gone)

edit_stays : (s t : State) (y : Edit) (done : Done) → IsOfFilters y → step s y ≡ Ok (t, done) → StaysHeld s (serials_gone s y) t
edit_stays s t (edits.FilterAdd line) done is e = add_stays s t line done e
edit_stays s t (edits.FilterReplace line) done is e = replace_stays s t line (is_there s line) done refl e
edit_stays s t (edits.FilterDel hook protocol chain pref handle) done is e = delete_stays s t hook protocol chain pref handle done e
edit_stays s t edits.HookAdd done is e = absurd is
edit_stays s t edits.HookDel done is e = absurd is
edit_stays s t (edits.ActionAdd line) done is e = absurd is
edit_stays s t (edits.ActionChange line) done is e = absurd is
edit_stays s t (edits.ActionDel kind index) done is e = absurd is

-- a number is in a list, or each of the list is another
in_or_not : (a : ℕ) (ns : List ℕ) → IsIn a ns ⊎ Each (λ n. n ≡ a → ⊥) ns
in_or_not a [] = inr tt
in_or_not a (n ∷ ns) = pick (eqb n a) refl (in_or_not a ns)
  where
    pick : (t : Bool) → eqb n a ≡ t → IsIn a ns ⊎ Each (λ n. n ≡ a → ⊥) ns → IsIn a (n ∷ ns) ⊎ Each (λ n. n ≡ a → ⊥) (n ∷ ns)
    pick true e rest = inl (0, ap Some (eqb-true n a e))
    pick false e (inl at) = inl (suc at.0, at.1)
    pick false e (inr all) = inr (eqb-false n a e, all)

pub gone_named : (s t : State) (y : Edit) (done : Done) (a : ℕ) → Sound s → IsOfFilters y → step s y ≡ Ok (t, done) → IsLive hook_meaning s a → (IsLive hook_meaning t a → ⊥) → IsIn a (serials_gone s y)
gone_named s t y done a sound is e live dead = pick (in_or_not a (serials_gone s y))
  where
    pick : IsIn a (serials_gone s y) ⊎ Each (λ n. n ≡ a → ⊥) (serials_gone s y) → IsIn a (serials_gone s y)
    pick (inl at) = at
    pick (inr others) = absurd (dead (held_live t a (edit_stays s t y done is e a others (live_held s s.actions sound.actions a live))))

-- ---- and these were live
abbrev AreLive : State → List ℕ → Type 0
AreLive s ns = Each (IsLive hook_meaning s) ns

row_live : (s : State) (row : Row) → IsRow s row → AreLive s row.actions
row_live s row is = each_weaker (λ serial. list_any (has_serial serial) s.actions ≡ true) (IsLive hook_meaning s) live row.actions is.live
  where
    live : (n : ℕ) → list_any (has_serial n) s.actions ≡ true → IsLive hook_meaning s n
    live n there none = let first = any_first (has_serial n) s.actions there in
        let some : option_map action_stated (first_where (has_serial n) s.actions) ≡ Some (action_stated first.0) = ap (option_map action_stated) first.1 in cc (some, none)

taken_live : (s : State) (gone : Row → Bool) → Sound s → AreLive s (flat_map (λ (row : Row). row.actions) (filter gone s.rows))
taken_live s gone sound = each_flat_map (IsLive hook_meaning s) (λ (row : Row). row.actions) (filter gone s.rows)
    (each_filter (λ (row : Row). AreLive s row.actions) gone s.rows (each_weaker (IsRow s) (λ (row : Row). AreLive s row.actions) (row_live s) s.rows sound.rows))

named_live : (s : State) (line : FilterLine) (o : Option Row) → Sound s → is_there s line ≡ o → AreLive s (named_by o)
named_live s line None sound is = tt
named_live s line (Some old) sound is =
    let row = found (IsRow s) (λ row. in_table line.hook line.chain (unwrap_or line.pref 0) row && has_handle (unwrap_or line.handle 0) row) s.rows old sound.rows is in row_live s old row.0

gone_live : (s : State) (y : Edit) → Sound s → AreLive s (serials_gone s y)
gone_live s (edits.FilterAdd line) sound = tt
gone_live s (edits.FilterReplace line) sound = named_live s line (is_there s line) sound refl
gone_live s (edits.FilterDel hook protocol chain pref (Some handle)) sound = taken_live s (λ row. in_table hook chain pref row && has_handle handle row) sound
gone_live s (edits.FilterDel hook protocol chain pref None) sound = taken_live s (in_table hook chain pref) sound
gone_live s edits.HookAdd sound = tt
gone_live s edits.HookDel sound = tt
gone_live s (edits.ActionAdd line) sound = tt
gone_live s (edits.ActionChange line) sound = tt
gone_live s (edits.ActionDel kind index) sound = tt

each_at : (P : ℕ → Type 0) (ns : List ℕ) → Each P ns → (a : ℕ) → IsIn a ns → P a
each_at P [] all a at = let e = at.1 in absurd (cc e)
each_at P (n ∷ ns) all a at = go at.0 at.1 (each_at P ns all.1 a)
  where
    go : (place : ℕ) → slice_get (n ∷ ns) place ≡ Some a → (IsIn a ns → P a) → P a
    go zero e rest = let same : n ≡ a = cc e in subst P same all.0
    go (suc place) e rest = rest (place, e)

pub gone_were_live : (s : State) (y : Edit) (a : ℕ) → Sound s → IsIn a (serials_gone s y) → IsLive hook_meaning s a
gone_were_live s y a sound at = each_at (IsLive hook_meaning s) (serials_gone s y) (gone_live s y sound) a at
