-- No edit changes an action's index: an action that is there afterwards has a new serial, or the index that
-- its serial had.
use Rattle.std.proofs.Common.{◌≡◌, ◌⊎◌, inl, inr, ℕ, ◌+◌, ◌<◌, ◌≤◌, Bool, true, false, not, cond, ◌&&◌, if◌then◌else◌, List, [], ◌∷◌, Option, Some, None, Result, Ok, refl, sym, ◌∙◌, ap, subst, arith, eq-eqb}
use Rattle.std.specs.Prelude.{filter}
use Rattle.std.specs.Option.{option_map, unwrap_or}
use Rattle.std.proofs.lemmas.Bool.{ne_eqb}
use Rattle.act_kinds.specs.declared.params.Params.{Params}
use Rattle.tc_base.specs.declared.hook.Hook.{Hook}
use Rattle.tc_base.specs.declared.hook.Proto.{Proto}
use Rattle.filter_state.specs.declared.action_line.ActionLine.{ActionLine}
use Rattle.filter_state.specs.declared.edit.Edit.{Edit}
use Rattle.filter_state.specs.declared.edit.Edit.TheVariants as edits
use Rattle.filter_state.specs.declared.edit.FilterLine.{FilterLine}
use Rattle.filter_state.specs.declared.refusal.Done.TheVariants as dones
use Rattle.filter_state.specs.declared.refusal.Refusal.{Refusal}
use Rattle.filter_state.specs.declared.refusal.Refusal.TheVariants as refusals
use Rattle.filter_state.specs.States.{Row, Action, State}
use Rattle.filter_state.specs.Actions.{is_named, is_live, has_serial, serial_of, change_where, more_bound, less_bound, is_referred, all_unbound, unbound, index_or_free, Made, made_more, Resolved, and_then, bound_more, made_bound, bound_or_made, resolved_by, resolved}
use Rattle.filter_state.specs.Tables.{first_where, in_table, has_handle}
use Rattle.filter_state.specs.Refusals.{or_else, no_hook, hook_exists, hook_in_use, protocol_clash, protocol_clash_if, no_such_table, no_such_filter, handle_taken, exists_but, tables_full, masks_full, filters_full, actions_full, counters_full, action_exists, no_such_action, action_bound}
use Rattle.filter_state.specs.Steps.{Stepped, unless, made_of, with_actions, taken_out, filter_added, filter_replaced, resolved_for, pref_for, add_resolved, add_at, filter_add, replace_resolved, replace_or_add, filter_del, make_given, change_given, step}
use Rattle.filter_state.specs.Journals.{state_after}
use Rattle.filter_state.specs.Sound.{Sound, Each, EachPair, StandApart, places}
use Rattle.state_laws.proofs.Answers.{same_ok, err_ok, and_then_ok}
use Rattle.filter_state.proofs.Pairs.{each_weaker, each_both, each_append, each_map, each_filter}
use Rattle.state_laws.proofs.Changes.{put_params}
use Rattle.hook_meaning.specs.OfEdits.Premises.{named_row}
use Rattle.hook_meaning.proofs.OfEdits.Stepping.{unless_refused}
use Rattle.hook_meaning.proofs.OfEdits.Stepping.{followed as then_followed}

abbrev pub index_in : List Action → ℕ → Option ℕ
index_in actions serial = option_map (λ (x : Action). x.index) (first_where (has_serial serial) actions)

module _ (made : ℕ) (before : List Action) where
  -- before, so many serials were given
  abbrev pub HasOldIndex : Action → Type 0
  HasOldIndex x = (made < x.serial) ⊎ (index_in before x.serial ≡ Some x.index)

  abbrev pub HaveOldIndexes : List Action → Type 0
  HaveOldIndexes after = Each HasOldIndex after

  -- ---- changes that keep serial and index
  same_index : (x y : Action) → y.serial ≡ x.serial → y.index ≡ x.index → HasOldIndex x → HasOldIndex y
  same_index x y serial index (inl new) = inl (subst (λ n. made < n) (sym serial) new)
  same_index x y serial index (inr old) = inr (ap (index_in before) serial ∙ old ∙ ap (λ n. Some n) (sym index))

  either_index : (b : Bool) (x y : Action) → y.serial ≡ x.serial → y.index ≡ x.index → HasOldIndex x → HasOldIndex (cond b y x)
  either_index true x y serial index old = same_index x y serial index old
  either_index false x y serial index old = old

  changed_old : (test : Action → Bool) (change : Action → Action) → ((x : Action) → (change x).serial ≡ x.serial) → ((x : Action) → (change x).index ≡ x.index)
      → (xs : List Action) → HaveOldIndexes xs → HaveOldIndexes (change_where test change xs)
  changed_old test change serials indexes xs all =
      each_map HasOldIndex (λ x. if test x then change x else x) xs
      (each_weaker HasOldIndex (λ x. HasOldIndex (if test x then change x else x)) (λ x old. either_index (test x) x (change x) (serials x) (indexes x) old) xs all)

  unbound_old : (serials : List ℕ) (xs : List Action) → HaveOldIndexes xs → HaveOldIndexes (all_unbound serials xs)
  unbound_old [] xs all = all
  unbound_old (n ∷ ns) xs all =
      unbound_old ns (unbound n xs)
      (each_filter HasOldIndex is_referred (change_where (has_serial n) less_bound xs) (changed_old (has_serial n) less_bound (λ x. refl) (λ x. refl) xs all))

  -- ---- an action more
  made_old : (so_far : Made) (params : Params) (index binds : ℕ) → made ≤ so_far.made → HaveOldIndexes so_far.actions → HaveOldIndexes (made_more so_far params index binds).actions
  made_old so_far params index binds low all =
      each_append HasOldIndex so_far.actions (record { serial = so_far.made + 1; index = index; params = params; references = 1; binds = binds } ∷ []) all (inl (omega (arith, low)), tt)

  -- ---- the actions of a line
  record AreOld (r : Resolved) : Type 0 where
    more : made ≤ r.so_far.made
    old : HaveOldIndexes r.so_far.actions

  one_old : (r last : Resolved) (line : ActionLine) (index : ℕ) (serial : Option ℕ) (given : Option Params) → AreOld r → bound_or_made r line index serial given ≡ Ok last → AreOld last
  one_old r last line index (Some serial) given are e =
      subst AreOld (same_ok (bound_more r line.kind index serial) last e)
      (record { more = are.more; old = changed_old (is_named line.kind index) more_bound (λ x. refl) (λ x. refl) r.so_far.actions are.old })
  one_old r last line index None (Some params) are e =
      let low = are.more in
      subst AreOld (same_ok (made_bound r params index) last e) (record { more = omega (arith, low); old = made_old r.so_far params index 1 are.more are.old })
  one_old r last line index None None are e = absurd (err_ok (refusals.NoSuchAction line.kind index) last e)

  all_old : (r last : Resolved) (lines : List ActionLine) → AreOld r → resolved r lines ≡ Ok last → AreOld last
  all_old r last [] are e = subst AreOld (same_ok r last e) are
  all_old r last (line ∷ lines) are e =
      let first = and_then_ok (λ next. resolved next lines) (resolved_by r line) last e in
      let index : ℕ = index_or_free line.index line.kind r.so_far.actions in
      all_old first.0 last lines (one_old r first.0 line index (serial_of line.kind index r.so_far.actions) line.params are first.1) first.2

-- ---- at the start each has its own
pub own_indexes : (xs : List Action) → EachPair StandApart xs → Each (λ x. index_in xs x.serial ≡ Some x.index) xs
own_indexes [] apart = tt
own_indexes (x ∷ xs) apart = (
  ap (λ b. option_map (λ (a : Action). a.index) (cond b (Some x) (first_where (has_serial x.serial) xs))) (eq-eqb x.serial x.serial refl),
  each_both (StandApart x) (λ y. index_in xs y.serial ≡ Some y.index) (λ y. index_in (x ∷ xs) y.serial ≡ Some y.index)
      (λ y a own. let less = a.rising in
      ap (λ b. option_map (λ (a : Action). a.index) (cond b (Some x) (first_where (has_serial y.serial) xs))) (ne_eqb x.serial y.serial (λ e. absurd (omega (arith, less, e)))) ∙ own)
      xs apart.0 (own_indexes xs apart.1),
)

-- ---- every step
module _ (s : State) (sound : Sound s) where
  abbrev Old : List Action → Type 0
  Old actions = HaveOldIndexes s.actions_made s.actions actions

  abbrev OldAfter : Stepped → Type 0
  OldAfter stepped = Old (state_after s stepped).actions

  own : Old s.actions
  own = each_weaker (λ x. index_in s.actions x.serial ≡ Some x.index) (HasOldIndex s.actions_made s.actions) (λ x is. inr is) s.actions (own_indexes s.actions sound.apart)

  -- what is refused changes nothing
  not_refused : (refused : Option Refusal) (rest : Stepped) → OldAfter rest → OldAfter (unless refused rest)
  not_refused = unless_refused OldAfter (λ refusal. own)

  followed : {A : Type 0} (more : A → Stepped) (first : Result A Refusal) → ((a : A) → first ≡ Ok a → OldAfter (more a)) → OldAfter (and_then more first)
  followed = then_followed OldAfter (λ refusal. own)

  line_old : (lines : List ActionLine) (r : Resolved) → resolved_for s lines ≡ Ok r → Old r.so_far.actions
  line_old lines r e =
      let are = all_old s.actions_made s.actions (record { so_far = made_of s; serials = [] }) r lines (record { more = omega arith; old = own }) e in
      are.old

  add_old : (line : FilterLine) → OldAfter (filter_add s line)
  add_old line =
      not_refused (no_hook s) (and_then (add_at s line) (pref_for s line.hook line.chain line.pref))
      (followed (add_at s line) (pref_for s line.hook line.chain line.pref)
      (λ pref is. not_refused (or_else (protocol_clash s line.hook line.chain pref line.protocol) (or_else (handle_taken s line.hook line.chain pref line.handle) (exists_but s line.hook line.chain pref None line.mask.words line.key.words)))
      (and_then (add_resolved s line pref) (resolved_for s line.actions))
      (followed (add_resolved s line pref) (resolved_for s line.actions)
      (λ r e. not_refused (or_else (tables_full s line.hook line.chain pref) (or_else (masks_full s line.hook line.chain pref line.mask.words) (or_else (filters_full s) (or_else (actions_full r.so_far) (counters_full r.so_far)))))
      (filter_added s line pref r) (line_old line.actions r e)))))

  replace_old : (line : FilterLine) (o : Option Row) → OldAfter (replace_or_add s line o)
  replace_old line None = add_old line
  replace_old line (Some old) =
      not_refused (or_else (no_hook s) (or_else (protocol_clash s line.hook line.chain old.pref line.protocol) (exists_but s line.hook line.chain old.pref (Some old.handle) line.mask.words line.key.words)))
      (and_then (replace_resolved s line old) (resolved_for s line.actions))
      (followed (replace_resolved s line old) (resolved_for s line.actions)
      (λ r e. not_refused (or_else (masks_full s line.hook line.chain old.pref line.mask.words) (or_else (actions_full r.so_far) (counters_full r.so_far)))
      (filter_replaced s line old r) (unbound_old s.actions_made s.actions old.actions r.so_far.actions (line_old line.actions r e))))

  del_old : (hook : Hook) (protocol : Option Proto) (chain pref : ℕ) (handle : Option ℕ) → OldAfter (filter_del s hook protocol chain pref handle)
  del_old hook protocol chain pref (Some handle) =
      let gone : Row → Bool = λ row. in_table hook chain pref row && has_handle handle row in
      not_refused (or_else (no_hook s) (or_else (protocol_clash_if s hook chain pref protocol) (or_else (no_such_table s hook chain pref) (no_such_filter s hook chain pref handle))))
      (Ok (taken_out s gone, dones.FilterGone)) (unbound_old s.actions_made s.actions (places (filter gone s.rows)) s.actions own)
  del_old hook protocol chain pref None =
      not_refused (or_else (no_hook s) (or_else (protocol_clash_if s hook chain pref protocol) (no_such_table s hook chain pref)))
      (Ok (taken_out s (in_table hook chain pref), dones.TableGone)) (unbound_old s.actions_made s.actions (places (filter (in_table hook chain pref) s.rows)) s.actions own)

  make_old : (line : ActionLine) (given : Option Params) → OldAfter (make_given s line given)
  make_old line (Some params) =
      let index : ℕ = index_or_free line.index line.kind s.actions in
      let more : Made = made_more (made_of s) params index 0 in
      not_refused (or_else (actions_full more) (counters_full more)) (Ok (with_actions s more, dones.ActionMade index (s.actions_made + 1)))
      (made_old s.actions_made s.actions (made_of s) params index 0 (omega arith) own)
  make_old line None = own

  given_old : (line : ActionLine) (index : ℕ) (given : Option Params) → OldAfter (change_given s line index given)
  given_old line index (Some params) = changed_old s.actions_made s.actions (is_named line.kind index) (put_params params) (λ x. refl) (λ x. refl) s.actions own
  given_old line index None = own

  change_old : (line : ActionLine) (index : ℕ) (b : Bool) → OldAfter (cond b (change_given s line index line.params) (make_given s line line.params))
  change_old line index true = given_old line index line.params
  change_old line index false = make_old line line.params

  pub indexes_stay : (y : Edit) → OldAfter (step s y)
  indexes_stay edits.HookAdd = not_refused (hook_exists s) (Ok (record s { hooked = true }, dones.Hooked)) own
  indexes_stay edits.HookDel = not_refused (or_else (no_hook s) (hook_in_use s)) (Ok (record s { hooked = false }, dones.Unhooked)) own
  indexes_stay (edits.FilterAdd line) = add_old line
  indexes_stay (edits.FilterReplace line) = replace_old line (named_row s line)
  indexes_stay (edits.FilterDel hook protocol chain pref handle) = del_old hook protocol chain pref handle
  indexes_stay (edits.ActionAdd line) = not_refused (action_exists s line.kind line.index) (make_given s line line.params) (make_old line line.params)
  indexes_stay (edits.ActionChange line) = change_old line (unwrap_or line.index 0) (is_live line.kind (unwrap_or line.index 0) s.actions)
  indexes_stay (edits.ActionDel kind index) =
      not_refused (or_else (no_such_action s kind index) (action_bound s kind index)) (Ok (record s { actions = filter (λ x. not (is_named kind index x)) s.actions }, dones.ActionGone))
      (each_filter (HasOldIndex s.actions_made s.actions) (λ x. not (is_named kind index x)) s.actions own)
