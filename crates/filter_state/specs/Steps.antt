-- What an edit makes of a state: the first refusal that applies, or the next state with what was done.
use Rattle.std.specs.Prelude.{ℕ, ◌+◌, ◌-◌, ◌==◌, ◌&&◌, Bool, true, false, not, List, [], ◌∷◌, ◌++◌, filter}
use Rattle.std.specs.Prelude.{Option, Some, None, if◌then◌else◌, Result, Ok, Err}
use Rattle.std.specs.List.{flat_map}
use Rattle.std.specs.Str.{bytes_eq}
use Rattle.std.specs.Option.{unwrap_or}
use Rattle.tc_base.specs.declared.hook.Hook.{Hook}
use Rattle.tc_base.specs.declared.hook.Proto.{Proto}
use Rattle.act_kinds.specs.declared.params.Kind.{Kind}
use Rattle.act_kinds.specs.declared.params.Params.{Params}
use Rattle.filter_state.specs.declared.action_line.ActionLine.{ActionLine}
use Rattle.filter_state.specs.declared.edit.FilterLine.{FilterLine}
use Rattle.filter_state.specs.declared.edit.Edit.{Edit}
use Rattle.filter_state.specs.declared.edit.Edit.TheVariants as edits
use Rattle.filter_state.specs.declared.refusal.Done.{Done}
use Rattle.filter_state.specs.declared.refusal.Done.TheVariants as dones
use Rattle.filter_state.specs.declared.refusal.Refusal.{Refusal}
use Rattle.filter_state.specs.declared.refusal.Refusal.TheVariants as refusals
use Rattle.filter_state.specs.States.{Row, State}
use Rattle.filter_state.specs.Actions.{is_named, is_live, change_where, all_unbound, Made, made_more}
use Rattle.filter_state.specs.Actions.{index_or_free, Resolved, and_then, resolved}
use Rattle.filter_state.specs.Tables.{in_chain, in_table, has_handle, lowest_pref, free_handle, table_row}
use Rattle.filter_state.specs.Tables.{mask_row, filter_row, table_or_next, mask_or_next}
use Rattle.filter_state.specs.Refusals.{or_else, no_hook, hook_exists, hook_in_use, protocol_clash}
use Rattle.filter_state.specs.Refusals.{protocol_clash_if, no_such_table, no_such_filter, handle_taken}
use Rattle.filter_state.specs.Refusals.{exists_but, tables_full, masks_full, filters_full, actions_full}
use Rattle.filter_state.specs.Refusals.{counters_full, action_exists, no_such_action, action_bound}

-- an accepted edit's state, and what was done
abbrev pub Stepped : Type 0
Stepped = Result (State × Done) Refusal

-- refused, or else what follows
abbrev pub unless : {A : Type 0} → Option Refusal → Result A Refusal → Result A Refusal
unless (Some refusal) rest = Err refusal
unless None rest = rest

-- the actions of a state, as they are resolved from
abbrev pub made_of : State → Made
made_of s = record { actions = s.actions; made = s.actions_made }

abbrev pub with_actions : State → Made → State
with_actions s next = record s { actions = next.actions; actions_made = next.made }

abbrev pub resolved_for : State → List ActionLine → Result Resolved Refusal
resolved_for s lines = resolved (record { so_far = made_of s; serials = [] }) lines

-- The pref of a line without one: 49152 (the kernel's first automatic preference, 0xC000) for a chain without
-- tables, else one less than the chain's lowest
abbrev pub pref_below : Option ℕ → Result ℕ Refusal
pref_below None = Ok 49152
pref_below (Some lowest) = if lowest == 1 then Err refusals.NoPref else Ok (lowest - 1)

abbrev pub pref_for : State → Hook → ℕ → Option ℕ → Result ℕ Refusal
pref_for s hook chain (Some pref) = Ok pref
pref_for s hook chain None = pref_below (lowest_pref (filter (in_chain hook chain) s.rows))

abbrev pub handle_for : State → Hook → ℕ → ℕ → Option ℕ → ℕ
handle_for s hook chain pref given = unwrap_or given (free_handle hook chain pref s.rows)

-- the filter of a line, with its table, mask, handle and actions
abbrev pub row_of : FilterLine → ℕ → ℕ → ℕ → ℕ → List ℕ → Row
row_of line pref table mask_serial handle serials = record {
  hook = line.hook;
  chain = line.chain;
  pref = pref;
  protocol = line.protocol;
  table = table;
  mask_serial = mask_serial;
  mask = line.mask.words;
  handle = handle;
  key = line.key.words;
  actions = serials;
}

-- a count that rises where the next serial was given
abbrev pub raised : ℕ → ℕ → ℕ
raised made serial = if serial == made + 1 then serial else made

-- a row more at the end
abbrev pub with_row : State → Row → State
with_row s row = record s {
  rows = s.rows ++ (row ∷ []);
  tables_made = raised s.tables_made row.table;
  masks_made = raised s.masks_made row.mask_serial;
}

abbrev pub filter_added : State → FilterLine → ℕ → Resolved → Stepped
filter_added s line pref r =
    let table : ℕ = table_or_next (table_row line.hook line.chain pref s.rows) s.tables_made in
    let mask : ℕ = mask_or_next (mask_row line.hook line.chain pref line.mask.words s.rows) s.masks_made in
    let handle : ℕ = handle_for s line.hook line.chain pref line.handle in
    Ok (
      with_actions (with_row s (row_of line pref table mask handle r.serials)) r.so_far,
      dones.Filter pref
          handle r.serials,
    )

abbrev pub add_resolved : State → FilterLine → ℕ → Resolved → Stepped
add_resolved s line pref r =
    unless (or_else (tables_full s line.hook line.chain pref)
    (or_else (masks_full s line.hook line.chain pref line.mask.words)
    (or_else (filters_full s) (or_else (actions_full r.so_far) (counters_full r.so_far)))))
    (filter_added s line pref r)

abbrev pub add_at : State → FilterLine → ℕ → Stepped
add_at s line pref =
    unless (or_else (protocol_clash s line.hook line.chain pref line.protocol)
    (or_else (handle_taken s line.hook line.chain pref line.handle)
    (exists_but s line.hook line.chain pref None line.mask.words line.key.words)))
    (and_then (add_resolved s line pref) (resolved_for s line.actions))

abbrev pub filter_add : State → FilterLine → Stepped
filter_add s line = unless (no_hook s) (and_then (add_at s line) (pref_for s line.hook line.chain line.pref))

-- the filter in its place, with other actions
abbrev pub with_new_actions : Row → List ℕ → List Row → List Row
with_new_actions old serials rows = change_where (λ row. row.table == old.table
    && row.handle == old.handle) (λ row. record row { actions = serials }) rows

-- the filter out of its place
abbrev pub without_row : Row → List Row → List Row
without_row old rows = filter (λ row. not (row.table == old.table && row.handle == old.handle)) rows

-- the filter's own mask where the line has the same, else that of another filter of the table, else the next
abbrev pub mask_serial_for : State → FilterLine → Row → ℕ
mask_serial_for s line old = if bytes_eq old.mask line.mask.words then old.mask_serial
    else mask_or_next (mask_row old.hook old.chain old.pref line.mask.words s.rows) s.masks_made

-- with the same mask and key a filter stays in its place; else it leaves it for the end
abbrev pub with_replaced : State → FilterLine → Row → List ℕ → State
with_replaced s line old serials =
    if bytes_eq old.mask line.mask.words && bytes_eq old.key line.key.words
    then record s { rows = with_new_actions old serials s.rows }
    else with_row (record s { rows = without_row old s.rows })
    (row_of line old.pref old.table (mask_serial_for s line old) old.handle serials)

abbrev pub filter_replaced : State → FilterLine → Row → Resolved → Stepped
filter_replaced s line old r =
    Ok (
      with_actions (with_replaced s line old r.serials)
          (record r.so_far { actions = all_unbound old.actions r.so_far.actions }),
      dones.Filter old.pref
          old.handle r.serials,
    )

abbrev pub replace_resolved : State → FilterLine → Row → Resolved → Stepped
replace_resolved s line old r =
    unless (or_else (masks_full s line.hook line.chain old.pref line.mask.words)
    (or_else (actions_full r.so_far) (counters_full r.so_far))) (filter_replaced s line old r)

abbrev pub replace_at : State → FilterLine → Row → Stepped
replace_at s line old =
    unless (or_else (no_hook s)
    (or_else (protocol_clash s line.hook line.chain old.pref line.protocol)
    (exists_but s line.hook line.chain old.pref (Some old.handle) line.mask.words line.key.words)))
    (and_then (replace_resolved s line old) (resolved_for s line.actions))

-- a replace of a filter that isn't there is an add
abbrev pub replace_or_add : State → FilterLine → Option Row → Stepped
replace_or_add s line (Some old) = replace_at s line old
replace_or_add s line None = filter_add s line

abbrev pub filter_replace : State → FilterLine → Stepped
filter_replace s line = replace_or_add s line
    (filter_row line.hook line.chain (unwrap_or line.pref 0) (unwrap_or line.handle 0) s.rows)

-- the rows that pass a test are taken out, and both counts are lowered for each place of their lists
abbrev pub taken_out : State → (Row → Bool) → State
taken_out s gone = record s {
  rows = filter (λ row. not (gone row)) s.rows;
  actions = all_unbound (flat_map (λ (row : Row). row.actions) (filter gone s.rows)) s.actions;
}

abbrev pub filter_del : State → Hook → Option Proto → ℕ → ℕ → Option ℕ → Stepped
filter_del s hook protocol chain pref (Some handle) =
    unless (or_else (no_hook s)
    (or_else (protocol_clash_if s hook chain pref protocol)
    (or_else (no_such_table s hook chain pref) (no_such_filter s hook chain pref handle))))
    (Ok (taken_out s (λ row. in_table hook chain pref row && has_handle handle row), dones.FilterGone))
filter_del s hook protocol chain pref None =
    unless (or_else (no_hook s)
    (or_else (protocol_clash_if s hook chain pref protocol) (no_such_table s hook chain pref)))
    (Ok (taken_out s (in_table hook chain pref), dones.TableGone))

-- an action apart from filters is made with one reference and no bind
abbrev pub action_made : State → Params → ℕ → Stepped
action_made s params index =
    let next : Made = made_more (made_of s) params index 0 in
    unless (or_else (actions_full next) (counters_full next))
    (Ok (with_actions s next, dones.ActionMade index (s.actions_made + 1)))

-- an action apart from filters is written in full
abbrev pub make_given : State → ActionLine → Option Params → Stepped
make_given s action (Some params) = action_made s params (index_or_free action.index action.kind s.actions)
make_given s action None = Err (refusals.NoSuchAction action.kind (unwrap_or action.index 0))

abbrev pub action_add : State → ActionLine → Stepped
action_add s action = unless (action_exists s action.kind action.index) (make_given s action action.params)

-- a change keeps serial, index and counts
abbrev pub with_params : State → Kind → ℕ → Params → State
with_params s kind index params = record s {
  actions = change_where (is_named kind index)
      (λ action. record action { params = params }) s.actions;
}

abbrev pub change_given : State → ActionLine → ℕ → Option Params → Stepped
change_given s action index (Some params) = Ok (with_params s action.kind index params, dones.ActionChanged)
change_given s action index None = Err (refusals.NoSuchAction action.kind index)

abbrev pub change_at : State → ActionLine → ℕ → Stepped
change_at s action index = if is_live action.kind index s.actions
    then change_given s action index action.params else make_given s action action.params

abbrev pub action_change : State → ActionLine → Stepped
action_change s action = change_at s action (unwrap_or action.index 0)

abbrev pub action_del : State → Kind → ℕ → Stepped
action_del s kind index =
    unless (or_else (no_such_action s kind index) (action_bound s kind index))
    (Ok (
      record s { actions = filter (λ action. not (is_named kind index action)) s.actions },
      dones.ActionGone,
    ))

abbrev pub step : State → Edit → Stepped
step s edits.HookAdd = unless (hook_exists s) (Ok (record s { hooked = true }, dones.Hooked))
step s edits.HookDel =
    unless (or_else (no_hook s) (hook_in_use s)) (Ok (record s { hooked = false }, dones.Unhooked))
step s (edits.FilterAdd line) = filter_add s line
step s (edits.FilterReplace line) = filter_replace s line
step s (edits.FilterDel hook protocol chain pref handle) = filter_del s hook protocol chain pref handle
step s (edits.ActionAdd action) = action_add s action
step s (edits.ActionChange action) = action_change s action
step s (edits.ActionDel kind index) = action_del s kind index
