-- When an edit is refused, each refusal by its own condition on the state.
use Rattle.act_kinds.specs.Passed.{ACTIONS_MAX, MADE_MAX}
use Rattle.filter_state.specs.declared.limits.TheConstants.{TABLES_MAX, MASKS_MAX, FILTERS_MAX}
use Rattle.std.specs.Prelude.{ℕ, ◌==◌, ◌&&◌, nat_le, nat_lt, Bool, false, not, List, length, is_some, Option}
use Rattle.std.specs.Prelude.{Some, None, if◌then◌else◌}
use Rattle.std.specs.List.{list_any}
use Rattle.std.specs.Option.{option_map}
use Rattle.tc_base.specs.declared.hook.Hook.{Hook}
use Rattle.tc_base.specs.declared.hook.Proto.{Proto}
use Rattle.act_kinds.specs.declared.params.Kind.{Kind}
use Rattle.filter_state.specs.declared.refusal.Refusal.{Refusal}
use Rattle.filter_state.specs.declared.refusal.Refusal.TheVariants as refusals
use Rattle.filter_state.specs.States.{Row, Action, State}
use Rattle.filter_state.specs.Actions.{is_named, is_live, Made}
use Rattle.filter_state.specs.Tables.{in_table, has_match, has_handle, first_where, protocol_eq, table_count}
use Rattle.filter_state.specs.Tables.{mask_count, table_row, mask_row}

abbrev pub when : {V : Type 0} → Bool → V → Option V
when test value = if test then Some value else None

-- the first of two refusals
abbrev pub or_else : Option Refusal → Option Refusal → Option Refusal
or_else (Some refusal) rest = Some refusal
or_else None rest = rest

abbrev pub no_hook : State → Option Refusal
no_hook s = when (not s.hooked) refusals.NoHook

abbrev pub hook_exists : State → Option Refusal
hook_exists s = when s.hooked refusals.HookExists

abbrev pub hook_in_use : State → Option Refusal
hook_in_use s = when (not (length s.rows == 0)) refusals.HookInUse

-- the table has another protocol; the answer has the table's
abbrev pub clash_with : Proto → Option Row → Option Refusal
clash_with protocol None = None
clash_with protocol (Some row) =
    when (not (protocol_eq row.protocol protocol)) (refusals.ProtocolClash row.protocol)

abbrev pub protocol_clash : State → Hook → ℕ → ℕ → Proto → Option Refusal
protocol_clash s hook chain pref protocol = clash_with protocol (table_row hook chain pref s.rows)

-- a del without protocol doesn't compare it
abbrev pub protocol_clash_if : State → Hook → ℕ → ℕ → Option Proto → Option Refusal
protocol_clash_if s hook chain pref None = None
protocol_clash_if s hook chain pref (Some protocol) = protocol_clash s hook chain pref protocol

abbrev pub no_such_table : State → Hook → ℕ → ℕ → Option Refusal
no_such_table s hook chain pref = when (not (list_any (in_table hook chain pref) s.rows)) refusals.NoSuchTable

abbrev pub no_such_filter : State → Hook → ℕ → ℕ → ℕ → Option Refusal
no_such_filter s hook chain pref handle = when
    (not (list_any (λ row. in_table hook chain pref row && has_handle handle row) s.rows))
    refusals.NoSuchFilter

abbrev pub handle_taken : State → Hook → ℕ → ℕ → Option ℕ → Option Refusal
handle_taken s hook chain pref None = None
handle_taken s hook chain pref (Some handle) =
    when (list_any (λ row. in_table hook chain pref row && has_handle handle row) s.rows) refusals.HandleTaken

-- the row has that handle, where one is to be left out
abbrev pub is_left_out : Option ℕ → Row → Bool
is_left_out None row = false
is_left_out (Some handle) row = has_handle handle row

-- the table has that mask and key under another handle than that of the filter that is replaced; the answer
-- has it
abbrev pub exists_but : State → Hook → ℕ → ℕ → Option ℕ → List ℕ → List ℕ → Option Refusal
exists_but s hook chain pref replaced mask key =
    option_map (λ (row : Row). refusals.Exists row.handle)
    (first_where (λ row. in_table hook chain pref row
    && (has_match mask key row && not (is_left_out replaced row))) s.rows)

-- the edit makes a table, and the hook has the most
abbrev pub tables_full : State → Hook → ℕ → ℕ → Option Refusal
tables_full s hook chain pref = when (not (list_any (in_table hook chain pref) s.rows)
    && nat_le TABLES_MAX (table_count hook s.rows)) refusals.TablesFull

-- the edit makes a mask, and the table has the most
abbrev pub masks_full : State → Hook → ℕ → ℕ → List ℕ → Option Refusal
masks_full s hook chain pref mask =
    when (not (is_some (mask_row hook chain pref mask s.rows))
    && nat_le MASKS_MAX (mask_count hook chain pref s.rows)) refusals.MasksFull

abbrev pub filters_full : State → Option Refusal
filters_full s = when (nat_le FILTERS_MAX (length s.rows)) refusals.FiltersFull

-- live actions and those that the edit makes are too many; none is unbound yet
abbrev pub actions_full : Made → Option Refusal
actions_full next = when (nat_lt ACTIONS_MAX (length next.actions)) refusals.ActionsFull

-- actions made so far and those that the edit makes are too many
abbrev pub counters_full : Made → Option Refusal
counters_full next = when (nat_lt MADE_MAX next.made) refusals.CountersFull

abbrev pub action_exists : State → Kind → Option ℕ → Option Refusal
action_exists s kind None = None
action_exists s kind (Some index) = when (is_live kind index s.actions) refusals.ActionExists

abbrev pub no_such_action : State → Kind → ℕ → Option Refusal
no_such_action s kind index = when (not (is_live kind index s.actions)) (refusals.NoSuchAction kind index)

abbrev pub bound_by : Option Action → Option Refusal
bound_by None = None
bound_by (Some action) = when (not (action.binds == 0)) (refusals.ActionBound action.binds)

abbrev pub action_bound : State → Kind → ℕ → Option Refusal
action_bound s kind index = bound_by (first_where (is_named kind index) s.actions)
