-- A sound state is sound rows, and actions whose binds are the places of the rows.
use Rattle.std.proofs.Common.{◌≡◌, ℕ, ◌<◌, ◌≤◌, true, List, [], ◌∷◌, length, arith}
use Rattle.std.specs.List.{list_any}
use Rattle.filter_state.specs.States.{Row, Action, State, no_state}
use Rattle.filter_state.specs.Actions.{has_serial}
use Rattle.filter_state.specs.Sound.{Each, Sound, IsRow, IsAction, places}
use Rattle.filter_state.proofs.Pairs.{each_weaker, each_both, each_front, each_back, each_flat_map}
use Rattle.filter_state.proofs.Times.{times_each, each_times}
use Rattle.state_laws.proofs.Held.{IsCounted, HasReference, AreHeld}
use Rattle.state_laws.proofs.Rows.{IsPlain, AreRows}

abbrev pub IsLive : List Action → ℕ → Type 0
IsLive actions serial = list_any (has_serial serial) actions ≡ true

-- ---- the parts
plain_of : (s : State) (row : Row) → IsRow s row → IsPlain s.tables_made s.masks_made row
plain_of s row r =
    record { chain = r.chain; pref = r.pref; protocol = r.protocol; handle = r.handle; keys = r.keys; table = r.table; mask = r.mask; most = r.most }

pub rows_of : (s : State) → Sound s → AreRows s.tables_made s.masks_made s.rows
rows_of s sound = record {
  plain = each_weaker (IsRow s) (IsPlain s.tables_made s.masks_made) (plain_of s) s.rows sound.rows;
  together = sound.together;
  tables = sound.tables;
  masks = sound.masks;
  filters = sound.filters;
}

counted_of : (s : State) (action : Action) → IsAction s action → IsCounted (places s.rows) s.actions_made action
counted_of s action a = record { serial = a.serial; index = a.index; params = a.params; binds = a.binds; references = a.references }

pub held_of : (s : State) → Sound s → AreHeld (places s.rows) s.actions_made s.actions
held_of s sound = record {
  counted = each_weaker (IsAction s) (IsCounted (places s.rows) s.actions_made) (counted_of s) s.actions sound.actions;
  held = each_weaker (IsAction s) HasReference (λ a is. is.held) s.actions sound.actions;
  apart = sound.apart;
  live = each_times (IsLive s.actions) (places s.rows)
      (each_flat_map (IsLive s.actions) (λ (r : Row). r.actions) s.rows
      (each_weaker (IsRow s) (λ (r : Row). Each (IsLive s.actions) r.actions) (λ r is. is.live) s.rows sound.rows));
}

-- ---- the whole
apart_rows : (P : ℕ → Type 0) (rows : List Row) → Each P (places rows) → Each (λ (r : Row). Each P r.actions) rows
apart_rows P [] all = tt
apart_rows P (row ∷ rows) all = (each_front P row.actions (places rows) all, apart_rows P rows (each_back P row.actions (places rows) all))

row_from : (s : State) (row : Row) → IsPlain s.tables_made s.masks_made row → Each (IsLive s.actions) row.actions → IsRow s row
row_from s row p live =
    record { chain = p.chain; pref = p.pref; protocol = p.protocol; handle = p.handle; keys = p.keys; table = p.table; mask = p.mask; most = p.most; live = live }

action_from : (s : State) (action : Action) → IsCounted (places s.rows) s.actions_made action → HasReference action → IsAction s action
action_from s action c held = record { serial = c.serial; index = c.index; params = c.params; binds = c.binds; references = c.references; held = held }

pub sound_from : (s : State) → AreRows s.tables_made s.masks_made s.rows → AreHeld (places s.rows) s.actions_made s.actions → (0 < length s.rows → s.hooked ≡ true)
    → length s.actions ≤ 1024 → s.actions_made ≤ 16384 → Sound s
sound_from s r h hooked live made = record {
  rows = each_both (IsPlain s.tables_made s.masks_made) (λ (r : Row). Each (IsLive s.actions) r.actions) (IsRow s) (row_from s) s.rows r.plain
      (apart_rows (IsLive s.actions) s.rows (times_each (IsLive s.actions) (places s.rows) h.live));
  together = r.together;
  actions = each_both (IsCounted (places s.rows) s.actions_made) HasReference (IsAction s) (action_from s) s.actions h.counted h.held;
  apart = h.apart;
  hooked = hooked;
  tables = r.tables;
  masks = r.masks;
  filters = r.filters;
  live = live;
  made = made;
}

pub start_sound : Sound no_state
start_sound = record {
  rows = tt;
  together = tt;
  actions = tt;
  apart = tt;
  hooked = λ some. absurd (omega arith);
  tables = λ hook. omega arith;
  masks = λ hook chain pref. omega arith;
  filters = omega arith;
  live = omega arith;
  made = omega arith;
}
