-- Soundness doesn't read the order of the rows.
use Rattle.std.proofs.Common.{◌<◌, ◌≤◌, List, sym, ◌∙◌, subst}
use Rattle.filter_state.specs.States.{Row, Action, State}
use Rattle.filter_state.specs.Sound.{Sound, IsRow, IsAction}
use Rattle.filter_state.specs.Order.{SameRows, SameState}
use Rattle.state_laws.proofs.OfOrder.Same.{length_same}
use Rattle.filter_state.proofs.Pairs.{each_weaker}
use Rattle.state_laws.proofs.OfOrder.First.{each_same, pairs_same}
use Rattle.state_laws.proofs.OfOrder.Counts.{table_count_same, mask_count_same, places_same}
use Rattle.state_laws.proofs.OfOrder.States.{with_rows, is_with_rows}

row_stays : (s : State) (rows : List Row) (row : Row) → IsRow s row → IsRow (with_rows s rows) row
row_stays s rows row is = record {
  chain = is.chain;
  pref = is.pref;
  protocol = is.protocol;
  handle = is.handle;
  keys = is.keys;
  table = is.table;
  mask = is.mask;
  most = is.most;
  live = is.live;
}

action_stays : (s : State) (rows : List Row) → SameRows s.rows rows → (action : Action) → IsAction s action → IsAction (with_rows s rows) action
action_stays s rows same action is = record {
  serial = is.serial;
  index = is.index;
  params = is.params;
  binds = is.binds ∙ places_same action.serial same;
  references = is.references;
  held = is.held;
}

sound_rows : (s : State) (rows : List Row) → SameRows s.rows rows → Sound s → Sound (with_rows s rows)
sound_rows s rows same sound = record {
  rows = each_same (IsRow (with_rows s rows)) same (each_weaker (IsRow s) (IsRow (with_rows s rows)) (row_stays s rows) s.rows sound.rows);
  together = pairs_same same sound.together;
  actions = each_weaker (IsAction s) (IsAction (with_rows s rows)) (action_stays s rows same) s.actions sound.actions;
  apart = sound.apart;
  hooked = λ some. sound.hooked (subst (λ n. 0 < n) (sym (length_same same)) some);
  tables = λ hook. subst (λ n. n ≤ 256) (table_count_same hook same) (sound.tables hook);
  masks = λ hook chain pref. subst (λ n. n ≤ 16) (mask_count_same hook chain pref same) (sound.masks hook chain pref);
  filters = subst (λ n. n ≤ 4096) (length_same same) sound.filters;
  live = sound.live;
  made = sound.made;
}

pub sound_same : (s t : State) → SameState s t → Sound s → Sound t
sound_same s t same sound = subst Sound (is_with_rows s t same) (sound_rows s t.rows same.rows sound)
