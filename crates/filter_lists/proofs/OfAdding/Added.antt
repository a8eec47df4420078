-- An addition that is made ready leads where the step does.
use Rattle.std.proofs.Common.{◌≡◌, ℕ, ◌+◌, ◌<◌, Bool, true, false, List, length, Option, None, Ok, refl, sym, ◌∙◌, ap, arith}
use Rattle.std.specs.Prelude.{nat_le}
use Rattle.std.proofs.lemmas.Bool.Decides.{nat_tests}
use Rattle.std.proofs.lemmas.Option.{none-some}
use Rattle.filter_state.specs.declared.edit.FilterLine.{FilterLine}
use Rattle.filter_state.specs.declared.refusal.Refusal.{Refusal}
use Rattle.filter_state.specs.declared.refusal.Refusal.TheVariants as refusals
use Rattle.filter_state.specs.declared.refusal.Done.TheVariants as dones
use Rattle.filter_state.specs.States.{Row, State}
use Rattle.filter_state.specs.Tables.{table_row, mask_row, table_or_next, mask_or_next}
use Rattle.filter_state.specs.Actions.{Made}
use Rattle.filter_state.specs.Refusals.{when, or_else, tables_full, masks_full, filters_full, actions_full, counters_full}
use Rattle.filter_state.specs.Steps.{Stepped, with_actions, with_row, handle_for}
use Rattle.action_plan.specs.Plans.{made_of, carried, serials_of}
use Rattle.hook_lists.specs.declared.kept.Kept.{Kept}
use Rattle.hook_lists.specs.States.{room_on, state_of}
use Rattle.hook_lists.specs.Steps.{PlanFits}
use Rattle.filter_lists.specs.declared.adding.arrival.Arrival.{Arrival}
use Rattle.filter_lists.specs.declared.adding.arrival.Seat.{Seat}
use Rattle.filter_lists.specs.declared.adding.looking.Found.{Found}
use Rattle.filter_lists.specs.OfAdding.Arrivals.{row_of_arrival}
use Rattle.filter_lists.specs.OfAdding.Looks.{limit_refusal}
use Rattle.filter_lists.specs.OfAdding.Seats.{SeatTold}
use Rattle.filter_lists.specs.OfAdding.Ready.{IsAdded}
use Rattle.filter_lists.proofs.OfAdding.Looks.{neither}
use Rattle.filter_lists.proofs.OfAdding.Planned.{AreToPlan, seat_is, handle_is}
use Rattle.filter_lists.proofs.OfAdding.Given.{AreGiven, numbers_are, row_is}

-- ---- the limits
pub record WithinLimits (s : State) (next : Made) : Type 0 where
  pub filters : length s.rows < 4096
  pub actions : or_else (actions_full next) (counters_full next) ≡ None

few : (b : Bool) (n : ℕ) → nat_le 4096 n ≡ b → when b refusals.FiltersFull ≡ None → n < 4096
few true n is e = absurd (none-some refusals.FiltersFull (sym e))
few false n is e = grind (arith, nat_tests)

pub within_limits : (s : State) (line : FilterLine) (pref : ℕ) (next : Made) → limit_refusal s line pref next ≡ None → WithinLimits s next
within_limits s line pref next none =
    let actions : Option Refusal = or_else (actions_full next) (counters_full next) in
    let filters : Option Refusal = or_else (filters_full s) actions in
    let masks : Option Refusal = or_else (masks_full s line.hook line.chain pref line.mask.words) filters in
    let past_tables = neither (tables_full s line.hook line.chain pref) masks none in
    let past_masks = neither (masks_full s line.hook line.chain pref line.mask.words) filters past_tables.1 in
    let past_filters = neither (filters_full s) actions past_masks.1 in
    record { filters = few (nat_le 4096 (length s.rows)) (length s.rows) refl past_filters.0; actions = past_filters.1 }

-- ---- the step's answer
abbrev leads : State → Made → Row → ℕ → ℕ → List ℕ → Stepped
leads s next row pref handle serials = Ok (with_actions (with_row s row) next, dones.Filter pref handle serials)

pub is_added : (kept : Kept) (line : FilterLine) (found : Found) (seat : Seat) (a : Arrival) (serials : List ℕ) → AreToPlan kept line found seat a
    → SeatTold (room_on line.hook kept) found.place line.mask.words seat → PlanFits kept found.actions → kept.tables_made + 1 < 4294967296 → kept.masks_made + 1 < 4294967296
    → serials ≡ serials_of found.actions → IsAdded kept line (record { arrival = a; seat = seat; actions = found.actions; serials = serials })
is_added kept line found seat a serials plan told fits tables masks same =
    let s : State = state_of kept in
    let next : Made = carried (made_of kept.actions) found.actions in
    let given : AreGiven kept line found.pref a = numbers_are kept line found seat a plan told in
    let table : ℕ = table_or_next (table_row line.hook line.chain found.pref s.rows) s.tables_made in
    let mask : ℕ = mask_or_next (mask_row line.hook line.chain found.pref line.mask.words s.rows) s.masks_made in
    let handle : ℕ = handle_for s line.hook line.chain found.pref line.handle in
    let row = row_is kept line found.pref table mask handle (serials_of found.actions) seat a plan.arrival given.table given.mask given.handle in
    let limits = within_limits s line found.pref next plan.looked.limits in
    record {
      ready = record {
        seat = seat_is kept line found seat a plan told;
        actions = fits;
        handle = handle_is kept line found seat a plan told;
        tables = tables;
        masks = masks;
        filters = omega (arith, plan.are.filters, limits.filters);
      };
      accepted =
          plan.looked.accepted
          ∙ ap (λ r. leads s next r found.pref handle (serials_of found.actions)) row
          ∙ ap (λ n. leads s next (row_of_arrival a) n handle (serials_of found.actions)) (sym plan.arrival.its_pref)
          ∙ ap (λ n. leads s next (row_of_arrival a) a.pref n (serials_of found.actions)) given.handle
          ∙ ap (λ (ns : List ℕ). leads s next (row_of_arrival a) a.pref a.filter.handle ns) (sym same);
    }
