-- Adding at once leaves what the step leads to.
use Rattle.std.proofs.Common.{◌≡◌, ℕ, ◌+◌, ◌<◌, List, Ok, sym, ◌∙◌, ap, subst, arith}
use Rattle.filter_state.specs.declared.edit.FilterLine.{FilterLine}
use Rattle.filter_state.specs.declared.refusal.Done.{Done}
use Rattle.filter_state.specs.Lines.{IsFilter}
use Rattle.filter_state.specs.Steps.{filter_add}
use Rattle.action_plan.specs.Plans.{serials_of}
use Rattle.hook_lists.specs.declared.kept.Kept.{Kept}
use Rattle.hook_lists.specs.States.{room_on, state_of, AreKept}
use Rattle.hook_lists.specs.Steps.{IsRoomier, PlanFits}
use Rattle.hook_lists.specs.Done.{IsDone, IsDoneAtOnce}
use Rattle.filter_lists.specs.declared.adding.arrival.Arrival.{Arrival}
use Rattle.filter_lists.specs.declared.adding.arrival.Seat.{Seat}
use Rattle.filter_lists.specs.declared.adding.looking.Found.{Found}
use Rattle.filter_lists.specs.OfAdding.Looks.{IsFound}
use Rattle.filter_lists.specs.OfAdding.Seats.{SeatTold}
use Rattle.filter_lists.specs.OfAdding.Ready.{IsArrival, IsAdded}
use Rattle.filter_lists.specs.OfAdding.Additions.{addition_of, state_after, answer_of}
use Rattle.filter_lists.proofs.OfAdding.Later.{state_same, more_twice, kept_later, found_later, fits_later}
use Rattle.filter_lists.proofs.OfAdding.Planned.{AreToPlan}
use Rattle.filter_lists.proofs.OfAdding.Added.{is_added}

-- what was taken and found before the filter is put: first room for the actions, then the seat
pub record AreTaken (old mid kept : Kept) (line : FilterLine) (found : Found) (seat : Seat) (a : Arrival)
    (for_filter serials : List ℕ) : Type 0 where
  pub are : AreKept old
  pub filter : IsFilter line
  pub looked : IsFound old line found
  pub tables : old.tables_made + 1 < 4294967296
  pub masks : old.masks_made + 1 < 4294967296
  pub first : IsRoomier old mid
  pub second : IsRoomier mid kept
  pub actions : kept.actions ≡ mid.actions
  pub fits : PlanFits mid found.actions
  pub seated : SeatTold (room_on line.hook kept) found.place line.mask.words seat
  pub arrival : IsArrival kept line found.pref for_filter seat a
  pub given : for_filter ≡ serials_of found.actions
  pub told : serials ≡ serials_of found.actions

pub added_there : (old mid kept : Kept) (line : FilterLine) (found : Found) (seat : Seat) (a : Arrival) (for_filter serials : List ℕ)
    → AreTaken old mid kept line found seat a for_filter serials → IsAdded kept line (addition_of a seat found.actions serials)
added_there old mid kept line found seat a for_filter serials taken =
    let more = more_twice old mid kept taken.first taken.second in
    let plan : AreToPlan kept line found seat a = record {
      are = kept_later old kept more taken.are;
      filter = taken.filter;
      looked = found_later old kept line found more taken.looked;
      arrival = subst (λ (ns : List ℕ). IsArrival kept line found.pref ns seat a) taken.given taken.arrival;
    } in
    is_added kept line found seat a serials plan taken.seated (fits_later mid kept found.actions taken.actions taken.fits)
    (omega (arith, more.tables_made, taken.tables)) (omega (arith, more.masks_made, taken.masks)) taken.told

pub done_there : (old mid kept new : Kept) (line : FilterLine) (found : Found) (seat : Seat) (a : Arrival) (for_filter serials : List ℕ) (done : Done)
    → AreTaken old mid kept line found seat a for_filter serials
    → IsDone new done (state_after (state_of kept) (addition_of a seat found.actions serials)) (answer_of (addition_of a seat found.actions serials))
    → IsDoneAtOnce old new (Ok done) (filter_add (state_of old) line)
done_there old mid kept new line found seat a for_filter serials done taken is =
    let more = more_twice old mid kept taken.first taken.second in
    let added = added_there old mid kept line found seat a for_filter serials taken in
    subst (IsDoneAtOnce old new (Ok done)) (sym (ap (λ s. filter_add s line) (sym (state_same old kept more)) ∙ added.accepted)) is
