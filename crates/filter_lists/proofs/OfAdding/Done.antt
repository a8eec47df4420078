-- What adding leaves is what the step leads to.
use Rattle.std.proofs.Common.{◌≡◌, ◌+◌, [], ◌∷◌, ◌++◌, refl, sym, ap, subst, arith}
use Rattle.std.proofs.lemmas.List.{length-append}
use Rattle.filter_state.specs.Actions.{Made}
use Rattle.filter_state.specs.Order.{SameRows}
use Rattle.filter_state.specs.Steps.{raised}
use Rattle.filter_tables.specs.Rows.{BothHooks, BothWhole, on_hook, all_rows}
use Rattle.state_laws.proofs.OfOrder.Same.{length_same}
use Rattle.action_plan.specs.Plans.{made_of, carried}
use Rattle.hook_lists.specs.declared.kept.Kept.{Kept}
use Rattle.hook_lists.specs.States.{both_of, state_of, AreKept}
use Rattle.hook_lists.specs.Done.{IsDone}
use Rattle.filter_lists.specs.declared.adding.addition.Addition.{Addition}
use Rattle.filter_lists.specs.OfAdding.Arrivals.{row_of_arrival}
use Rattle.filter_lists.specs.OfAdding.Seats.{seated}
use Rattle.filter_lists.specs.OfAdding.Additions.{IsReady, state_after, answer_of}
use Rattle.filter_lists.proofs.OfAdding.Put.{rows_put, whole_put}

-- what the calls left, against what stood before
pub record AreDone (old new : Kept) (addition : Addition) : Type 0 where
  pub hooked : new.hooked ≡ old.hooked
  pub both : both_of new ≡ on_hook addition.arrival.hook (seated addition.arrival addition.seat) (both_of old)
  pub actions : made_of new.actions ≡ carried (made_of old.actions) addition.actions
  pub tables_made : new.tables_made ≡ raised old.tables_made addition.arrival.table_serial
  pub masks_made : new.masks_made ≡ raised old.masks_made addition.arrival.mask_serial
  pub filters : new.filters ≡ old.filters + 1

pub is_done : (old new : Kept) (addition : Addition) → AreKept old → IsReady old addition → AreDone old new addition
    → IsDone new (answer_of addition) (state_after (state_of old) addition) (answer_of addition)
is_done old new addition are ready done =
    let rows : SameRows (all_rows (both_of new)) (all_rows (both_of old) ++ (row_of_arrival addition.arrival ∷ [])) =
    subst (λ (both : BothHooks). SameRows (all_rows both) (all_rows (both_of old) ++ (row_of_arrival addition.arrival ∷ []))) (sym done.both)
    (rows_put old addition.arrival addition.seat are ready.seat) in
    let longer = length-append (all_rows (both_of old)) (row_of_arrival addition.arrival ∷ []) in
    record {
      state = record {
        hooked = done.hooked;
        rows = rows;
        actions = ap (λ (m : Made). m.actions) done.actions;
        tables_made = done.tables_made;
        masks_made = done.masks_made;
        actions_made = ap (λ (m : Made). m.made) done.actions;
      };
      answer = refl;
      whole = subst BothWhole (sym done.both) (whole_put old addition.arrival addition.seat are ready.seat);
      filters = omega (arith, done.filters, are.filters, length_same rows, longer);
    }
