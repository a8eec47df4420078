-- Rows that leave, in any of the two ways: their places can be let go, and the state is then the one without
-- them.
use Rattle.std.proofs.Common.{◌≡◌, ℕ, ◌+◌, ◌≤◌, Bool, not, List, length, filter, refl, sym, ◌∙◌, ap, subst, arith}
use Rattle.filter_state.specs.declared.refusal.Done.{Done}
use Rattle.filter_state.specs.States.{Row}
use Rattle.filter_state.specs.Sound.{places}
use Rattle.filter_state.specs.Actions.{all_unbound}
use Rattle.filter_state.specs.Steps.{taken_out}
use Rattle.filter_state.specs.Order.{SameRows}
use Rattle.filter_tables.specs.Rows.{BothHooks, all_rows, BothWhole}
use Rattle.state_laws.proofs.OfOrder.Same.{same_refl}
use Rattle.row_laws.proofs.OfChanges.Filters.{split_count}
use Rattle.action_plan.specs.Bound.{AreBound}
use Rattle.action_plan.specs.Entries.{actions_of}
use Rattle.hook_lists.specs.declared.kept.Kept.{Kept}
use Rattle.hook_lists.specs.States.{both_of, state_of, AreKept}
use Rattle.hook_lists.specs.Done.{IsDone}
use Rattle.hook_lists.proofs.Covered.{covered_bound}
use Rattle.hook_lists.proofs.Holding.{covered_gone}
use Rattle.filter_lists.specs.OfRemoving.Leaving.{HasTables, HaveLeft}

-- the rows that are gone have those places and are so many, and the tables without them are whole
pub record Leaves (kept : Kept) (both : BothHooks) (gone : Row → Bool) (serials : List ℕ) (many : ℕ) : Type 0 where
  pub rows : all_rows both ≡ filter (λ row. not (gone row)) (all_rows (both_of kept))
  pub its_places : places (filter gone (all_rows (both_of kept))) ≡ serials
  pub count : length (filter gone (all_rows (both_of kept))) ≡ many
  pub whole : BothWhole both

-- ---- counts
left_count : (kept : Kept) (both : BothHooks) (gone : Row → Bool) (serials : List ℕ) (count : ℕ) → AreKept kept → Leaves kept both gone serials count →
    count + length (all_rows both) ≡ kept.filters
left_count kept both gone serials count are leaves =
    omega (arith, split_count gone (all_rows (both_of kept)), leaves.count, ap length leaves.rows, are.filters)

-- ---- letting them go
pub leaves_some : (kept mid : Kept) (both : BothHooks) (gone : Row → Bool) (serials : List ℕ) (count : ℕ) → AreKept kept → HasTables both kept mid → Leaves kept both gone serials count →
    count ≤ mid.filters
leaves_some kept mid both gone serials count are has leaves = omega (arith, left_count kept both gone serials count are leaves, has.filters)

pub leaves_bound : (kept mid : Kept) (both : BothHooks) (gone : Row → Bool) (serials : List ℕ) (count : ℕ) → AreKept kept → HasTables both kept mid → Leaves kept both gone serials count →
    AreBound serials mid.actions.entries
leaves_bound kept mid both gone serials count are has leaves =
    subst (λ registry. AreBound serials registry.entries) (sym has.actions)
    (subst (λ ns. AreBound ns kept.actions.entries) leaves.its_places
    (covered_bound (places (filter gone (all_rows (both_of kept)))) kept.actions.entries (covered_gone (state_of kept) gone are.sound)))

-- ---- the state that is left
pub leaves_done : (kept mid new : Kept) (both : BothHooks) (gone : Row → Bool) (serials : List ℕ) (count : ℕ) (done : Done) → AreKept kept → HasTables both kept mid →
    Leaves kept both gone serials count → HaveLeft serials count mid new → IsDone new done (taken_out (state_of kept) gone) done
leaves_done kept mid new both gone serials count done are has leaves left =
    let tables : both_of new ≡ both = left.tables ∙ has.tables in
    record {
      state = record {
        hooked = left.hooked ∙ has.hooked;
        rows = subst (λ rows. SameRows (all_rows (both_of new)) rows) (ap all_rows tables ∙ leaves.rows) (same_refl (all_rows (both_of new)));
        actions = left.actions ∙ ap (λ registry. all_unbound serials (actions_of registry.entries)) has.actions ∙ ap (λ ns. all_unbound ns (actions_of kept.actions.entries)) (sym leaves.its_places);
        tables_made = left.tables_made ∙ has.tables_made;
        masks_made = left.masks_made ∙ has.masks_made;
        actions_made = left.made ∙ ap (λ registry. registry.made) has.actions;
      };
      answer = refl;
      whole = subst BothWhole (sym tables) leaves.whole;
      filters = omega (arith, left.filters, has.filters, left_count kept both gone serials count are leaves, ap (λ b. length (all_rows b)) tables);
    }
