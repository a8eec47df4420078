-- A filter that is put in the place of another of its mask, while the lists are ahead by the edit.
use Rattle.std.proofs.Common.{◌≡◌, ◌∙◌, ℕ, List, ◌∷◌, length, Some, sym, ap, subst, arith, length-append}
use Rattle.store_history.specs.declared.history.Commit.{Commit}
use Rattle.filter_state.specs.declared.edit.Edit.{Edit}
use Rattle.filter_state.specs.declared.edit.Edit.TheVariants as edits
use Rattle.filter_state.specs.declared.edit.FilterLine.{FilterLine}
use Rattle.filter_state.specs.declared.refusal.Done.{Done}
use Rattle.filter_state.specs.declared.refusal.Done.TheVariants as dones
use Rattle.filter_state.specs.States.{Row, State}
use Rattle.flow_mask.specs.Sizes.{size_of}
use Rattle.block_codec.specs.declared.filter.StoredFilter.{StoredFilter}
use Rattle.hook_law.specs.Standing.{IsMaskAt}
use Rattle.hook_store_law.specs.Stated.{filters_at}
use Rattle.hook_store_law.specs.Blocks.{hook_codec}
use Rattle.hook_store_law.specs.OfEdits.Premises.{now, next, IsAccepted, Swaps, named_row, filter_of_line}
use Rattle.hook_store_law.proofs.OfEdits.OneMask.{swaps_after}
use Rattle.desk_actions.specs.OfLedgers.Kept.{commits, base}
use Rattle.desk_masks.specs.OfFilterCommits.Edits.{IsOfLine, ExchangesFilter}
use Rattle.desk_parts.specs.OfFilterNames.Named.{CanBeNamed}
use Rattle.desk_parts.proofs.OfFilterNames.Answering.{stands_last}
use Rattle.desk_parts.specs.declared.parts.Parts.{Parts}
use Rattle.shared_hook.specs.OfDeskEdits.Ahead.{IsAhead}
use Rattle.shared_hook.proofs.OfDeskEdits.Taken.{accepted_as, can_be_named}

module _ (parts : Parts) (y : Edit) (done : Done) (a : IsAhead parts y done) (line : FilterLine) (is : y ≡ edits.FilterReplace line) (pref handle : ℕ) (serials : List ℕ) (row : Row)
    (answer : done ≡ dones.Filter pref handle serials) (there : named_row (now (commits parts.ledger)) line ≡ Some row) (same_mask : row.mask ≡ line.mask.words) (same_key : row.key ≡ line.key.words) where
  abbrev h : List (Commit Edit)
  h = commits parts.ledger

  accepted : IsAccepted h (base parts.ledger) y (next h y) (dones.Filter pref handle serials)
  accepted = accepted_as parts y done a (dones.Filter pref handle serials) answer

  swaps : Swaps row.mask_serial (filter_of_line line handle serials) (now h) (next h y)
  swaps = subst (λ (z : Edit). Swaps row.mask_serial (filter_of_line line handle serials) (now h) (next h z)) (sym is)
      (swaps_after h (base parts.ledger) (next h y) line pref handle serials row
      (subst (λ (z : Edit). IsAccepted h (base parts.ledger) z (next h y) (dones.Filter pref handle serials)) is accepted) there same_mask same_key)

  pub new_can_be_named : CanBeNamed h (next h y) parts.actions (filter_of_line line handle serials)
  new_can_be_named = can_be_named parts y done a line handle serials row.mask_serial (stands_last _ _ _ _ swaps.swaps.after)

  pub exchanges : (slot : ℕ) (filter : StoredFilter) → IsMaskAt hook_codec h row.mask_serial slot → IsOfLine h line handle serials filter → ExchangesFilter h (base parts.ledger) y slot filter
  exchanges slot filter at stored = record {
    state = next h y;
    line = line;
    pref = pref;
    handle = handle;
    serials = serials;
    row = row;
    is = is;
    accepted = accepted;
    there = there;
    same_mask = same_mask;
    same_key = same_key;
    rest = a.rest;
    at = at;
    stored = stored;
    made = a.made;
  }

  -- the mask has as many filters as before
  same_count : length (filters_at (next h y) row.mask_serial) ≡ length (filters_at (now h) row.mask_serial)
  same_count = let s = swaps in let after = ap length s.swaps.after in let before = ap length s.swaps.before in
      let one = length-append s.earlier (filter_of_line line handle serials ∷ s.later) in let two = length-append s.earlier (s.old ∷ s.later) in omega (arith, after, before, one, two)

  pub fits_still : (size serial : ℕ) (k : List (Commit Edit)) → serial ≡ row.mask_serial → now k ≡ next h y → size ≡ size_of (length (filters_at (now h) serial))
      → size ≡ size_of (length (filters_at (now k) serial))
  fits_still size serial k own same fits = subst (λ (s : State). size ≡ size_of (length (filters_at s serial))) (sym same)
      (fits ∙ ap size_of (subst (λ (m : ℕ). length (filters_at (now h) m) ≡ length (filters_at (next h y) m)) (sym own) (sym same_count)))
