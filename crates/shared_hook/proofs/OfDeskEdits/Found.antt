-- What was found of a desk before an edit holds once the lists are ahead.
use Rattle.std.proofs.Common.{◌≡◌, ◌∙◌, ℕ, List, length, sym, ap, subst}
use Rattle.std.proofs.lemmas.List.{length-map}
use Rattle.store_history.specs.declared.history.Commit.{Commit}
use Rattle.store_history.specs.History.{edits_of}
use Rattle.filter_state.specs.declared.edit.Edit.{Edit}
use Rattle.filter_state.specs.declared.refusal.Done.{Done}
use Rattle.filter_state.specs.States.{Row, State}
use Rattle.flow_mask.specs.Sizes.{size_of}
use Rattle.hook_store_law.specs.OfEffects.Parts.{filters_of}
use Rattle.mask_table.specs.declared.mirrors.mirror.KeptMask.{KeptMask}
use Rattle.mask_writer.specs.Masks.{Masks}
use Rattle.mask_writer.specs.Standing.{StandsAt}
use Rattle.hook_law.specs.Meaning.{state_at}
use Rattle.hook_law.specs.Standing.{IsMaskAt}
use Rattle.hook_store_law.specs.Stated.{hook_meaning, filter_stated, filters_at}
use Rattle.hook_store_law.specs.Blocks.{hook_codec}
use Rattle.hook_store_law.specs.OfEdits.Premises.{now, next}
use Rattle.desk_needs.specs.Live.{count_of}
use Rattle.desk_needs.proofs.OfEditNeeds.Counted.{counted}
use Rattle.desk_masks.specs.OfFilterCommits.Edits.{HasLater}
use Rattle.desk_masks.proofs.OfFilterCommits.Locating.{own_serial}
use Rattle.desk_actions.specs.OfLedgers.Kept.{commits}
use Rattle.desk_masks.specs.OfResizes.Refit.{count_now}
use Rattle.desk_parts.specs.declared.parts.Parts.{Parts}
use Rattle.desk_parts.specs.Desk.{hook_shape, cells, IsDesk}
use Rattle.shared_hook.specs.OfDeskEdits.Ahead.{IsAhead, GoesOnStill}
use Rattle.shared_hook.proofs.OfDeskEdits.Settled.{size_now}
use Rattle.desk_parts.specs.OfWays.Ways.{HasBehind}

pub same_state : (h k : List (Commit Edit)) → edits_of k ≡ edits_of h → now k ≡ now h
same_state h k same = ap (λ (edits : List Edit). state_at hook_meaning edits (length edits)) same

pub counts : (s : State) (mask : ℕ) → length (filters_at s mask) ≡ count_of s mask
counts s mask = length-map (filters_of s mask) filter_stated ∙ sym (counted s mask)

module _ (before ahead : Parts) (y : Edit) (done : Done) (d : IsDesk before) (a : IsAhead ahead y done) (still : GoesOnStill (commits before.ledger) (commits ahead.ledger))
    (same_masks : ahead.masks ≡ before.masks) where
  abbrev h : List (Commit Edit)
  h = commits before.ledger

  abbrev k : List (Commit Edit)
  k = commits ahead.ledger

  pub same_now : now k ≡ now h
  same_now = same_state h k still.journal

  pub same_next : next k y ≡ next h y
  same_next = ap (λ (s : State). hook_meaning.step s y) same_now

  -- a mask stands at its slot, with as many filters
  pub at_ahead : (mask slot : ℕ) → IsMaskAt hook_codec h mask slot → IsMaskAt hook_codec k mask slot
  at_ahead mask slot at = let it = d.masks.has mask slot at in
      subst (λ (m : ℕ). IsMaskAt hook_codec k m slot) it.serial (a.has.masks.only slot it.kept (subst (λ (m : Masks). StandsAt m slot it.kept) (sym same_masks) it.stands))

  pub count_ahead : (mask : ℕ) → count_now k mask ≡ count_of (now h) mask
  count_ahead mask = ap (λ (s : State). length (filters_at s mask)) same_now ∙ counts (now h) mask

  -- a filter has as many behind it in its bucket
  pub behind_ahead : (row : Row) (slot later : ℕ) → IsMaskAt hook_codec h row.mask_serial slot → HasBehind h row later → (kept : KeptMask) → StandsAt ahead.masks slot kept
      → HasLater kept.mask.size row.handle (filters_at (now k) kept.mask.serial) later
  behind_ahead row slot later at behind kept stands =
      let own : kept.mask.serial ≡ row.mask_serial = own_serial k ahead.masks hook_shape (cells ahead.ledger) a.has.masks slot kept stands row.mask_serial (at_ahead row.mask_serial slot at) in
      let count : length (filters_at (now k) kept.mask.serial) ≡ count_of (now h) row.mask_serial = ap (λ (m : ℕ). length (filters_at (now k) m)) own ∙ count_ahead row.mask_serial in
      let size : kept.mask.size ≡ size_of (count_of (now h) row.mask_serial) = size_now ahead.masks (cells ahead.ledger) k a.has.masks a.rest slot kept stands ∙ ap size_of count in
      subst (λ (n : ℕ). HasLater n row.handle (filters_at (now k) kept.mask.serial) later) (sym size)
      (subst (λ (m : ℕ). HasLater (size_of (count_of (now h) row.mask_serial)) row.handle (filters_at (now k) m) later) (sym own)
      (subst (λ (s : State). HasLater (size_of (count_of (now h) row.mask_serial)) row.handle (filters_at s row.mask_serial) later) (sym same_now) behind))
