-- A desk of which one mask might have another size than its filters need, once this mask has their size.
use Rattle.std.proofs.Common.{◌≡◌, ◌∙◌, ℕ, Bool, true, false, eqb, eqb-true, List, length, Option, Some, None, refl, sym, ap, subst}
use Rattle.std.specs.Prelude.{slice_index_or}
use Rattle.std.proofs.lemmas.Bool.{eqb-false}
use Rattle.store_history.specs.declared.history.Commit.{Commit}
use Rattle.store_history.specs.History.{root_of}
use Rattle.store_history.specs.Reads.{read_first}
use Rattle.filter_state.specs.declared.edit.Edit.{Edit}
use Rattle.flow_mask.specs.Sizes.{size_of}
use Rattle.block_codec.specs.OfReadings.Read.{mask_of_words}
use Rattle.mask_table.specs.declared.mirrors.mirror.KeptMask.{KeptMask}
use Rattle.mask_writer.specs.Masks.{Masks}
use Rattle.mask_writer.specs.Standing.{masks_of, StandsAt}
use Rattle.mask_writer.proofs.Standing.{record_read}
use Rattle.hook_law.specs.Places.{mask_root}
use Rattle.hook_law.specs.Records.{MaskRecord}
use Rattle.hook_law.specs.Standing.{IsMaskAt}
use Rattle.hook_law.specs.Chains as chains
use Rattle.hook_law.specs.Keeping.{HasItsSize, IsAtRest}
use Rattle.hook_law.proofs.Standing.{present_end}
use Rattle.hook_store_law.specs.Stated.{hook_meaning, filters_at}
use Rattle.hook_store_law.specs.Blocks.{mask_record, hook_codec}
use Rattle.hook_store_law.proofs.Reading.{first_maps}
use Rattle.hook_store_law.specs.OfEdits.Premises.{now}
use Rattle.desk_actions.specs.OfLedgers.Kept.{commits, base}
use Rattle.desk_masks.specs.Masks.{HasMasks}
use Rattle.desk_parts.specs.declared.parts.Parts.{Parts}
use Rattle.desk_parts.specs.Desk.{hook_shape, cells, IsDesk}
use Rattle.desk_masks.proofs.OfFilterCommits.Locating.{own_serial}
use Rattle.shared_hook.specs.OfDeskEdits.Ahead.{IsUnsettled}

same_record : (one two : MaskRecord) → Some one ≡ Some two → one ≡ two
same_record one two e = cc e

-- the record that is read at the root of a mask that the writer holds
pub reads_as : (masks : Masks) (ledger_cells : List ℕ) (h : List (Commit Edit)) → HasMasks masks hook_shape ledger_cells h → (slot : ℕ) (kept : KeptMask) → StandsAt masks slot kept
    → chains.read_first hook_codec.mask (root_of h (mask_root slot)).chain ≡ Some (mask_record kept.mask)
reads_as masks ledger_cells h has slot kept stands =
    first_maps mask_record mask_of_words (root_of h (mask_root slot)).chain kept.mask (record_read masks hook_shape ledger_cells (root_of h) has.named slot kept stands)

-- where each mask has the size for its filters, one that the writer holds does
pub size_now : (masks : Masks) (ledger_cells : List ℕ) (h : List (Commit Edit)) → HasMasks masks hook_shape ledger_cells h → IsAtRest hook_meaning hook_codec h → (slot : ℕ) (kept : KeptMask)
    → StandsAt masks slot kept → kept.mask.size ≡ size_of (length (filters_at (now h) kept.mask.serial))
size_now masks ledger_cells h has rest slot kept stands =
    rest kept.mask.serial slot (mask_record kept.mask) (has.only slot kept stands) (reads_as masks ledger_cells h has slot kept stands)

-- the writer holds the same masks then: the one at a slot still has the size that it had
pub size_before : (masks masks2 : Masks) (ledger_cells : List ℕ) (h : List (Commit Edit)) → HasMasks masks hook_shape ledger_cells h → IsAtRest hook_meaning hook_codec h → (mask slot : ℕ) → IsMaskAt hook_codec h mask slot
    → masks_of masks2 ≡ masks_of masks → (kept : KeptMask) → StandsAt masks2 slot kept → kept.mask.size ≡ size_of (length (filters_at (now h) mask))
size_before masks masks2 ledger_cells h has rest mask slot at same kept stands =
    let stood = ap (λ (l : List (Option KeptMask)). slice_index_or l slot None) (sym same) ∙ stands in
    size_now masks ledger_cells h has rest slot kept stood ∙ ap (λ (m : ℕ). size_of (length (filters_at (now h) m))) (own_serial h masks hook_shape ledger_cells has slot kept stood mask at)

module _ (parts : Parts) (mask slot : ℕ) (u : IsUnsettled parts mask slot) (kept : KeptMask) (stands : StandsAt parts.masks slot kept)
    (fits : kept.mask.size ≡ size_of (length (filters_at (now (commits parts.ledger)) mask))) where
  abbrev h : List (Commit Edit)
  h = commits parts.ledger

  own_size : (s : ℕ) (read : MaskRecord) → IsMaskAt hook_codec h mask s → chains.read_first hook_codec.mask (root_of h (mask_root s)).chain ≡ Some read
      → read.size ≡ size_of (length (filters_at (now h) mask))
  own_size s read at is =
      let same : s ≡ slot = (present_end hook_meaning hook_codec h (base parts.ledger) u.has.kept.low u.has.kept.keeps.law).one_mask mask s slot at u.at in
      let there = subst (λ (n : ℕ). chains.read_first hook_codec.mask (root_of h (mask_root n)).chain ≡ Some read) same is in
      ap (λ (r : MaskRecord). r.size) (same_record read (mask_record kept.mask) (sym there ∙ reads_as parts.masks (cells parts.ledger) h u.has.masks slot kept stands)) ∙ fits

  rest_of : (m : ℕ) (t : Bool) → eqb m mask ≡ t → HasItsSize hook_meaning hook_codec h m
  rest_of m true e = subst (HasItsSize hook_meaning hook_codec h) (sym (eqb-true m mask e)) own_size
  rest_of m false e = u.rest m (eqb-false m mask e)

  pub desk_settled : IsDesk parts
  desk_settled = record {
    shaped = u.has.shaped;
    whole = record {
      kept = record { low = u.has.kept.low; keeps = u.has.kept.keeps; point_is = u.has.kept.point_is; early = u.early };
      rest = λ m. rest_of m (eqb m mask) refl;
      spells = u.spells;
    };
    pools = u.has.pools;
    sized = u.has.sized;
    actions = u.actions;
    masks = u.has.masks;
    ingress = u.has.ingress;
    egress = u.has.egress;
    idle_ingress = u.has.idle_ingress;
    idle_egress = u.has.idle_egress;
  }
