-- Blocks filled one after the other.
use Rattle.std.proofs.Common.{◌≡◌, ◌∙◌, ℕ, ◌+◌, ◌≤◌, arith}
use Rattle.block_codec.specs.declared.places.TheConstants.{BLOCKS}
use Rattle.tc_base.specs.declared.hook.Hook.{Hook}
use Rattle.tc_base.specs.declared.hook.Hook.TheVariants as hooks
use Rattle.miniq_pair.specs.Pairs.{first_block_of}
use Rattle.pin_store.specs.declared.view.Sheet.{Sheet}
use Rattle.pin_store.specs.Sheets.{base_of, IsSameButCells}

-- the base stays where only words of blocks change
pub base_same : (old new : Sheet) → IsSameButCells old new → base_of new ≡ base_of old
base_same old new s = λ t. base_of (record old { starts = s.starts t; quiet = s.quiet t })

pub same_cells : (a b c : Sheet) → IsSameButCells a b → IsSameButCells b c → IsSameButCells a c
same_cells a b c first later = record {
  epoch = later.epoch ∙ first.epoch;
  starts = later.starts ∙ first.starts;
  quiet = later.quiet ∙ first.quiet;
  notes = later.notes ∙ first.notes;
  made = later.made ∙ first.made;
}

-- the blocks of all places are the store's
pub places_within : (hook : Hook) (place at : ℕ) → place ≤ 1 → at ≤ 256 → first_block_of hook place + at ≤ BLOCKS
places_within hooks.Ingress place at low few = omega arith
places_within hooks.Egress place at low few = omega arith
