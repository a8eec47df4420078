-- The record that a standing mask's root names is the mask that is kept.
use Rattle.std.proofs.Common.{◌≡◌, ◌∙◌, ℕ, List, Some, ap}
use Rattle.store_history.specs.declared.history.Named.{Named}
use Rattle.store_history.specs.Reads.{read_first}
use Rattle.pin_store.specs.declared.shape.Shape.{Shape}
use Rattle.block_codec.specs.OfReadings.Read.{mask_of_words}
use Rattle.block_codec.proofs.OfReadings.MaskReads.{mask_block_reads}
use Rattle.mask_table.specs.Buckets.{mask_root}
use Rattle.mask_table.specs.declared.mirrors.mirror.Mirror.{Mirror}
use Rattle.mask_table.specs.declared.mirrors.mirror.KeptMask.{KeptMask}
use Rattle.mask_table.specs.OfMirrors.Kept.{Stands, IsKept}

pub stored_record : (mirror : Mirror) (shape : Shape) (cells : List ℕ) (roots : ℕ → Named) (slot : ℕ) (kept : KeptMask) → IsKept mirror shape cells roots → Stands mirror slot kept
    → read_first mask_of_words (roots (mask_root slot)).chain ≡ Some kept.mask
stored_record mirror shape cells roots slot kept keeps stands = let is = keeps.masks slot kept stands in
    ap (read_first mask_of_words) is.named ∙ (ap mask_of_words is.there.words_are ∙ mask_block_reads kept.mask is.there.storable is.there.serial is.there.mask)
