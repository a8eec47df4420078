-- The mask and the keys of a mask that stands in lists have as many words as a frame's key.
use Rattle.std.proofs.Common.{◌≡◌, ◌∙◌, ℕ, List, length, sym, subst}
use Rattle.filter_index.specs.declared.filter.Filter.{Filter}
use Rattle.filter_state.specs.Sound.{Each}
use Rattle.filter_tables.specs.Plain.{PlainMask}
use Rattle.classify_walk.specs.Found.{AreTidy, AreEven}

pub all_even : (words : List ℕ) (m : PlainMask) → length words ≡ 14 → AreTidy m → AreEven words m
all_even words m key tidy = record {
  mask_even = tidy.mask_count ∙ sym key;
  keys_even = subst (λ n. Each (λ (f : Filter). length f.key.words ≡ n) m.filters) (sym key) tidy.keys_count;
}
