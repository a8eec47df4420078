-- What the root at a mask's slot tells a reader.
use Rattle.std.proofs.Common.{◌≡◌, ℕ, ◌-◌, ◌≤◌, inl, inr, List, length, take, ap, sym, ◌∙◌, subst, le_refl}
use Rattle.std.proofs.lemmas.List.{length-map}
use Rattle.store_history.specs.declared.history.Commit.{Commit}
use Rattle.store_history.specs.History.{root_of, edits_of}
use Rattle.filter_state.specs.declared.edit.Edit.{Edit}
use Rattle.filter_state.specs.States.{State}
use Rattle.edit_effects.specs.OfEffects.Parts.{words_of}
use Rattle.flow_mask.specs.Sizes.{size_of}
use Rattle.block_codec.specs.OfReadings.Read.{mask_of_words}
use Rattle.hook_law.specs.Records.{MaskRecord}
use Rattle.hook_law.specs.Meaning as law
use Rattle.hook_law.specs.Telling.{SizeFits}
use Rattle.hook_law.specs.Keeping.{Keeps}
use Rattle.store_history.proofs.Lists.{some_is}
use Rattle.hook_law.proofs.Looking.{mask_stood, mask_tells}
use Rattle.mask_table.specs.Buckets.{mask_root}
use Rattle.mask_table.specs.Told.{edits_by, FitsSize, TellsMask, Stood}
use Rattle.hook_meaning.specs.Stated.{filters_at, hook_meaning}
use Rattle.hook_meaning.specs.Blocks.{mask_record, hook_codec}
use Rattle.hook_meaning.specs.Told.{stands_at, words_after, with_slots, filters_after}
use Rattle.hook_meaning.proofs.Reading.{first_mapped}
use Rattle.hook_meaning.proofs.States.{state_is}

pub slot_stood : (h : List (Commit Edit)) (b n slot mask : ℕ) → Keeps hook_meaning hook_codec h b → b ≤ n → n ≤ length h → stands_at (take n h) slot mask
    → Stood stands_at h n slot mask
slot_stood h b n slot mask kept low high at = let o = mask_stood hook_meaning hook_codec h b n mask slot kept low high at in
    record { at = o.at; late = o.late; made = o.made; there = o.stood; same = o.same }

-- a size that fits the law's filters fits the same with slots
count_is : (h : List (Commit Edit)) (k mask : ℕ) → length (filters_at (law.state_at hook_meaning (edits_of h) k) mask) ≡ length (filters_after h k mask)
count_is h k mask = ap (λ (s : State). length (filters_at s mask)) (state_is (edits_of h) k) ∙ sym (length-map _ (with_slots h))

size_fits : (h : List (Commit Edit)) (k mask size : ℕ) → SizeFits hook_meaning size mask (law.state_at hook_meaning (edits_of h) (k - 1)) (law.state_at hook_meaning (edits_of h) k)
    → FitsSize (λ i. filters_after h i mask) size k
size_fits h k mask size (inl e) = inl (e ∙ ap size_of (count_is h k mask))
size_fits h k mask size (inr e) = inr (e ∙ ap size_of (count_is h (k - 1) mask))

pub mask_told : (h : List (Commit Edit)) (b n slot mask : ℕ) → Keeps hook_meaning hook_codec h b → b ≤ n → n ≤ length h → stands_at (take n h) slot mask
    → TellsMask (λ k. words_after h k mask) (λ k. filters_after h k mask) (root_of (take n h) (mask_root slot)) (edits_by h n)
mask_told h b n slot mask kept low high at =
    let named = root_of (take n h) (mask_root slot) in let t = mask_tells hook_meaning hook_codec h b n mask slot kept low high at in
    let first = t.reads named.stamp (le_refl named.stamp) t.early in
    let one = first_mapped mask_record mask_of_words named.chain first.mask first.read in record {
      mask = one.0;
      read = one.1;
      early = t.early;
      words_are = λ k since until. let now = t.reads k since until in
          let same : now.mask ≡ mask_record one.0 = some_is now.mask first.mask (sym now.read ∙ first.read) ∙ sym one.2 in
          ap (λ (s : State). words_of s mask) (sym (state_is (edits_of h) k)) ∙ (sym now.words ∙ ap (λ (z : MaskRecord). z.words) same);
      fits = λ k since until. let now = t.reads k since until in
          let same : now.mask ≡ mask_record one.0 = some_is now.mask first.mask (sym now.read ∙ first.read) ∙ sym one.2 in
          subst (λ (z : MaskRecord). FitsSize (λ i. filters_after h i mask) z.size k) same (size_fits h k mask now.mask.size now.size);
    }
