-- The buckets of a mask have its filters, each once.
use Rattle.std.proofs.Common.{◌≡◌, ◌∙◌, ℕ, zero, suc, ◌+◌, ◌<◌, ◌≤◌, ◌==◌, Bool, true, false, if◌then◌else◌, List, [], ◌∷◌, length, map, refl, sym, ap, arith, length-append, eqb-true}
use Rattle.std.specs.List.{range_with_len}
use Rattle.std.proofs.lemmas.Bool.{ne_eqb, eqb-false}
use Rattle.std.proofs.lemmas.List.{length-map}
use Rattle.store_history.specs.declared.history.Link.{Link}
use Rattle.store_history.specs.declared.history.Commit.{Commit}
use Rattle.store_history.specs.History.{root_of}
use Rattle.pin_store.specs.declared.shape.Shape.{Shape}
use Rattle.filter_state.specs.declared.edit.Edit.{Edit}
use Rattle.block_codec.specs.declared.filter.StoredFilter.{StoredFilter}
use Rattle.block_codec.specs.OfReadings.Read.{filter_in}
use Rattle.block_chain.proofs.Chains.{read_length}
use Rattle.mask_table.specs.Buckets.{bucket_root, bucket_for, bucket_of}
use Rattle.mask_table.specs.declared.mirrors.mirror.KeptMask.{KeptMask}
use Rattle.mask_table.specs.OfMirrors.Forgetting.{blocks_of, bucket_blocks}
use Rattle.mask_writer.specs.Masks.{Masks}
use Rattle.mask_writer.specs.Standing.{StandsAt}
use Rattle.desk_masks.specs.OfMaskResizes.Resized.{stored_now}
use Rattle.hook_law.specs.Meaning.{now_of}
use Rattle.hook_store_law.specs.Stated.{hook_meaning, filters_at}
use Rattle.hook_store_law.specs.Told.{with_slots}
use Rattle.desk_masks.specs.Masks.{HasMasks}
use Rattle.desk_masks.proofs.OfFilterCommits.Locating.{home_less, bucket_reads}

one_if : Bool → ℕ
one_if true = 1
one_if false = 0

-- how many filters are in so many buckets from one on, and whether a bucket is among these
in_buckets : ℕ → ℕ → ℕ → List StoredFilter → ℕ
in_buckets size first zero fs = 0
in_buckets size first (suc n) fs = length (bucket_of size first fs) + in_buckets size (first + 1) n fs

among : ℕ → ℕ → ℕ → ℕ
among home first zero = 0
among home first (suc n) = one_if (home == first) + among home (first + 1) n

one_length : (b : Bool) (f : StoredFilter) → length {A = StoredFilter} (if b then f ∷ [] else []) ≡ one_if b
unfolding one_if
one_length true f = refl
one_length false f = refl

one_more : (size n first : ℕ) (f : StoredFilter) (fs : List StoredFilter) → in_buckets size first n (f ∷ fs) ≡ in_buckets size first n fs + among (bucket_for size f.key.words) first n
unfolding in_buckets among
one_more size zero first f fs = refl
one_more size (suc n) first f fs = let rest = one_more size n (first + 1) f fs in let b : Bool = bucket_for size f.key.words == first in
    let own = length-append (bucket_of size first fs) (if b then f ∷ [] else []) in let one = one_length b f in omega (arith, rest, own, one)

among_none : (home n first : ℕ) → home < first → among home first n ≡ 0
unfolding among one_if
among_none home zero first less = refl
among_none home (suc n) first less = let rest = among_none home n (first + 1) (omega (arith, less)) in let none : (home == first) ≡ false = ne_eqb home first (λ e. absurd (omega (arith, e, less))) in
    ap (λ (b : Bool). one_if b + among home (first + 1) n) none ∙ omega (arith, rest)

among_one : (home n first : ℕ) → first ≤ home → home < first + n → among home first n ≡ 1
unfolding among one_if
among_one home zero first low high = absurd (omega (arith, low, high))
among_one home (suc n) first low high = pick (λ more less. among_one home n (first + 1) more less) (home == first) refl
  where
    pick : (first + 1 ≤ home → home < first + 1 + n → among home (first + 1) n ≡ 1) → (b : Bool) → (home == first) ≡ b → one_if (home == first) + among home (first + 1) n ≡ 1
    pick further true e = let same : home ≡ first = eqb-true home first e in let rest = among_none home n (first + 1) (omega (arith, same)) in ap (λ (b : Bool). one_if b + among home (first + 1) n) e ∙ omega (arith, rest)
    pick further false e = let away = eqb-false home first e in let rest = further (omega (arith, low, away)) (omega (arith, high)) in ap (λ (b : Bool). one_if b + among home (first + 1) n) e ∙ omega (arith, rest)

none_counted : (size n first : ℕ) → in_buckets size first n [] ≡ 0
unfolding in_buckets
none_counted size zero first = refl
none_counted size (suc n) first = let rest = none_counted size n (first + 1) in omega (arith, rest)

all_counted : (size : ℕ) → ((key : List ℕ) → bucket_for size key < size) → (fs : List StoredFilter) → in_buckets size 0 size fs ≡ length fs
all_counted size less [] = none_counted size size 0
all_counted size less (f ∷ fs) = let rest = all_counted size less fs in let more = one_more size size 0 f fs in let one = among_one (bucket_for size f.key.words) size 0 (omega arith) (let in_ = less f.key.words in omega (arith, in_)) in
    omega (arith, rest, more, one)

module _ (h : List (Commit Edit)) (masks : Masks) (shape : Shape) (cells : List ℕ) (has : HasMasks masks shape cells h) (slot : ℕ) (kept : KeptMask) (stands : StandsAt masks slot kept) where
  abbrev fs : List StoredFilter
  fs = stored_now h kept.mask.serial

  chain_count : (k : ℕ) → k < kept.mask.size → length (map (λ (l : Link). l.block) (root_of h (bucket_root kept.mask k)).chain) ≡ length (bucket_of kept.mask.size k fs)
  chain_count k less = length-map (root_of h (bucket_root kept.mask k)).chain (λ (l : Link). l.block)
      ∙ sym (read_length filter_in (root_of h (bucket_root kept.mask k)).chain (bucket_of kept.mask.size k fs) (bucket_reads h masks shape cells has slot kept stands k less))

  blocks_count : (n first : ℕ) → first + n ≤ kept.mask.size → length (blocks_of (root_of h) (map (bucket_root kept.mask) (range_with_len first n))) ≡ in_buckets kept.mask.size first n fs
  unfolding in_buckets
  blocks_count zero first within = refl
  blocks_count (suc n) first within = let rest = blocks_count n (first + 1) (omega (arith, within)) in let own = chain_count first (omega (arith, within)) in
      let all = length-append (map (λ (l : Link). l.block) (root_of h (bucket_root kept.mask first)).chain) (blocks_of (root_of h) (map (bucket_root kept.mask) (range_with_len (first + 1) n))) in omega (arith, rest, own, all)

  -- a block for each filter
  pub count_blocks : length (bucket_blocks (root_of h) kept.mask kept.mask.size) ≡ length (filters_at (now_of hook_meaning h) kept.mask.serial)
  count_blocks = let each = blocks_count kept.mask.size 0 (omega arith) in let all = all_counted kept.mask.size (home_less h masks shape cells has slot kept stands) fs in
      let stored = length-map (filters_at (now_of hook_meaning h) kept.mask.serial) (with_slots h) in omega (arith, each, all, stored)
