-- No block is twice in a mask's chains.
use Rattle.std.proofs.Common.{◌≡◌, ◌∙◌, ◌⊎◌, inl, inr, ℕ, zero, suc, ◌+◌, ◌<◌, eqb, List, [], ◌∷◌, length, map, get_or, slice_get, Option, Some, refl, sym, ap, subst, arith}
use Rattle.std.specs.List.{IsDistinct}
use Rattle.std.proofs.lemmas.Option.{same_Some}
use Rattle.store_history.specs.declared.history.Link.{Link}
use Rattle.store_history.specs.declared.history.Named.{Named}
use Rattle.pin_store.specs.declared.shape.Shape.{Shape}
use Rattle.pin_store.specs.Layout.{block_words, block_in}
use Rattle.block_codec.specs.Filters.{IsFilterBlock}
use Rattle.mask_table.specs.OfMirrors.Linked.{Placed}
use Rattle.mask_table.specs.OfMirrors.Forgetting.{blocks_of}
use Rattle.mask_table.proofs.OfMirrors.Chains.{one_behind, filter_link}
use Rattle.mask_writer.specs.Standing.{AreFiled, first_in}
use Rattle.hook_law.specs.Standing.{IsIn, AreDistinct}
use Rattle.root_pool_laws.specs.Blocks.{IsBlockOf}
use Rattle.root_pool_laws.proofs.Apart.{in_append, distinct_append}
use Rattle.desk_masks.proofs.OfMaskResizes.Resizing.{mapped_at}

-- ---- lists
pub distinct_more : (x : ℕ) (xs : List ℕ) → (IsIn x xs → ⊥) → IsDistinct eqb xs → IsDistinct eqb (x ∷ xs)
unfolding IsDistinct
distinct_more x xs none rest = distinct_append (x ∷ []) xs (tt, tt) rest (λ z at in_. only z at.0 at.1 in_)
  where
    only : (z place : ℕ) → slice_get {X = ℕ} (x ∷ []) place ≡ Some z → IsIn z xs → ⊥
    only z zero e in_ = none (subst (λ (n : ℕ). IsIn n xs) (sym (same_Some x z e)) in_)
    only z (suc place) e in_ = absurd (cc e)

pub distinct_of : (xs : List ℕ) → AreDistinct xs → IsDistinct eqb xs
unfolding IsDistinct
distinct_of [] all = tt
distinct_of (x ∷ xs) all = distinct_more x xs (λ at. let same = all 0 (suc at.0) x refl at.1 in absurd (omega (arith, same)))
    (distinct_of xs (λ i j z e f. let same = all (suc i) (suc j) z e f in omega (arith, same)))

-- ---- one chain
number_in : List Placed → ℕ
number_in [] = 0
number_in (p ∷ ps) = p.block + 1

first_number : (ps : List Placed) → first_in ps ≡ block_in (number_in ps)
unfolding number_in
first_number [] = refl
first_number (p ∷ ps) = sym (one_behind p.block)

module _ (shape : Shape) (cells : List ℕ) (size bucket : ℕ) where
  -- the last word of a filter's block tells what follows it
  next_number : (p : Placed) (ps : List Placed) → AreFiled shape cells size bucket (p ∷ ps) → get_or (block_words shape cells p.block) 39 0 ≡ number_in ps
  next_number p ps are = filter_link (block_words shape cells p.block) p.filter (number_in ps) (subst (λ (l : Option ℕ). IsFilterBlock (block_words shape cells p.block) (p.filter, l)) (first_number ps) are.0.there)

  -- so chains that begin with one block are as long
  lengths : (xs zs : List Placed) → AreFiled shape cells size bucket xs → AreFiled shape cells size bucket zs → number_in xs ≡ number_in zs → length xs ≡ length zs
  unfolding number_in
  lengths [] [] a c e = refl
  lengths [] (z ∷ zs) a c e = absurd (omega (arith, e))
  lengths (x ∷ xs) [] a c e = absurd (omega (arith, e))
  lengths (x ∷ xs) (z ∷ zs) a c e = ap suc (lengths xs zs a.1 c.1 (sym (next_number x xs a) ∙ (ap (λ (n : ℕ). get_or (block_words shape cells n) 39 0) (omega (arith, e)) ∙ next_number z zs c)))

  -- what is behind a block of a chain is a shorter one
  tail_at : (ps : List Placed) (place : ℕ) (p : Placed) → AreFiled shape cells size bucket ps → slice_get ps place ≡ Some p
      → (rest : List Placed) × AreFiled shape cells size bucket (p ∷ rest) × (length rest < length ps)
  tail_at [] place p are e = absurd (cc e)
  tail_at (x ∷ xs) zero p are e = (xs, subst (λ (z : Placed). AreFiled shape cells size bucket (z ∷ xs)) (same_Some x p e) are, omega arith)
  tail_at (x ∷ xs) (suc place) p are e = let r = tail_at xs place p are.1 e in let less = r.2 in (r.0, r.1, omega (arith, less))

  pub chain_distinct : (ps : List Placed) → AreFiled shape cells size bucket ps → IsDistinct eqb (map (λ (p : Placed). p.block) ps)
  unfolding IsDistinct number_in
  chain_distinct [] are = tt
  chain_distinct (p ∷ ps) are = distinct_more p.block (map (λ (q : Placed). q.block) ps) (λ at. again at.0 at.1) (chain_distinct ps are.1)
    where
      again : (place : ℕ) → slice_get (map (λ (q : Placed). q.block) ps) place ≡ Some p.block → ⊥
      again place e = let q = mapped_at (λ (z : Placed). z.block) ps place p.block e in let t = tail_at ps place q.0 are.1 q.1 in let less = t.2 in
          let same = lengths (p ∷ ps) (q.0 ∷ t.0) are t.1 (ap (λ (n : ℕ). n + 1) q.2) in absurd (omega (arith, same, less))

-- ---- several chains
pub in_blocks : (roots : ℕ → Named) (rs : List ℕ) (block : ℕ) → IsIn block (blocks_of roots rs) → (r : ℕ) × IsIn r rs × IsBlockOf block (roots r).chain
in_blocks roots [] block at = let e = at.1 in absurd (cc e)
in_blocks roots (r ∷ rs) block at = pick (in_append (map (λ (l : Link). l.block) (roots r).chain) (blocks_of roots rs) block at) (in_blocks roots rs block)
  where
    pick : IsIn block (map (λ (l : Link). l.block) (roots r).chain) ⊎ IsIn block (blocks_of roots rs) → (IsIn block (blocks_of roots rs) → (s : ℕ) × IsIn s rs × IsBlockOf block (roots s).chain)
        → (s : ℕ) × IsIn s (r ∷ rs) × IsBlockOf block (roots s).chain
    pick (inl own) more = let m = mapped_at (λ (l : Link). l.block) (roots r).chain own.0 block own.1 in (r, (0, refl), (own.0, m.0, m.1, sym m.2))
    pick (inr rest) more = let x = more rest in (x.0, (suc x.1.0, x.1.1), x.2)

-- where each chain has its blocks once, and no block is in two
pub blocks_distinct : (roots : ℕ → Named) (rs : List ℕ) → AreDistinct rs → ((r : ℕ) → IsIn r rs → IsDistinct eqb (map (λ (l : Link). l.block) (roots r).chain))
    → ((r s block : ℕ) → IsIn r rs → IsIn s rs → IsBlockOf block (roots r).chain → IsBlockOf block (roots s).chain → r ≡ s) → IsDistinct eqb (blocks_of roots rs)
unfolding IsDistinct
blocks_distinct roots [] all each one = tt
blocks_distinct roots (r ∷ rs) all each one = distinct_append (map (λ (l : Link). l.block) (roots r).chain) (blocks_of roots rs) (each r (0, refl))
    (blocks_distinct roots rs (λ i j z e f. let same = all (suc i) (suc j) z e f in omega (arith, same)) (λ s at. each s (suc at.0, at.1)) (λ s t block at in_. one s t block (suc at.0, at.1) (suc in_.0, in_.1)))
    (λ block at in_. let m = mapped_at (λ (l : Link). l.block) (roots r).chain at.0 block at.1 in let x = in_blocks roots rs block in_ in
    let same : r ≡ x.0 = one r x.0 block (0, refl) (suc x.1.0, x.1.1) (at.0, m.0, m.1, sym m.2) x.2 in
    let twice = all 0 (suc x.1.0) x.0 (ap Some same) x.1.1 in absurd (omega (arith, twice)))
