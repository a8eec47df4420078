-- Pools under the commits of a whole mask.
use Rattle.std.proofs.Common.{◌≡◌, ◌≢◌, ◌∙◌, ◌⊎◌, inl, inr, ℕ, zero, suc, ◌+◌, ◌<◌, ◌≤◌, List, ◌++◌, length, slice_get, Some, sym, ap, subst, arith}
use Rattle.std.proofs.lemmas.Option.{slice_get_within, same_Some}
use Rattle.store_history.specs.declared.history.Commit.{Commit}
use Rattle.store_history.specs.declared.history.Link.{Link}
use Rattle.store_history.specs.declared.places.TheConstants.{POOL_BLOCKS}
use Rattle.pin_store.specs.Calls.{IsUnnamed}
use Rattle.filter_state.specs.declared.edit.Edit.{Edit}
use Rattle.block_codec.specs.declared.filter.StoredFilter.{StoredFilter}
use Rattle.block_codec.specs.declared.mask.StoredMask.{StoredMask}
use Rattle.mask_table.specs.OfMirrors.Given.{AreGiven}
use Rattle.mask_table.specs.OfMirrors.Linked.{placed, mask_commit, raise_commits}
use Rattle.hook_law.specs.Meaning.{point_of}
use Rattle.hook_law.specs.Standing.{IsIn}
use Rattle.desk_masks.proofs.OfMaskResizes.Resizing.{rows_distinct}
use Rattle.hook_store_law.specs.Kept.{KeepsHook}
use Rattle.desk_heads.specs.OfHeadCommits.Raised.{stored_next, IsReady, CanRaise}
use Rattle.desk_heads.proofs.OfHeadCommits.Raising.{IsOne, commit_at, raise_spares}
use Rattle.desk_pools.specs.declared.pools.Pools.{Pools}
use Rattle.desk_pools.specs.Pools.{ArePools}
use Rattle.desk_pools.specs.Steps.{IsInPool}
use Rattle.desk_masks.proofs.Spending.{SpendApart, IsLaid, link_laid, laid_apart, unnamed_last, pools_spared}

module _ (h : List (Commit Edit)) (b : ℕ) (y : Edit) (slot : ℕ) (mask : StoredMask) (given : List ℕ) (blk : ℕ) (keeps : KeepsHook h b) (ready : IsReady h b y) (can : CanRaise h b y slot mask given)
    (are : AreGiven b h given) (record_block : slice_get given (length (stored_next h y mask.serial)) ≡ Some blk) where
  abbrev fs : List StoredFilter
  fs = stored_next h y mask.serial

  abbrev cs : List (Commit Edit)
  cs = raise_commits slot mask blk (placed given fs) (point_of h + 1)

  -- where a block of a commit's chain was handed in
  abbrev IsAtPlace : ℕ → Link → Type 0
  IsAtPlace j l = ((j < mask.size) × IsLaid given fs mask.size j l) ⊎ ((j ≡ mask.size) × (l.block ≡ blk))

  at_place : (j k : ℕ) (c : Commit Edit) (l : Link) → slice_get cs j ≡ Some c → slice_get c.named.chain k ≡ Some l → IsAtPlace j l
  at_place j k c l at there = sort (commit_at h b y slot mask given blk keeps ready can j c at)
    where
      first : (place : ℕ) → slice_get (mask_commit {E = Edit} slot mask blk (point_of h + 1)).named.chain place ≡ Some l → l.block ≡ blk
      first zero e = sym (ap (λ (m : Link). m.block) (same_Some _ l e))
      first (suc place) e = absurd (cc e)

      sort : IsOne h b y slot mask given blk keeps ready can j c → IsAtPlace j l
      sort (inl o) = inl (o.0, link_laid given fs mask.size j k l (sym (ap (λ (z : Commit Edit). slice_get z.named.chain k) o.1) ∙ there))
      sort (inr o) = inr (o.0, first k (sym (ap (λ (z : Commit Edit). slice_get z.named.chain k) o.1) ∙ there))

  given_at : (j : ℕ) (l : Link) → IsAtPlace j l → IsIn l.block given
  given_at j l (inl x) = (x.1.at, x.1.block)
  given_at j l (inr x) = (length fs, record_block ∙ ap Some (sym x.1))

  pub raise_apart : SpendApart cs
  raise_apart i j k n c d l m less at more own there = sort (at_place i k c l at own) (at_place j n d m more there)
    where
      sort : IsAtPlace i l → IsAtPlace j m → l.block ≢ m.block
      sort (inl x) (inl z) same = laid_apart given fs mask.size i j l m are.different x.1 z.1 (λ equal. absurd (omega (arith, less, equal))) same
      sort (inl x) (inr z) same = let at_end : x.1.at ≡ length fs = rows_distinct given are.different x.1.at (length fs) l.block x.1.block (record_block ∙ ap Some (sym z.1 ∙ sym same)) in
          let inside = slice_get_within fs x.1.at x.1.filter x.1.there in absurd (omega (arith, at_end, inside))
      sort (inr x) (inl z) same = let one = x.0 in let two = z.0 in absurd (omega (arith, one, two, less))
      sort (inr x) (inr z) same = let one = x.0 in let two = z.0 in absurd (omega (arith, one, two, less))

  pub raise_pools : (pools : Pools) → ArePools pools h b → ((x : ℕ) → IsIn x given → IsInPool x pools.blocks → ⊥) → ArePools pools (h ++ cs) b
  raise_pools pools p apart = pools_spared pools cs h b ready.accepted.low keeps.law (raise_spares h b y slot mask given blk keeps ready can) p
      (λ j c at place l there. let g = given_at j l (at_place j place c l at there) in (are.free g.0 l.block g.1, are.pool g.0 l.block g.1, apart l.block g)) raise_apart

  -- a block that wasn't handed in is as unnamed as before
  pub raise_unnamed : (block : ℕ) → (IsIn block given → ⊥) → IsUnnamed b h block → IsUnnamed b (h ++ cs) block
  raise_unnamed block away free = unnamed_last cs h b block ready.accepted.low
      (λ j place c l at there same. away (subst (λ (n : ℕ). IsIn n given) same (given_at j l (at_place j place c l at there)))) free

  -- so is one outside the pool
  pub raise_outside : (block : ℕ) → POOL_BLOCKS ≤ block → IsUnnamed b h block → IsUnnamed b (h ++ cs) block
  raise_outside block high free = raise_unnamed block (λ at. let small = are.pool at.0 block at.1 in absurd (omega (arith, small, high))) free
