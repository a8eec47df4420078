-- What is so after the commit of an edit of one bucket, told of the commits that are there then.
use Rattle.std.proofs.Common.{◌≡◌, ◌⊎◌, ◌∙◌, ℕ, ◌+◌, ◌≤◌, List, [], ◌∷◌, ◌++◌, length, take, slice_get, Some, sym, ap, subst, arith}
use Rattle.std.proofs.lemmas.List.{length-map, length-take-le}
use Rattle.std.proofs.lemmas.Option.{slice_get_within}
use Rattle.store_history.specs.declared.history.Commit.{Commit}
use Rattle.store_history.specs.declared.history.Link.{Link}
use Rattle.store_history.specs.History.{edits_of}
use Rattle.flow_mask.specs.Sizes.{size_of}
use Rattle.filter_state.specs.declared.edit.Edit.{Edit}
use Rattle.mask_table.specs.OfMirrors.Given.{AreGiven}
use Rattle.root_pool_laws.specs.Blocks.{Spends}
use Rattle.hook_law.specs.Standing.{Role, Stands}
use Rattle.hook_law.specs.Keeping.{IsAtRest, IsAtRestBut}
use Rattle.hook_law.specs.Numbered.{RewritesBucket}
use Rattle.hook_law.specs.Coming.{IsMade}
use Rattle.hook_law.proofs.Resting.{rewrite_rests, rewrite_rests_others}
use Rattle.hook_store_law.specs.Stated.{hook_meaning, filters_at}
use Rattle.hook_store_law.specs.Blocks.{hook_codec}
use Rattle.hook_store_law.specs.Kept.{KeepsHook}
use Rattle.hook_store_law.specs.OfEdits.Premises.{next}
use Rattle.desk_pools.specs.declared.pools.Pools.{Pools}
use Rattle.desk_pools.specs.Pools.{ArePools}
use Rattle.desk_masks.specs.OfFilterCommits.Blocks.{AreTaken}
use Rattle.desk_masks.proofs.OfFilterCommits.Spending.{chain_blocks}
use Rattle.desk_masks.proofs.OfFilterCommits.Rewriting.{rewrite_lawful, journal_more, made_comes, rewrite_pools}

-- so many blocks at the front of a chain
pub front_count : (chain : List Link) (n : ℕ) (l : Link) → slice_get chain n ≡ Some l → length (chain_blocks (take (n + 1) chain)) ≡ n + 1
front_count chain n l e = let within = slice_get_within chain n l e in
    length-map (take (n + 1) chain) (λ (x : Link). x.block) ∙ length-take-le (n + 1) chain (omega (arith, within))

module _ (h : List (Commit Edit)) (b : ℕ) (c : Commit Edit) (y : Edit) (low : b ≤ length h) (k : KeepsHook h b) (w : RewritesBucket hook_meaning hook_codec b h c y)
    (h2 : List (Commit Edit)) (seen : h2 ≡ h ++ c ∷ []) (b2 : ℕ) (base : b2 ≡ b) where
  pub after_lawful : KeepsHook h2 b2
  after_lawful = subst (KeepsHook h2) (sym base) (subst (λ (l : List (Commit Edit)). KeepsHook l b) (sym seen) (rewrite_lawful h b c y low k w))

  pub after_journal : edits_of h2 ≡ edits_of h ++ y ∷ []
  after_journal = ap edits_of seen ∙ journal_more h b c y low k w

  pub after_comes : (r : ℕ) (x : Role) → Stands hook_meaning hook_codec h2 r x → Stands hook_meaning hook_codec h r x ⊎ IsMade hook_meaning hook_codec b h y r x
  after_comes r x stands = made_comes h b c y low k w r x (subst (λ (l : List (Commit Edit)). Stands hook_meaning hook_codec l r x) seen stands)

  pub after_rests_but : (serial : ℕ) → serial ≡ w.region.mask → IsAtRestBut hook_meaning hook_codec h2 serial
  after_rests_but serial own = subst (λ (m : ℕ). IsAtRestBut hook_meaning hook_codec h2 m) (sym own)
      (subst (λ (l : List (Commit Edit)). IsAtRestBut hook_meaning hook_codec l w.region.mask) (sym seen) (rewrite_rests_others hook_meaning hook_codec h b c y w))

  pub after_rests : (serial size : ℕ) → serial ≡ w.region.mask → size ≡ w.region.size → size ≡ size_of (length (filters_at (next h y) serial)) → IsAtRest hook_meaning hook_codec h2
  after_rests serial size own sized fits = subst (λ (l : List (Commit Edit)). IsAtRest hook_meaning hook_codec l) (sym seen)
      (rewrite_rests hook_meaning hook_codec h b c y low k.law w (sym sized ∙ (fits ∙ ap (λ (m : ℕ). size_of (length (filters_at (next h y) m))) own)))

  pub after_pools : (pools : Pools) (given : List ℕ) → Spends h c given → AreGiven b h given → AreTaken pools h b y given → ArePools pools h2 b2
  after_pools pools given spends are taken = subst (ArePools pools h2) (sym base) (subst (λ (l : List (Commit Edit)). ArePools pools l b) (sym seen) (rewrite_pools h b c y low k w pools given spends are taken))
