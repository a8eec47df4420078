-- The blocks of a bucket's chain, and what a commit that lays its front anew spends and leaves of them.
use Rattle.std.proofs.Common.{◌≡◌, ◌∙◌, ◌⊎◌, inl, inr, ℕ, zero, suc, ◌+◌, ◌<◌, ◌≤◌, Bool, true, false, eqb, List, [], ◌∷◌, ◌++◌, length, map, take, drop, get_or, slice_get, Option, Some, None, refl, sym, ap, subst, arith, eqb-true}
use Rattle.std.specs.List.{IsDistinct, AllByRecursion}
use Rattle.std.proofs.lemmas.Bool.{eqb-false}
use Rattle.std.proofs.lemmas.List.{map-append, take-append-drop}
use Rattle.store_history.specs.declared.history.Commit.{Commit}
use Rattle.store_history.specs.declared.history.Link.{Link}
use Rattle.store_history.specs.declared.history.Named.{Named}
use Rattle.store_history.specs.History.{root_of, first_block}
use Rattle.store_history.specs.Reads.{read_all}
use Rattle.store_history.proofs.Lists.{get_take, get_drop}
use Rattle.store_history.proofs.Histories.{root_other}
use Rattle.store_history.specs.declared.places.TheConstants.{POOL_BLOCKS}
use Rattle.pin_store.specs.declared.shape.Shape.{Shape}
use Rattle.pin_store.specs.Layout.{block_words, block_in}
use Rattle.pin_store.specs.Calls.{IsUnnamed}
use Rattle.filter_state.specs.declared.edit.Edit.{Edit}
use Rattle.block_codec.specs.declared.filter.StoredFilter.{StoredFilter}
use Rattle.block_codec.specs.Blocks.{block, plus_one, IsLink}
use Rattle.block_codec.specs.Filters.{filter_words, IsFilterBlock}
use Rattle.block_codec.specs.OfReadings.Read.{filter_in}
use Rattle.mask_table.specs.OfMirrors.Linked.{Placed, placed, linked}
use Rattle.mask_table.proofs.OfMirrors.Chains.{one_behind, filter_link}
use Rattle.mask_order.proofs.ChainsRead.{Fits, first_linked, own_block_reads}
use Rattle.mask_bucket_edits.proofs.Among.{among_map}
use Rattle.mask_writer.specs.Standing.{AreFiled, first_in}
use Rattle.hook_law.specs.Standing.{IsIn}
use Rattle.hook_law.proofs.Chains.{read_cons}
use Rattle.hook_law.proofs.Growing.{root_same}
use Rattle.root_pool_laws.specs.Blocks.{HasBlock, HaveOneRoot, Spends}
use Rattle.root_pool_laws.proofs.Apart.{distinct_append, distinct_first, distinct_apart}
use Rattle.root_pool_laws.proofs.Blocks.{unnamed_end}
use Rattle.desk_masks.specs.OfFilterCommits.Blocks.{AreOut}

-- ---- one block has one link
as_number : (l : Option ℕ) → block_in (plus_one l) ≡ l
as_number None = refl
as_number (Some b) = one_behind b

number_of : (words : List ℕ) (f : StoredFilter) (l : Option ℕ) → IsFilterBlock words (f, l) → get_or words 39 0 ≡ plus_one l
number_of words f l is = filter_link words f (plus_one l) (subst (λ (m : Option ℕ). IsFilterBlock words (f, m)) (sym (as_number l)) is)

one_link : (words : List ℕ) (f g : StoredFilter) (l m : Option ℕ) → IsFilterBlock words (f, l) → IsFilterBlock words (g, m) → l ≡ m
one_link words f g l m one two = let same : plus_one l ≡ plus_one m = sym (number_of words f l one) ∙ number_of words g m two in
    sym (as_number l) ∙ (ap block_in same ∙ as_number m)

abbrev pub blocks_of : List Placed → List ℕ
blocks_of ps = map (λ (p : Placed). p.block) ps

abbrev pub chain_blocks : List Link → List ℕ
chain_blocks ls = map (λ (l : Link). l.block) ls

one_in : (x y : ℕ) → IsIn {A = ℕ} x (y ∷ []) → x ≡ y
one_in x y at = go at.0 at.1
  where
    go : (place : ℕ) → slice_get {X = ℕ} (y ∷ []) place ≡ Some x → x ≡ y
    go zero e = let same : y ≡ x = cc e in sym same
    go (suc place) e = absurd (cc e)

-- ---- all blocks of a chain are different
module _ (shape : Shape) (cells : List ℕ) (size bucket : ℕ) where
  abbrev Filed : List Placed → Type 0
  Filed ps = AreFiled shape cells size bucket ps

  -- what is linked to one block is as long
  same_length : (ps qs : List Placed) → Filed ps → Filed qs → first_in ps ≡ first_in qs → length ps ≡ length qs
  same_length [] [] one two e = refl
  same_length [] (q ∷ qs) one two e = absurd (cc e)
  same_length (p ∷ ps) [] one two e = absurd (cc e)
  same_length (p ∷ ps) (q ∷ qs) one two e = let same : p.block ≡ q.block = cc e in
      let there : IsFilterBlock (block_words shape cells p.block) (q.filter, first_in qs) = subst (λ (b : ℕ). IsFilterBlock (block_words shape cells b) (q.filter, first_in qs)) (sym same) two.0.there in
      ap suc (same_length ps qs one.1 two.1 (one_link (block_words shape cells p.block) p.filter q.filter (first_in ps) (first_in qs) one.0.there there))

  never : (b n : ℕ) → ((qs : List Placed) → Filed qs → first_in qs ≡ Some b → length qs ≡ n) → (qs : List Placed) → Filed qs → length qs < n → IsIn b (blocks_of qs) → ⊥
  never b n all [] are less at = let e = at.1 in cc e
  never b n all (q ∷ qs) are less at = walk at.0 at.1 (λ m. never b n all qs are.1 (omega (arith, less)) m)
    where
      walk : (place : ℕ) → slice_get (q.block ∷ blocks_of qs) place ≡ Some b → (IsIn b (blocks_of qs) → ⊥) → ⊥
      walk zero e rest = let same : q.block ≡ b = cc e in let long = all (q ∷ qs) are (ap Some same) in omega (arith, less, long)
      walk (suc place) e rest = rest (place, e)

  pub chain_different : (ps : List Placed) → Filed ps → IsDistinct eqb (blocks_of ps)
  unfolding IsDistinct
  chain_different [] are = tt
  chain_different (p ∷ ps) are = distinct_append (p.block ∷ []) (blocks_of ps) (tt, tt) (chain_different ps are.1)
      (λ x one more. never p.block (suc (length ps)) (λ qs filed e. same_length qs (p ∷ ps) filed are e) ps are.1 (omega arith) (subst (λ (n : ℕ). IsIn n (blocks_of ps)) (one_in x p.block one) more))

  pub chain_small : (ps : List Placed) → Filed ps → (x : ℕ) → IsIn x (blocks_of ps) → x < POOL_BLOCKS
  chain_small [] are x at = let e = at.1 in absurd (cc e)
  chain_small (p ∷ ps) are x at = walk at.0 at.1 (λ m. chain_small ps are.1 x m)
    where
      walk : (place : ℕ) → slice_get (p.block ∷ blocks_of ps) place ≡ Some x → (IsIn x (blocks_of ps) → x < POOL_BLOCKS) → x < POOL_BLOCKS
      walk zero e rest = let same : p.block ≡ x = cc e in subst (λ (n : ℕ). n < POOL_BLOCKS) same are.0.pool
      walk (suc place) e rest = rest (place, e)

-- ---- filters laid into given blocks
linked_at : (ps : List Placed) (chain : List Link) (place : ℕ) (l : Link) → slice_get (linked ps chain) place ≡ Some l → IsIn l.block (blocks_of ps) ⊎ ((k : ℕ) × (slice_get chain k ≡ Some l))
linked_at [] chain place l e = inr (place, e)
linked_at (p ∷ ps) chain zero l e = let first : Link = record { block = p.block; words = block (filter_words p.filter) (first_block (linked ps chain)) } in
    let same : first ≡ l = cc e in inl (0, ap (λ (x : Link). Some x.block) same)
linked_at (p ∷ ps) chain (suc place) l e = put (linked_at ps chain place l e)
  where
    put : IsIn l.block (blocks_of ps) ⊎ ((k : ℕ) × (slice_get chain k ≡ Some l)) → IsIn l.block (p.block ∷ blocks_of ps) ⊎ ((k : ℕ) × (slice_get chain k ≡ Some l))
    put (inl at) = inl (suc at.0, at.1)
    put (inr at) = inr at

pub placed_given : (given : List ℕ) (fs : List StoredFilter) (x : ℕ) → IsIn x (blocks_of (placed given fs)) → IsIn x given
placed_given [] fs x at = let e = at.1 in absurd (cc e)
placed_given (b ∷ bs) [] x at = let e = at.1 in absurd (cc e)
placed_given (b ∷ bs) (f ∷ fs) x at = walk at.0 at.1 (λ m. placed_given bs fs x m)
  where
    walk : (place : ℕ) → slice_get (b ∷ blocks_of (placed bs fs)) place ≡ Some x → (IsIn x (blocks_of (placed bs fs)) → IsIn x bs) → IsIn x (b ∷ bs)
    walk zero e rest = (0, e)
    walk (suc place) e rest = let r = rest (place, e) in (suc r.0, r.1)

pub placed_count : (given : List ℕ) (fs : List StoredFilter) → length fs ≤ length given → length (placed given fs) ≡ length fs
placed_count [] [] enough = refl
placed_count [] (f ∷ fs) enough = absurd (omega (arith, enough))
placed_count (b ∷ bs) [] enough = refl
placed_count (b ∷ bs) (f ∷ fs) enough = ap suc (placed_count bs fs (omega (arith, enough)))

placed_none : (given : List ℕ) → placed given [] ≡ []
placed_none [] = refl
placed_none (b ∷ bs) = refl

-- the last one
pub placed_last : (given : List ℕ) (fs : List StoredFilter) (f : StoredFilter) → length fs < length given → placed given (fs ++ f ∷ []) ≡ placed given fs ++ record { block = get_or given (length fs) 0; filter = f } ∷ []
placed_last [] fs f less = absurd (omega (arith, less))
placed_last (b ∷ bs) [] f less = ap (λ (ps : List Placed). record { block = b; filter = f } ∷ ps) (placed_none bs)
placed_last (b ∷ bs) (g ∷ gs) f less = ap (λ (ps : List Placed). record { block = b; filter = g } ∷ ps) (placed_last bs gs f (omega (arith, less)))

pub linked_last : (ps : List Placed) (q : Placed) (chain : List Link) → linked (ps ++ q ∷ []) chain ≡ linked ps (record { block = q.block; words = block (filter_words q.filter) (first_block chain) } ∷ chain)
linked_last [] q chain = refl
linked_last (p ∷ ps) q chain = ap (λ (ls : List Link). record { block = p.block; words = block (filter_words p.filter) (first_block ls) } ∷ ls) (linked_last ps q chain)

-- the blocks in front of the chain
pub record IsCopied (ps : List Placed) (chain : List Link) : Type 0 where
  pub copies : List Link
  pub whole : linked ps chain ≡ copies ++ chain
  pub long : length copies ≡ length ps
  pub read : read_all filter_in copies ≡ Some (map (λ (p : Placed). p.filter) ps)

pub copied : (ps : List Placed) (chain : List Link) → AllByRecursion Fits ps → IsLink (first_block chain) → IsCopied ps chain
copied [] chain all is = record { copies = []; whole = refl; long = refl; read = refl }
copied (p ∷ ps) chain all is = let r = copied ps chain all.1 is in let first : Link = record { block = p.block; words = block (filter_words p.filter) (first_block (linked ps chain)) } in record {
  copies = first ∷ r.copies;
  whole = ap (λ (ls : List Link). first ∷ ls) r.whole;
  long = ap suc r.long;
  read = read_cons filter_in first r.copies p.filter (map (λ (q : Placed). q.filter) ps) (own_block_reads p.filter (first_block (linked ps chain)) all.0.filter (first_linked ps chain all.1 is)) r.read;
}

-- ---- blocks of a chain
got_map : (ls : List Link) (k : ℕ) (l : Link) → slice_get ls k ≡ Some l → slice_get (chain_blocks ls) k ≡ Some l.block
got_map [] k l e = absurd (cc e)
got_map (m ∷ ls) zero l e = let same : m ≡ l = cc e in ap (λ (x : Link). Some x.block) same
got_map (m ∷ ls) (suc k) l e = got_map ls k l e

-- the chain comes to be filters in given blocks, in front of what was behind some blocks
module _ (h : List (Commit Edit)) (c : Commit Edit) (given : List ℕ) (ps : List Placed) (n : ℕ) (laid : c.named.chain ≡ linked ps (drop n (root_of h c.root).chain))
    (from : (x : ℕ) → IsIn x (blocks_of ps) → IsIn x given) where
  abbrev old_chain : List Link
  old_chain = (root_of h c.root).chain

  abbrev Comes : Link → Type 0
  Comes l = IsIn l.block (blocks_of ps) ⊎ ((k : ℕ) × (slice_get (drop n old_chain) k ≡ Some l))

  comes_from : (place : ℕ) (l : Link) → slice_get c.named.chain place ≡ Some l → Comes l
  comes_from place l e = linked_at ps (drop n old_chain) place l (sym (ap (λ (ls : List Link). slice_get ls place) laid) ∙ e)

  pub laid_spends : Spends h c given
  laid_spends place l e = sort (comes_from place l e)
    where
      sort : Comes l → IsIn l.block given ⊎ HasBlock h c.root l.block
      sort (inl at) = inl (from l.block at)
      sort (inr at) = inr (n + at.0, l, get_drop old_chain n at.0 l at.1, refl)

  module _ (b : ℕ) (low : b ≤ length h) (free : (x : ℕ) → IsIn x given → IsUnnamed b h x) (different : IsDistinct eqb (chain_blocks old_chain)) where
    abbrev out : List ℕ
    out = chain_blocks (take n old_chain)

    parts : out ++ chain_blocks (drop n old_chain) ≡ chain_blocks old_chain
    parts = sym (map-append (λ (l : Link). l.block) (take n old_chain) (drop n old_chain)) ∙ ap chain_blocks (take-append-drop n old_chain)

    in_parts : IsDistinct eqb (out ++ chain_blocks (drop n old_chain))
    in_parts = subst (IsDistinct eqb) (sym parts) different

    -- a block that went was in the chain
    pub out_had : (x : ℕ) → IsIn x out → HasBlock h c.root x
    out_had x at = let m = among_map (λ (l : Link). l.block) x (take n old_chain) at.0 at.1 in (at.0, m.0, get_take old_chain n at.0 m.0 m.1, m.2)

    own_has : (x : ℕ) → IsIn x out → (place : ℕ) (l : Link) → slice_get c.named.chain place ≡ Some l → l.block ≡ x → ⊥
    own_has x at place l e is = sort (comes_from place l e)
      where
        sort : Comes l → ⊥
        sort (inl g) = unnamed_end h b x low (free x (subst (λ (m : ℕ). IsIn m given) is (from l.block g))) c.root (out_had x at)
        sort (inr k) = distinct_apart out (chain_blocks (drop n old_chain)) in_parts x at (k.0, got_map (drop n old_chain) k.0 l k.1 ∙ ap Some is)

    none_has : HaveOneRoot h → (r x : ℕ) → IsIn x out → HasBlock (h ++ c ∷ []) r x → ⊥
    none_has one r x at has = pick (eqb c.root r) refl
      where
        pick : (t : Bool) → eqb c.root r ≡ t → ⊥
        pick true e = own_has x at has.0 has.1 (sym (ap (λ (m : Named). slice_get m.chain has.0) (root_same h c r (eqb-true c.root r e))) ∙ has.2) has.3
        pick false e = let away = eqb-false c.root r e in
            away (one c.root r x (out_had x at) (has.0, has.1, sym (ap (λ (m : Named). slice_get m.chain has.0) (root_other h c r away)) ∙ has.2, has.3))

    pub laid_out : ((x : ℕ) → IsIn x (chain_blocks old_chain) → x < POOL_BLOCKS) → HaveOneRoot h → AreOut (h ++ c ∷ []) out
    laid_out small one = record {
      different = distinct_first out (chain_blocks (drop n old_chain)) in_parts;
      small = λ x at. let has = out_had x at in small x (has.0, got_map old_chain has.0 has.1 has.2 ∙ ap Some has.3);
      none = none_has one;
    }
