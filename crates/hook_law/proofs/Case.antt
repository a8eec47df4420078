-- The small hook keeps the law.
use Rattle.std.proofs.Common.{◌≡◌, ◌≢◌, ℕ, zero, suc, ◌+◌, ◌<◌, ◌≤◌, ◌⊎◌, inl, inr, Bool, true, false, cond, eqb, List, [], ◌∷◌, ◌++◌, map, slice_get, Some, refl, ap, sym, ◌∙◌, subst, arith, le_refl}
use Rattle.store_history.specs.declared.history.Link.{Link}
use Rattle.store_history.specs.declared.history.Commit.{Commit}
use Rattle.store_history.specs.History.{root_of}
use Rattle.hook_law.specs.Places.{rows, mask_root, bucket_root, row_of, place_of}
use Rattle.hook_law.specs.Records.{Slotted, FilterRecord, ActionRecord, stated_filter}
use Rattle.hook_law.specs.Chains.{read_all, read_first}
use Rattle.hook_law.specs.Standing.{Role, Head, Mask, Bucket, Action, IsIn, Names, IsMaskAt, Stands, IsUnused}
use Rattle.hook_law.specs.Keeping.{Keeps}
use Rattle.hook_law.specs.Unnumbered.{HaveOwnRoots, Spares, SparesAll, FillsBucket, IsFilled}
use Rattle.hook_law.specs.Heads.{IsPrepared, ChangesHead}
use Rattle.hook_law.specs.Case.{small_filter, filter_read, small_meaning, small_codec, small_mask, bucket_commit, bucket_commits, mask_commit, small_prepared, small_head, small_region}
use Rattle.store_history.proofs.Lists.{some_is}
use Rattle.hook_law.proofs.Opening.{keeps_opens, take_none, no_slot, no_mask, no_bucket}
use Rattle.hook_law.proofs.Sparing.{Spared, spares_keep}
use Rattle.hook_law.proofs.Preparing.{filled_after, put_after}
use Rattle.hook_law.proofs.Heading.{head_keeps}

opened : Keeps small_meaning small_codec [] 0
opened = keeps_opens small_meaning small_codec record { lawful = tt; heads = λ hook. refl; params = λ a. refl }

-- no root from the masks' on stands for anything before any commit
none_stands : (r : ℕ) (x : Role) → mask_root 0 ≤ r → Stands small_meaning small_codec [] r x → ⊥
none_stands r (Head i) far s = let one = s.0 in let is = s.1 in absurd (omega arith)
none_stands r (Mask m) far s = no_mask small_meaning small_codec m s.0 s.1
none_stands r (Bucket q k) far s = no_bucket small_meaning small_codec r q k s
none_stands r (Action a) far s = no_slot small_meaning small_codec a s.0 s.1

unused : (r : ℕ) → mask_root 0 ≤ r → IsUnused small_meaning small_codec 0 [] r
unused r far n x low high s = none_stands r x far (subst (λ (z : List (Commit ℕ)). Stands small_meaning small_codec z r x) (take_none small_meaning small_codec n) s)

bucket_at : (count k j : ℕ) (c : Commit ℕ) → slice_get (bucket_commits k count) j ≡ Some c → (c ≡ bucket_commit (k + j)) × (j < count)
bucket_at zero k j c e = absurd (cc e)
bucket_at (suc count) k zero c e = let same : k ≡ k + 0 = omega arith in (sym (cc e) ∙ ap bucket_commit same, omega arith)
bucket_at (suc count) k (suc j) c e = let o = bucket_at count (k + 1) j c e in let less = o.1 in let same : k + 1 + j ≡ k + suc j = omega arith in (o.0 ∙ ap bucket_commit same, omega arith)

bucket_get : (count k j : ℕ) → j < count → slice_get (bucket_commits k count) j ≡ Some (bucket_commit (k + j))
bucket_get zero k j less = absurd (omega arith)
bucket_get (suc count) k zero less = let same : k ≡ k + 0 = omega arith in ap (λ (z : ℕ). Some (bucket_commit z)) same
bucket_get (suc count) k (suc j) less = let same : k + 1 + j ≡ k + suc j = omega arith in bucket_get count (k + 1) j (omega arith) ∙ ap (λ (z : ℕ). Some (bucket_commit z)) same

-- each of the commits is the mask's or a bucket's
abbrev Prepared : ℕ → Commit ℕ → Type 0
Prepared j c = ((j ≡ 0) × (c ≡ mask_commit)) ⊎ ((i : ℕ) × (j ≡ suc i) × (c ≡ bucket_commit i) × (i < 16))

prepared_at : (j : ℕ) (c : Commit ℕ) → slice_get small_prepared j ≡ Some c → Prepared j c
prepared_at zero c e = inl (refl, sym (some_is mask_commit c e))
prepared_at (suc i) c e = let o = bucket_at 16 0 i c e in let same : 0 + i ≡ i = omega arith in inr (i, refl, o.0 ∙ ap bucket_commit same, o.1)

-- no commit puts an action
no_action : (chain : List Link) (put : ActionRecord ℕ) → read_first small_codec.action chain ≡ Some put → ⊥
no_action [] put e = cc e
no_action (l ∷ ls) put e = cc e

spare : (j : ℕ) (c : Commit ℕ) → Prepared j c → Spares small_meaning small_codec 0 [] c
spare j c (inl o) = subst (Spares small_meaning small_codec 0 []) (sym o.1) record {
  plain = refl;
  stamp = inr refl;
  unused = unused (mask_root 0) (omega arith);
  first = λ a slot before puts x. no_action mask_commit.named.chain puts.put puts.read;
}
spare j c (inr o) = subst (Spares small_meaning small_codec 0 []) (sym o.2) record {
  plain = refl;
  stamp = inr refl;
  unused = unused (bucket_root 0 o.0) (omega arith);
  first = λ a slot before puts x. no_action (bucket_commit o.0).named.chain puts.put puts.read;
}

spares : SparesAll small_meaning small_codec 0 [] small_prepared
spares = record {
  each = λ j c at. spare j c (prepared_at j c at);
  once = λ i j c d a s t less at at' x y. no_action c.named.chain x.put x.read;
}

own_roots : HaveOwnRoots small_prepared
own_roots i j c d at at' same = pick (prepared_at i c at) (prepared_at j d at')
  where
    pick : Prepared i c → Prepared j d → i ≡ j
    pick (inl o) (inl p) = o.0 ∙ sym p.0
    pick (inl o) (inr p) = let e = ap (λ (z : Commit ℕ). z.root) o.1 in let f = ap (λ (z : Commit ℕ). z.root) p.2 in absurd (omega arith)
    pick (inr o) (inl p) = let e = ap (λ (z : Commit ℕ). z.root) o.2 in let f = ap (λ (z : Commit ℕ). z.root) p.1 in absurd (omega arith)
    pick (inr o) (inr p) = let e = ap (λ (z : Commit ℕ). z.root) o.2 in let f = ap (λ (z : Commit ℕ). z.root) p.2 in let one : o.0 ≡ p.0 = omega arith in o.1 ∙ (ap (λ (z : ℕ). suc z) one ∙ sym p.1)

spared : Spared small_meaning small_codec 0 [] small_prepared
spared = spares_keep small_meaning small_codec small_prepared [] 0 (le_refl 0) opened spares

-- what a bucket is filled with
bucket_reads : (t : Bool) → read_all small_codec.filter (cond t (record { block = 0; words = 1 ∷ [] } ∷ []) []) ≡ Some (cond t (filter_read ∷ []) [])
bucket_reads true = refl
bucket_reads false = refl

bucket_are : (t : Bool) → map stated_filter (cond t (filter_read ∷ []) []) ≡ cond t (small_filter ∷ []) []
bucket_are true = refl
bucket_are false = refl

bucket_names : (t : Bool) (fs : List FilterRecord) (f : FilterRecord) (x : Slotted) → read_all small_codec.filter (cond t (record { block = 0; words = 1 ∷ [] } ∷ []) []) ≡ Some fs → IsIn f fs → IsIn x f.actions → ⊥
bucket_names false fs f x read inf inx = absurd (let none : [] ≡ fs = cc read in let e = subst (λ (z : List FilterRecord). slice_get z inf.0 ≡ Some f) (sym none) inf.1 in cc e)
bucket_names true fs f x read inf inx = one inf.0 (subst (λ (z : List FilterRecord). slice_get z inf.0 ≡ Some f) (sym (some_is (filter_read ∷ []) fs read)) inf.1)
  where
    one : (j : ℕ) → slice_get (filter_read ∷ []) j ≡ Some f → ⊥
    one (suc j) e = cc e
    one zero e = let same = some_is filter_read f e in let at = subst (λ (z : FilterRecord). slice_get z.actions inx.0 ≡ Some x) (sym same) inx.1 in cc at

fills : (k : ℕ) → FillsBucket small_meaning small_codec small_prepared (bucket_commit k).named 1 16 k 1 1
fills k = record {
  stamp = refl;
  reads = record { filters = cond (eqb 0 k) (filter_read ∷ []) []; read = bucket_reads (eqb 0 k); are = bucket_are (eqb 0 k) };
  names = λ fs f x read inf inx. absurd (bucket_names (eqb 0 k) fs f x read inf inx);
}

one_row : (i row : ℕ) → slice_get (0 ∷ []) i ≡ Some row → (i ≡ 0) × (row ≡ 0)
one_row zero row e = (refl, sym (some_is 0 row e))
one_row (suc i) row e = absurd (cc e)

filled : (k row : ℕ) → k < 16 → slice_get small_mask.rows (row_of k) ≡ Some row → row < rows → IsFilled small_meaning small_codec 0 small_prepared (bucket_root row (place_of k)) 1 16 k 1 1
filled k row less there small = let o = one_row (row_of k) row there in let zero_row = o.1 in
    let root : bucket_root 0 k ≡ bucket_root row (place_of k) = omega arith in
    let first : 0 + k ≡ k = omega arith in
    subst (λ (r : ℕ). IsFilled small_meaning small_codec 0 small_prepared r 1 16 k 1 1) root
    (filled_after small_meaning small_codec [] small_prepared 0 (suc k) (bucket_commit k) spares own_roots spared (bucket_get 16 0 k less ∙ ap (λ (z : ℕ). Some (bucket_commit z)) first) 1 16 k 1 1 (fills k))

small_is_prepared : IsPrepared small_meaning small_codec 0 small_prepared 0 1 0
small_is_prepared = record {
  put = put_after small_meaning small_codec [] small_prepared 0 0 mask_commit spares own_roots spared refl 0 (Mask 1) refl record { mask = small_mask; read = refl; serial = refl; words = refl; size = inl refl; rows = refl };
  record_read = small_mask;
  read = refl;
  filled = filled;
  distinct = λ i j row at at'. let o = one_row i row at in let p = one_row j row at' in o.0 ∙ sym p.0;
}

-- the head names the one mask
names_are : (m slot : ℕ) → Names small_codec small_head.named.chain m slot → (m ≡ 1) × (slot ≡ 0)
names_are m slot n = pick n.0 n.1
  where
    pick : (j : ℕ) → slice_get {X = Slotted} (record { serial = 1; slot = 0 } ∷ []) j ≡ Some (record { serial = m; slot = slot }) → (m ≡ 1) × (slot ≡ 0)
    pick (suc j) e = absurd (cc e)
    pick zero e = let same = some_is (record { serial = 1; slot = 0 }) (record { serial = m; slot = slot }) e in (sym (ap (λ (z : Slotted). z.serial) same), sym (ap (λ (z : Slotted). z.slot) same))

-- before it no mask stands
no_mask_yet : (m slot : ℕ) → IsMaskAt small_codec small_prepared m slot → ⊥
no_mask_yet m slot at = none_stands (mask_root slot) (Mask m) (omega arith) (spared.back (mask_root slot) (Mask m) (slot, at, refl))

changes : ChangesHead small_meaning small_codec 0 small_prepared small_head 0
changes = record {
  hook = 0;
  rest = λ m slot mask at read. absurd (no_mask_yet m slot at);
  one = omega arith;
  root = refl;
  carries = record { number = refl; stamp = refl; lawful = tt };
  reads = record { tables = record { serial = 1; names = 0; masks = record { serial = 1; slot = 0 } ∷ [] } ∷ []; read = refl; are = refl };
  other_heads = λ other ne. no_table other ne (eqb other 0) refl;
  masks = λ m slot small n. let is = names_are m slot n in
      inr (subst (λ (z : ℕ). IsPrepared small_meaning small_codec 0 small_prepared 0 m z) (sym is.1) (subst (λ (z : ℕ). IsPrepared small_meaning small_codec 0 small_prepared 0 z 0) (sym is.0) small_is_prepared));
  one_slot = λ m s t x y. (names_are m s x).1 ∙ sym (names_are m t y).1;
  elsewhere = λ m s t other one ne x y. let second : other ≡ 1 = omega arith in
      absurd (let there = subst (λ (z : ℕ). Names small_codec (root_of small_prepared (1 + z)).chain m t) second y in let e = there.1 in cc e);
  slots_apart = λ m n slot x y p q. (names_are m slot x).0 ∙ sym (names_are n slot y).0;
  rows_apart = λ m n s t i j row p q x y at at'. (names_are m s x).1 ∙ sym (names_are n t y).1;
  stays = λ m slot at after. absurd (no_mask_yet m slot at);
  params = λ a params e. absurd (cc e);
  made = λ a live. absurd (live refl);
}
  where
    no_table : (other : ℕ) → other ≢ 0 → (t : Bool) → eqb other 0 ≡ t → small_meaning.heads 1 other ≡ small_meaning.heads 0 other
    no_table other ne true e = absurd (ne (grind (arith, e)))
    no_table other ne false e = ap (λ (z : Bool). cond z (record { serial = 1; names = 0; masks = 1 ∷ [] } ∷ []) []) e

pub small_keeps : Keeps small_meaning small_codec (small_prepared ++ small_head ∷ []) 0
small_keeps = head_keeps small_meaning small_codec small_prepared 0 small_head 0 changes (omega arith) spared.keeps

pub small_stands : Stands small_meaning small_codec (small_prepared ++ small_head ∷ []) (bucket_root 0 0) (Bucket small_region 0)
small_stands = (
  0,
  record {
    mask = small_mask;
    at_mask = record { hook = 0; one = omega arith; small = omega arith; there = (0, refl) };
    read = refl;
    stamped = refl;
    sized = refl;
    inside = omega arith;
    there = refl;
    small = omega arith;
  },
  refl,
)
