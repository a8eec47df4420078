-- The laws of single filters in a bucket: added in front, replaced in place, removed.
use Rattle.std.proofs.Common.{refl, ◌≡◌, ℕ, zero, suc, ◌+◌, ◌%◌, ◌≤◌, List, [], ◌∷◌, ◌++◌, length, map, take, drop, slice_get, Some, ap, sym, ◌∙◌, subst, le_refl}
use Rattle.std.proofs.lemmas.List.{map-append, take-map, drop-map, take_at}
use Rattle.store_history.specs.declared.history.Commit.{Commit}
use Rattle.store_history.specs.History.{root_of}
use Rattle.hook_law.specs.Places.{bucket_root, place_of}
use Rattle.hook_law.specs.Records.{Slotted, FilterRecord, StatedFilter, Codec, stated_filter}
use Rattle.hook_law.specs.Chains.{read_all, bucket_of}
use Rattle.hook_law.specs.Meaning.{Meaning, point_of, now_of}
use Rattle.hook_law.specs.Standing.{Region, Bucket, IsIn, IsRowAt, IsSlotOf}
use Rattle.hook_law.specs.Telling.{ReadsBucket}
use Rattle.hook_law.specs.Keeping.{Present, Keeps}
use Rattle.hook_law.specs.Numbered.{RewritesBucket, AddsToBucket, ReplacesInBucket, RemovesFromBucket}
use Rattle.hook_law.proofs.Standing.{present_end}
use Rattle.store_history.proofs.Lists.{get_take, get_drop, get_parts}
use Rattle.hook_law.proofs.Chains.{read_cons, read_append, read_take, read_drop, drop_past, bucket_append, bucket_with, bucket_without}

module _ {E S N P : Type 0} (K : Meaning E S N P) (R : Codec N P) where
  -- what the bucket's root reads as before the edit
  old_bucket : (h : List (Commit E)) (r : ℕ) (q : Region) (k row : ℕ) → Present K R h → IsRowAt R h q k row → r ≡ bucket_root row (place_of k)
      → ReadsBucket K R q.mask q.size k (root_of h r).chain (now_of K h)
  old_bucket h r q k row p at is = let t = p.tells r (Bucket q k) (row, at, is) in t.reads (point_of h) t.early (le_refl (point_of h))

  -- the filters that an old chain has names slots, and so does each part of it
  old_names : (h : List (Commit E)) (r : ℕ) (q : Region) (k row : ℕ) (fs : List FilterRecord) → Present K R h → IsRowAt R h q k row
      → r ≡ bucket_root row (place_of k) → read_all R.filter (root_of h r).chain ≡ Some fs
      → (j : ℕ) (f : FilterRecord) (x : Slotted) → slice_get fs j ≡ Some f → IsIn x f.actions → IsSlotOf R h x.serial x.slot
  old_names h r q k row fs p at is read j f x there inx = p.slots r q k fs f x (row, at, is) read (j, there) inx

  add_rewrites : (h : List (Commit E)) (b : ℕ) (c : Commit E) (y : E) (p : Present K R h) (w : AddsToBucket K R b h c y)
      → ReadsBucket K R w.region.mask w.region.size w.k (root_of h c.root).chain (now_of K h) → RewritesBucket K R b h c y
  add_rewrites h b c y p w old = record {
    region = q;
    k = k;
    row = row;
    filters = f ∷ old.filters;
    rest = w.rest;
    at = w.at;
    root = w.root;
    carries = w.carries;
    read = ap (read_all R.filter) w.chain ∙ read_cons R.filter w.link (root_of h c.root).chain f old.filters w.read old.read;
    are = ap (λ (z : List StatedFilter). stated_filter f ∷ z) old.are
        ∙ (sym (bucket_with K.hash q.size k (K.filters (now_of K h) q.mask) (stated_filter f) [] w.bucket) ∙ ap (bucket_of K.hash q.size k) (sym w.gains.filters));
    touches = record {
      others = w.gains.others;
      buckets = λ i ne. ap (bucket_of K.hash q.size i) w.gains.filters
          ∙ (bucket_without K.hash q.size i (K.filters (now_of K h) q.mask) (stated_filter f) [] (λ is. ne (sym is ∙ w.bucket))
          ∙ bucket_append K.hash q.size i (K.filters (now_of K h) q.mask) []);
    };
    names = λ g x inf inx. names g x inx inf.0 inf.1;
    made = w.made;
  }
    where
      q : Region
      q = w.region

      k : ℕ
      k = w.k

      row : ℕ
      row = w.row

      f : FilterRecord
      f = w.filter

      names : (g : FilterRecord) (x : Slotted) → IsIn x g.actions → (j : ℕ) → slice_get (f ∷ old.filters) j ≡ Some g → IsSlotOf R h x.serial x.slot
      names g x inx zero e = let same : g ≡ f = cc e in w.names x (subst (λ (z : FilterRecord). IsIn x z.actions) same inx)
      names g x inx (suc j) e = old_names h c.root q k row old.filters p w.at w.root old.read j g x e inx

  -- the filters in front of one of a bucket, and those behind it
  module _ (q : Region) (k : ℕ) (filters : List FilterRecord) (earlier : List StatedFilter) (gone : StatedFilter) (later : List StatedFilter) (n : ℕ) where
    abbrev Splits : Type 0
    Splits = (map stated_filter filters ≡ bucket_of K.hash q.size k (earlier ++ gone ∷ later)) × (K.hash gone.key % q.size ≡ k) × (n ≡ length (bucket_of K.hash q.size k later))

    split : Splits → map stated_filter filters ≡ bucket_of K.hash q.size k later ++ gone ∷ bucket_of K.hash q.size k earlier
    split s = s.0 ∙ bucket_with K.hash q.size k earlier gone later s.1

    front_are : Splits → map stated_filter (take n filters) ≡ bucket_of K.hash q.size k later
    front_are s = sym (take-map stated_filter n filters) ∙ (ap (take n) (split s) ∙ take_at (bucket_of K.hash q.size k later) (gone ∷ bucket_of K.hash q.size k earlier) n (sym s.2))

    rest_are : Splits → map stated_filter (drop (n + 1) filters) ≡ bucket_of K.hash q.size k earlier
    rest_are s = sym (drop-map stated_filter (n + 1) filters) ∙ (ap (drop (n + 1)) (split s) ∙ drop_past (bucket_of K.hash q.size k later) gone (bucket_of K.hash q.size k earlier) n (sym s.2))

  replace_rewrites : (h : List (Commit E)) (b : ℕ) (c : Commit E) (y : E) (p : Present K R h) (w : ReplacesInBucket K R b h c y)
      → ReadsBucket K R w.region.mask w.region.size w.k (root_of h c.root).chain (now_of K h) → RewritesBucket K R b h c y
  replace_rewrites h b c y p w old = record {
    region = q;
    k = k;
    row = row;
    filters = take n old.filters ++ f ∷ drop (n + 1) old.filters;
    rest = w.rest;
    at = w.at;
    root = w.root;
    carries = w.carries;
    read = ap (read_all R.filter) w.chain ∙ read_append R.filter w.copies (w.link ∷ drop (n + 1) (root_of h c.root).chain) (take n old.filters) (f ∷ drop (n + 1) old.filters)
        (w.copied ∙ read_take R.filter (root_of h c.root).chain old.filters n old.read)
        (read_cons R.filter w.link (drop (n + 1) (root_of h c.root).chain) f (drop (n + 1) old.filters) w.read (read_drop R.filter (root_of h c.root).chain old.filters (n + 1) old.read));
    are = map-append stated_filter (take n old.filters) (f ∷ drop (n + 1) old.filters)
        ∙ (ap (λ (z : List StatedFilter). z ++ stated_filter f ∷ map stated_filter (drop (n + 1) old.filters)) (front_are q k old.filters w.earlier w.old w.later n splits)
        ∙ (ap (λ (z : List StatedFilter). bucket_of K.hash q.size k w.later ++ stated_filter f ∷ z) (rest_are q k old.filters w.earlier w.old w.later n splits)
        ∙ (sym (bucket_with K.hash q.size k w.earlier (stated_filter f) w.later w.new_bucket) ∙ ap (bucket_of K.hash q.size k) (sym w.swaps.after))));
    touches = record {
      others = w.swaps.others;
      buckets = λ i ne. ap (bucket_of K.hash q.size i) w.swaps.after
          ∙ (bucket_without K.hash q.size i w.earlier (stated_filter f) w.later (λ is. ne (sym is ∙ w.new_bucket))
          ∙ (sym (bucket_without K.hash q.size i w.earlier w.old w.later (λ is. ne (sym is ∙ w.old_bucket))) ∙ ap (bucket_of K.hash q.size i) (sym w.swaps.before)));
    };
    names = λ g x inf inx. get_parts (take n old.filters) (f ∷ drop (n + 1) old.filters) inf.0 g inf.1
        (λ j at. old_names h c.root q k row old.filters p w.at w.root old.read j g x (get_take old.filters n j g at) inx) (names g x inx);
    made = w.made;
  }
    where
      q : Region
      q = w.region

      k : ℕ
      k = w.k

      row : ℕ
      row = w.row

      f : FilterRecord
      f = w.filter

      n : ℕ
      n = length w.copies

      splits : Splits q k old.filters w.earlier w.old w.later n
      splits = (old.are ∙ ap (bucket_of K.hash q.size k) w.swaps.before, w.old_bucket, w.count)

      names : (g : FilterRecord) (x : Slotted) → IsIn x g.actions → (j : ℕ) → slice_get (f ∷ drop (n + 1) old.filters) j ≡ Some g
          → IsSlotOf R h x.serial x.slot
      names g x inx zero e = let same : g ≡ f = cc e in w.names x (subst (λ (z : FilterRecord). IsIn x z.actions) same inx)
      names g x inx (suc j) e = old_names h c.root q k row old.filters p w.at w.root old.read (n + 1 + j) g x (get_drop old.filters (n + 1) j g e) inx

  remove_rewrites : (h : List (Commit E)) (b : ℕ) (c : Commit E) (y : E) (p : Present K R h) (w : RemovesFromBucket K R b h c y)
      → ReadsBucket K R w.region.mask w.region.size w.k (root_of h c.root).chain (now_of K h) → RewritesBucket K R b h c y
  remove_rewrites h b c y p w old = record {
    region = q;
    k = k;
    row = row;
    filters = take n old.filters ++ drop (n + 1) old.filters;
    rest = w.rest;
    at = w.at;
    root = w.root;
    carries = w.carries;
    read = ap (read_all R.filter) w.chain ∙ read_append R.filter w.copies (drop (n + 1) (root_of h c.root).chain) (take n old.filters) (drop (n + 1) old.filters)
        (w.copied ∙ read_take R.filter (root_of h c.root).chain old.filters n old.read) (read_drop R.filter (root_of h c.root).chain old.filters (n + 1) old.read);
    are = map-append stated_filter (take n old.filters) (drop (n + 1) old.filters)
        ∙ (ap (λ (z : List StatedFilter). z ++ map stated_filter (drop (n + 1) old.filters)) (front_are q k old.filters w.earlier w.old w.later n splits)
        ∙ (ap (λ (z : List StatedFilter). bucket_of K.hash q.size k w.later ++ z) (rest_are q k old.filters w.earlier w.old w.later n splits)
        ∙ (sym (bucket_append K.hash q.size k w.earlier w.later) ∙ ap (bucket_of K.hash q.size k) (sym w.loses.after))));
    touches = record {
      others = w.loses.others;
      buckets = λ i ne. ap (bucket_of K.hash q.size i) w.loses.after
          ∙ (sym (bucket_without K.hash q.size i w.earlier w.old w.later (λ is. ne (sym is ∙ w.old_bucket))) ∙ ap (bucket_of K.hash q.size i) (sym w.loses.before));
    };
    names = λ g x inf inx. get_parts (take n old.filters) (drop (n + 1) old.filters) inf.0 g inf.1
        (λ j at. old_names h c.root q k row old.filters p w.at w.root old.read j g x (get_take old.filters n j g at) inx)
        (λ j at. old_names h c.root q k row old.filters p w.at w.root old.read (n + 1 + j) g x (get_drop old.filters (n + 1) j g at) inx);
    made = w.made;
  }
    where
      q : Region
      q = w.region

      k : ℕ
      k = w.k

      row : ℕ
      row = w.row

      n : ℕ
      n = length w.copies

      splits : Splits q k old.filters w.earlier w.old w.later n
      splits = (old.are ∙ ap (bucket_of K.hash q.size k) w.loses.before, w.old_bucket, w.count)

  -- each is an edit of the region's bucket
  pub added_rewrites : (h : List (Commit E)) (b : ℕ) (c : Commit E) (y : E) → b ≤ length h → Keeps K R h b → (w : AddsToBucket K R b h c y)
      → (v : RewritesBucket K R b h c y) × (v.region ≡ w.region)
  unfolding add_rewrites
  added_rewrites h b c y low kept w = let p = present_end K R h b low kept in (add_rewrites h b c y p w (old_bucket h c.root w.region w.k w.row p w.at w.root), refl)

  pub replaced_rewrites : (h : List (Commit E)) (b : ℕ) (c : Commit E) (y : E) → b ≤ length h → Keeps K R h b → (w : ReplacesInBucket K R b h c y)
      → (v : RewritesBucket K R b h c y) × (v.region ≡ w.region)
  unfolding replace_rewrites
  replaced_rewrites h b c y low kept w = let p = present_end K R h b low kept in (replace_rewrites h b c y p w (old_bucket h c.root w.region w.k w.row p w.at w.root), refl)

  pub removed_rewrites : (h : List (Commit E)) (b : ℕ) (c : Commit E) (y : E) → b ≤ length h → Keeps K R h b → (w : RemovesFromBucket K R b h c y)
      → (v : RewritesBucket K R b h c y) × (v.region ≡ w.region)
  unfolding remove_rewrites
  removed_rewrites h b c y low kept w = let p = present_end K R h b low kept in (remove_rewrites h b c y p w (old_bucket h c.root w.region w.k w.row p w.at w.root), refl)
