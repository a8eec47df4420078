-- Lists of filters, split at one of them.
use Rattle.std.proofs.Common.{◌≡◌, ◌≢◌, ◌∙◌, ◌⊎◌, inl, inr, ℕ, zero, suc, ◌%◌, ◌==◌, Bool, true, false, cond, eqb, List, [], ◌∷◌, ◌++◌, length, map, take, slice_get, Option, Some, None, refl, sym, ap, append-nil, append_assoc, eqb-true, eq-eqb}
use Rattle.std.specs.Prelude.{if◌then◌else◌}
use Rattle.std.proofs.lemmas.List.{map-append, length-map}
use Rattle.store_history.specs.declared.history.Commit.{Commit}
use Rattle.store_history.specs.declared.history.Link.{Link}
use Rattle.store_history.specs.Reads.{in_front, read_all}
use Rattle.flow_mask.specs.Hashes.{hash_of}
use Rattle.filter_state.specs.declared.edit.Edit.{Edit}
use Rattle.block_codec.specs.declared.filter.StoredFilter.{StoredFilter}
use Rattle.block_codec.specs.OfReadings.Read.{filter_in}
use Rattle.mask_table.specs.Buckets.{IsAmong, bucket_for, bucket_of}
use Rattle.mask_table.specs.OfMirrors.Changing.{HasNone}
use Rattle.hook_law.specs.Records.{StatedFilter}
use Rattle.hook_law.specs.Chains as chains
use Rattle.hook_store_law.specs.Told.{with_slots}
use Rattle.hook_store_law.specs.OfEdits.Premises.{HaveOthers}

-- ---- one more behind
-- the last one is the one, or is behind it
abbrev AtEnd : {A : Type 0} → List A → A → List A → A → List A → Type 0
AtEnd {A} xs x front one more = ((more ≡ []) × (xs ≡ front) × (x ≡ one)) ⊎ ((rest : List A) × (more ≡ rest ++ x ∷ []) × (xs ≡ front ++ one ∷ rest))

no_more : {A : Type 0} (front : List A) (one : A) (more : List A) → [] ≡ front ++ one ∷ more → ⊥
no_more [] one more e = cc e
no_more (f ∷ front) one more e = cc e

last_split : {A : Type 0} (xs : List A) (x : A) (front : List A) (one : A) (more : List A) → xs ++ x ∷ [] ≡ front ++ one ∷ more → AtEnd xs x front one more
last_split [] x [] one more e = let none : [] ≡ more = cc e in let same : x ≡ one = cc e in inl (sym none, refl, same)
last_split [] x (f ∷ front) one more e = absurd (no_more front one more (cc e))
last_split (z ∷ zs) x [] one more e = let same : z ≡ one = cc e in let rest : zs ++ x ∷ [] ≡ more = cc e in inr (zs, sym rest, λ t. same t ∷ zs)
last_split {A} (z ∷ zs) x (f ∷ front) one more e = let same : z ≡ f = cc e in put same (last_split zs x front one more (cc e))
  where
    put : z ≡ f → AtEnd zs x front one more → AtEnd (z ∷ zs) x (f ∷ front) one more
    put same (inl r) = inl (r.0, (λ t. same t ∷ r.1 t), r.2)
    put same (inr r) = inr (r.0, r.1, (λ t. same t ∷ r.2 t))

-- ---- a bucket
-- the filters of a mask around one of a bucket
pub record IsAround (size k : ℕ) (fs front : List StoredFilter) (one : StoredFilter) (more : List StoredFilter) : Type 0 where
  pub earlier : List StoredFilter
  pub later : List StoredFilter
  pub whole : fs ≡ earlier ++ one ∷ later
  pub home : bucket_for size one.key.words ≡ k
  pub before : bucket_of size k later ≡ front
  pub behind : bucket_of size k earlier ≡ more

pub around_one : (size k : ℕ) (fs front : List StoredFilter) (one : StoredFilter) (more : List StoredFilter) → bucket_of size k fs ≡ front ++ one ∷ more → IsAround size k fs front one more
around_one size k [] front one more e = absurd (no_more front one more e)
around_one size k (f ∷ fs) front one more e = pick (eqb (bucket_for size f.key.words) k) refl e (around_one size k fs)
  where
    pick : (t : Bool) → eqb (bucket_for size f.key.words) k ≡ t → bucket_of size k fs ++ cond t (f ∷ []) [] ≡ front ++ one ∷ more
        → ((front : List StoredFilter) (one : StoredFilter) (more : List StoredFilter) → bucket_of size k fs ≡ front ++ one ∷ more → IsAround size k fs front one more) → IsAround size k (f ∷ fs) front one more
    pick false is e next = let r = next front one more (sym (append-nil (bucket_of size k fs)) ∙ e) in record {
      earlier = f ∷ r.earlier;
      later = r.later;
      whole = λ t. f ∷ r.whole t;
      home = r.home;
      before = r.before;
      behind = ap (λ (b : Bool). bucket_of size k r.earlier ++ cond b (f ∷ []) []) is ∙ (append-nil (bucket_of size k r.earlier) ∙ r.behind);
    }
    pick true is e next = sort (last_split (bucket_of size k fs) f front one more e)
      where
        home_is : bucket_for size f.key.words ≡ k
        home_is = eqb-true (bucket_for size f.key.words) k is

        sort : AtEnd (bucket_of size k fs) f front one more → IsAround size k (f ∷ fs) front one more
        sort (inl r) = record {
          earlier = [];
          later = fs;
          whole = λ t. r.2 t ∷ fs;
          home = sym (ap (λ (x : StoredFilter). bucket_for size x.key.words) r.2) ∙ home_is;
          before = r.1;
          behind = sym r.0;
        }
        sort (inr r) = let o = next front one r.0 r.2 in record {
          earlier = f ∷ o.earlier;
          later = o.later;
          whole = λ t. f ∷ o.whole t;
          home = o.home;
          before = o.before;
          behind = ap (λ (b : Bool). bucket_of size k o.earlier ++ cond b (f ∷ []) []) is ∙ (ap (λ (l : List StoredFilter). l ++ f ∷ []) o.behind ∙ sym r.1);
        }

-- the other way round: those of a bucket around one of the mask's
bucket_append : (size k : ℕ) (fs gs : List StoredFilter) → bucket_of size k (fs ++ gs) ≡ bucket_of size k gs ++ bucket_of size k fs
bucket_append size k [] gs = sym (append-nil (bucket_of size k gs))
bucket_append size k (f ∷ fs) gs = ap (λ (l : List StoredFilter). l ++ cond (eqb (bucket_for size f.key.words) k) (f ∷ []) []) (bucket_append size k fs gs)
    ∙ append_assoc (bucket_of size k gs) (bucket_of size k fs) (cond (eqb (bucket_for size f.key.words) k) (f ∷ []) [])

pub bucket_around : (size k : ℕ) (earlier : List StoredFilter) (f : StoredFilter) (later : List StoredFilter) → bucket_for size f.key.words ≡ k
    → bucket_of size k (earlier ++ f ∷ later) ≡ bucket_of size k later ++ f ∷ bucket_of size k earlier
bucket_around size k earlier f later is = bucket_append size k earlier (f ∷ later)
    ∙ (ap (λ (t : Bool). (bucket_of size k later ++ cond t (f ∷ []) []) ++ bucket_of size k earlier) (eq-eqb (bucket_for size f.key.words) k is) ∙ append_assoc (bucket_of size k later) (f ∷ []) (bucket_of size k earlier))

-- ---- a handle
-- one filter alone has it
pub one_split : (handle : ℕ) (xs : List StoredFilter) (x : StoredFilter) (ys zs : List StoredFilter) (w : StoredFilter) (ws : List StoredFilter) → xs ++ x ∷ ys ≡ zs ++ w ∷ ws → w.handle ≡ handle
    → HasNone handle xs → HasNone handle ys → (xs ≡ zs) × (x ≡ w) × (ys ≡ ws)
one_split handle [] x ys [] w ws e has front back = let first : x ≡ w = cc e in let rest : ys ≡ ws = cc e in (refl, first, rest)
one_split handle [] x ys (z ∷ zs) w ws e has front back = let rest : ys ≡ zs ++ w ∷ ws = cc e in absurd (back w (in_midst ys zs w ws rest) has)
  where
    in_midst : (us zs : List StoredFilter) (w : StoredFilter) (ws : List StoredFilter) → us ≡ zs ++ w ∷ ws → IsAmong w us
    in_midst us zs w ws e = (length zs, ap (λ (l : List StoredFilter). slice_get l (length zs)) e ∙ there zs)
      where
        there : (vs : List StoredFilter) → slice_get (vs ++ w ∷ ws) (length vs) ≡ Some w
        there [] = refl
        there (v ∷ vs) = there vs
one_split handle (z ∷ xs) x ys [] w ws e has front back = let same : z ≡ w = cc e in absurd (front z (0, refl) (ap (λ (f : StoredFilter). f.handle) same ∙ has))
one_split handle (z ∷ xs) x ys (v ∷ zs) w ws e has front back = let same : z ≡ v = cc e in
    let rest = one_split handle xs x ys zs w ws (cc e) has (λ f at. front f (suc at.0, at.1)) back in ((λ t. same t ∷ rest.0 t), rest.1, rest.2)

pub none_both : (handle : ℕ) (xs ys : List StoredFilter) → HasNone handle xs → HasNone handle ys → HasNone handle (xs ++ ys)
none_both handle [] ys front back f at = back f at
none_both handle (x ∷ xs) ys front back f at = walk at.0 at.1 (none_both handle xs ys (λ g in_. front g (suc in_.0, in_.1)) back)
  where
    walk : (place : ℕ) → slice_get ((x ∷ xs) ++ ys) place ≡ Some f → HasNone handle (xs ++ ys) → f.handle ≢ handle
    walk zero e rest = front f (0, e)
    walk (suc place) e rest = rest f (place, e)

-- ---- stored filters
pub others_stored : (h : List (Commit Edit)) (handle : ℕ) (fs : List StatedFilter) → HaveOthers handle fs → HasNone handle (map (with_slots h) fs)
others_stored h handle [] all f at = let e = at.1 in absurd (cc e)
others_stored h handle (g ∷ gs) all f at = walk at.0 at.1 (others_stored h handle gs all.1)
  where
    walk : (place : ℕ) → slice_get (with_slots h g ∷ map (with_slots h) gs) place ≡ Some f → HasNone handle (map (with_slots h) gs) → f.handle ≢ handle
    walk zero e rest = let same : with_slots h g ≡ f = cc e in λ is. all.0 (ap (λ (x : StoredFilter). x.handle) same ∙ is)
    walk (suc place) e rest = rest f (place, e)

-- those of a bucket
pub in_bucket : (h : List (Commit Edit)) (size bucket : ℕ) (fs : List StatedFilter) → bucket_of size bucket (map (with_slots h) fs) ≡ map (with_slots h) (chains.bucket_of hash_of size bucket fs)
in_bucket h size bucket [] = refl
in_bucket h size bucket (f ∷ fs) = at (hash_of f.key % size == bucket) (in_bucket h size bucket fs)
  where
    at : (b : Bool) → bucket_of size bucket (map (with_slots h) fs) ≡ map (with_slots h) (chains.bucket_of hash_of size bucket fs)
        → bucket_of size bucket (map (with_slots h) fs) ++ (if b then with_slots h f ∷ [] else []) ≡ map (with_slots h) (chains.bucket_of hash_of size bucket fs ++ (if b then f ∷ [] else []))
    at true e = ap (λ z. z ++ with_slots h f ∷ []) e ∙ sym (map-append (with_slots h) (chains.bucket_of hash_of size bucket fs) (f ∷ []))
    at false e = ap (λ z. z ++ []) e ∙ sym (map-append (with_slots h) (chains.bucket_of hash_of size bucket fs) [])

pub bucket_count : (h : List (Commit Edit)) (size bucket : ℕ) (fs : List StatedFilter) → length (bucket_of size bucket (map (with_slots h) fs)) ≡ length (chains.bucket_of hash_of size bucket fs)
bucket_count h size bucket fs = ap length (in_bucket h size bucket fs) ∙ length-map (chains.bucket_of hash_of size bucket fs) (with_slots h)

-- a list that is stored, split at one of its filters
pub record IsSplit (h : List (Commit Edit)) (fs : List StatedFilter) (xs : List StoredFilter) (x : StoredFilter) (ys : List StoredFilter) : Type 0 where
  pub earlier : List StatedFilter
  pub filter : StatedFilter
  pub later : List StatedFilter
  pub whole : fs ≡ earlier ++ filter ∷ later
  pub front : map (with_slots h) earlier ≡ xs
  pub one : with_slots h filter ≡ x
  pub back : map (with_slots h) later ≡ ys

pub stored_split : (h : List (Commit Edit)) (fs : List StatedFilter) (xs : List StoredFilter) (x : StoredFilter) (ys : List StoredFilter) → map (with_slots h) fs ≡ xs ++ x ∷ ys → IsSplit h fs xs x ys
stored_split h [] xs x ys e = absurd (no_more xs x ys e)
stored_split h (f ∷ fs) [] x ys e = let first : with_slots h f ≡ x = cc e in let rest : map (with_slots h) fs ≡ ys = cc e in
    record { earlier = []; filter = f; later = fs; whole = refl; front = refl; one = first; back = rest }
stored_split h (f ∷ fs) (z ∷ xs) x ys e = let first : with_slots h f ≡ z = cc e in let r = stored_split h fs xs x ys (cc e) in record {
  earlier = f ∷ r.earlier;
  filter = r.filter;
  later = r.later;
  whole = λ t. f ∷ r.whole t;
  front = λ t. first t ∷ r.front t;
  one = r.one;
  back = r.back;
}

-- ---- what a chain reads as
-- at a place of it, there is the block that reads so
pub record ReadsAt (ls : List Link) (fs : List StoredFilter) (n : ℕ) (f : StoredFilter) : Type 0 where
  pub before : read_all filter_in (take n ls) ≡ Some (take n fs)
  pub link : Link
  pub there : slice_get ls n ≡ Some link
  pub read : filter_in link.words ≡ Some f
  pub long : length (take n fs) ≡ n

pub reads_at : (ls : List Link) (fs : List StoredFilter) (n : ℕ) (f : StoredFilter) → read_all filter_in ls ≡ Some fs → slice_get fs n ≡ Some f → ReadsAt ls fs n f
reads_at ls [] n f all e = absurd (cc e)
reads_at [] (g ∷ gs) n f all e = absurd (cc all)
reads_at (l ∷ ls) (g ∷ gs) n f all e = pick (filter_in l.words) (read_all filter_in ls) refl refl all n e (reads_at ls gs)
  where
    pick : (one : Option StoredFilter) (rest : Option (List StoredFilter)) → filter_in l.words ≡ one → read_all filter_in ls ≡ rest → in_front one rest ≡ Some (g ∷ gs) → (n : ℕ) → slice_get (g ∷ gs) n ≡ Some f
        → ((n : ℕ) (f : StoredFilter) → read_all filter_in ls ≡ Some gs → slice_get gs n ≡ Some f → ReadsAt ls gs n f) → ReadsAt (l ∷ ls) (g ∷ gs) n f
    pick None rest here later all n e more = absurd (cc all)
    pick (Some x) None here later all n e more = absurd (cc all)
    pick (Some x) (Some xs) here later all zero e more = let same : x ≡ f = (let first : x ≡ g = cc all in let last : g ≡ f = cc e in first ∙ last) in
        record { before = refl; link = l; there = refl; read = here ∙ ap Some same; long = refl }
    pick (Some x) (Some xs) here later all (suc n) e more = let first : x ≡ g = cc all in let tail : xs ≡ gs = cc all in let r = more n f (later ∙ ap Some tail) e in record {
      before = λ t. in_front ((here ∙ ap Some first) t) (r.before t);
      link = r.link;
      there = r.there;
      read = r.read;
      long = ap suc r.long;
    }
