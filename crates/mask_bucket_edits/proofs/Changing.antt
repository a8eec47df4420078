-- What a bucket's chain and the masks' filters become as blocks are put in front of what is behind a filter,
-- and the bucket's root names them.
use Rattle.std.proofs.Common.{◌≡◌, ◌≢◌, ◌∙◌, ◌⊎◌, inl, inr, ℕ, suc, ◌+◌, ◌<◌, ◌≤◌, List, [], ◌∷◌, ◌++◌, length, map, take, drop, get_or, slice_get, Option, Some, None, refl, sym, ap, subst, arith, get_or-set_same}
use Rattle.std.specs.Borrow.{Bor}
use Rattle.std.specs.Option.{option_map}
use Rattle.std.proofs.lemmas.List.{map-append, take-map, drop-map}
use Rattle.std.proofs.lemmas.Option.{slice_get-map}
use Rattle.store_history.specs.declared.history.Named.{Named}
use Rattle.store_history.specs.declared.history.Commit.{Commit}
use Rattle.store_history.specs.History.{root_of}
use Rattle.store_history.specs.Reads.{read_all}
use Rattle.store_history.specs.declared.places.TheConstants.{BUCKET_ROOTS, POOL_BLOCKS, BUCKETS}
use Rattle.pin_store.specs.declared.shape.Shape.{Shape}
use Rattle.pin_store.specs.Layout.{block_words, links_of, commit_of}
use Rattle.block_codec.specs.declared.filter.StoredFilter.{StoredFilter}
use Rattle.block_codec.specs.OfReadings.Read.{filter_in}
use Rattle.mask_table.specs.Buckets.{bucket_root, bucket_for, IsAmong}
use Rattle.mask_table.specs.declared.mirrors.mirror.Mirror.{Mirror}
use Rattle.mask_table.specs.declared.mirrors.mirror.KeptMask.{KeptMask}
use Rattle.mask_table.specs.OfMirrors.Kept.{bucket_at, Stands, Spells, HoldsChain, BucketAt, Names, IsKept, AreOwn}
use Rattle.mask_table.specs.OfMirrors.Changes.{IsRenamed}
use Rattle.mask_table.specs.OfMirrors.Changing.{rewrite_at, HasNone}
use Rattle.mask_table.specs.OfMirrors.Linked.{placed, linked}
use Rattle.mask_table.specs.OfMirrors.Lists.{Dated, Rises, age_of, kept_in, dated_in, HasFilters}
use Rattle.mask_table.proofs.OfMirrors.Spelling.{same_blocks}
use Rattle.mask_table.proofs.OfMirrors.Chains.{links_same, spells_same}
use Rattle.mask_table.proofs.OfMirrors.Keeping.{same_kept, bucket_with}
use Rattle.mask_table.proofs.OfMirrors.Lasting.{SameChain, kept_same, chain_renamed, lists_renamed, has_rewritten}
use Rattle.mask_bucket_edits.specs.Finding.{IsFound}
use Rattle.mask_bucket_edits.specs.Putting.{listed, aged, AreApart, AreOfBucket, ArePut}
use Rattle.mask_bucket_edits.proofs.Reading.{held}
use Rattle.mask_bucket_edits.proofs.Among.{among_left, among_right, among_either, among_map, among_take, among_drop}
use Rattle.mask_bucket_edits.proofs.Ages.{dated_as, split_at, filters_changed, rises_changed, IsTheOne, the_one, own_changed, other_changed}
use Rattle.mask_bucket_edits.proofs.Chains.{links_put, own, place_is, chain, named, names, low, there, behind, one_kept, front_kept}

-- the filters, without their ages
filters_in : (mirror : Mirror) (bs : List ℕ) → map (λ (k : ℕ × Option StoredFilter). k.1) (map (kept_in mirror) bs) ≡ map (λ (b : ℕ). get_or mirror.filters.items b None) bs
filters_in mirror [] = refl
filters_in mirror (b ∷ bs) = ap (λ (fs : List (Option StoredFilter)). get_or mirror.filters.items b None ∷ fs) (filters_in mirror bs)

filters_aged : (age : ℕ) (fs : List StoredFilter) → map (λ (k : ℕ × Option StoredFilter). k.1) (aged age fs) ≡ map Some fs
filters_aged age [] = refl
filters_aged age (f ∷ fs) = ap (λ (gs : List (Option StoredFilter)). Some f ∷ gs) (filters_aged age fs)

pub listed_few : (with : Option (Bor StoredFilter)) → length (listed with) ≤ 1
listed_few None = omega arith
listed_few (Some f) = omega arith

-- a commit of such blocks is the one that writes a chain anew
pub commit_is : {E : Type 0} (h : List (Commit E)) (shape : Shape) (cells : List ℕ) (place count : ℕ) (given bs : List ℕ) (fs : List StoredFilter) (number : ℕ) (edit : E)
    → links_of shape cells bs ≡ linked (placed given fs) (drop (count + 1) (root_of h (BUCKET_ROOTS + place)).chain)
    → commit_of shape cells (BUCKET_ROOTS + place) bs number (Some number) edit ≡ rewrite_at h (BUCKET_ROOTS + place) given fs count number edit
commit_is h shape cells place count given bs fs number edit links = λ t. record { root = BUCKET_ROOTS + place; named = record { chain = links t; stamp = number }; edit = Some (number, edit) }

-- and such commits are the same where their parts are
pub same_commit : {E : Type 0} (h : List (Commit E)) (root root2 : ℕ) (given given2 : List ℕ) (fs fs2 : List StoredFilter) (count count2 number : ℕ) (edit : E) → root ≡ root2 → given ≡ given2 → fs ≡ fs2 → count ≡ count2
    → rewrite_at h root given fs count number edit ≡ rewrite_at h root2 given2 fs2 count2 number edit
same_commit h root root2 given given2 fs fs2 count count2 number edit a b c d = λ t. rewrite_at h (a t) (b t) (c t) (d t) number edit

module _ (mirror mirror1 : Mirror) (shape : Shape) (old new : List ℕ) (roots : ℕ → Named) (slot : ℕ) (kept : KeptMask) (stands : Stands mirror slot kept) (keeps : IsKept mirror shape old roots) (handle place count : ℕ) (blocks : List ℕ)
    (found : IsFound roots kept.mask handle place count blocks) (given : List ℕ) (more : List StoredFilter) (age number : ℕ) (free : (b : ℕ) → IsAmong b given → (root : ℕ) → Names roots root b → ⊥)
    (put : ArePut mirror mirror1 shape old new given (map (kept_in mirror) (take count blocks) ++ aged age more) (get_or mirror.next.items (get_or blocks count 0) 0) number) where
  -- the new ones are in the bucket
  abbrev AreIn : Type 0
  AreIn = (f : StoredFilter) → IsAmong f more → bucket_for kept.mask.size f.key.words ≡ found.there.bucket

  all_away : (k b : ℕ) → slice_get blocks k ≡ Some b → IsAmong b given → ⊥
  all_away k b e i = free b i (BUCKET_ROOTS + place) (names mirror shape old roots slot kept stands keeps handle place count blocks found k b e)

  tail_away : AreApart (drop (suc count) blocks) given
  tail_away b (k, e) i = let r = among_drop b (suc count) blocks k e in all_away r.0 b r.1 i

  of_bucket : AreIn → AreOfBucket kept.mask.size found.there.bucket (map (kept_in mirror) (take count blocks) ++ aged age more)
  of_bucket of k a f e = pick (among_either (a, Some f) (map (kept_in mirror) (take count blocks)) (aged age more) k e)
    where
      pick : IsAmong (a, Some f) (map (kept_in mirror) (take count blocks)) ⊎ IsAmong (a, Some f) (aged age more) → bucket_for kept.mask.size f.key.words ≡ found.there.bucket
      pick (inl (j, i)) = let r = among_map (kept_in mirror) (a, Some f) (take count blocks) j i in
          let h = held mirror.filters.items shape old kept.mask.size found.there.bucket blocks (chain mirror shape old roots slot kept stands keeps handle place count blocks found).hold j r.0 (among_take r.0 count blocks j r.1) in
          let both : Some h.1.filter ≡ Some f = sym h.1.kept ∙ ap (λ (p : ℕ × Option StoredFilter). p.1) r.2 in let same : h.1.filter ≡ f = cc both in
          ap (λ (g : StoredFilter). bucket_for kept.mask.size g.key.words) (sym same) ∙ h.1.hashed
      pick (inr (j, i)) = let r = among_map (λ (g : StoredFilter). (age, Some g)) (a, Some f) more j i in
          let both : Some r.0 ≡ Some f = ap (λ (p : ℕ × Option StoredFilter). p.1) r.2 in let same : r.0 ≡ f = cc both in
          of f (j, r.1 ∙ ap (λ (g : StoredFilter). Some g) same)

  -- the longer chain
  pub new_chain : AreIn → HoldsChain mirror1 shape new kept.mask.size found.there.bucket number (given ++ drop (suc count) blocks)
  new_chain of = put.chain kept.mask.size found.there.bucket (drop (suc count) blocks) tail_away (of_bucket of) (behind mirror shape old roots slot kept stands keeps handle place count blocks found)

  abbrev own_now : BucketAt mirror1 (BUCKET_ROOTS + place)
  own_now = record { slot = slot; bucket = found.there.bucket; kept = kept; stands = ap (λ (xs : List (Option KeptMask)). get_or xs slot None) put.filled.slots ∙ stands; within = found.there.within; same = found.there.is_root }

  are_own : AreOwn mirror1 roots (BUCKET_ROOTS + place) (given ++ drop (suc count) blocks)
  are_own k b other e at naming = pick (among_either b given (drop (suc count) blocks) k e)
    where
      pick : IsAmong b given ⊎ IsAmong b (drop (suc count) blocks) → other ≡ BUCKET_ROOTS + place
      pick (inl i) = absurd (free b i other naming)
      pick (inr (j, i)) = let r = among_drop b (suc count) blocks j i in
          keeps.once other (BUCKET_ROOTS + place) b (bucket_with mirror mirror1 other put.filled.slots at) (own mirror shape old roots slot kept stands keeps handle place count blocks found) naming
          (names mirror shape old roots slot kept stands keeps handle place count blocks found r.0 b r.1)

  pub chain_ready : AreIn → (own : BucketAt mirror1 (BUCKET_ROOTS + place)) × (bs : List ℕ) × HoldsChain mirror1 shape new own.kept.mask.size own.bucket number bs × AreOwn mirror1 roots (BUCKET_ROOTS + place) bs
  chain_ready of = (own_now, given ++ drop (suc count) blocks, new_chain of, are_own)

  -- its links
  filters_put : (front : List StoredFilter) → read_all filter_in (take count (roots (BUCKET_ROOTS + place)).chain) ≡ Some front → map (λ (b : ℕ). get_or mirror1.filters.items b None) given ≡ map Some (front ++ more)
  filters_put front e = sym (filters_in mirror1 given) ∙ (ap (map (λ (k : ℕ × Option StoredFilter). k.1)) put.have
      ∙ (map-append (λ (k : ℕ × Option StoredFilter). k.1) (map (kept_in mirror) (take count blocks)) (aged age more)
      ∙ ((λ t. (filters_in mirror (take count blocks) ∙ front_kept mirror shape old roots slot kept stands keeps handle place count blocks found front e) t ++ filters_aged age more t)
      ∙ sym (map-append Some front more))))

  links_behind : POOL_BLOCKS ≤ shape.blocks → links_of shape new (drop (suc count) blocks) ≡ drop (count + 1) (roots (BUCKET_ROOTS + place)).chain
  links_behind wide = let step : suc count ≡ count + 1 = omega arith in
      links_same shape old new (drop (suc count) blocks) (λ k b e. let r = among_drop b (suc count) blocks k e in
      let less = low mirror shape old roots slot kept stands keeps handle place count blocks found r.0 b r.1 in put.filled.others b (tail_away b (k, e)) (omega arith))
      ∙ (sym (drop-map (λ (b : ℕ). record { block = b; words = block_words shape old b }) (suc count) blocks)
      ∙ (λ t. drop (step t) (sym (named mirror shape old roots slot kept stands keeps handle place count blocks found) t)))

  pub links_new : POOL_BLOCKS ≤ shape.blocks → AreIn → (front : List StoredFilter) → read_all filter_in (take count (roots (BUCKET_ROOTS + place)).chain) ≡ Some front → (bs : List ℕ) → Spells mirror1.next.items number bs
      → links_of shape new bs ≡ linked (placed given (front ++ more)) (drop (count + 1) (roots (BUCKET_ROOTS + place)).chain)
  links_new wide of front e bs s = let whole = new_chain of in
      ap (links_of shape new) (same_blocks mirror1.next.items number number bs (given ++ drop (suc count) blocks) refl s whole.spelled)
      ∙ (links_put mirror1.filters.items shape new kept.mask.size found.there.bucket given (drop (suc count) blocks) (front ++ more) (filters_put front e) whole.hold
      ∙ ap (linked (placed given (front ++ more))) (links_behind wide))

  -- ---- the filters of masks, once that the root names the longer chain
  module _ (mirror2 : Mirror) (small : place < BUCKETS) (renamed : IsRenamed mirror1 mirror2 place number) (roots1 : ℕ → Named) (keeps1 : IsKept mirror1 shape new roots1) where
    -- those of other masks
    pub lists_stay : (other last : ℕ) (fs : List StoredFilter) → other ≢ slot → HasFilters mirror1 other last fs → HasFilters mirror2 other last fs
    lists_stay = lists_renamed mirror1 mirror2 place number renamed shape new roots1 keeps1 own_now

    kept_later : (c : ℕ) → kept_in mirror2 c ≡ kept_in mirror1 c
    kept_later c = λ t. (get_or (renamed.ages t) c 0, get_or (renamed.filters t) c None)

    first_own : get_or mirror2.first.items place 0 ≡ number
    first_own = let long = mirror1.first_long in ap (λ (xs : List ℕ). get_or xs place 0) renamed.first ∙ get_or-set_same mirror1.first.items place number 0 (omega arith)

    -- another bucket of the mask keeps its chain
    other_chain : (other : ℕ) → other ≢ found.there.bucket → other < kept.mask.size → SameChain mirror1 mirror2 (bucket_at kept.mask other)
    other_chain other apart less = chain_renamed mirror1 mirror2 place number renamed shape new roots1 keeps1 (bucket_root kept.mask other)
        (record { slot = slot; bucket = other; kept = kept; stands = own_now.stands; within = less; same = refl })
        (λ e. apart (keeps1.apart (BUCKET_ROOTS + place) (record { slot = slot; bucket = other; kept = kept; stands = own_now.stands; within = less; same = sym e }) own_now).1)

    -- its own chain still was the old one before that
    old_spelled : Spells mirror1.next.items (get_or mirror1.first.items (bucket_at kept.mask found.there.bucket) 0) blocks
    old_spelled = let c = chain mirror shape old roots slot kept stands keeps handle place count blocks found in let at = place_is mirror shape old roots slot kept stands keeps handle place count blocks found in
        subst (λ (n : ℕ). Spells mirror1.next.items n blocks) (λ t. get_or (sym put.filled.first t) (at t) 0)
        (spells_same mirror.next.items mirror1.next.items (get_or mirror.first.items place 0) blocks (λ k b e. put.filled.next b (all_away k b e)) c.spelled)

    -- the changed bucket: what is found is the one between the parts
    module _ (few : length more ≤ 1) (is_age : age ≡ get_or mirror.ages.items (get_or blocks count 0) 0) (before : List Dated) (one : Dated) (rest : List Dated)
        (whole : map (kept_in mirror) blocks ≡ dated_in kept.mask.size found.there.bucket (before ++ one ∷ rest)) where
      found_there : slice_get (dated_in kept.mask.size found.there.bucket (before ++ one ∷ rest)) count ≡ Some (age, Some found.filter)
      found_there = let kept_one = one_kept mirror shape old roots slot kept stands keeps handle place count blocks found in
          ap (λ (xs : List (ℕ × Option StoredFilter)). slice_get xs count) (sym whole)
          ∙ (slice_get-map (kept_in mirror) blocks count ∙ (ap (option_map (kept_in mirror)) (there mirror shape old roots slot kept stands keeps handle place count blocks found)
          ∙ (λ t. Some (sym is_age t, kept_one t))))

      abbrev Only : Type 0
      Only = IsTheOne kept.mask.size found.there.bucket count age (dated_in kept.mask.size found.there.bucket (before ++ one ∷ rest)) before one rest

      is_only : ((f : StoredFilter) → IsAmong f (map (λ (d : Dated). d.filter) before) → f.handle ≢ handle) → ((f : StoredFilter) → IsAmong f (map (λ (d : Dated). d.filter) rest) → f.handle ≢ handle) → Only
      is_only none_before none_rest = the_one kept.mask.size found.there.bucket handle count age found.filter before one rest none_before none_rest found.there.named found_there

      own_bucket : Only → AreIn → map (kept_in mirror2) (given ++ drop (suc count) blocks) ≡ dated_in kept.mask.size found.there.bucket (before ++ (dated_as age more ++ rest))
      own_bucket only of =
          let first = kept_same mirror1 mirror2 given (λ k c e. kept_later c) ∙ put.have in
          let front = sym (take-map (kept_in mirror) count blocks) ∙ (ap (take count) whole ∙ only.front) in
          let last = kept_same mirror mirror2 (drop (suc count) blocks) (λ k c e. kept_later c ∙ put.filled.kept c (tail_away c (k, e))) ∙ (sym (drop-map (kept_in mirror) (suc count) blocks) ∙ (ap (drop (suc count)) whole ∙ only.rest)) in
          map-append (kept_in mirror2) given (drop (suc count) blocks) ∙ ((λ t. (first ∙ (λ u. front u ++ aged age more)) t ++ last t)
          ∙ sym (own_changed kept.mask.size found.there.bucket age before rest more few of))

    pub list_changed : length more ≤ 1 → age ≡ get_or mirror.ages.items (get_or blocks count 0) 0 → (last : ℕ) (earlier : List StoredFilter) (gone : StoredFilter) (later : List StoredFilter)
        → HasFilters mirror1 slot last (earlier ++ gone ∷ later) → ((f : StoredFilter) → IsAmong f more → f.key.words ≡ gone.key.words) → HasNone handle (earlier ++ later)
        → HasFilters mirror2 slot last (earlier ++ (more ++ later))
    list_changed few is_age last earlier gone later had keys none =
        let same = same_kept mirror1 slot slot had.kept kept refl had.stands own_now.stands in
        let has : HasFilters mirror1 slot last (earlier ++ gone ∷ later) = record {
          kept = kept;
          stands = own_now.stands;
          dated = had.dated;
          filters = had.filters;
          rise = had.rise;
          buckets = subst (λ (m : KeptMask). (bucket : ℕ) (bs : List ℕ) → bucket < m.mask.size → Spells mirror1.next.items (get_or mirror1.first.items (bucket_at m.mask bucket) 0) bs
              → map (kept_in mirror1) bs ≡ dated_in m.mask.size bucket had.dated) same had.buckets;
        } in
        let parts = split_at had.dated earlier gone later had.filters in
        let whole = sym (kept_same mirror mirror1 blocks (λ k b e. put.filled.kept b (all_away k b e)))
        ∙ (has.buckets found.there.bucket blocks found.there.within old_spelled ∙ ap (dated_in kept.mask.size found.there.bucket) parts.whole) in
        let none_before = λ (f : StoredFilter) (i : IsAmong f (map (λ (d : Dated). d.filter) parts.before)). let j = subst (IsAmong f) parts.earlier_is i in none f (among_left f earlier later j.0 j.1) in
        let none_behind = λ (f : StoredFilter) (i : IsAmong f (map (λ (d : Dated). d.filter) parts.behind)). none f (among_right f earlier later (subst (IsAmong f) parts.later_is i)) in
        let only = is_only few is_age parts.before parts.one parts.behind whole none_before none_behind in
        let of = λ (f : StoredFilter) (i : IsAmong f more). ap (bucket_for kept.mask.size) (keys f i ∙ ap (λ (g : StoredFilter). g.key.words) (sym parts.one_is)) ∙ only.hashed in
        let dated = parts.before ++ (dated_as age more ++ parts.behind) in
        let spelled = subst (λ (n : ℕ). Spells mirror2.next.items n (given ++ drop (suc count) blocks))
        (sym first_own ∙ ap (λ (p : ℕ). get_or mirror2.first.items p 0) (place_is mirror shape old roots slot kept stands keeps handle place count blocks found))
        (subst (λ (xs : List ℕ). Spells xs number (given ++ drop (suc count) blocks)) (sym renamed.next) (new_chain of).spelled) in
        let others = λ (other : ℕ) (apart : other ≢ found.there.bucket). sym (ap (dated_in kept.mask.size other) parts.whole
        ∙ other_changed kept.mask.size found.there.bucket other age parts.before parts.one parts.behind more apart only.hashed of) in
        let rise = rises_changed 0 (age_of (last + 1) 0) age parts.before parts.one parts.behind more few only.same_age (subst (Rises 0 (age_of (last + 1) 0)) parts.whole had.rise) in
        subst (HasFilters mirror2 slot last) (filters_changed age parts.before parts.behind more earlier later parts.earlier_is parts.later_is)
        (has_rewritten mirror1 mirror2 slot last last (earlier ++ gone ∷ later) has dated found.there.bucket (given ++ drop (suc count) blocks) (ap (λ (xs : List (Option KeptMask)). get_or xs slot None) renamed.slots ∙ own_now.stands)
        spelled (own_bucket few is_age parts.before parts.one parts.behind whole only of) other_chain others rise)
