-- What chains of blocks read as: in general, and where the blocks are those of filters.
use Rattle.std.proofs.Common.{◌≡◌, ◌∙◌, ℕ, zero, suc, ◌+◌, ◌<◌, List, [], ◌∷◌, ◌++◌, length, map, take, drop, get_or, slice_get, Option, Some, None, refl, sym, ap, arith, length-append}
use Rattle.std.specs.List.{AllByRecursion}
use Rattle.std.specs.Option.{option_map}
use Rattle.std.proofs.lemmas.List.{length-map}
use Rattle.std.proofs.Math.Seq.{drop-append-add}
use Rattle.store_history.specs.declared.history.Link.{Link}
use Rattle.store_history.specs.History.{first_block}
use Rattle.store_history.specs.Reads.{in_front, read_all}
use Rattle.pin_store.specs.declared.shape.Shape.{Shape}
use Rattle.pin_store.specs.Layout.{block_words, links_of, first_of, block_in}
use Rattle.block_codec.specs.declared.filter.StoredFilter.{StoredFilter}
use Rattle.block_codec.specs.Blocks.{block, IsLink}
use Rattle.block_codec.specs.Names.{action_word}
use Rattle.block_codec.specs.Filters.{filter_words, IsFilterBlock}
use Rattle.block_codec.proofs.Standing.{length_block}
use Rattle.block_codec.specs.OfReadings.Read.{link_in, filter_in}
use Rattle.block_codec.proofs.OfReadings.Only.{filter_only}
use Rattle.mask_table.specs.OfMirrors.Kept.{HoldFilters}
use Rattle.mask_table.specs.OfMirrors.Linked.{Placed, linked}
use Rattle.mask_order.specs.Fitting.{FitsBlock}

-- ---- chains of any blocks
module _ {A : Type 0} (read : List ℕ → Option A) where
  read_cons : (l : Link) (ls : List Link) (x : A) (xs : List A) → read l.words ≡ Some x → read_all read ls ≡ Some xs → read_all read (l ∷ ls) ≡ Some (x ∷ xs)
  read_cons l ls x xs one all = λ t. in_front (one t) (all t)

  -- what the first block and the rest read as
  record ReadApart (l : Link) (ls : List Link) (xs : List A) : Type 0 where
    first : A
    rest : List A
    one : read l.words ≡ Some first
    all : read_all read ls ≡ Some rest
    same : xs ≡ first ∷ rest

  read_apart : (l : Link) (ls : List Link) (xs : List A) → read_all read (l ∷ ls) ≡ Some xs → ReadApart l ls xs
  read_apart l ls xs e = pick (read l.words) (read_all read ls) refl refl e
    where
      pick : (x : Option A) (rest : Option (List A)) → read l.words ≡ x → read_all read ls ≡ rest → in_front x rest ≡ Some xs → ReadApart l ls xs
      pick (Some x) (Some rest) one all e = record { first = x; rest = rest; one = one; all = all; same = sym (cc e) }
      pick (Some x) None one all e = absurd (cc e)
      pick None rest one all e = absurd (cc e)

  -- what is behind some blocks
  read_drop : (n : ℕ) (ls : List Link) (xs : List A) → read_all read ls ≡ Some xs → read_all read (drop n ls) ≡ Some (drop n xs)
  read_drop zero ls xs e = e
  read_drop (suc n) [] xs e = let none : [] ≡ xs = cc e in ap (λ (ys : List A). Some (drop (suc n) ys)) none
  read_drop (suc n) (l ∷ ls) xs e = let a = read_apart l ls xs e in read_drop n ls a.rest a.all ∙ ap (λ (ys : List A). Some (drop (suc n) ys)) (sym a.same)

  pub read_behind : (ls : List Link) (front : List A) (x : A) (later : List A) → read_all read ls ≡ Some (front ++ x ∷ later) → read_all read (drop (length front + 1) ls) ≡ Some later
  read_behind ls front x later e = read_drop (length front + 1) ls (front ++ x ∷ later) e ∙ ap Some (drop-append-add front (x ∷ later) 1)

  -- where a block reads as something, behind others, the chain reads as those, it, and what comes later
  pub read_split : (ls : List Link) (front : List A) (l : Link) (x : A) (xs : List A) → read_all read (take (length front) ls) ≡ Some front → slice_get ls (length front) ≡ Some l
      → read l.words ≡ Some x → read_all read ls ≡ Some xs → (later : List A) × (xs ≡ front ++ x ∷ later)
  read_split [] front l x xs before there one all = absurd (cc there)
  read_split (k ∷ ks) [] l x xs before there one all = let a = read_apart k ks xs all in let same : k ≡ l = cc there in
      let first : a.first ≡ x = (let here = a.one in let words = ap (λ (j : Link). read j.words) same in cc) in
      (a.rest, a.same ∙ ap (λ (y : A). y ∷ a.rest) first)
  read_split (k ∷ ks) (f ∷ front) l x xs before there one all = let a = read_apart k ks xs all in let b = read_apart k (take (length front) ks) (f ∷ front) before in
      let first : a.first ≡ f = (let here = a.one in let there = b.one in let same = b.same in cc) in
      let front_is : b.rest ≡ front = (let same = b.same in cc) in
      let more = read_split ks front l x a.rest (b.all ∙ ap Some front_is) there one a.all in
      (more.0, a.same ∙ (λ t. first t ∷ more.1 t))

-- ---- blocks of filters
-- words of a filter read as that filter
pub block_reads : (words : List ℕ) (filter : StoredFilter) (link : Option ℕ) → IsFilterBlock words (filter, link) → filter_in words ≡ Some filter
block_reads words filter link is = pick (filter_in words) ((filter_only words long).only (filter, link) is)
  where
    long : length words ≡ 40
    long = let key = is.key in let few = is.few in let actions = length-map filter.actions action_word in let all = length-append filter.key.words (map action_word filter.actions) in
        ap length is.words_are ∙ length_block (filter_words filter) link (omega arith)

    pick : (found : Option StoredFilter) → option_map {U = StoredFilter × Option ℕ} (λ (it : StoredFilter). (it, link_in words)) found ≡ Some (filter, link) → found ≡ Some filter
    pick None e = absurd (cc e)
    pick (Some it) e = let same : ◌≡◌ {A = StoredFilter × Option ℕ} (it, link_in words) (filter, link) = cc e in ap (λ (p : StoredFilter × Option ℕ). Some p.0) same

pub own_block_reads : (filter : StoredFilter) (link : Option ℕ) → FitsBlock filter → IsLink link → filter_in (block (filter_words filter) link) ≡ Some filter
own_block_reads filter link fits is = block_reads (block (filter_words filter) link) filter link
    (record { storable = fits.storable; key = fits.key; few = fits.few; link = is; words_are = refl })

-- a chain whose blocks have the filters that are kept for them reads as these
pub links_read : (filters : List (Option StoredFilter)) (shape : Shape) (cells : List ℕ) (size bucket : ℕ) (bs : List ℕ) (fs : List StoredFilter) → HoldFilters filters shape cells size bucket bs
    → map Some fs ≡ map (λ (b : ℕ). get_or filters b None) bs → read_all filter_in (links_of shape cells bs) ≡ Some fs
links_read filters shape cells size bucket [] [] s e = refl
links_read filters shape cells size bucket [] (f ∷ fs) s e = absurd (cc e)
links_read filters shape cells size bucket (b ∷ bs) [] s e = absurd (cc e)
links_read filters shape cells size bucket (b ∷ bs) (f ∷ fs) s e = let one : Some f ≡ get_or filters b None = cc e in let rest : map Some fs ≡ map (λ (c : ℕ). get_or filters c None) bs = cc e in
    let same : Some s.0.filter ≡ Some f = sym s.0.kept ∙ sym one in
    read_cons filter_in (record { block = b; words = block_words shape cells b }) (links_of shape cells bs) f fs
    (block_reads (block_words shape cells b) s.0.filter (block_in (first_of bs)) s.0.there ∙ same) (links_read filters shape cells size bucket bs fs s.1 rest)

-- ---- filters that are put into blocks
pub record Fits (p : Placed) : Type 0 where
  pub filter : FitsBlock p.filter
  pub low : p.block < 4294967296

pub first_linked : (ps : List Placed) (chain : List Link) → AllByRecursion Fits ps → IsLink (first_block chain) → IsLink (first_block (linked ps chain))
first_linked [] chain all is = is
first_linked (p ∷ ps) chain all is = all.0.low

-- they read as these filters in front of what was there
pub linked_read : (ps : List Placed) (chain : List Link) (fs : List StoredFilter) → AllByRecursion Fits ps → IsLink (first_block chain) → read_all filter_in chain ≡ Some fs
    → read_all filter_in (linked ps chain) ≡ Some (map (λ (p : Placed). p.filter) ps ++ fs)
linked_read [] chain fs all is e = e
linked_read (p ∷ ps) chain fs all is e = let link = first_block (linked ps chain) in
    read_cons filter_in (record { block = p.block; words = block (filter_words p.filter) link }) (linked ps chain) p.filter (map (λ (q : Placed). q.filter) ps ++ fs)
    (own_block_reads p.filter link all.0.filter (first_linked ps chain all.1 is)) (linked_read ps chain fs all.1 is e)

-- and one more in front
pub inserted_reads : (b : ℕ) (filter : StoredFilter) (chain : List Link) (fs : List StoredFilter) → FitsBlock filter → IsLink (first_block chain) → read_all filter_in chain ≡ Some fs
    → read_all filter_in (record { block = b; words = block (filter_words filter) (first_block chain) } ∷ chain) ≡ Some (filter ∷ fs)
inserted_reads b filter chain fs fits is e = read_cons filter_in (record { block = b; words = block (filter_words filter) (first_block chain) }) chain filter fs
    (own_block_reads filter (first_block chain) fits is) e
