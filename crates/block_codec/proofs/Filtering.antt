-- A filter's words, and the filter in words.
use Rattle.std.proofs.Common.{◌≡◌, ℕ, zero, suc, ◌+◌, ◌<◌, List, [], ◌∷◌, length, get_or, map, Option, None, Some, refl, ap, sym, ◌∙◌, subst, arith}
use Rattle.std.specs.Prelude.{All}
use Rattle.std.specs.List.{slice_range}
use Rattle.std.proofs.lemmas.List.{length-map}
use Rattle.std.proofs.lemmas.List.Elements.{All-map, All-weaker, All-head, All-tail}
use Rattle.visit_room.specs.declared.names.ActionName.{ActionName}
use Rattle.block_codec.specs.declared.filter.StoredFilter.{StoredFilter}
use Rattle.block_codec.specs.Blocks.{plus_one, IsTheOnly}
use Rattle.block_codec.specs.Names.{action_word, action_in, IsActionName}
use Rattle.block_codec.specs.Filters.{IsFilterBlock}
use Rattle.block_codec.specs.Reading.{HasFilter, filter_read}
use Rattle.block_codec.proofs.Standing.{link_word, link_fits, blank_at, is_blank, none_only, pair_only, Stands, stands_of, block_of_stands, length_part, part_at, part_is}
use Rattle.block_codec.proofs.Halves.{low_of, high_of, both_of}

abbrev front_of : StoredFilter → List ℕ
front_of stored = 1 ∷ stored.handle ∷ length stored.actions ∷ stored.key.words

abbrev names_of : StoredFilter → List ℕ
names_of stored = map action_word stored.actions

named_back : (xs : List ActionName) → All IsActionName xs → map action_in (map action_word xs) ≡ xs
named_back [] all = refl
named_back (x ∷ xs) all = let is = All-head IsActionName x xs all in let low = is.serial.1 in let rest = named_back xs (All-tail IsActionName x xs all) in
    let serial = low_of x.serial x.slot (omega arith) in let slot = high_of x.serial x.slot (omega arith) in
    λ i. record { serial = serial i; slot = slot i } ∷ rest i

worded_back : (ws : List ℕ) → map action_word (map action_in ws) ≡ ws
worded_back [] = refl
worded_back (w ∷ ws) = let one = both_of w in let rest = worded_back ws in λ i. one i ∷ rest i

pub filters_are : (h h' : ℕ) (k k' : List ℕ) (a a' : List ActionName) → h ≡ h' → k ≡ k' → a ≡ a'
    → ◌≡◌ {A = StoredFilter} (record { handle = h; key = record { words = k }; actions = a }) (record { handle = h'; key = record { words = k' }; actions = a' })
filters_are h h' k k' a a' e f g = λ i. record { handle = e i; key = record { words = f i }; actions = g i }

stands : (words : List ℕ) (it : StoredFilter × Option ℕ) → IsFilterBlock words it → Stands words (front_of it.0) (names_of it.0) it.1
stands words it b = let long = b.key in let few = b.few in let n = length-map it.0.actions action_word in
    stands_of words (front_of it.0) (names_of it.0) it.1 (omega arith) b.words_are

actions_are : (words : List ℕ) (it : StoredFilter × Option ℕ) → length words ≡ 40 → IsFilterBlock words it → slice_range words 17 (17 + get_or words 2 0) ≡ names_of it.0
actions_are words it wide b = let s = stands words it b in let long = b.key in let few = b.few in let n = length-map it.0.actions action_word in
    let count : get_or words 2 0 ≡ length it.0.actions = s.in_front 2 (omega arith) in
    part_is words (names_of it.0) 17 (17 + get_or words 2 0) (omega arith) (omega arith)
    (λ k low. ap (λ j. get_or words j 0) (omega arith) ∙ s.named k low)

-- the words of a filter are those that are looked for
pub has_of : (words : List ℕ) (it : StoredFilter × Option ℕ) → length words ≡ 40 → IsFilterBlock words it → HasFilter words
has_of words it wide b = let s = stands words it b in let long = b.key in let few = b.few in let n = length-map it.0.actions action_word in
    let count : get_or words 2 0 ≡ length it.0.actions = s.in_front 2 (omega arith) in
    let handle : get_or words 1 0 ≡ it.0.handle = s.in_front 1 (omega arith) in let one = b.storable.handle.0 in let most = b.storable.handle.1 in record {
      kind = s.in_front 0 (omega arith);
      handle = (omega arith, omega arith);
      few = omega arith;
      actions = subst (All (λ word. IsActionName (action_in word))) (sym (actions_are words it wide b))
          (All-map (λ word. IsActionName (action_in word)) action_word it.0.actions (named it.0.actions b.storable.actions));
      rest = is_blank words (17 + get_or words 2 0) (omega arith) (λ i high low. s.blank i (omega arith) low);
      link = rw s.linked (link_word it.1 b.link);
    }
  where
    named : (xs : List ActionName) → All IsActionName xs → All (λ x. IsActionName (action_in (action_word x))) xs
    named xs all = All-weaker IsActionName (λ x. IsActionName (action_in (action_word x))) (λ x is. let low = is.serial.1 in
        let serial = low_of x.serial x.slot (omega arith) in let slot = high_of x.serial x.slot (omega arith) in let least = is.serial.0 in let place = is.slot in
        record { serial = (omega arith, omega arith); slot = omega arith }) xs all

-- and the filter that is read from them is that filter
pub filter_back : (words : List ℕ) (it : StoredFilter × Option ℕ) → length words ≡ 40 → IsFilterBlock words it → filter_read words ≡ it.0
filter_back words it wide b = let s = stands words it b in let long = b.key in
    filters_are (get_or words 1 0) it.0.handle (slice_range words 3 17) it.0.key.words (map action_in (slice_range words 17 (17 + get_or words 2 0))) it.0.actions
    (s.in_front 1 (omega arith))
    (part_is words it.0.key.words 3 17 (omega arith) (omega arith) (λ k low. s.in_front (3 + k) (omega arith) ∙ in_key k))
    (ap (map action_in) (actions_are words it wide b) ∙ named_back it.0.actions b.storable.actions)
  where
    in_key : (k : ℕ) → get_or (front_of it.0) (3 + k) 0 ≡ get_or it.0.key.words k 0
    in_key k = ap (λ j. get_or (front_of it.0) j 0) (let e : 3 + k ≡ suc (suc (suc k)) = omega arith in e)

-- words that are looked for are those of the filter that is read from them
pub block_of : (words : List ℕ) (link : Option ℕ) → length words ≡ 40 → HasFilter words → plus_one link ≡ get_or words 39 0 → IsFilterBlock words (filter_read words, link)
block_of words link wide h e =
    let part : List ℕ = slice_range words 17 (17 + get_or words 2 0) in
    let few = h.few in
    let n : length part ≡ get_or words 2 0 = length_part words 17 (17 + get_or words 2 0) (omega arith) ∙ (omega arith) in
    let m : length (map action_in part) ≡ get_or words 2 0 = length-map part action_in ∙ n in
    let key : length (slice_range words 3 17) ≡ 14 = length_part words 3 17 (omega arith) in
    let same : names_of (filter_read words) ≡ part = worded_back part in
    let long : length (names_of (filter_read words)) ≡ get_or words 2 0 = ap length same ∙ n in
    record {
      storable = record { handle = h.handle; actions = All-map IsActionName action_in part h.actions };
      key = key;
      few = omega arith;
      link = link_fits link (rw e h.link);
      words_are = block_of_stands words (front_of (filter_read words)) (names_of (filter_read words)) link wide (omega arith) record {
        in_front = front m key;
        named = λ k low. ap (λ j. get_or words j 0) (omega arith) ∙ (sym (part_at words 17 (17 + get_or words 2 0) k (omega arith)) ∙ ap (λ ws. get_or ws k 0) (sym same));
        blank = λ i high low. blank_at words (17 + get_or words 2 0) i (omega arith) h.rest (omega arith) low;
        linked = sym e;
      };
    }
  where
    front : length (map action_in (slice_range words 17 (17 + get_or words 2 0))) ≡ get_or words 2 0 → length (slice_range words 3 17) ≡ 14
        → (i : ℕ) → i < length (front_of (filter_read words)) → get_or words i 0 ≡ get_or (front_of (filter_read words)) i 0
    front m key zero low = h.kind
    front m key (suc zero) low = refl
    front m key (suc (suc zero)) low = sym m
    front m key (suc (suc (suc k))) low = ap (λ j. get_or words j 0) (omega arith) ∙ sym (part_at words 3 17 k (omega arith))

-- nothing is read where nothing is found
pub none_read : (words : List ℕ) → length words ≡ 40 → (HasFilter words → ⊥) → IsTheOnly (IsFilterBlock words) None
none_read words wide lacks = none_only (IsFilterBlock words) (λ it b. lacks (has_of words it wide b))

pub some_read : (words : List ℕ) (stored : StoredFilter) (link : Option ℕ) → length words ≡ 40 → HasFilter words → stored ≡ filter_read words → plus_one link ≡ get_or words 39 0
    → IsTheOnly (IsFilterBlock words) (Some (stored, link))
some_read words stored link wide has is e = pair_only (IsFilterBlock words) stored link
    (subst (λ f. IsFilterBlock words (f, link)) (sym is) (block_of words link wide has e))
    (λ it b. (is ∙ filter_back words it wide b, e ∙ (stands words it b).linked))
