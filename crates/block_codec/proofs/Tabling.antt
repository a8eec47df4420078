-- A table's words, and the table in words.
use Rattle.std.proofs.Common.{◌≡◌, ℕ, zero, suc, ◌+◌, ◌/◌, ◌%◌, ◌<◌, ◌≤◌, Bool, cond, List, [], ◌∷◌, length, get_or, map, Option, None, Some, refl, ap, sym, ◌∙◌, subst, arith, eq-eqb, ne_eqb}
use mathlib.Core.Logic.{dite}
use native.Mathlib.Decide.{ℕ_discrete}
use Rattle.std.specs.Prelude.{All}
use Rattle.std.specs.List.{slice_range}
use Rattle.std.proofs.lemmas.List.{length-map}
use Rattle.std.proofs.lemmas.List.Elements.{All-map, All-weaker, All-head, All-tail}
use Rattle.tc_base.specs.declared.hook.Proto.{Proto}
use Rattle.tc_base.specs.declared.hook.Proto.TheVariants as protocols
use Rattle.visit_room.specs.declared.names.MaskName.{MaskName}
use Rattle.block_codec.specs.declared.table.StoredTable.{StoredTable}
use Rattle.block_codec.specs.Blocks.{both, plus_one, IsTheOnly}
use Rattle.block_codec.specs.Names.{mask_word, mask_in, IsMaskName}
use Rattle.block_codec.specs.Tables.{protocol_number, FitsProtocol, IsTableBlock}
use Rattle.block_codec.specs.Reading.{HasTable, protocol_in, table_read}
use Rattle.block_codec.proofs.Standing.{link_word, link_fits, blank_at, is_blank, none_only, pair_only, Stands, stands_of, block_of_stands, length_part, part_at, part_is}
use Rattle.block_codec.proofs.Halves.{low_of, high_of, both_of}

abbrev front_of : StoredTable → List ℕ
front_of stored = 3 ∷ both stored.serial stored.pref ∷ both stored.chain (protocol_number stored.protocol) ∷ length stored.masks ∷ []

abbrev names_of : StoredTable → List ℕ
names_of stored = map mask_word stored.masks

named_back : (xs : List MaskName) → All IsMaskName xs → map mask_in (map mask_word xs) ≡ xs
named_back [] all = refl
named_back (x ∷ xs) all = let is = All-head IsMaskName x xs all in let rest = named_back xs (All-tail IsMaskName x xs all) in
    let serial = low_of x.serial x.slot is.serial in let slot = high_of x.serial x.slot is.serial in
    λ i. record { serial = serial i; slot = slot i } ∷ rest i

worded_back : (ws : List ℕ) → map mask_word (map mask_in ws) ≡ ws
worded_back [] = refl
worded_back (w ∷ ws) = let one = both_of w in let rest = worded_back ws in λ i. one i ∷ rest i

protocol_back : (protocol : Proto) → FitsProtocol protocol → protocol_in (protocol_number protocol) ≡ protocol
protocol_back protocols.All fits = refl
protocol_back (protocols.Ether number) fits = ap (λ (b : Bool). cond b protocols.All (protocols.Ether number)) (ne_eqb number 65536 (λ e. absurd (omega arith)))

protocol_fits : (number : ℕ) → number ≤ 65536 → FitsProtocol (protocol_in number)
protocol_fits number low = dite (ℕ_discrete number 65536)
    (λ e. subst FitsProtocol (sym (ap (λ (b : Bool). cond b protocols.All (protocols.Ether number)) (eq-eqb number 65536 e))) tt)
    (λ ne. subst FitsProtocol (sym (ap (λ (b : Bool). cond b protocols.All (protocols.Ether number)) (ne_eqb number 65536 ne))) (omega arith))

number_back : (number : ℕ) → protocol_number (protocol_in number) ≡ number
number_back number = dite (ℕ_discrete number 65536)
    (λ e. ap (λ (b : Bool). protocol_number (cond b protocols.All (protocols.Ether number))) (eq-eqb number 65536 e) ∙ sym e)
    (λ ne. ap (λ (b : Bool). protocol_number (cond b protocols.All (protocols.Ether number))) (ne_eqb number 65536 ne))

number_low : (protocol : Proto) → FitsProtocol protocol → protocol_number protocol ≤ 65536
number_low protocols.All fits = omega arith
number_low (protocols.Ether number) fits = omega arith

stands : (words : List ℕ) (it : StoredTable × Option ℕ) → IsTableBlock words it → Stands words (front_of it.0) (names_of it.0) it.1
stands words it b = let few = b.few in let n = length-map it.0.masks mask_word in
    stands_of words (front_of it.0) (names_of it.0) it.1 (omega arith) b.words_are

masks_are : (words : List ℕ) (it : StoredTable × Option ℕ) → length words ≡ 40 → IsTableBlock words it → slice_range words 4 (4 + get_or words 3 0) ≡ names_of it.0
masks_are words it wide b = let s = stands words it b in let few = b.few in let n = length-map it.0.masks mask_word in
    let count : get_or words 3 0 ≡ length it.0.masks = s.in_front 3 (omega arith) in
    part_is words (names_of it.0) 4 (4 + get_or words 3 0) (omega arith) (omega arith) (λ k low. s.named k low)

-- the words of a table are those that are looked for
has_of : (words : List ℕ) (it : StoredTable × Option ℕ) → length words ≡ 40 → IsTableBlock words it → HasTable words
has_of words it wide b = let s = stands words it b in let few = b.few in let n = length-map it.0.masks mask_word in
    let count : get_or words 3 0 ≡ length it.0.masks = s.in_front 3 (omega arith) in
    let one : get_or words 1 0 ≡ both it.0.serial it.0.pref = s.in_front 1 (omega arith) in
    let two : get_or words 2 0 ≡ both it.0.chain (protocol_number it.0.protocol) = s.in_front 2 (omega arith) in
    let pref : get_or words 1 0 / 4294967296 ≡ it.0.pref = ap (λ n. n / 4294967296) one ∙ high_of it.0.serial it.0.pref b.serial in
    let low = b.storable.chain in let least = b.storable.pref.0 in let most = b.storable.pref.1 in
    let chain : get_or words 2 0 % 4294967296 ≡ it.0.chain = ap (λ n. n % 4294967296) two ∙ low_of it.0.chain (protocol_number it.0.protocol) (omega arith) in
    let protocol : get_or words 2 0 / 4294967296 ≡ protocol_number it.0.protocol = ap (λ n. n / 4294967296) two ∙ high_of it.0.chain (protocol_number it.0.protocol) (omega arith) in
    let small = number_low it.0.protocol b.protocol in record {
      kind = s.in_front 0 (omega arith);
      pref = (omega arith, omega arith);
      chain = omega arith;
      protocol = omega arith;
      few = omega arith;
      masks = subst (All (λ word. IsMaskName (mask_in word))) (sym (masks_are words it wide b)) (All-map (λ word. IsMaskName (mask_in word)) mask_word it.0.masks (named it.0.masks b.storable.masks));
      rest = is_blank words (4 + get_or words 3 0) wide (λ i high low. s.blank i (omega arith) low);
      link = rw s.linked (link_word it.1 b.link);
    }
  where
    named : (xs : List MaskName) → All IsMaskName xs → All (λ x. IsMaskName (mask_in (mask_word x))) xs
    named xs all = All-weaker IsMaskName (λ x. IsMaskName (mask_in (mask_word x))) (λ x is.
        let serial = low_of x.serial x.slot is.serial in let slot = high_of x.serial x.slot is.serial in let low = is.serial in let place = is.slot in
        record { serial = omega arith; slot = omega arith }) xs all

-- and the table that is read from them is that table
table_back : (words : List ℕ) (it : StoredTable × Option ℕ) → length words ≡ 40 → IsTableBlock words it → table_read words ≡ it.0
table_back words it wide b = let s = stands words it b in
    let one : get_or words 1 0 ≡ both it.0.serial it.0.pref = s.in_front 1 (omega arith) in
    let two : get_or words 2 0 ≡ both it.0.chain (protocol_number it.0.protocol) = s.in_front 2 (omega arith) in
    let low = b.storable.chain in
    let serial : get_or words 1 0 % 4294967296 ≡ it.0.serial = ap (λ n. n % 4294967296) one ∙ low_of it.0.serial it.0.pref b.serial in
    let pref : get_or words 1 0 / 4294967296 ≡ it.0.pref = ap (λ n. n / 4294967296) one ∙ high_of it.0.serial it.0.pref b.serial in
    let chain : get_or words 2 0 % 4294967296 ≡ it.0.chain = ap (λ n. n % 4294967296) two ∙ low_of it.0.chain (protocol_number it.0.protocol) (omega arith) in
    let protocol : get_or words 2 0 / 4294967296 ≡ protocol_number it.0.protocol = ap (λ n. n / 4294967296) two ∙ high_of it.0.chain (protocol_number it.0.protocol) (omega arith) in
    let number = ap protocol_in protocol ∙ protocol_back it.0.protocol b.protocol in
    let masks = ap (map mask_in) (masks_are words it wide b) ∙ named_back it.0.masks b.storable.masks in
    λ i. record { serial = serial i; chain = chain i; pref = pref i; protocol = number i; masks = masks i }

-- words that are looked for are those of the table that is read from them
block_of : (words : List ℕ) (link : Option ℕ) → length words ≡ 40 → HasTable words → plus_one link ≡ get_or words 39 0 → IsTableBlock words (table_read words, link)
block_of words link wide h e =
    let part : List ℕ = slice_range words 4 (4 + get_or words 3 0) in
    let few = h.few in
    let n : length part ≡ get_or words 3 0 = length_part words 4 (4 + get_or words 3 0) (omega arith) ∙ (omega arith) in
    let m : length (map mask_in part) ≡ get_or words 3 0 = length-map part mask_in ∙ n in
    let same : names_of (table_read words) ≡ part = worded_back part in
    let long : length (names_of (table_read words)) ≡ get_or words 3 0 = ap length same ∙ n in
    record {
      storable = record { chain = h.chain; pref = h.pref; masks = All-map IsMaskName mask_in part h.masks };
      serial = omega arith;
      protocol = protocol_fits (get_or words 2 0 / 4294967296) h.protocol;
      few = omega arith;
      link = link_fits link (rw e h.link);
      words_are = block_of_stands words (front_of (table_read words)) (names_of (table_read words)) link wide (omega arith) record {
        in_front = front m;
        named = λ k low. sym (part_at words 4 (4 + get_or words 3 0) k (omega arith)) ∙ ap (λ ws. get_or ws k 0) (sym same);
        blank = λ i high low. blank_at words (4 + get_or words 3 0) i wide h.rest (omega arith) low;
        linked = sym e;
      };
    }
  where
    front : length (map mask_in (slice_range words 4 (4 + get_or words 3 0))) ≡ get_or words 3 0 → (i : ℕ) → i < length (front_of (table_read words)) → get_or words i 0 ≡ get_or (front_of (table_read words)) i 0
    front m zero low = h.kind
    front m (suc zero) low = sym (both_of (get_or words 1 0))
    front m (suc (suc zero)) low = sym (ap (both (get_or words 2 0 % 4294967296)) (number_back (get_or words 2 0 / 4294967296)) ∙ both_of (get_or words 2 0))
    front m (suc (suc (suc zero))) low = sym m
    front m (suc (suc (suc (suc k)))) low = absurd (omega arith)

-- nothing is read where nothing is found
pub none_read : (words : List ℕ) → length words ≡ 40 → (HasTable words → ⊥) → IsTheOnly (IsTableBlock words) None
none_read words wide lacks = none_only (IsTableBlock words) (λ it b. lacks (has_of words it wide b))

pub some_read : (words : List ℕ) (stored : StoredTable) (link : Option ℕ) → length words ≡ 40 → HasTable words → stored ≡ table_read words → plus_one link ≡ get_or words 39 0
    → IsTheOnly (IsTableBlock words) (Some (stored, link))
some_read words stored link wide has is e = pair_only (IsTableBlock words) stored link
    (subst (λ f. IsTableBlock words (f, link)) (sym is) (block_of words link wide has e))
    (λ it b. (is ∙ table_back words it wide b, e ∙ (stands words it b).linked))
