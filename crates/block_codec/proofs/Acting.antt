-- An action's words, and the action in words.
use Rattle.std.proofs.Common.{◌≡◌, ℕ, zero, suc, ◌/◌, ◌%◌, ◌<◌, List, [], ◌∷◌, length, get_or, Option, None, Some, refl, ap, sym, ◌∙◌, subst, arith}
use Rattle.std.specs.Prelude.{unwrap_or}
use Rattle.std.specs.List.{slice_range}
use Rattle.act_kinds.specs.declared.params.VlanOp.TheVariants as ops
use Rattle.act_kinds.specs.declared.params.Params.{Params}
use Rattle.act_kinds.specs.declared.params.Params.TheVariants as params
use Rattle.block_codec.specs.declared.action.StoredAction.{StoredAction}
use Rattle.block_codec.specs.Blocks.{both, plus_one, IsTheOnly}
use Rattle.block_codec.specs.Parameters.{params_words, AreParamsIn}
use Rattle.block_codec.specs.Actions.{IsActionBlock}
use Rattle.block_codec.specs.Reading.{HasAction}
use Rattle.block_codec.proofs.Standing.{link_word, link_fits, blank_at, is_blank, none_only, pair_only, Stands, stands_of, block_of_stands, part_at, part_is}
use Rattle.block_codec.proofs.Halves.{low_of, high_of, both_of}

length_words : (given : Params) → length (params_words given) ≡ 5
length_words (params.Gact control) = refl
length_words (params.Vlan (ops.Push tpid id priority) control) = refl
length_words (params.Vlan ops.Pop control) = refl
length_words (params.Vlan (ops.Modify tpid id priority) control) = refl
length_words (params.Skbedit priority mark queue control) = refl

abbrev front_of : StoredAction → List ℕ
front_of stored = 4 ∷ both stored.serial stored.index ∷ []

stands : (words : List ℕ) (it : StoredAction × Option ℕ) → IsActionBlock words it → Stands words (front_of it.0) (params_words it.0.params) it.1
stands words it b = let n = length_words it.0.params in stands_of words (front_of it.0) (params_words it.0.params) it.1 (omega arith) b.words_are

-- the words of an action have those of its parameters
params_are : (words : List ℕ) (it : StoredAction × Option ℕ) → length words ≡ 40 → IsActionBlock words it → AreParamsIn (slice_range words 2 7) it.0.params
params_are words it wide b = let s = stands words it b in let n = length_words it.0.params in record {
  storable = b.storable.params;
  fit = b.fit;
  words_are = part_is words (params_words it.0.params) 2 7 (omega arith) (omega arith) (λ k low. s.named k low);
}

-- and beside them those that are looked for
has_of : (words : List ℕ) (it : StoredAction × Option ℕ) → length words ≡ 40 → IsActionBlock words it → HasAction words
has_of words it wide b = let s = stands words it b in let n = length_words it.0.params in
    let one : get_or words 1 0 ≡ both it.0.serial it.0.index = s.in_front 1 (omega arith) in
    let least = b.storable.serial.0 in let most = b.storable.serial.1 in let some = b.storable.index.0 in
    let serial : get_or words 1 0 % 4294967296 ≡ it.0.serial = ap (λ n. n % 4294967296) one ∙ low_of it.0.serial it.0.index (omega arith) in
    let index : get_or words 1 0 / 4294967296 ≡ it.0.index = ap (λ n. n / 4294967296) one ∙ high_of it.0.serial it.0.index (omega arith) in record {
      kind = s.in_front 0 (omega arith);
      serial = (omega arith, omega arith);
      index = omega arith;
      rest = is_blank words 7 wide (λ i high low. s.blank i (omega arith) low);
      link = rw s.linked (link_word it.1 b.link);
    }

-- words that are looked for are those of an action with the parameters that they have
block_of : (words : List ℕ) (given : Params) (link : Option ℕ) → length words ≡ 40 → ((i : ℕ) → get_or words i 0 < 18446744073709551616) → HasAction words
    → AreParamsIn (slice_range words 2 7) given → plus_one link ≡ get_or words 39 0
    → IsActionBlock words (record { serial = get_or words 1 0 % 4294967296; index = get_or words 1 0 / 4294967296; params = given }, link)
block_of words given link wide fits h p e =
    let n = length_words given in let fit = fits 1 in
    let stored : StoredAction = record { serial = get_or words 1 0 % 4294967296; index = get_or words 1 0 / 4294967296; params = given } in record {
      storable = record { serial = h.serial; index = (h.index, omega arith); params = p.storable };
      fit = p.fit;
      link = link_fits link (rw e h.link);
      words_are = block_of_stands words (front_of stored) (params_words given) link wide (omega arith) record {
        in_front = front;
        named = λ k low. sym (part_at words 2 7 k (omega arith)) ∙ ap (λ ws. get_or ws k 0) p.words_are;
        blank = λ i high low. blank_at words 7 i wide h.rest (omega arith) low;
        linked = sym e;
      };
    }
  where
    front : (i : ℕ) → i < 2 → get_or words i 0 ≡ get_or (4 ∷ both (get_or words 1 0 % 4294967296) (get_or words 1 0 / 4294967296) ∷ []) i 0
    front zero low = h.kind
    front (suc zero) low = sym (both_of (get_or words 1 0))
    front (suc (suc i)) low = absurd (omega arith)

-- nothing is read where nothing is found
pub none_read : (words : List ℕ) → length words ≡ 40 → (HasAction words → ⊥) → IsTheOnly (IsActionBlock words) None
none_read words wide lacks = none_only (IsActionBlock words) (λ it b. lacks (has_of words it wide b))

-- nor where there are no parameters
pub none_given : (words : List ℕ) → length words ≡ 40 → ((given : Params) → AreParamsIn (slice_range words 2 7) given → ⊥) → IsTheOnly (IsActionBlock words) None
none_given words wide lacks = none_only (IsActionBlock words) (λ it b. lacks it.0.params (params_are words it wide b))

pub some_read : (words : List ℕ) (serial index : ℕ) (given : Params) (link : Option ℕ) → length words ≡ 40 → ((i : ℕ) → get_or words i 0 < 18446744073709551616) → HasAction words
    → serial ≡ get_or words 1 0 % 4294967296 → index ≡ get_or words 1 0 / 4294967296 → plus_one link ≡ get_or words 39 0
    → AreParamsIn (slice_range words 2 7) given → ((other : Params) → AreParamsIn (slice_range words 2 7) other → ◌≡◌ {A = Option Params} (Some given) (Some other))
    → IsTheOnly (IsActionBlock words) (Some (record { serial = serial; index = index; params = given }, link))
some_read words serial index given link wide fits has s x e p only = pair_only (IsActionBlock words) (record { serial = serial; index = index; params = given }) link
    (subst (λ f. IsActionBlock words (f, link)) (λ i. record { serial = sym s i; index = sym x i; params = given }) (block_of words given link wide fits has p e))
    (λ it b.
    let st = stands words it b in let low = b.storable.serial.1 in
    let one : get_or words 1 0 ≡ both it.0.serial it.0.index = st.in_front 1 (omega arith) in
    let a = s ∙ (ap (λ n. n % 4294967296) one ∙ low_of it.0.serial it.0.index (omega arith)) in
    let d = x ∙ (ap (λ n. n / 4294967296) one ∙ high_of it.0.serial it.0.index (omega arith)) in
    let q : given ≡ it.0.params = ap (λ o. unwrap_or o given) (only it.0.params (params_are words it wide b)) in
    ((λ i. record { serial = a i; index = d i; params = q i }), e ∙ st.linked))
