-- What a block reads as is what the calls that read it answer.
use Rattle.std.proofs.Common.{◌≡◌, ℕ, ◌<◌, List, length, get_or, Option, Some, None, refl, sym, ap}
use Rattle.std.specs.Option.{option_map}
use Rattle.block_codec.specs.declared.filter.StoredFilter.{StoredFilter}
use Rattle.block_codec.specs.declared.mask.StoredMask.{StoredMask}
use Rattle.block_codec.specs.declared.table.StoredTable.{StoredTable}
use Rattle.block_codec.specs.declared.action.StoredAction.{StoredAction}
use Rattle.block_codec.specs.Blocks.{IsTheOnly}
use Rattle.block_codec.specs.Filters.{IsFilterBlock}
use Rattle.block_codec.specs.Masks.{IsMaskBlock}
use Rattle.block_codec.specs.Tables.{IsTableBlock}
use Rattle.block_codec.specs.Actions.{IsActionBlock}
use Rattle.block_codec.specs.OfReadings.Read.{link_in, filter_in, mask_of_words, table_in, action_of_words}
use Rattle.block_codec.proofs.OfReadings.Only.{filter_only, mask_only, table_only}
use Rattle.block_codec.proofs.OfReadings.Acting.{action_only}

one_answer : {Thing : Type 0} (Is : Thing → Type 0) (a b : Option Thing) → IsTheOnly Is a → IsTheOnly Is b → a ≡ b
one_answer Is (Some x) b first other = sym (other.only x first.found)
one_answer Is None (Some y) first other = first.only y other.found
one_answer Is None None first other = refl

thing_in : {Thing : Type 0} (link : Option ℕ) (found : Option Thing) (it : Thing × Option ℕ) → Some it ≡ option_map (λ (x : Thing). (x, link)) found → Some it.0 ≡ found
thing_in link (Some x) it e = let same : it ≡ (x, link) = cc (e) in ap (λ (p : _). Some p.0) same
thing_in link None it e = absurd (cc (e))

nothing_in : {Thing : Type 0} (link : Option ℕ) (found : Option Thing) → ◌≡◌ {A = Option (Thing × Option ℕ)} None (option_map (λ (x : Thing). (x, link)) found) → None ≡ found
nothing_in link (Some x) e = absurd (cc (e))
nothing_in link None e = refl

pub filter_some : (words : List ℕ) (it : StoredFilter × Option ℕ) → length words ≡ 40 → IsTheOnly (IsFilterBlock words) (Some it) → Some it.0 ≡ filter_in words
filter_some words it wide only = thing_in (link_in words) (filter_in words) it (one_answer (IsFilterBlock words) (Some it) _ only (filter_only words wide))

pub filter_none : (words : List ℕ) → length words ≡ 40 → IsTheOnly (IsFilterBlock words) None → None ≡ filter_in words
filter_none words wide only = nothing_in (link_in words) (filter_in words) (one_answer (IsFilterBlock words) None _ only (filter_only words wide))

pub mask_some : (words : List ℕ) (it : StoredMask × Option ℕ) → length words ≡ 40 → ((place : ℕ) → get_or words place 0 < 18446744073709551616) → IsTheOnly (IsMaskBlock words) (Some it) → Some it.0 ≡ mask_of_words words
mask_some words it wide fits only = thing_in (link_in words) (mask_of_words words) it (one_answer (IsMaskBlock words) (Some it) _ only (mask_only words wide fits))

pub mask_none : (words : List ℕ) → length words ≡ 40 → ((place : ℕ) → get_or words place 0 < 18446744073709551616) → IsTheOnly (IsMaskBlock words) None → None ≡ mask_of_words words
mask_none words wide fits only = nothing_in (link_in words) (mask_of_words words) (one_answer (IsMaskBlock words) None _ only (mask_only words wide fits))

pub table_some : (words : List ℕ) (it : StoredTable × Option ℕ) → length words ≡ 40 → IsTheOnly (IsTableBlock words) (Some it) → Some it.0 ≡ table_in words
table_some words it wide only = thing_in (link_in words) (table_in words) it (one_answer (IsTableBlock words) (Some it) _ only (table_only words wide))

pub table_none : (words : List ℕ) → length words ≡ 40 → IsTheOnly (IsTableBlock words) None → None ≡ table_in words
table_none words wide only = nothing_in (link_in words) (table_in words) (one_answer (IsTableBlock words) None _ only (table_only words wide))

pub action_some : (words : List ℕ) (it : StoredAction × Option ℕ) → length words ≡ 40 → ((place : ℕ) → get_or words place 0 < 18446744073709551616) → IsTheOnly (IsActionBlock words) (Some it) → Some it.0 ≡ action_of_words words
action_some words it wide fits only = thing_in (link_in words) (action_of_words words) it (one_answer (IsActionBlock words) (Some it) _ only (action_only words wide fits))

pub action_none : (words : List ℕ) → length words ≡ 40 → ((place : ℕ) → get_or words place 0 < 18446744073709551616) → IsTheOnly (IsActionBlock words) None → None ≡ action_of_words words
action_none words wide fits only = nothing_in (link_in words) (action_of_words words) (one_answer (IsActionBlock words) None _ only (action_only words wide fits))
