-- What words read as is the one thing whose words they are.
use Rattle.std.proofs.Common.{◌≡◌, ◌∙◌, ℕ, zero, suc, ◌+◌, ◌<◌, List, length, get_or, Option, Some, None, refl, sym, arith}
use Rattle.std.specs.Prelude.{Bool, true, false, if◌then◌else◌}
use Rattle.std.specs.Option.{option_map}
use Rattle.std.proofs.lemmas.Bool.{true≢false}
use Rattle.block_codec.specs.declared.filter.StoredFilter.{StoredFilter}
use Rattle.block_codec.specs.declared.mask.StoredMask.{StoredMask}
use Rattle.block_codec.specs.declared.table.StoredTable.{StoredTable}
use Rattle.block_codec.specs.Blocks.{plus_one, IsTheOnly}
use Rattle.block_codec.specs.Filters.{IsFilterBlock}
use Rattle.block_codec.specs.Masks.{IsMaskBlock}
use Rattle.block_codec.specs.Tables.{IsTableBlock}
use Rattle.block_codec.specs.Reading.{filter_read, mask_read, table_read}
use Rattle.block_codec.proofs.Filtering as filters
use Rattle.block_codec.proofs.Masking as masks
use Rattle.block_codec.proofs.Tabling as tables
use Rattle.block_codec.specs.OfReadings.Read.{link_in, block_before, is_filter, filter_in, is_mask, mask_of_words, is_table, table_in}
use Rattle.block_codec.proofs.OfReadings.Testing.{filter_has, filter_test, mask_has, mask_tested, table_has, table_test}

pub linked : (word : ℕ) → plus_one (block_before word) ≡ word
linked zero = refl
linked (suc n) = let e : n + 1 ≡ suc n = omega arith in e

chosen : {Thing : Type 0} (Is : Thing × Option ℕ → Type 0) (link : Option ℕ) (thing : Thing) (test : Bool) → (test ≡ true → IsTheOnly Is (Some (thing, link))) → (test ≡ false → IsTheOnly Is None)
    → IsTheOnly Is (option_map (λ (it : Thing). (it, link)) (if test then Some thing else None))
chosen Is link thing true there nowhere = there refl
chosen Is link thing false there nowhere = nowhere refl

pub filter_only : (words : List ℕ) → length words ≡ 40 → IsTheOnly (IsFilterBlock words) (option_map (λ (it : StoredFilter). (it, link_in words)) (filter_in words))
filter_only words wide = chosen (IsFilterBlock words) (link_in words) (filter_read words) (is_filter words)
    (λ e. filters.some_read words (filter_read words) (link_in words) wide (filter_has words e) refl (linked (get_or words 39 0)))
    (λ e. filters.none_read words wide (λ has. true≢false (sym (filter_test words has) ∙ e)))

pub mask_only : (words : List ℕ) → length words ≡ 40 → ((place : ℕ) → get_or words place 0 < 18446744073709551616) → IsTheOnly (IsMaskBlock words) (option_map (λ (it : StoredMask). (it, link_in words)) (mask_of_words words))
mask_only words wide fits = chosen (IsMaskBlock words) (link_in words) (mask_read words) (is_mask words)
    (λ e. masks.some_read words (mask_read words) (link_in words) wide fits (mask_has words e) refl (linked (get_or words 39 0)))
    (λ e. masks.none_read words wide (λ has. true≢false (sym (mask_tested words has) ∙ e)))

pub table_only : (words : List ℕ) → length words ≡ 40 → IsTheOnly (IsTableBlock words) (option_map (λ (it : StoredTable). (it, link_in words)) (table_in words))
table_only words wide = chosen (IsTableBlock words) (link_in words) (table_read words) (is_table words)
    (λ e. tables.some_read words (table_read words) (link_in words) wide (table_has words e) refl (linked (get_or words 39 0)))
    (λ e. tables.none_read words wide (λ has. true≢false (sym (table_test words has) ∙ e)))
