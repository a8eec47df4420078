-- Tables and filters in the law's words.
use Rattle.std.proofs.Common.{◌≡◌, ◌≢◌, ℕ, zero, suc, map, refl, ap}
use Rattle.std.specs.Prelude.{filter}
use Rattle.tc_base.specs.declared.hook.Hook.{Hook}
use Rattle.tc_base.specs.declared.hook.Hook.TheVariants as hooks
use Rattle.filter_state.specs.States.{State}
use Rattle.filter_state.specs.Tables.{first_where, in_hook}
use Rattle.filter_state.specs.Order.{of_mask}
use Rattle.row_laws.specs.OfOrder.Sorted.{sorted}
use Rattle.row_laws.specs.OfOrder.Rows.{row_before}
use Rattle.walk_rules.specs.Heads.{heads_on, heads_in}
use Rattle.edit_effects.specs.OfEffects.Parts.{filter_of, words_in, words_of}
use Rattle.miniq_pair.specs.Heads.{hook_number}
use Rattle.hook_meaning.specs.Stated.{table_stated, filter_stated, tables_at, filters_at}

-- ---- rows that stay
-- what the law reads off the rows of a state
pub record RowsStay (s t : State) : Type 0 where
  pub heads : (number : ℕ) → tables_at t number ≡ tables_at s number
  pub words : (mask : ℕ) → words_of t mask ≡ words_of s mask
  pub filters : (mask : ℕ) → filters_at t mask ≡ filters_at s mask

-- ---- tables by the hook's number: beyond the two there are none
pub same_heads : (s t : State) → ((hook : Hook) → heads_on hook t ≡ heads_on hook s) → (number : ℕ) → tables_at t number ≡ tables_at s number
same_heads s t same zero = ap (map table_stated) (same hooks.Ingress)
same_heads s t same (suc zero) = ap (map table_stated) (same hooks.Egress)
same_heads s t same (suc (suc more)) = refl

not_egress : hooks.Egress ≡ hooks.Ingress → ⊥
not_egress e = cc

not_ingress : hooks.Ingress ≡ hooks.Egress → ⊥
not_ingress e = cc

pub other_heads : (hook : Hook) (s t : State) → ((other : Hook) → other ≢ hook → heads_on other t ≡ heads_on other s) → (number : ℕ) → number ≢ hook_number hook
    → tables_at t number ≡ tables_at s number
other_heads hooks.Ingress s t same zero differs = absurd (differs refl)
other_heads hooks.Ingress s t same (suc zero) differs = ap (map table_stated) (same hooks.Egress not_egress)
other_heads hooks.Egress s t same zero differs = ap (map table_stated) (same hooks.Ingress not_ingress)
other_heads hooks.Egress s t same (suc zero) differs = absurd (differs refl)
other_heads hook s t same (suc (suc more)) differs = refl

pub rows_stay : (s t : State) → t.rows ≡ s.rows → RowsStay s t
rows_stay s t same = record {
  heads = same_heads s t (λ hook. ap (λ rows. heads_in (sorted row_before (filter (in_hook hook) rows))) same);
  words = λ mask. ap (λ rows. words_in (first_where (of_mask mask) rows)) same;
  filters = λ mask. ap (λ rows. map filter_stated (map filter_of (filter (of_mask mask) rows))) same;
}
