-- The row that comes, found in the lists.
use Rattle.std.proofs.Common.{◌≡◌, ◌∙◌, ℕ, ◌&&◌, true, List, Option, Some, None, sym}
use Rattle.std.proofs.lemmas.Bool.{and_parts, and_from}
use Rattle.filter_state.specs.declared.edit.FilterLine.{FilterLine}
use Rattle.filter_state.specs.declared.refusal.Done.TheVariants as dones
use Rattle.filter_state.specs.States.{Row}
use Rattle.filter_state.specs.Sound.{EachPair, GoTogether}
use Rattle.filter_state.specs.Tables.{in_table, has_mask, mask_row}
use Rattle.state_laws.proofs.Tests.{row_in_table, row_in_table_from, bytes_eq_true, bytes_eq_from}
use Rattle.state_past_laws.specs.OfChanges.Among.{Has}
use Rattle.state_past_laws.specs.OfChanges.Going.{IsComing}
use Rattle.state_past_laws.proofs.OfChanges.Among.{first_has, has_first}
use Rattle.state_past_laws.proofs.OfChanges.Stood.{akin_has}
use Rattle.state_past.specs.OfGoneFilters.Marks.{IsMaskRow}

module _ (line : FilterLine) (pref handle : ℕ) (serials : List ℕ) (row : Row) (is : IsComing line (dones.Filter pref handle serials) row) (rows : List Row) (has : Has row rows) where
  pub same_pref : pref ≡ row.pref
  same_pref = let answer = is.answer in cc answer

  pub same_handle : handle ≡ row.handle
  same_handle = let answer = is.answer in cc answer

  pub same_serials : serials ≡ row.actions
  same_serials = let answer = is.answer in cc answer

  passes : (in_table line.hook line.chain pref row && has_mask line.mask.words row) ≡ true
  passes = and_from (in_table line.hook line.chain pref row) (has_mask line.mask.words row) (row_in_table_from line.hook line.chain pref row is.hook is.chain (sym same_pref)) (bytes_eq_from row.mask line.mask.words is.mask)

  pub mask_is_there : mask_row line.hook line.chain pref line.mask.words rows ≡ None → ⊥
  mask_is_there none = let f = has_first (λ r. in_table line.hook line.chain pref r && has_mask line.mask.words r) rows row passes has in cc (none, f.1)

  pub its_mask : EachPair GoTogether rows → (serial : ℕ) (o : Option Row) → mask_row line.hook line.chain pref line.mask.words rows ≡ o → IsMaskRow serial o → serial ≡ row.mask_serial
  its_mask pairs serial None first found = absurd found
  its_mask pairs serial (Some r) first found =
      let own = first_has (λ x. in_table line.hook line.chain pref x && has_mask line.mask.words x) rows r first in
      let parts = and_parts (in_table line.hook line.chain pref r) (has_mask line.mask.words r) own.1 in
      let at = row_in_table line.hook line.chain pref r parts.0 in let mask = bytes_eq_true r.mask line.mask.words parts.1 in
      let akin = akin_has rows pairs r row own.0 has in
      sym found ∙ akin.one_mask (akin.one_table (at.0 ∙ sym is.hook) (at.1 ∙ sym is.chain) (at.2 ∙ same_pref)) (mask ∙ sym is.mask)
