-- Where fields stand, and how great their values are.
use Rattle.std.proofs.Common.{◌≡◌, ◌∙◌, ℕ, ◌^◌, ◌<◌, ◌⊎◌, sym, ap, subst, inl, inr}
use Rattle.flow_fields.specs.Table.{field_at}
use Rattle.flow_fields.proofs.Places.{placed}
use Rattle.tc_batch.specs.declared.field_name.FieldName.{FieldName}
use Rattle.tc_batch.specs.FieldNames.{field_number}
use Rattle.tc_batch.proofs.FieldWidths.{width_of, width_is}

pub word_below : (field : ℕ) → field < 20 → (field_at field).word < 14
word_below field here = let place = placed field here in place.word

-- a number that fits into a field has no more bits than the field's name says
pub below : (name : FieldName) (width n : ℕ) → width_of name ≡ width → n < 2 ^ (field_at (field_number name)).width
    → n < 2 ^ width
below name width n wide fits = subst (λ w. n < 2 ^ w) (sym (width_is name) ∙ wide) fits

-- the same of a field that has one of two names
pub below_either : (name one other : FieldName) (width n : ℕ) → width_of one ≡ width → width_of other ≡ width
    → (name ≡ one) ⊎ (name ≡ other) → n < 2 ^ (field_at (field_number name)).width → n < 2 ^ width
below_either name one other width n wide too (inl is) fits = below name width n (ap width_of is ∙ wide) fits
below_either name one other width n wide too (inr is) fits = below name width n (ap width_of is ∙ too) fits
