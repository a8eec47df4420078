use Rattle.std.proofs.Common.{◌≡◌, ℕ, List, Option, map, position, ap, ◌∙◌, sym}
use Rattle.flow_fields.specs.declared.table.FieldRow.{FieldRow}
use Rattle.flow_fields.specs.Table.{fields, field_named, has_name, field_of_row}
use Rattle.flow_fields.proofs.Names.{position-map}
use Rattle.flow_fields.proofs.table.field_of.Goals as goal

found : (rows : List FieldRow) (name : List ℕ) (answer : Option ℕ) → map field_of_row rows ≡ fields →
    answer ≡ position (λ row. has_name name (field_of_row row)) rows → answer ≡ field_named name
found rows name answer table is = is ∙ sym (position-map field_of_row (has_name name) rows) ∙ ap (position (has_name name)) table

pub returns-in-Some-clause-number : goal.returns-in-Some-clause-number
returns-in-Some-clause-number c = sym c.in-Some.is ∙ found c.rows.result.now c.args.name.now c.place_of.result c.rows.ensures.fields c.place_of.ensures

pub returns-in-None-clause-number : goal.returns-in-None-clause-number
returns-in-None-clause-number c = sym c.in-None.is ∙ found c.rows.result.now c.args.name.now c.place_of.result c.rows.ensures.fields c.place_of.ensures
