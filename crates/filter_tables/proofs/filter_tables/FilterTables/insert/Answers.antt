use Rattle.std.proofs.Common.{List, ap, sym, ◌∙◌, subst, arith}
use Rattle.std.specs.Prelude.{map}
use Rattle.std.specs.List.{list_any}
use Rattle.filter_tables.specs.declared.filter_table.FilterTable.{FilterTable}
use Rattle.filter_tables.specs.Room.{AreRising}
use Rattle.filter_tables.specs.Seen.{plain_table}
use Rattle.filter_tables.specs.TablePlaces.{IsTablePlace}
use Rattle.filter_tables.specs.Changes.{is_table, with_table}
use Rattle.filter_tables.proofs.TableOrder.{rising_with}
use Rattle.filter_tables.proofs.TableFinds.{inserted}
use Rattle.filter_tables.proofs.filter_tables.FilterTables.insert.Goals as goal

pub invariant_of-self : goal.invariant_of-self
invariant_of-self c =
    let P : List FilterTable → Type 0 = λ ts. IsTablePlace c.args.table.chain c.args.table.pref ts c.place_for-place.result in
    let point = subst P c.deref.ensures.value c.place_for-place.ensures in
    let put = inserted plain_table c.args.table c.self.inside.items.items c.place_for-place.result point.0
    (λ k d less. point.1.0 k d (omega arith) less) (λ d within. point.1.1 c.place_for-place.result d (omega arith) within) in
    let new = ap (λ v. list_any (is_table c.args.table.chain c.args.table.pref) v.tables) c.self.view_is ∙ c.requires.new in
    rw c.insert_within.ensures.items
    (subst AreRising (sym put) (rising_with (plain_table c.args.table) (map plain_table c.self.inside.items.items) c.self.invariant new))

pub returns : goal.returns
returns c =
    let P : List FilterTable → Type 0 = λ ts. IsTablePlace c.args.table.chain c.args.table.pref ts c.place_for-place.result in
    let point = subst P c.deref.ensures.value c.place_for-place.ensures in
    let put = inserted plain_table c.args.table c.self.inside.items.items c.place_for-place.result point.0
    (λ k d less. point.1.0 k d (omega arith) less) (λ d within. point.1.1 c.place_for-place.result d (omega arith) within) in
    rw c.insert_within.ensures.items (put ∙ ap (λ v. with_table (plain_table c.args.table) v.tables) c.self.view_is)
