use Rattle.std.proofs.Common.{◌≡◌, ◌==◌, length, ap, sym, ◌∙◌, subst}
use Rattle.std.specs.Prelude.{map}
use Rattle.std.proofs.lemmas.List.{length-map}
use Rattle.filter_tables.specs.Room.{AreRising}
use Rattle.filter_tables.specs.Seen.{plain_table}
use Rattle.filter_tables.specs.SeenMask.{plain_mask}
use Rattle.filter_tables.specs.Changes.{cleared}
use Rattle.filter_tables.proofs.TableOrder.{rising_cleared}
use Rattle.filter_tables.proofs.TableChanges.{within_items, cleared_gone, cleared_kept}
use Rattle.filter_tables.proofs.filter_tables.FilterTables.clear.Goals as goal

pub invariant_of-self : goal.invariant_of-self
invariant_of-self c =
    let list : map plain_table c.self.inside.items.items ≡ c.args.self.now.tables = ap (λ v. v.tables) c.self.view_is in
    let within = within_items plain_table c.self.inside.items.items c.args.self.now.tables c.args.table list c.requires in
    let long : length c.as_slice.result.now ≡ length c.index.result.now.masks.masks = sym (length-map c.as_slice.result.now plain_mask) ∙ ap length c.as_slice.ensures in
    let left = ap (λ n. n == 0) (sym long) ∙ sym c.is_empty.ensures ∙ c.if-is_empty.true in
    let gone = cleared_gone plain_table c.self.inside.items.items c.args.table c.index.result.now within c.index.ensures left in
    rw c.remove.ensures.items (subst AreRising (sym gone) (rising_cleared c.args.table (map plain_table c.self.inside.items.items) c.self.invariant))

pub returns-then-is_empty : goal.returns-then-is_empty
returns-then-is_empty c =
    let list : map plain_table c.self.inside.items.items ≡ c.args.self.now.tables = ap (λ v. v.tables) c.self.view_is in
    let within = within_items plain_table c.self.inside.items.items c.args.self.now.tables c.args.table list c.requires in
    let long : length c.as_slice.result.now ≡ length c.index.result.now.masks.masks = sym (length-map c.as_slice.result.now plain_mask) ∙ ap length c.as_slice.ensures in
    let left = ap (λ n. n == 0) (sym long) ∙ sym c.is_empty.ensures ∙ c.if-is_empty.true in
    rw c.remove.ensures.items (cleared_gone plain_table c.self.inside.items.items c.args.table c.index.result.now within c.index.ensures left ∙ ap (cleared c.args.table) list)

pub returns-else-is_empty : goal.returns-else-is_empty
returns-else-is_empty c =
    let list : map plain_table c.self.inside.items.items ≡ c.args.self.now.tables = ap (λ v. v.tables) c.self.view_is in
    let within = within_items plain_table c.self.inside.items.items c.args.self.now.tables c.args.table list c.requires in
    let long : length c.as_slice.result.now ≡ length c.index.result.now.masks.masks = sym (length-map c.as_slice.result.now plain_mask) ∙ ap length c.as_slice.ensures in
    let left = ap (λ n. n == 0) (sym long) ∙ sym c.is_empty.ensures ∙ c.if-is_empty.false in
    sym list ∙ cleared_kept plain_table c.self.inside.items.items c.args.table c.index.result.now within c.index.ensures left ∙ ap (cleared c.args.table) list
