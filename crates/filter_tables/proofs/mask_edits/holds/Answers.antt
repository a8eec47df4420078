use Rattle.std.proofs.Common.{ap, sym, ◌∙◌}
use Rattle.std.specs.Prelude.{is_some, find}
use Rattle.filter_index.specs.Listed.{FilterRoom, has_handle}
use Rattle.filter_tables.proofs.Swept.{found_any, copied_some}
use Rattle.filter_tables.proofs.mask_edits.holds.Goals as goal

pub returns : goal.returns
returns c =
    c.is_some.ensures ∙ sym (copied_some c.with_handle.result) ∙ ap is_some c.with_handle.ensures
    ∙ ap (λ (room : FilterRoom). is_some (find (has_handle c.args.handle) room.filters)) c.filters.ensures
    ∙ found_any (has_handle c.args.handle) c.args.list.now.filters.filters
