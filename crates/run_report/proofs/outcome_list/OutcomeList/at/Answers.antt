use Rattle.std.proofs.Common.{◌≡◌, ◌∙◌, ◌<◌, ℕ, List, length, refl, sym, ap, arith}
use Rattle.std.specs.Prelude.{slice_range}
use Rattle.run_report.specs.declared.outcome_list.Row.{Row}
use Rattle.run_report.specs.Kept.{first_ends, ends_of, start_of, AreParts}
use Rattle.run_report.proofs.Buffers.{many_rows, parts_of, read_row}
use Rattle.run_report.proofs.outcome_list.OutcomeList.at.Goals as goal
use Rattle.run_report.proofs.outcome_list.OutcomeList.at.Goals.{After-index-row, After-deref}

within : (c : After-deref) → c.args.row < length c.self.inside.rows.items
within c =
    let many = many_rows c.self.inside.bytes.items c.self.inside.points.items c.self.inside.executed.items c.self.inside.rows.items c.args.self.now c.self.view_is in
    omega (arith, c.requires, many)

-- the packet's parts lie in the buffers
lie : (c : After-index-row)
    → AreParts c.start_of-start.result c.index-row.result.now.ends
    × AreParts c.index-row.result.now.ends (ends_of c.self.inside.bytes.items c.self.inside.points.items c.self.inside.executed.items)
lie c =
    let rows = c.self.inside.rows.items in
    let many = many_rows c.self.inside.bytes.items c.self.inside.points.items c.self.inside.executed.items rows c.args.self.now c.self.view_is in
    parts_of _ c.start_of-start.result rows c.args.row c.index-row.result.now (omega (arith, c.requires, many)) c.self.invariant (sym c.index-row.ensures)
    (c.start_of-start.ensures ∙ ap (λ (rs : List Row). start_of first_ends rs c.args.row) c.deref.ensures.value)

pub start_of-start-requires : goal.start_of-start-requires
start_of-start-requires c =
    let at = goal.at.start_of-start-requires c in
    omega (arith, within at.After-deref, ap length c.deref.ensures.value)

pub index-row-requires : goal.index-row-requires
index-row-requires c =
    let at = goal.at.index-row-requires c in
    omega (arith, within at.After-deref, c.self.inside.rows.ok.0)

pub part-requires : goal.part-requires
part-requires c =
    let at = goal.at.part-requires c in
    let there = lie at.After-index-row in
    (there.0.0, omega (arith, there.1.0, ap length c.deref-2.ensures.value))

pub part-requires-2 : goal.part-requires-2
part-requires-2 c =
    let at = goal.at.part-requires-2 c in
    let there = lie at.After-index-row in
    (there.0.1, omega (arith, there.1.1, ap length c.deref-3.ensures.value))

pub part-requires-3 : goal.part-requires-3
part-requires-3 c =
    let at = goal.at.part-requires-3 c in
    let there = lie at.After-index-row in
    (there.0.2, omega (arith, there.1.2, ap length c.deref-4.ensures.value))

pub returns : goal.returns
returns c =
    let at = goal.at.returns c in
    let start = c.start_of-start.result in
    let row = c.index-row.result.now in
    let bytes : c.part.result.now ≡ slice_range c.self.inside.bytes.items start.bytes row.ends.bytes = c.part.ensures ∙ ap (λ (xs : List ℕ). slice_range xs start.bytes row.ends.bytes) c.deref-2.ensures.value in
    let points : c.part-2.result.now ≡ slice_range c.self.inside.points.items start.points row.ends.points = c.part-2.ensures ∙ ap (λ (xs : List ℕ). slice_range xs start.points row.ends.points) c.deref-3.ensures.value in
    let executed : c.part-3.result.now ≡ slice_range c.self.inside.executed.items start.executed row.ends.executed = c.part-3.ensures ∙ ap (λ (xs : List (ℕ × ℕ)). slice_range xs start.executed row.ends.executed) c.deref-4.ensures.value in
    read_row c.self.inside.bytes.items c.self.inside.points.items c.self.inside.executed.items c.self.inside.rows.items c.args.self.now c.self.view_is
    c.args.row row row start _ (within at.After-deref) (sym c.index-row.ensures)
    (c.start_of-start.ensures ∙ ap (λ (rs : List Row). start_of first_ends rs c.args.row) c.deref.ensures.value) (rw (bytes, points, executed) refl)
