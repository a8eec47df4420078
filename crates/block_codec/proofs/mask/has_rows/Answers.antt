use Rattle.std.proofs.Common.{◌≡◌, ◌<◌, ◌∙◌, take, subst, sym}
use Rattle.std.specs.Prelude.{All}
use Rattle.std.specs.List.{slice_range}
use Rattle.std.proofs.lemmas.Bool.{false≢true}
use Rattle.store_history.specs.declared.places.TheConstants.{ROWS}
use Rattle.block_codec.proofs.mask.has_rows.Goals as goal

pub returns-then-are_rows : goal.returns-then-are_rows
returns-then-are_rows c = let e = c.rows_in-rows.ensures in let count = c.args.count in (
  (λ none. record {
    rows = subst (λ rows. All (λ row. row < ROWS) (take count rows)) e (c.are_rows.ensures.0 c.if-are_rows.true);
    rest = subst (λ rows. All (λ row. row ≡ 0) (slice_range rows count 64)) e (c.are_none.ensures.0 none);
  }),
  (λ has. c.are_none.ensures.1 (subst (λ rows. All (λ row. row ≡ 0) (slice_range rows count 64)) (sym e) has.rest)),
)

pub returns-else-are_rows : goal.returns-else-are_rows
returns-else-are_rows c = let e = c.rows_in-rows.ensures in let count = c.args.count in (
  (λ some. absurd (false≢true (sym c.if-are_rows.false ∙ some))),
  (λ has. c.are_rows.ensures.1 (subst (λ rows. All (λ row. row < ROWS) (take count rows)) (sym e) has.rows)),
)
