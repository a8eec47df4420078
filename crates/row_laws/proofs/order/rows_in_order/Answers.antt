use Rattle.row_laws.proofs.OfOrder.OrderedRows.{sorted_same, rows_stay}
use Rattle.row_laws.proofs.order.rows_in_order.Goals as goal

pub returns-clause-alike : goal.returns-clause-alike
returns-clause-alike c = λ xs ys same. sorted_same same

pub returns-clause-whole : goal.returns-clause-whole
returns-clause-whole c = rows_stay
