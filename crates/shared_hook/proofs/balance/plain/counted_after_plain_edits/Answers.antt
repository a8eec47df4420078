use Rattle.shared_hook.proofs.OfBalance.NoFilter.{marked, made, changed_one, deleted_one}
use Rattle.shared_hook.proofs.balance.plain.counted_after_plain_edits.Goals as goal

pub returns-clause-marked : goal.returns-clause-marked
returns-clause-marked c = marked

pub returns-clause-made : goal.returns-clause-made
returns-clause-made c = λ old new h b y t done line all a. made old new h b y t done all a line

pub returns-clause-changed : goal.returns-clause-changed
returns-clause-changed c = λ old new h b y t done line all a. changed_one old new h b y t done all a line

pub returns-clause-deleted : goal.returns-clause-deleted
returns-clause-deleted c = λ old new h b y t done kind index all a. deleted_one old new h b y t done all a kind index
