use Rattle.shared_hook.proofs.OfBalance.Removed.{out, closes}
use Rattle.shared_hook.proofs.balance.filters.counted_after_removals.Goals as goal

pub returns-clause-out_of_mask : goal.returns-clause-out_of_mask
returns-clause-out_of_mask c = λ old new h k b y t done serials slot count later all a w names journal. out old new h k b y t done serials all a names journal slot count later w

pub returns-clause-masks : goal.returns-clause-masks
returns-clause-masks c = λ old between new placed left h k b base y t done serials masks hook all a w names journal.
    closes old new h k b y t done serials all a names journal between placed left base masks hook w
