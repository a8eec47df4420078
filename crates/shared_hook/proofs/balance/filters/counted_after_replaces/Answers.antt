use Rattle.shared_hook.proofs.OfBalance.Replaced.{in_place, other_key, to_other_mask}
use Rattle.shared_hook.proofs.balance.filters.counted_after_replaces.Goals as goal

pub returns-clause-in_place : goal.returns-clause-in_place
returns-clause-in_place c = λ old new h k b y t done serials slot later all a w names journal. in_place old new h k b y t done serials all a names journal slot later w

pub returns-clause-other_key : goal.returns-clause-other_key
returns-clause-other_key c = λ old new h k b y t done serials hook slot count all a w names journal. other_key old new h k b y t done serials all a names journal hook slot count w

pub returns-clause-other_mask : goal.returns-clause-other_mask
returns-clause-other_mask c = λ old new h k b y t done serials hook slot count given others all a w names journal.
    to_other_mask old new h k b y t done serials all a names journal hook slot count given others w
