use Rattle.shared_hook.proofs.OfBalance.Coming.{into, with}
use Rattle.shared_hook.proofs.balance.filters.counted_after_adds.Goals as goal

pub returns-clause-into_mask : goal.returns-clause-into_mask
returns-clause-into_mask c = λ old new h b y t done slot count all a. into old new h b y t done all a slot count

pub returns-clause-with_mask : goal.returns-clause-with_mask
returns-clause-with_mask c = λ old new h b y t done hook all a. with old new h b y t done all a hook
