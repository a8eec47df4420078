use Rattle.desk_needs.proofs.OfLiveCounts.Coming.{into_mask, with_mask, into_mask_led, with_mask_led}
use Rattle.desk_needs.proofs.live_counts.filters.counts_of_adds.Goals as goal

pub returns-clause-into_mask : goal.returns-clause-into_mask
returns-clause-into_mask c = into_mask

pub returns-clause-with_mask : goal.returns-clause-with_mask
returns-clause-with_mask c = with_mask

pub returns-clause-into_mask_led : goal.returns-clause-into_mask_led
returns-clause-into_mask_led c = into_mask_led

pub returns-clause-with_mask_led : goal.returns-clause-with_mask_led
returns-clause-with_mask_led c = with_mask_led
