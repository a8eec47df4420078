use Rattle.tc_words.proofs.MacParts.{masked_twice}
use Rattle.tc_words.proofs.mac_addresses.masked.Goals as goal

pub returns-clause-under_mask : goal.returns-clause-under_mask
returns-clause-under_mask c = masked_twice c.in_ok-address.address c.in_ok-mask.mask
