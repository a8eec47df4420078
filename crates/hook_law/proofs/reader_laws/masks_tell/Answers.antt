use Rattle.hook_law.proofs.Looking.{mask_stood, mask_tells, row_tells, record_holds}
use Rattle.hook_law.proofs.reader_laws.masks_tell.Goals as goal

pub returns-clause-stood : goal.returns-clause-stood
returns-clause-stood g c = mask_stood g.T.Terms.meaning g.T.Terms.codec

pub returns-clause-mask : goal.returns-clause-mask
returns-clause-mask g c = mask_tells g.T.Terms.meaning g.T.Terms.codec

pub returns-clause-row : goal.returns-clause-row
returns-clause-row g c = row_tells g.T.Terms.meaning g.T.Terms.codec

pub returns-clause-record : goal.returns-clause-record
returns-clause-record g c = record_holds g.T.Terms.meaning g.T.Terms.codec
