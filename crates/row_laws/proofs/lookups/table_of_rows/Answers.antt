use Rattle.row_laws.proofs.OfLookups.Tables.{protocol_found, serial_found, row_missing, count_found}
use Rattle.row_laws.proofs.OfLookups.Lowest.{lowest_found}
use Rattle.row_laws.proofs.lookups.table_of_rows.Goals as goal

pub returns-clause-protocol : goal.returns-clause-protocol
returns-clause-protocol c = protocol_found

pub returns-clause-serial : goal.returns-clause-serial
returns-clause-serial c = serial_found

pub returns-clause-none : goal.returns-clause-none
returns-clause-none c = row_missing

pub returns-clause-count : goal.returns-clause-count
returns-clause-count c = count_found

pub returns-clause-lowest : goal.returns-clause-lowest
returns-clause-lowest c = lowest_found
