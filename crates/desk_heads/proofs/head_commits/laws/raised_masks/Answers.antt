use Rattle.desk_heads.proofs.OfHeadCommits.Raising.{raise_lawful, raise_spares, raise_own, raise_prepares, raise_ready}
use Rattle.desk_heads.proofs.head_commits.laws.raised_masks.Goals as goal

pub returns-clause-lawful : goal.returns-clause-lawful
returns-clause-lawful c = raise_lawful

pub returns-clause-spares : goal.returns-clause-spares
returns-clause-spares c = raise_spares

pub returns-clause-own : goal.returns-clause-own
returns-clause-own c = raise_own

pub returns-clause-prepares : goal.returns-clause-prepares
returns-clause-prepares c = raise_prepares

pub returns-clause-ready : goal.returns-clause-ready
returns-clause-ready c = raise_ready
