use Rattle.desk_heads.specs.OfHeadCommits.Built.{IsBuilt, IsConcerned}
use Rattle.desk_heads.proofs.OfHeadCommits.Giving.{head_lawful, head_rest, comes, sort_after, keeps_slot, stored_after}
use Rattle.desk_heads.proofs.head_commits.laws.given_tables.Goals as goal

pub returns-clause-lawful : goal.returns-clause-lawful
returns-clause-lawful c = λ h b y hook built. head_lawful h b y hook (IsConcerned h y built) (IsBuilt built)

pub returns-clause-rests : goal.returns-clause-rests
returns-clause-rests c = λ h b y hook built. head_rest h b y hook (IsConcerned h y built) (IsBuilt built)

pub returns-clause-comes : goal.returns-clause-comes
returns-clause-comes c = λ h b y hook built. comes h b y hook (IsConcerned h y built) (IsBuilt built)

pub returns-clause-named : goal.returns-clause-named
returns-clause-named c = λ h b y hook built. sort_after h b y hook (IsConcerned h y built) (IsBuilt built)

pub returns-clause-stays : goal.returns-clause-stays
returns-clause-stays c = λ h b y hook built. keeps_slot h b y hook (IsConcerned h y built) (IsBuilt built)

pub returns-clause-filters : goal.returns-clause-filters
returns-clause-filters c = λ h b y hook built. stored_after h b y hook (IsConcerned h y built) (IsBuilt built)
