use Rattle.filter_index.proofs.filters.if_masked.Goals as goal

pub agrees-requires-clause-listed : goal.agrees-requires-clause-listed
agrees-requires-clause-listed c = c.requires.listed
