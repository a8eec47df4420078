use Rattle.std.proofs.Common.{sym, subst}
use Rattle.flow_mask.specs.Places.{HasPlaces}
use Rattle.filter_index.proofs.sieve.Sieve.agrees.Goals as goal

pub agree-requires-clause-listed : goal.agree-requires-clause-listed
agree-requires-clause-listed c = subst (λ s. HasPlaces c.args.mask.now 14 s.places s.count) (sym c.self.view_is) c.requires.listed
