use Rattle.walk_fate_laws.proofs.Rounding.{alone, of_worker}
use Rattle.walk_fate_laws.proofs.laws.one_packet_alone.Goals as goal

pub returns-clause-there : goal.returns-clause-there
returns-clause-there c = λ states before ceiling hook packets place bytes walk sound least is met.
    alone states ceiling hook sound before least packets place bytes walk is met

pub returns-clause-back : goal.returns-clause-back
returns-clause-back c = λ states before ceiling hook packets walks place bytes walk met is at.
    of_worker states ceiling hook before before packets walks place bytes walk met is at
