use Rattle.state_past_laws.proofs.OfChanges.Moved.{told_on, grows_put, has_put}
use Rattle.state_past_laws.proofs.changes.pasts.pasts_go_on.Goals as goal

pub returns-clause-told : goal.returns-clause-told
returns-clause-told g c = λ has read past after journal edit tells grows now. told_on _ _ has read past after journal edit tells grows now

pub returns-clause-put : goal.returns-clause-put
returns-clause-put g c = λ from value past after grows. (grows_put from value past after grows, has_put from value after)
