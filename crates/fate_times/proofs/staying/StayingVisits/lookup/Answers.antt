use Rattle.std.proofs.Common.{inl, inr, refl}
use Rattle.fate_times.proofs.Stayed.{are_any}
use Rattle.fate_times.proofs.staying.StayingVisits.lookup.Goals as goal

pub returns-in-Some-clause-told : goal.returns-in-Some-clause-told
returns-in-Some-clause-told g c = (
  refl,
  refl,
  record {
    is = inl (c.in-Some.ensures c.args._table);
    change = c.look_up_after-change.result;
    changes = c.look_up_after-change.ensures c.args._table;
    goes = c.sooner-self.ensures;
  },
)

pub returns-in-Some-clause-actions : goal.returns-in-Some-clause-actions
returns-in-Some-clause-actions g c = are_any c.look_up.new.into

pub returns-in-None-clause-told : goal.returns-in-None-clause-told
returns-in-None-clause-told g c = (
  refl,
  refl,
  record {
    is = inr (c.in-None.ensures c.args._table);
    change = c.look_up_after-change.result;
    changes = c.look_up_after-change.ensures c.args._table;
    goes = c.sooner-self.ensures;
  },
)

pub returns-in-None-clause-actions : goal.returns-in-None-clause-actions
returns-in-None-clause-actions g c = are_any c.look_up.new.into
