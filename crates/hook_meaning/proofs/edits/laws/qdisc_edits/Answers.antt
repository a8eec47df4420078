use Rattle.hook_meaning.proofs.OfEdits.Marking.{leaves_masks, makes_none, qdisc_unseen}
use Rattle.hook_meaning.proofs.edits.laws.qdisc_edits.Goals as goal

pub returns-clause-leaves : goal.returns-clause-leaves
returns-clause-leaves c = λ h b y t done a is. leaves_masks h b y t done a (qdisc_unseen h b y t done a is)

pub returns-clause-none_comes : goal.returns-clause-none_comes
returns-clause-none_comes c = λ h b y t done a is. makes_none h b y t done a (qdisc_unseen h b y t done a is)
