use Rattle.hook_meaning.proofs.OfEdits.OneMask.{gains_after}
use Rattle.hook_meaning.proofs.edits.filter_laws.filter_added.Goals as goal

pub returns : goal.returns
returns c = λ h b y t line pref handle serials row a is there. gains_after h b y t line pref handle serials a is row there
