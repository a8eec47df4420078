use Rattle.hook_meaning.proofs.OfEdits.Accepted as accepted
use Rattle.hook_meaning.proofs.edits.laws.accepted_edits.Goals as goal

pub returns-clause-leads : goal.returns-clause-leads
returns-clause-leads c = accepted.leads

pub returns-clause-lawful : goal.returns-clause-lawful
returns-clause-lawful c = accepted.lawful

pub returns-clause-sound : goal.returns-clause-sound
returns-clause-sound c = accepted.sound

pub returns-clause-next_sound : goal.returns-clause-next_sound
returns-clause-next_sound c = accepted.next_sound
