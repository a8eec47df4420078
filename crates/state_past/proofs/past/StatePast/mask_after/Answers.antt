use Rattle.std.proofs.Common.{ℕ, List}
use Rattle.filter_state.specs.Journals.{state_at}
use Rattle.edit_effects.specs.OfEffects.Parts.{words_of}
use Rattle.slot_pasts.specs.Pasts.{value_at}
use Rattle.slot_pasts.specs.Serials.{past_at}
use Rattle.state_past.specs.Told.{words_told}
use Rattle.state_past.proofs.Changing.{change_told}
use Rattle.state_past.proofs.Recalled.{words_there}
use Rattle.state_past.proofs.past.StatePast.mask_after.Goals as goal

pub returns : goal.returns
returns c = λ journal remembers. let past = c.args.self.now in
    change_told (λ at. words_told (value_at at (past_at past.masks c.args.serial)))
    (λ at. words_of (state_at at journal) c.args.serial) (λ (ws : List ℕ). ws)
    c.args.point c.other_words_after.result (λ a b same. same)
    (λ p. words_there past journal remembers p c.args.serial) c.other_words_after.ensures
