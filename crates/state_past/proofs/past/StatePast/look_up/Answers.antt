use Rattle.std.proofs.Common.{◌≡◌, ◌∙◌, ◌∷◌, ℕ, List, Some, sym, ap, arith, length}
use Rattle.std.specs.Prelude.{option_copied}
use Rattle.flow_fields.specs.Values.{values_of}
use Rattle.flow_mask.specs.Masks.{each_and}
use Rattle.filter_state.specs.Journals.{state_at}
use Rattle.walk_rules.specs.Questions.{told_actions}
use Rattle.slot_pasts.specs.Pasts.{value_at, stood}
use Rattle.slot_pasts.specs.Names.{past_of}
use Rattle.state_past.specs.Told.{words_or_none}
use Rattle.state_past.proofs.Recalled.{unanswered, few_actions, slot_answers, sound_there, slot_there, words_there}
use Rattle.state_past.proofs.past.StatePast.look_up.Goals as goal

pub returns-in_default : goal.returns-in_default
returns-in_default c = λ journal remembers table. let past = c.args.self.now in
    unanswered (state_at c.args.point journal) c.args.mask table (values_of c.args.key.now.words) (sound_there past journal remembers c.args.point)
    (words_there past journal remembers c.args.point c.args.mask ∙ ap words_or_none (sym c.at.ensures ∙ ap option_copied c.in_default.is))

pub tell_actions-requires-clause-few : goal.tell_actions-requires-clause-few
tell_actions-requires-clause-few c = let past = c.args.self.now in let journal = c.requires.remembers.0 in let remembers = c.requires.remembers.1 in
    let name = c.slot_name-name.ensures ∙ ap (λ (ws : List ℕ). c.args.mask ∷ ws) c.masked.ensures.words in
    let few = few_actions (state_at c.args.point journal) c.args.mask (each_and c.args.key.now.words c.in-Some.words.now.words) c.in-Some-at.serials.now (sound_there past journal remembers c.args.point)
    (slot_there past journal remembers c.args.point c.args.mask (each_and c.args.key.now.words c.in-Some.words.now.words)
    ∙ (ap (λ (n : List ℕ). stood (value_at c.args.point (past_of past.slots n))) (sym name) ∙ (sym c.at-2.ensures ∙ ap option_copied c.in-Some-at.is))) in
    let same : length c.as_slice.result.now ≡ length c.in-Some-at.serials.now = ap length c.as_slice.ensures in
    omega (arith, few, same)

pub returns-in-Some-at : goal.returns-in-Some-at
returns-in-Some-at c = λ journal remembers table. let past = c.args.self.now in
    let name = c.slot_name-name.ensures ∙ ap (λ (ws : List ℕ). c.args.mask ∷ ws) c.masked.ensures.words in
    slot_answers (state_at c.args.point journal) c.args.mask table c.args.key.now.words c.in-Some.words.now.words (Some c.in-Some-at.serials.now) (sound_there past journal remembers c.args.point)
    (words_there past journal remembers c.args.point c.args.mask ∙ ap words_or_none (sym c.at.ensures ∙ ap option_copied c.in-Some.is)) c.key_words-mask.ensures.count c.key_words-words.ensures.count
    (slot_there past journal remembers c.args.point c.args.mask (each_and c.args.key.now.words c.in-Some.words.now.words)
    ∙ (ap (λ (n : List ℕ). stood (value_at c.args.point (past_of past.slots n))) (sym name) ∙ (sym c.at-2.ensures ∙ ap option_copied c.in-Some-at.is)))
    ∙ ap (λ (ns : List ℕ). Some (told_actions ns)) (sym (c.tell_actions.ensures ∙ c.as_slice.ensures))

pub returns-in-None : goal.returns-in-None
returns-in-None c = λ journal remembers table. let past = c.args.self.now in
    let name = c.slot_name-name.ensures ∙ ap (λ (ws : List ℕ). c.args.mask ∷ ws) c.masked.ensures.words in
    slot_answers (state_at c.args.point journal) c.args.mask table c.args.key.now.words c.in-Some.words.now.words _ (sound_there past journal remembers c.args.point)
    (words_there past journal remembers c.args.point c.args.mask ∙ ap words_or_none (sym c.at.ensures ∙ ap option_copied c.in-Some.is)) c.key_words-mask.ensures.count c.key_words-words.ensures.count
    (slot_there past journal remembers c.args.point c.args.mask (each_and c.args.key.now.words c.in-Some.words.now.words)
    ∙ (ap (λ (n : List ℕ). stood (value_at c.args.point (past_of past.slots n))) (sym name) ∙ (sym c.at-2.ensures ∙ ap option_copied c.in-None.is)))
