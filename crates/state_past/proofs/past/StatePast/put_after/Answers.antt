use Rattle.std.proofs.Common.{◌≡◌, ◌∙◌, ◌∷◌, ℕ, List, sym, ap, subst}
use Rattle.std.specs.Prelude.{option_copied}
use Rattle.slot_pasts.specs.Pasts.{value_at}
use Rattle.slot_pasts.specs.Names.{past_of}
use Rattle.state_past.specs.Told.{words_or_none}
use Rattle.state_past.proofs.Finding.{found_steady}
use Rattle.state_past.proofs.past.StatePast.put_after.Goals as goal

pub returns-clause-steady : goal.returns-clause-steady
returns-clause-steady c = λ later from before.
    let both = c.earlier.ensures.least later before in
    let slots = c.args.self.now.slots in
    let name = c.slot_name-name.ensures ∙ ap (λ (ws : List ℕ). c.args.mask ∷ ws) c.masked.ensures.words in
    found_steady c.args.self.now c.args.mask c.args.key.now.words c.args.point later c.in-Some.words.now.words
    (ap words_or_none (sym c.at.ensures ∙ ap option_copied c.in-Some.is))
    (c.after-of_mask.ensures.steady later from both.0)
    (subst (λ (n : List ℕ). value_at later (past_of slots n) ≡ value_at c.args.point (past_of slots n)) name
    (c.after.ensures.steady later from both.1))
