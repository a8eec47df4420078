-- The tables behind a line that was met.
use Rattle.std.proofs.Common.{◌≡◌, ◌∙◌, ℕ, ◌+◌, List, [], ◌∷◌, ◌++◌, length, refl, sym, ap, subst, append-nil, arith}
use Rattle.std.specs.Prelude.{Result, Ok, Err, OnOk, if◌then◌else◌}
use Rattle.filter_state.specs.declared.edit.Edit.{Edit}
use Rattle.filter_state.specs.States.{no_state}
use Rattle.filter_state.specs.Journals.{state_from}
use Rattle.hook_lists.specs.declared.kept.Kept.{Kept}
use Rattle.filter_lists.specs.Spells.{Spells}
use Rattle.journal_replay.specs.Passed.{Event}
use Rattle.journal_replay.specs.Passed.{is_accepted}
use Rattle.journal_replay.proofs.Passed.{result_counted}
use Rattle.journal_replay.specs.declared.replay.Replay.{Replay}
use Rattle.change_points.specs.Heads.{Heads, KnowsHeads}
use Rattle.change_lines.specs.Reached.{HasMet}

-- of one edit
pub noted : {T E : Type 0} (result : Result T E) (new : Heads) (journal own : List Edit) (lists : Kept) → length own ≡ 1
    → ((edit : Edit) → Spells lists (state_from no_state (journal ++ (edit ∷ []))) → OnOk result (KnowsHeads new (journal ++ (edit ∷ []))))
    → Spells lists (state_from no_state (journal ++ own)) → OnOk result (KnowsHeads new (journal ++ own))
noted result new journal [] lists long each spells = absurd (omega (arith, long))
noted result new journal (edit ∷ []) lists long each spells = each edit spells
noted result new journal (edit ∷ other ∷ own) lists long each spells = absurd (omega (arith, long))

-- of none
pub unnoted : (heads : Heads) (journal own : List Edit) → length own ≡ 0 → KnowsHeads heads journal → KnowsHeads heads (journal ++ own)
unnoted heads journal [] long knows = subst (KnowsHeads heads) (sym (append-nil journal)) knows
unnoted heads journal (edit ∷ own) long knows = absurd (omega (arith, long))

abbrev pub Notes : Heads → Heads → Kept → ℕ → Type 0
Notes old new lists many = (journal own : List Edit) → length own ≡ many → KnowsHeads old journal → Spells lists (state_from no_state (journal ++ own)) → KnowsHeads new (journal ++ own)

pub taken : (heads later : Heads) (old new : Replay) (words : List (List ℕ)) (number : ℕ) (event : Event) → HasMet old new words number event
    → Notes heads later new.lists (if is_accepted event.kind then 1 else 0) → KnowsHeads heads old.journal.items → KnowsHeads later new.journal.items
taken heads later old new words number event has notes knows =
    let (next, own, met, grown) = has.met in
    let long = result_counted (state_from no_state old.journal.items) words event.kind next own met in
    subst (KnowsHeads later) (sym grown)
    (notes old.journal.items own long knows (subst (λ (es : List Edit). Spells new.lists (state_from no_state es)) grown has.kept.spells))
