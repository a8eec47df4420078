-- A worker's lists follow a journal.
use Rattle.std.proofs.Common.{◌≡◌, ◌∙◌, ℕ, zero, suc, ◌+◌, ◌≤◌, List, [], ◌∷◌, length, take, Some, Ok, Err, sym, ap, subst, arith}
use Rattle.std.specs.Prelude.{slice_get}
use Rattle.filter_state.specs.declared.edit.Edit.{Edit}
use Rattle.filter_state.specs.declared.refusal.Done.{Done}
use Rattle.filter_state.specs.declared.refusal.Refusal.{Refusal}
use Rattle.filter_state.specs.declared.refusal.Refusal.TheVariants as refusals
use Rattle.filter_state.specs.Lines.{IsLine}
use Rattle.filter_state.specs.States.{State, no_state}
use Rattle.filter_state.specs.Steps.{Stepped, step}
use Rattle.filter_state.specs.Journals.{state_after, state_from, state_at, Accepts, IsLawfulFrom, IsLawful}
use Rattle.hook_lists.specs.declared.kept.Kept.{Kept}
use Rattle.filter_lists.specs.Spells.{Spells}
use Rattle.filter_lists.specs.Edits.{IsStepped, MayStep}
use Rattle.std.proofs.lemmas.List.{length-take}
use Rattle.journal_replay.proofs.Meeting.{may_step}
use Rattle.tc_base.specs.Memory.{no_memory}

step_from : (s : State) (journal : List Edit) (k : ℕ) (edit : Edit) → slice_get journal k ≡ Some edit
    → state_from s (take (k + 1) journal) ≡ state_after (state_from s (take k journal)) (step (state_from s (take k journal)) edit)
step_from s [] k edit is = absurd (cc is)
step_from s (first ∷ journal) zero edit is = let same : first ≡ edit = cc in ap (λ (e : Edit). state_after s (step s e)) same
step_from s (first ∷ journal) (suc k) edit is =
    let more : suc k + 1 ≡ suc (k + 1) = omega arith in
    ap (λ (n : ℕ). state_from s (take n (first ∷ journal))) more ∙ step_from (state_after s (step s first)) journal k edit is

line_from : (s : State) (journal : List Edit) (k : ℕ) (edit : Edit) → IsLawfulFrom s journal → slice_get journal k ≡ Some edit → IsLine edit
line_from s [] k edit lawful is = absurd (cc is)
line_from s (first ∷ journal) zero edit lawful is = let same : first ≡ edit = cc in subst IsLine same lawful.0
line_from s (first ∷ journal) (suc k) edit lawful is = line_from (state_after s (step s first)) journal k edit lawful.2 is

pub is_line : (journal : List Edit) (k : ℕ) (edit : Edit) → IsLawful journal → slice_get journal k ≡ Some edit → IsLine edit
is_line journal k edit lawful is = line_from no_state journal k edit lawful is

few_taken : (journal : List Edit) (k : ℕ) → length journal ≤ 262144 → length (take k journal) ≤ 262144
few_taken journal k few = let most = length-take k journal in omega (arith, most, few)

pub may_follow : (journal : List Edit) (k : ℕ) (lists : Kept) → Spells lists (state_at k journal) → length journal ≤ 262144 → MayStep lists
may_follow journal k lists spells few = may_step (take k journal) lists spells (few_taken journal k few)

after_ok : (old new : Kept) (s : State) (done : Done) (it : Stepped) → IsStepped old new (Ok done) it → Spells new (state_after s it)
after_ok old new s done (Ok (next, said)) is = is.1
after_ok old new s done (Err said) is = absurd is

-- the lists behind an edit that was accepted
pub followed : (journal : List Edit) (k : ℕ) (edit : Edit) (old new : Kept) (done : Done) → slice_get journal k ≡ Some edit → Spells old (state_at k journal)
    → ((s : State) → Spells old s → IsStepped old new (Ok done) (step s edit)) → Spells new (state_at (k + 1) journal)
followed journal k edit old new done is spells stepped =
    subst (Spells new) (sym (step_from no_state journal k edit is))
    (after_ok old new (state_at k journal) done (step (state_at k journal) edit) (stepped (state_at k journal) spells))

-- ---- no edit of a lawful journal is refused but for want of memory
accepts_from : (s : State) (journal : List Edit) (k : ℕ) (edit : Edit) → IsLawfulFrom s journal → slice_get journal k ≡ Some edit
    → Accepts (state_from s (take k journal)) edit (step (state_from s (take k journal)) edit)
accepts_from s [] k edit lawful is = absurd (cc is)
accepts_from s (first ∷ journal) zero edit lawful is = let same : first ≡ edit = cc in subst (λ (e : Edit). Accepts s e (step s e)) same lawful.1
accepts_from s (first ∷ journal) (suc k) edit lawful is = accepts_from (state_after s (step s first)) journal k edit lawful.2 is

wants_memory : (old new : Kept) (s : State) (edit : Edit) (refusal : Refusal) (it : Stepped) → Accepts s edit it → IsStepped old new (Err refusal) it → refusal ≡ refusals.NoMemory no_memory
wants_memory old new s edit refusal (Ok next) accepts is = is.0
wants_memory old new s edit refusal (Err said) accepts is = absurd accepts

pub only_memory : (journal : List Edit) (k : ℕ) (edit : Edit) (old new : Kept) (refusal : Refusal) → IsLawful journal → slice_get journal k ≡ Some edit → Spells old (state_at k journal)
    → ((s : State) → Spells old s → IsStepped old new (Err refusal) (step s edit)) → refusal ≡ refusals.NoMemory no_memory
only_memory journal k edit old new refusal lawful is spells stepped =
    let s : State = state_at k journal in
    wants_memory old new s edit refusal (step s edit) (accepts_from no_state journal k edit lawful is) (stepped s spells)
