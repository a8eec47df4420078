-- The page of a packet.
use Rattle.std.proofs.Common.{◌≡◌, ◌∙◌, ℕ, ◌+◌, ◌≤◌, List, [], ◌++◌, length, ap, ap₂, arith}
use Rattle.std.specs.Prelude.{Result, Ok, Err, OnOk, None}
use Rattle.tc_base.specs.declared.hook.Hook.{Hook}
use Rattle.walk_rules.specs.declared.limits.TheConstants.{VISITS_MAX}
use Rattle.walk_rules.specs.Questions.{Question}
use Rattle.walk_rules.specs.Steps.{begun}
use Rattle.state_past.specs.OfJournals.Answered.{Answerer, answer_by}
use Rattle.filter_origins.specs.Entries.{Entry}
use Rattle.trace_lines.specs.declared.told.Told.{Told}
use Rattle.trace_lines.specs.Steps.{Step, steps_of}
use Rattle.trace_lines.specs.Lines.{joined, walk_lines, decided_in}
use Rattle.walk_trace.specs.Tallies.{times_in}
use Rattle.journal_names.specs.Known.{answers_in, names_of}
use Rattle.batch_trace.specs.Traced.{steps_in}
use Rattle.batch_trace.proofs.Steps.{same_steps}

pub steps_told : (by : Answerer) (entries : List Entry) (point : ℕ) (hook : Hook) (bytes : List ℕ) → point ≡ length entries
    → ((question : Question) → answer_by by (length entries) question ≡ answers_in entries (length entries) question)
    → steps_of (answer_by by) (λ visit. point) VISITS_MAX (begun hook bytes) ≡ steps_in entries hook bytes
steps_told by entries point hook bytes at agree =
    ap (λ (p : ℕ). steps_of (answer_by by) (λ visit. p) VISITS_MAX (begun hook bytes)) at
    ∙ same_steps (answer_by by) (answers_in entries) (length entries) agree VISITS_MAX (begun hook bytes)

pub met_made : {T E : Type 0} (result : Result T E) (told : Told) (entries named : List Entry) (steps steps' : List Step) (page new : List ℕ) → named ≡ entries → steps ≡ steps'
    → OnOk result (new ≡ page ++ joined (walk_lines told (names_of named) None steps)) → OnOk result (new ≡ page ++ joined (walk_lines told (names_of entries) None steps'))
met_made (Ok done) told entries named steps steps' page new n s made =
    made ∙ ap₂ (λ (es : List Entry) (ss : List Step). page ++ joined (walk_lines told (names_of es) None ss)) n s
met_made (Err refused) told entries named steps steps' page new n s made = tt

pub decided_made : {T E : Type 0} (result : Result T E) (entries named : List Entry) (steps steps' : List Step) (cleared new : List ℕ) → named ≡ entries → steps ≡ steps' → cleared ≡ []
    → OnOk result (new ≡ cleared ++ decided_in (names_of named) steps) → OnOk result (new ≡ decided_in (names_of entries) steps')
decided_made (Ok done) entries named steps steps' cleared new n s none made =
    made ∙ ap (λ (edits : List ℕ). edits ++ decided_in (names_of named) steps) none ∙ ap₂ (λ (es : List Entry) (ss : List Step). decided_in (names_of es) ss) n s
decided_made (Err refused) entries named steps steps' cleared new n s none made = tt

pub few_made : {T E : Type 0} (result : Result T E) (cleared new : List ℕ) → cleared ≡ [] → OnOk result (length new ≤ length cleared + VISITS_MAX) → OnOk result (length new ≤ VISITS_MAX)
few_made (Ok done) cleared new none few = let nothing = ap length none in omega (arith, nothing, few)
few_made (Err refused) cleared new none few = tt

pub page_made : {T E : Type 0} (result : Result T E) (told : Told) (entries named : List Entry) (steps steps' : List Step) (cleared page new empty line lent own : List ℕ) → named ≡ entries → steps ≡ steps'
    → cleared ≡ [] → page ≡ cleared ++ joined (walk_lines told (names_of named) None steps) → empty ≡ [] → line ≡ empty ++ own → lent ≡ line → OnOk result (new ≡ page ++ lent)
    → OnOk result (new ≡ joined (walk_lines told (names_of entries) None steps') ++ own)
page_made (Ok done) told entries named steps steps' cleared page new empty line lent own n s c p e l same put =
    put ∙ ap₂ (λ (a b : List ℕ). a ++ b)
    (p ∙ ap (λ (text : List ℕ). text ++ joined (walk_lines told (names_of named) None steps)) c
    ∙ ap₂ (λ (es : List Entry) (ss : List Step). joined (walk_lines told (names_of es) None ss)) n s)
    (same ∙ l ∙ ap (λ (text : List ℕ). text ++ own) e)
page_made (Err refused) told entries named steps steps' cleared page new empty line lent own n s c p e l same put = tt

pub tally_made : {T E : Type 0} (result : Result T E) (entries named : List Entry) (steps steps' : List Step) (old new : ℕ → ℕ) → named ≡ entries → steps ≡ steps'
    → ((edit : ℕ) → new edit ≡ old edit + times_in (decided_in (names_of named) steps) edit) → OnOk result ((edit : ℕ) → new edit ≡ old edit + times_in (decided_in (names_of entries) steps') edit)
tally_made (Ok done) entries named steps steps' old new n s counts =
    λ edit. counts edit ∙ ap₂ (λ (es : List Entry) (ss : List Step). old edit + times_in (decided_in (names_of es) ss) edit) n s
tally_made (Err refused) entries named steps steps' old new n s counts = tt
