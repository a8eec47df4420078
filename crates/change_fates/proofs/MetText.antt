-- What a walk met is put on the page.
use Rattle.std.proofs.Common.{◌≡◌, ◌∙◌, ℕ, List, ◌++◌, ap, ap₂}
use Rattle.std.specs.Prelude.{Result, Ok, Err, OnOk, None}
use Rattle.filter_origins.specs.Entries.{Entry}
use Rattle.journal_names.specs.Known.{names_of}
use Rattle.trace_lines.specs.declared.told.Told.{Told}
use Rattle.trace_lines.specs.Steps.{Step}
use Rattle.trace_lines.specs.Lines.{joined, walk_lines}

pub page_is : {T E : Type 0} (result : Result T E) (told : Told) (entries named : List Entry) (steps steps' : List Step) (page new : List ℕ) → named ≡ entries → steps ≡ steps'
    → OnOk result (new ≡ page ++ joined (walk_lines told (names_of named) None steps)) → OnOk result (new ≡ page ++ joined (walk_lines told (names_of entries) None steps'))
page_is (Ok done) told entries named steps steps' page new n s put = put ∙ ap₂ (λ (es : List Entry) (ss : List Step). page ++ joined (walk_lines told (names_of es) None ss)) n s
page_is (Err refused) told entries named steps steps' page new n s put = tt
