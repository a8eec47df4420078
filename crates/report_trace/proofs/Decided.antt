-- The lines that tell how often each filter decided.
use Rattle.std.proofs.Common.{◌≡◌, ◌∙◌, ℕ, ◌≤◌, List, ◌++◌, take, length, sym, ap}
use Rattle.std.specs.List.{flat_map}
use Rattle.std.proofs.lemmas.List.{take_all}
use Rattle.batch_trace.proofs.Passed.{flat_mapped}
use Rattle.walk_texts.specs.Texts.{joined}
use Rattle.batch_trace.specs.Passed.{Brought}
use Rattle.batch_trace.specs.Passed.{decided_line}
use Rattle.report_trace.specs.Traced.{decided_with}

abbrev pub line_with : (ℕ → ℕ) → Brought → List ℕ
line_with times filter = decided_line (times filter.by.edit) filter

pub all_decided : (times : ℕ → ℕ) (brought : List Brought) (text : List ℕ) (k : ℕ) → length brought ≤ k → text ≡ flat_map (line_with times) (take k brought) → text ≡ joined (decided_with times brought)
all_decided times brought text k past is =
    is ∙ ap (flat_map (line_with times)) (take_all k brought past) ∙ sym (flat_mapped (λ (line : List ℕ). line) (line_with times) brought)

-- the line with the count by another name
pub as_counted : (filter : Brought) (text new : List ℕ) (n m : ℕ) → n ≡ m → new ≡ text ++ decided_line n filter → new ≡ text ++ decided_line m filter
as_counted filter text new n m same is = is ∙ ap (λ (k : ℕ). text ++ decided_line k filter) same
