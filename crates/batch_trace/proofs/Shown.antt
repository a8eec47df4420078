-- The line of a filter that stands at the end.
use Rattle.std.proofs.Common.{◌≡◌, ◌∙◌, ℕ, Bool, true, List, [], ◌++◌, sym, ap}
use Rattle.std.specs.Prelude.{Result, Ok, Err, OnOk, if◌then◌else◌}
use Rattle.filter_origins.specs.declared.brought.Brought.{Brought}
use Rattle.journal_names.specs.Decided.{decided_line}

pub told_shown : {T E : Type 0} (result : Result T E) (there : Bool) (old new : List ℕ) (times counted : ℕ) (filter : Brought) → there ≡ true → times ≡ counted
    → OnOk result (new ≡ old ++ decided_line times filter) → OnOk result (new ≡ old ++ (if there then decided_line counted filter else []))
told_shown (Ok done) there old new times counted filter is same put =
    put ∙ ap (λ (n : ℕ). old ++ decided_line n filter) same ∙ ap (λ (b : Bool). old ++ (if b then decided_line counted filter else [])) (sym is)
told_shown (Err refused) there old new times counted filter is same put = tt
