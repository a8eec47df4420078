-- The line that tells how often a filter decided (this project's own).
use Rattle.std.specs.Prelude.{ℕ, List, [], ◌∷◌, ◌++◌, codes, Option, Some, None}
use Rattle.std.specs.Fmt.{decimal}
use Rattle.line_texts.specs.Texts.{handle_text, protocol_text}
use Rattle.tc_print.specs.EditWords.{hook_text}
use Rattle.filter_origins.specs.declared.brought.Brought.{Brought}
use Rattle.trace_lines.specs.Lines.{line_of, by_words}

-- `HOOK chain C pref F protocol X handle 0xH`
abbrev pub place_words : Brought → List (List ℕ)
place_words brought = hook_text brought.hook ∷ codes "chain" ∷ decimal brought.chain ∷ codes "pref"
    ∷ decimal brought.pref ∷ codes "protocol" ∷ protocol_text brought.protocol ∷ codes "handle"
    ∷ handle_text brought.handle ∷ []

-- `gone G`, of a filter that an edit took or replaced
abbrev pub gone_words : Option ℕ → List (List ℕ)
gone_words None = []
gone_words (Some edit) = codes "gone" ∷ decimal edit ∷ []

-- `decided T edit K control C line L HOOK chain C pref F protocol X handle 0xH [ gone G ]`
abbrev pub decided_words : ℕ → Brought → List (List ℕ)
decided_words times brought = codes "decided" ∷ decimal times
    ∷ (by_words brought.by ++ place_words brought ++ gone_words brought.gone)

abbrev pub decided_line : ℕ → Brought → List ℕ
decided_line times brought = line_of (decided_words times brought)
