-- How a packet ended, how often an action ran, and what it all came to, as text (this project's own).
use Rattle.std.specs.Prelude.{ℕ, ◌+◌, ◌==◌, ◌&&◌, List, [], ◌++◌, if◌then◌else◌, codes, decimal}
use Rattle.std.specs.List.{flat_map}
use Rattle.frame_edit.specs.declared.meta.Meta.{Meta}
use Rattle.line_texts.specs.Texts.{class_text}
use Rattle.tc_batch.specs.KindNames.{kind_text}
use Rattle.walk_rules.specs.declared.verdict.Verdict.{Verdict}
use Rattle.walk_rules.specs.declared.verdict.Verdict.TheVariants as verdicts
use Rattle.batch_run.specs.declared.made_action.MadeAction.{MadeAction}
use Rattle.walk_ends.specs.declared.counts.Count.{Count}
use Rattle.walk_texts.specs.declared.summary.Summary.{Summary}

-- lines, one after the other
abbrev pub joined : List (List ℕ) → List ℕ
joined lines = flat_map (λ (line : List ℕ). line) lines

-- a label, and a number in decimal behind it
unfoldable pub counted : List ℕ → ℕ → List ℕ
counted label number = label ++ decimal number

-- ---- a packet
abbrev pub verdict_text : Verdict → List ℕ
verdict_text verdicts.Pass = codes " pass length "
verdict_text verdicts.Drop = codes " drop length "

-- all three, where one isn't 0; the priority as a class (tc-skbedit(8))
abbrev pub meta_text : Meta → List ℕ
meta_text meta =
    if meta.priority == 0 && (meta.mark == 0 && meta.queue == 0) then []
    else codes " priority " ++ class_text meta.priority ++ counted (codes " mark ") meta.mark
    ++ counted (codes " queue ") meta.queue

-- how a packet ended: ` V length L`, and the metadata
unfoldable pub end_text : Verdict → ℕ → Meta → List ℕ
end_text verdict length meta = counted (verdict_text verdict) length ++ meta_text meta

-- ---- an action
-- `counter serial S KIND index I`
unfoldable pub action_text : MadeAction → List ℕ
action_text made = counted (codes "counter serial ") made.serial ++ codes " " ++ kind_text made.kind
    ++ counted (codes " index ") made.index

-- ` packets P bytes B`
unfoldable pub count_text : Count → List ℕ
count_text count = counted (codes " packets ") count.packets ++ counted (codes " bytes ") count.bytes

abbrev pub counter_line : MadeAction → Count → List ℕ
counter_line made count = action_text made ++ count_text count ++ codes "\n"

-- ---- the end
-- `summary edits E refused R`
unfoldable pub edits_text : Summary → List ℕ
edits_text summary = counted (codes "summary edits ") summary.edits
    ++ counted (codes " refused ") summary.refused

-- ` packets P passed Q dropped D`
unfoldable pub verdicts_text : Summary → List ℕ
verdicts_text summary =
    counted (codes " packets ") (summary.passed + summary.dropped)
    ++ counted (codes " passed ") summary.passed ++ counted (codes " dropped ") summary.dropped

abbrev pub summary_line : Summary → List ℕ
summary_line summary = edits_text summary ++ verdicts_text summary ++ codes "\n"
