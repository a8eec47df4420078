-- A trace from its title to its end.
use Rattle.std.proofs.Common.{◌≡◌, ◌∙◌, ℕ, List, [], ◌∷◌, ◌++◌, length, Option, refl, sym, ap, ap₂, subst}
use Rattle.std.specs.Prelude.{codes, Result, Ok, Err, OnOk}
use Rattle.std.proofs.lemmas.List.Concat.{flat_map-append}
use Rattle.tc_base.specs.Outside.{Appended, AppendsUpTo}
use Rattle.tc_base.proofs.Appends.{Appended-then, AppendsUpTo-more, AppendsUpTo-last}
use Rattle.walk_texts.specs.Texts.{joined, summary_line}
use Rattle.run_report.specs.declared.record.RunRecord.{RunRecord}
use Rattle.run_report.specs.Counts.{summary_of}
use Rattle.run_report.specs.Reports.{counter_lines, report_text}
use Rattle.lawful_runs.specs.declared.loaded.LoadedJob.{LoadedJob}
use Rattle.lawful_runs.specs.Given.{given_rounds}
use Rattle.batch_trace.specs.Passed.{Brought}
use Rattle.batch_trace.specs.Passed.{Entry}
use Rattle.batch_trace.specs.Passed.{brought_of}
use Rattle.report_check.specs.Passed.{cut}
use Rattle.report_check.proofs.Passed.{joined_cut}
use Rattle.walk_trace.specs.Tallies.{times_in}
use Rattle.batch_trace.specs.Passed.{decided_line}
use Rattle.batch_trace.specs.Traced.{own, told, text_of, text_in}
use Rattle.report_trace.specs.Traced.{rounds_parts, decisions, decided_with, decided_lines, trace_text}
use Rattle.report_trace.specs.Writing.{IsWritten, IsBehind}
use Rattle.report_trace.specs.Rounds.{AreFit, lines_of_rounds, RoundsLeft, AreRoundsLeft}
use Rattle.report_trace.proofs.OneTrace.{lines_cut}
use Rattle.report_trace.proofs.Own.{rounds_by_number}
use Rattle.report_trace.proofs.Heads.{BeginsTold, closing_told}
use Rattle.report_trace.proofs.Plain.{heads_same, tails_same}

abbrev pub title : List ℕ
title = codes "clsact report 1\n"

abbrev pub last_lines : RunRecord → List (List ℕ)
last_lines run = counter_lines run.counters ++ (summary_line (summary_of run.rounds) ∷ codes "end\n" ∷ [])

abbrev pub decided_text : LoadedJob → RunRecord → List Entry → List ℕ
decided_text loaded run entries = joined (decided_lines entries (decisions entries (given_rounds loaded) run.rounds))

-- the text, piece by piece
pub text_is : (loaded : LoadedJob) (run : RunRecord) (entries : List Entry) → trace_text loaded run entries ≡ title ++ (text_in (rounds_parts entries 1 0 (given_rounds loaded) run.rounds) ++ (decided_text loaded run entries ++ joined (last_lines run)))
unfolding trace_text
text_is loaded run entries =
    let decided : List ℕ = decided_text loaded run entries in
    let counters : List ℕ = joined (counter_lines run.counters) in
    let summary : List ℕ = summary_line (summary_of run.rounds) in
    ap (λ (ls : List ℕ). title ++ ls)
    (flat_map-append text_of (rounds_parts entries 1 0 (given_rounds loaded) run.rounds) (told decided ∷ own counters ∷ own summary ∷ own (codes "end\n") ∷ [])
    ∙ ap (λ (ls : List ℕ). text_in (rounds_parts entries 1 0 (given_rounds loaded) run.rounds) ++ (decided ++ ls)) (sym (flat_map-append (λ (line : List ℕ). line) (counter_lines run.counters) (summary ∷ codes "end\n" ∷ []))))

-- all rounds are left behind the title
abbrev pub all_rounds : Option (List ℕ) → LoadedJob → RunRecord → List Entry → RoundsLeft
all_rounds first loaded run entries = record {
  first = first;
  whole = trace_text loaded run entries;
  files = loaded.batches;
  its = run.rounds;
  lines = last_lines run;
  rest = decided_text loaded run entries ++ joined (last_lines run);
}

module _ (loaded : LoadedJob) (report : List ℕ) (run : RunRecord) (entries : List Entry) (reported : report ≡ report_text run) (line left : List ℕ) (first_is : cut report ≡ line ∷ cut left) where
  lines_are : title ∷ (lines_of_rounds 1 0 run.rounds ++ last_lines run) ≡ line ∷ cut left
  lines_are = ap (λ (ls : List (List ℕ)). title ∷ (ls ++ last_lines run)) (sym (rounds_by_number run.rounds)) ∙ sym (lines_cut report run reported) ∙ first_is

  pub title_is : line ≡ title
  title_is = sym (heads_same title line (lines_of_rounds 1 0 run.rounds ++ last_lines run) (cut left) lines_are)

  pub rounds_left : (first now : Option (List ℕ)) (workers : ℕ) → AreFit workers (length entries) (given_rounds loaded) run.rounds → Appended first now line → AreRoundsLeft (all_rounds first loaded run entries) entries now left 1 0 loaded.job.rounds loaded.captures workers
  rounds_left first now workers fit wrote = record {
    fit = fit;
    behind = record {
      plain = [];
      each = tt;
      cut_is = sym (tails_same title line (lines_of_rounds 1 0 run.rounds ++ last_lines run) (cut left) lines_are);
      written = record { gone = title; wrote = subst (Appended first now) title_is wrote; whole_is = text_is loaded run entries };
    };
  }

  -- the title alone
  pub title_up_to : (first now : Option (List ℕ)) → AppendsUpTo first now line → AppendsUpTo first now (trace_text loaded run entries)
  title_up_to first now wrote =
      subst (AppendsUpTo first now) (sym (text_is loaded run entries)) (AppendsUpTo-more first now title (text_in (rounds_parts entries 1 0 (given_rounds loaded) run.rounds) ++ (decided_text loaded run entries ++ joined (last_lines run))) (subst (AppendsUpTo first now) title_is wrote))

-- ---- the filters
same_times : (one other : ℕ → ℕ) (brought : List Brought) → ((edit : ℕ) → one edit ≡ other edit) → decided_with one brought ≡ decided_with other brought
same_times one other [] same = refl
same_times one other (filter ∷ brought) same =
    ap₂ (λ (line : List ℕ) (lines : List (List ℕ)). line ∷ lines) (ap (λ (n : ℕ). decided_line n filter) (same filter.by.edit)) (same_times one other brought same)

pub decided_is : (loaded : LoadedJob) (run : RunRecord) (entries : List Entry) (counts : ℕ → ℕ) (brought : List Brought) (text : List ℕ) → ((edit : ℕ) → counts edit ≡ times_in (decisions entries (given_rounds loaded) run.rounds) edit)
    → brought ≡ brought_of entries → text ≡ joined (decided_with counts brought) → text ≡ decided_text loaded run entries
decided_is loaded run entries counts brought text same all is =
    is ∙ ap (λ (bs : List Brought). joined (decided_with counts bs)) all ∙ ap joined (same_times counts (times_in (decisions entries (given_rounds loaded) run.rounds)) (brought_of entries) same)

-- ---- what is left of the report at last
pub left_is : (left : List ℕ) (lines : List (List ℕ)) → cut left ≡ lines → left ≡ joined lines
left_is left lines is = sym (joined_cut left) ∙ ap joined is

-- ---- behind the rounds
pub begins : (run : RunRecord) → BeginsTold (last_lines run)
begins run = closing_told run.counters (summary_of run.rounds) (codes "end\n" ∷ [])

-- by their first line
pub behind_rounds : (run : RunRecord) (first now : Option (List ℕ)) (whole bytes rest : List ℕ) → IsBehind first now whole bytes (last_lines run) rest → IsBehind first now whole bytes ((begins run).line ∷ (begins run).more) rest
behind_rounds run first now whole bytes rest is = subst (λ (ls : List (List ℕ)). IsBehind first now whole bytes ls rest) (begins run).lines_are is

-- the same piece by another name
pub piece_is : (first now : Option (List ℕ)) (whole one other rest : List ℕ) → one ≡ other → IsWritten first now whole (other ++ rest) → IsWritten first now whole (one ++ rest)
piece_is first now whole one other rest same it = subst (λ (piece : List ℕ). IsWritten first now whole (piece ++ rest)) (sym same) it

pub last_is : (run : RunRecord) (first now : Option (List ℕ)) (whole left : List ℕ) → cut left ≡ (begins run).line ∷ (begins run).more → IsWritten first now whole (joined (last_lines run)) → IsWritten first now whole left
last_is run first now whole left is it =
    subst (IsWritten first now whole) (sym (left_is left (last_lines run) (is ∙ sym (begins run).lines_are))) it

-- the last piece is written
pub all_wrote : {T E : Type 0} (result : Result T E) (first a b : Option (List ℕ)) (whole piece : List ℕ) → IsWritten first a whole piece → OnOk result (Appended a b piece) → OnOk result (Appended first b whole)
all_wrote (Ok done) first a b whole piece it wrote = subst (Appended first b) (sym it.whole_is) (Appended-then first a b it.gone piece it.wrote wrote)
all_wrote (Err refused) first a b whole piece it wrote = tt

pub last_up_to : (first a b : Option (List ℕ)) (whole piece : List ℕ) → IsWritten first a whole piece → AppendsUpTo a b piece → AppendsUpTo first b whole
last_up_to first a b whole piece it wrote = subst (AppendsUpTo first b) (sym it.whole_is) (AppendsUpTo-last first a b it.gone piece it.wrote wrote)

-- of each text that is the whole
pub all_texts : {T E : Type 0} (result : Result T E) (a b : Option (List ℕ)) (whole : List ℕ) (P : List ℕ → Type 0) → ((text : List ℕ) → P text → whole ≡ text) → OnOk result (Appended a b whole) → OnOk result ((text : List ℕ) → P text → Appended a b text)
all_texts (Ok done) a b whole P same wrote = λ text is. subst (Appended a b) (same text is) wrote
all_texts (Err refused) a b whole P same wrote = tt
