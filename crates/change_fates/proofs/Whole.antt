-- The text that is told is the one that foresees the change.
use Rattle.std.proofs.Common.{◌≡◌, ◌∙◌, ℕ, ◌≤◌, List, [], ◌∷◌, ◌++◌, length, refl, sym, ap, ap₂, subst, append_assoc, append-nil, arith}
use Rattle.std.specs.Prelude.{codes}
use Rattle.tc_base.specs.declared.hook.Hook.{Hook}
use Rattle.pcap_io.specs.declared.capture.Packet.{Packet}
use Rattle.walk_texts.specs.Texts.{joined}
use Rattle.filter_origins.specs.declared.origins.Origins.{Origins}
use Rattle.filter_origins.specs.Entries.{Entry, entries_of}
use Rattle.filter_origins.specs.Knows.{Knows}
use Rattle.filter_origins.proofs.Whole.{entries_long}
use Rattle.change_lines.specs.Passed.{KnowsHeads}
use Rattle.change_lines.specs.Passed.{Changed, first_point, last_point, journal_of}
use Rattle.change_lines.specs.declared.applied.AppliedChange.{AppliedChange}
use Rattle.change_lines.specs.Lines.{places_in, stop_lines, change_lines}
use Rattle.change_lines.specs.Reached.{IsApplied}
use Rattle.change_fates.specs.Texts.{change_line, summary_line}
use Rattle.change_fates.specs.Told.{ChangeAt, packets_lines, kinds_in, counts_of, closing_text, told_text}
use Rattle.change_fates.specs.Knowing.{entries_applied, change_of, IsKnown}
use Rattle.change_fates.specs.Foreseen.{change_at, foreseen_text}
use Rattle.change_fates.proofs.Lists.{joined_append}

abbrev change_with : List Entry → Hook → ℕ → ChangeAt
change_with entries hook before = record { entries = entries; hook = hook; before = before }

module _ (hook : Hook) (applied : AppliedChange) (it : Changed) (is : IsApplied hook applied it) where
  pub same_change : change_of applied ≡ change_at it hook
  same_change =
      ap (λ (es : List Entry). change_with es applied.hook applied.before) (ap₂ entries_of is.placed is.journal_is)
      ∙ ap (λ (h : Hook). change_with (entries_of (places_in it) (journal_of it)) h applied.before) is.hook_is
      ∙ ap (λ (n : ℕ). change_with (entries_of (places_in it) (journal_of it)) hook n) is.before

  last_is : length (entries_of (places_in it) (journal_of it)) ≡ last_point it
  last_is = entries_long (places_in it) (journal_of it) (ap length (sym is.placed) ∙ is.each ∙ ap length is.journal_is)

  -- line by line
  parted : (packets : List Packet) (change : ChangeAt) (lines : List (List ℕ))
      → joined (stop_lines it ++ (change_line (first_point it) (last_point it) ∷ (change_lines it ++ (lines ++ (summary_line (length packets) (counts_of (kinds_in change packets)) ∷ codes "end\n" ∷ [])))))
      ≡ (joined (stop_lines it) ++ change_line (first_point it) (last_point it)) ++ (joined (change_lines it) ++ (joined lines ++ closing_text (length packets) (counts_of (kinds_in change packets))))
  parted packets change lines =
      let last = summary_line (length packets) (counts_of (kinds_in change packets)) in
      let end = last ∷ codes "end\n" ∷ [] in
      let line = change_line (first_point it) (last_point it) in
      joined_append (stop_lines it) (line ∷ (change_lines it ++ (lines ++ end)))
      ∙ ap (λ (xs : List ℕ). joined (stop_lines it) ++ (line ++ xs)) (joined_append (change_lines it) (lines ++ end) ∙ ap (λ (xs : List ℕ). joined (change_lines it) ++ xs) (joined_append lines end))
      ∙ sym (append_assoc (joined (stop_lines it)) line (joined (change_lines it) ++ (joined lines ++ closing_text (length packets) (counts_of (kinds_in change packets)))))

  pub told_is : (packets : List Packet) → told_text (change_of applied) applied.stop.items applied.lines.items packets ≡ foreseen_text it hook packets
  unfolding foreseen_text
  told_is packets =
      let change = change_at it hook in
      let text : List ℕ → List ℕ → ChangeAt → List ℕ = λ stop lines c. told_text c stop lines packets in
      ap₂ (λ (stop lines : List ℕ). text stop lines (change_of applied)) is.stop is.lines
      ∙ ap (text (joined (stop_lines it)) (joined (change_lines it))) same_change
      ∙ ap (λ (n : ℕ). (joined (stop_lines it) ++ change_line (first_point it) n)
      ++ (joined (change_lines it) ++ (joined (packets_lines change 1 packets) ++ closing_text (length packets) (counts_of (kinds_in change packets))))) last_is
      ∙ sym (parted packets change (packets_lines change 1 packets))

  pub is_known : (origins : Origins) → Knows origins (entries_applied applied) → IsKnown applied origins
  is_known origins knows =
      let few = is.few in
      let long = ap length is.journal_is in
      let start = is.before in
      let point : first_point it ≤ last_point it = at_most in
      record {
        kept = is.kept;
        few = omega (arith, few, long);
        each = is.each;
        knows = knows;
        heads = subst (KnowsHeads applied.heads) (sym is.journal_is) is.knows;
        at_hook = is.at_hook ∙ sym is.hook_is;
        since = is.since ∙ sym is.before;
        before = omega (arith, start, long, point);
      }
    where
      at_most : first_point it ≤ last_point it
      at_most = let sum = Rattle.std.proofs.lemmas.List.length-append it.before it.edits in omega (arith, sum)
