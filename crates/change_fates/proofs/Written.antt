-- The pieces of the text, written one after the other.
use Rattle.std.proofs.Common.{◌≡◌, ◌∙◌, ℕ, List, [], ◌++◌, refl, sym, ap, ap₂, subst}
use Rattle.std.specs.Prelude.{Option, length}
use Rattle.pcap_io.specs.declared.capture.Packet.{Packet}
use Rattle.walk_texts.specs.Texts.{joined}
use Rattle.tc_base.specs.Outside.{Appended, AppendsUpTo}
use Rattle.change_fates.specs.declared.counts.KindCounts.{KindCounts}
use Rattle.change_fates.specs.Texts.{change_line}
use Rattle.change_fates.specs.Told.{ChangeAt, packets_lines, kinds_in, counts_of, closing_text, told_text}
use Rattle.change_fates.specs.Paging.{IsOnPage}
use Rattle.change_fates.proofs.Paging.{on_start}

-- what is left behind the opening, and behind the lines of the change
abbrev pub behind_lines : ChangeAt → List Packet → List ℕ
behind_lines change packets = joined (packets_lines change 1 packets) ++ closing_text (length packets) (counts_of (kinds_in change packets))

module _ (change : ChangeAt) (stop lines : List ℕ) (packets : List Packet) where
  -- before the opening, by its name
  pub at_opening : (a : Option (List ℕ)) (opening : List ℕ) → opening ≡ stop ++ change_line change.before (length change.entries)
      → IsOnPage a a (told_text change stop lines packets) [] (opening ++ (lines ++ behind_lines change packets))
  at_opening a opening is = on_start a (told_text change stop lines packets) (opening ++ (lines ++ behind_lines change packets)) (ap (λ (xs : List ℕ). xs ++ (lines ++ behind_lines change packets)) (sym is))

  -- before the lines of the change, by their name
  pub at_lines : (a b : Option (List ℕ)) (text : List ℕ) → text ≡ lines → IsOnPage a b (told_text change stop lines packets) [] (lines ++ behind_lines change packets)
      → IsOnPage a b (told_text change stop lines packets) [] (text ++ behind_lines change packets)
  at_lines a b text is at = subst (λ (xs : List ℕ). IsOnPage a b (told_text change stop lines packets) [] (xs ++ behind_lines change packets)) (sym is) at

  -- before the packets, with an empty page
  pub at_packets : (a b : Option (List ℕ)) (page : List ℕ) → page ≡ [] → IsOnPage a b (told_text change stop lines packets) [] (behind_lines change packets)
      → IsOnPage a b (told_text change stop lines packets) page (behind_lines change packets)
  at_packets a b page none at = subst (λ (p : List ℕ). IsOnPage a b (told_text change stop lines packets) p (behind_lines change packets)) (sym none) at

  -- before the closing, by its name
  pub at_closing : (a b : Option (List ℕ)) (page closing : List ℕ) (counts : KindCounts) → closing ≡ closing_text (length packets) counts → counts ≡ counts_of (kinds_in change packets)
      → IsOnPage a b (told_text change stop lines packets) page (closing_text (length packets) (counts_of (kinds_in change packets))) → IsOnPage a b (told_text change stop lines packets) page closing
  at_closing a b page closing counts is same at =
      subst (IsOnPage a b (told_text change stop lines packets) page) (sym (is ∙ ap (closing_text (length packets)) same)) at
