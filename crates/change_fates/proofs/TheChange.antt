-- The change of the lines of both files, and what is told of it.
use Rattle.std.proofs.Common.{◌≡◌, ◌∙◌, ℕ, ◌+◌, ◌^◌, ◌<◌, ◌≤◌, Bool, List, length, ap, arith}
use Rattle.std.proofs.lemmas.List.{length-map}
use Rattle.std.specs.Borrow.{Bor}
use Rattle.tc_base.specs.declared.hook.Hook.{Hook}
use Rattle.pcap_io.specs.declared.capture.Packet.{Packet}
use Rattle.batch_run.specs.Commands.{commands_in}
use Rattle.batch_run.proofs.CommandLines.{texts_of}
use Rattle.change_lines.specs.Passed.{Changed, IsChanged}
use Rattle.change_lines.proofs.Passed.{one_of_changes}
use Rattle.change_lines.specs.declared.applied.AppliedChange.{AppliedChange}
use Rattle.change_lines.specs.Lines.{refused_in}
use Rattle.change_lines.specs.Reached.{IsApplied}
use Rattle.change_fates.specs.declared.counts.KindCounts.{KindCounts}
use Rattle.change_fates.specs.Told.{ChangeAt, kind_in, kinds_in, counts_of, shaken, told_text}
use Rattle.change_fates.specs.Knowing.{change_of}
use Rattle.change_fates.specs.Foreseen.{change_at, foreseen_text, not_hitless}
use Rattle.change_fates.proofs.Counting.{total, total_is}
use Rattle.change_fates.proofs.Whole.{same_change, told_is}

module _ (batch change : List (Bor (List ℕ))) (force : Bool) (hook : Hook) (applied : AppliedChange) (it changed : Changed) (was : IsChanged (commands_in batch) (commands_in change) force it)
    (is : IsChanged (commands_in batch) (commands_in change) force changed) (keeps : IsApplied hook applied it) where
  one : it ≡ changed
  one = one_of_changes (texts_of batch) (texts_of change) force it changed was is

  pub text_is : (known : ChangeAt) (packets : List Packet) → known ≡ change_of applied → told_text known applied.stop.items applied.lines.items packets ≡ foreseen_text changed hook packets
  text_is known packets same =
      ap (λ (c : ChangeAt). told_text c applied.stop.items applied.lines.items packets) same ∙ told_is hook applied it keeps packets
      ∙ ap (λ (c : Changed). foreseen_text c hook packets) one

  pub refused_is : applied.replay.refused ≡ refused_in changed
  refused_is = keeps.refused ∙ ap refused_in one

  pub hitless_is : (known : ChangeAt) (packets : List Packet) (counts : KindCounts) (many : ℕ) → known ≡ change_of applied → counts ≡ counts_of (kinds_in known packets) → many ≡ shaken counts
      → many ≡ not_hitless changed hook packets
  hitless_is known packets counts many same counted is_many =
      is_many ∙ ap shaken (counted ∙ ap (λ (c : ChangeAt). counts_of (kinds_in c packets)) (same ∙ same_change hook applied it keeps))
      ∙ ap (λ (c : Changed). not_hitless c hook packets) one

-- the packets that aren't hitless are among all of them
pub few_shaken : (known : ChangeAt) (packets : List Packet) (counts : KindCounts) → counts ≡ counts_of (kinds_in known packets) → length packets ≤ 1048576 → counts.between + counts.mixed + counts.left_open < 2 ^ 32
few_shaken known packets counts is most =
    let sum : total counts ≡ length (kinds_in known packets) = ap total is ∙ total_is (kinds_in known packets) in
    let long = length-map packets (λ (packet : Packet). kind_in known packet.bytes) in
    omega (arith, sum, long, most)
