-- What is told of a packet is written, with its line.
use Rattle.std.proofs.Common.{◌≡◌, ◌∙◌, ℕ, ◌≤◌, false, List, [], ◌∷◌, ◌++◌, Option, sym, ap, subst, arith, append_assoc}
use Rattle.std.specs.Prelude.{get_or}
use Rattle.filter_state.specs.Sound.{Each}
use Rattle.tc_base.specs.Outside.{Appended, AppendsUpTo}
use Rattle.tc_base.specs.declared.hook.Hook.{Hook}
use Rattle.run_report.specs.PacketTexts.{packet_line}
use Rattle.batch_trace.specs.Passed.{Entry}
use Rattle.report_check.specs.Passed.{cut}
use Rattle.report_trace.specs.Traced.{met_at}
use Rattle.report_trace.specs.Writing.{is_plain, IsWritten, IsBehind, NextPacket, IsNextPacket}
use Rattle.report_trace.proofs.Heads.{packet_told}
use Rattle.report_trace.proofs.Plain.{heads_same, tails_same, wrote_more, up_to_more}

-- the first of points is among those that all are
pub first_among : (points : List ℕ) (edits : ℕ) → Each (λ (point : ℕ). point ≤ edits) points → get_or points 0 0 ≤ edits
first_among [] edits each = omega arith
first_among (point ∷ points) edits each = each.0

-- a packet's line comes next, and what it met is left to be told
pub record IsTurn (next : NextPacket) (entries : List Entry) (now : Option (List ℕ)) (told : List ℕ) (number : ℕ) (hook : Hook) (bytes : List ℕ) : Type 0 where
  pub comes : cut told ≡ packet_line number next.outcome ∷ next.lines
  pub left : IsWritten next.first now next.whole (met_at entries number hook bytes next.outcome.points ++ (packet_line number next.outcome ++ next.rest))

-- what the plain lines' writer says, of the packet that comes next
pub turn_of : (next : NextPacket) (entries : List Entry) (now then : Option (List ℕ)) (left told : List ℕ) (number : ℕ) (hook : Hook) (bytes : List ℕ) (workers : ℕ) → IsNextPacket next entries now left number hook bytes workers
    → ((first : Option (List ℕ)) (whole line : List ℕ) (lines : List (List ℕ)) (rest : List ℕ) → is_plain line ≡ false → IsBehind first now whole left (line ∷ lines) rest → (cut told ≡ line ∷ lines) × IsWritten first then whole rest)
    → IsTurn next entries then told number hook bytes
turn_of next entries now then left told number hook bytes workers is written =
    let met : List ℕ = met_at entries number hook bytes next.outcome.points in
    let own : List ℕ = packet_line number next.outcome in
    let both = written next.first next.whole own next.lines (met ++ (own ++ next.rest)) (packet_told number next.outcome) is.behind in
    record { comes = both.0; left = both.1 }

module _ (next : NextPacket) (entries : List Entry) (now then : Option (List ℕ)) (told line behind points : List ℕ) (number : ℕ) (hook : Hook) (bytes : List ℕ) (turn : IsTurn next entries now told number hook bytes)
    (first_is : cut told ≡ line ∷ cut behind) where
  pub line_is : line ≡ packet_line number next.outcome
  line_is = heads_same line (packet_line number next.outcome) (cut behind) next.lines (sym first_is ∙ turn.comes)

  -- the page of the packet
  page_left : (page : List ℕ) → page ≡ met_at entries number hook bytes points ++ line → points ≡ next.outcome.points → IsWritten next.first now next.whole (page ++ next.rest)
  page_left page is same =
      let met : List ℕ = met_at entries number hook bytes next.outcome.points in
      let own : List ℕ = packet_line number next.outcome in
      let all : page ≡ met ++ own = is ∙ ap (λ (ps : List ℕ). met_at entries number hook bytes ps ++ line) same ∙ ap (λ (ls : List ℕ). met ++ ls) line_is in
      subst (IsWritten next.first now next.whole) (sym (ap (λ (ls : List ℕ). ls ++ next.rest) all ∙ append_assoc met own next.rest)) turn.left

  pub told_behind : (page : List ℕ) → page ≡ met_at entries number hook bytes points ++ line → points ≡ next.outcome.points → Appended now then page → IsBehind next.first then next.whole behind next.lines next.rest
  told_behind page is same wrote = record {
    plain = [];
    each = tt;
    cut_is = tails_same line (packet_line number next.outcome) (cut behind) next.lines (sym first_is ∙ turn.comes);
    written = wrote_more next.first now then next.whole page next.rest (page_left page is same) wrote;
  }

  pub told_up_to : (page : List ℕ) → page ≡ met_at entries number hook bytes points ++ line → points ≡ next.outcome.points → AppendsUpTo now then page → AppendsUpTo next.first then next.whole
  told_up_to page is same wrote = up_to_more next.first now then next.whole page next.rest (page_left page is same) wrote
