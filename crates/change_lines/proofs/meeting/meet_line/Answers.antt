use Rattle.std.proofs.Common.{◌∙◌, ◌+◌, ℕ, refl, sym, ap}
use Rattle.journal_replay.specs.Passed.{Event}
use Rattle.change_lines.proofs.Counts.{refused_one}
use Rattle.change_lines.proofs.Places.{placed_one}
use Rattle.change_lines.proofs.meeting.meet_line.Goals as goal

pub returns : goal.returns
returns c =
    let event : Event = record { control = 1; line = c.args.number; kind = c.in_ok-kind.kind } in
    record {
      control = refl;
      line = refl;
      met = c.in_ok-kind.ensures.met;
      placed = placed_one c.in_ok-kind.kind 1 c.args.number c.args.replay.now.places.items c.meet.new.self.places.items c.in_ok-kind.ensures.placed c.in_ok-kind.ensures.unplaced;
      refused = c.in_ok-kind.ensures.refused ∙ ap (λ (n : ℕ). c.args.replay.now.refused + n) (sym (refused_one event));
      kept = c.in_ok-kind.ensures.kept;
    }
