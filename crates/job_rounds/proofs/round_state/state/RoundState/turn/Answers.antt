use Rattle.std.proofs.Common.{◌≡◌, ℕ, ◌∙◌, ◌++◌, ◌∷◌, [], List, refl, ap, sym, subst}
use Rattle.std.specs.Prelude.{IfSome}
use Rattle.round_terms.specs.Event.{Event}
use Rattle.round_terms.specs.LoadedJob.{LoadedJob}
use Rattle.round_terms.specs.declared.place.Place.{Place}
use Rattle.round_terms.specs.Files.{first_file, files_of}
use Rattle.round_terms.specs.Coming.{IsThroughAll}
use Rattle.round_terms.specs.Turns.{AreWithin, HasNoLine, IsLineFor, moved_on}
use Rattle.job_rounds.specs.declared.round_state.turned.Turned.TheVariants as turns
use Rattle.job_rounds.specs.OfRoundState.Rounds.{IsDeskOf, Underway}
use Rattle.shared_hook.specs.Views.{journal}
use Rattle.round_terms.specs.Underway.{made_behind}
use Rattle.job_rounds.specs.OfRoundState.Turns.{IsTurned}
use Rattle.job_rounds.proofs.OfRoundState.Turning.{called, called_at, within, none_left, not_through, has_room, has_spare, left_still, further, one_more}
use Rattle.job_rounds.proofs.round_state.state.RoundState.turn.Goals as goal
use Rattle.tc_base.specs.Memory.{no_memory}

pub next_line-requires-clause-within : goal.next_line-requires-clause-within
next_line-requires-clause-within g c =
    let it = called c.self.invariant.0 c.requires.job.0 c.requires.job.1 c.requires.round.0 in
    subst (AreWithin (files_of c.args.job.now c.args.round)) (sym c.as_slice.ensures.value) (within it)

pub returns-in_default-clause-over : goal.returns-in_default-clause-over
returns-in_default-clause-over g c =
    let it = called c.self.invariant.0 c.requires.job.0 c.requires.job.1 c.requires.round.0 in
    λ over. subst (λ (old : Underway _). IsThroughAll (files_of g.N.RoundName.job g.N.RoundName.number) c.args.control old.events) c.self.view_is
    (none_left it c.args.control (subst (λ (ps : List Place). HasNoLine (files_of c.args.job.now c.args.round) ps c.args.control) c.as_slice.ensures.value c.in_default.ensures.none))

pub returns-in-Err-clause-turned : goal.returns-in-Err-clause-turned
returns-in-Err-clause-turned g c =
    let it = called c.self.invariant.0 c.requires.job.0 c.requires.job.1 c.requires.round.0 in
    let f = c.in-Some.next in
    let at = called_at it c.args.control f.text.now f.line f.next f.force
    (subst (λ (ps : List Place). IsLineFor (files_of c.args.job.now c.args.round) ps c.args.control f.text.now f.line f.next f.force) c.as_slice.ensures.value c.in-Some.ensures.some) in
    let events = c.reserve.new.events.items in
    let made = c.reserve.new.made.items in
    subst (λ (old : Underway _). IsTurned g.E.Ear.name g.E.Ear.heard g.E.Ear.spare (files_of g.N.RoundName.job g.N.RoundName.number) g.N.RoundName.number c.args.control old (record { desk = c.self.inside.desk; events = events; made = made; places = c.self.inside.places.items; ear = c.self.inside.ear }) (turns.NoMemory no_memory)) c.self.view_is
    (left_still at c.self.inside.desk events made (turns.NoMemory no_memory) (record { place = refl; lists = refl; free = refl; left = refl }) refl c.reserve.ensures.same.0 c.reserve.ensures.same.1)

pub returns-in-Err-clause-exact : goal.returns-in-Err-clause-exact
returns-in-Err-clause-exact g c =
    let it = called c.self.invariant.0 c.requires.job.0 c.requires.job.1 c.requires.round.0 in
    let f = c.in-Some.next in
    let at = called_at it c.args.control f.text.now f.line f.next f.force
    (subst (λ (ps : List Place). IsLineFor (files_of c.args.job.now c.args.round) ps c.args.control f.text.now f.line f.next f.force) c.as_slice.ensures.value c.in-Some.ensures.some) in
    λ through. absurd (not_through at (subst (λ (old : Underway _). IsThroughAll (files_of g.N.RoundName.job g.N.RoundName.number) c.args.control old.events) (sym c.self.view_is) through))

pub meet_line-requires-clause-short : goal.meet_line-requires-clause-short
meet_line-requires-clause-short g c =
    let it = called c.self.invariant.0 c.requires.job.0 c.requires.job.1 c.requires.round.0 in
    let f = c.in-Some.next in
    let at = called_at it c.args.control f.text.now f.line f.next f.force
    (subst (λ (ps : List Place). IsLineFor (files_of c.args.job.now c.args.round) ps c.args.control f.text.now f.line f.next f.force) c.as_slice.ensures.value c.in-Some.ensures.some) in
    has_room at c.requires.few

pub returns-in-Err-meet_line-clause-turned : goal.returns-in-Err-meet_line-clause-turned
returns-in-Err-meet_line-clause-turned g c =
    let it = called c.self.invariant.0 c.requires.job.0 c.requires.job.1 c.requires.round.0 in
    let f = c.in-Some.next in
    let at = called_at it c.args.control f.text.now f.line f.next f.force
    (subst (λ (ps : List Place). IsLineFor (files_of c.args.job.now c.args.round) ps c.args.control f.text.now f.line f.next f.force) c.as_slice.ensures.value c.in-Some.ensures.some) in
    let events = c.reserve.new.events.items in
    let made = c.meet_line.new.made.items in
    subst (λ (old : Underway _). IsTurned g.E.Ear.name g.E.Ear.heard g.E.Ear.spare (files_of g.N.RoundName.job g.N.RoundName.number) g.N.RoundName.number c.args.control old (record { desk = c.meet_line.new.desk; events = events; made = made; places = c.self.inside.places.items; ear = c.self.inside.ear }) c.in-Err-meet_line.turned) c.self.view_is
    (left_still at c.meet_line.new.desk events made c.in-Err-meet_line.turned c.in-Err-meet_line.ensures.not_met c.in-Err-meet_line.ensures.journal c.reserve.ensures.same.0 (ap (λ v. v.items) c.in-Err-meet_line.ensures.unnamed ∙ c.reserve.ensures.same.1))

pub returns-in-Err-meet_line-clause-exact : goal.returns-in-Err-meet_line-clause-exact
returns-in-Err-meet_line-clause-exact g c =
    let it = called c.self.invariant.0 c.requires.job.0 c.requires.job.1 c.requires.round.0 in
    let f = c.in-Some.next in
    let at = called_at it c.args.control f.text.now f.line f.next f.force
    (subst (λ (ps : List Place). IsLineFor (files_of c.args.job.now c.args.round) ps c.args.control f.text.now f.line f.next f.force) c.as_slice.ensures.value c.in-Some.ensures.some) in
    λ through. absurd (not_through at (subst (λ (old : Underway _). IsThroughAll (files_of g.N.RoundName.job g.N.RoundName.number) c.args.control old.events) (sym c.self.view_is) through))

pub tell-requires-after_bounds : goal.tell-requires-after_bounds
tell-requires-after_bounds g c κs inside =
    let it = called c.self.invariant.0 c.requires.job.0 c.requires.job.1 c.requires.round.0 in
    let f = c.in-Some.next in
    let at = called_at it c.args.control f.text.now f.line f.next f.force
    (subst (λ (ps : List Place). IsLineFor (files_of c.args.job.now c.args.round) ps c.args.control f.text.now f.line f.next f.force) c.as_slice.ensures.value c.in-Some.ensures.some) in
    has_spare at c.requires.spare

pub invariant_of-self-2 : goal.invariant_of-self-2
invariant_of-self-2 g c =
    let it = called c.self.invariant.0 c.requires.job.0 c.requires.job.1 c.requires.round.0 in
    let f = c.in-Some.next in
    let at = called_at it c.args.control f.text.now f.line f.next f.force
    (subst (λ (ps : List Place). IsLineFor (files_of c.args.job.now c.args.round) ps c.args.control f.text.now f.line f.next f.force) c.as_slice.ensures.value c.in-Some.ensures.some) in
    let grown : c.push_reserved.new.self.items ≡ c.self.inside.events.items ++ record { control = c.args.control; line = f.line; kind = c.in-Ok.kind } ∷ [] =
    c.push_reserved.ensures.items ∙ ap (λ (es : List Event). es ++ record { control = c.args.control; line = f.line; kind = c.in-Ok.kind } ∷ []) c.reserve.ensures.same.0 in
    let names = c.in-Ok.ensures.named ∙ ap (λ ms. ms ++ made_behind (journal c.self.inside.desk) (journal c.meet_line.new.desk)) c.reserve.ensures.same.1 in
    let own = subst (λ store. IsDeskOf store c.meet_line.new.desk) c.requires.store c.meet_line.ensures.store in (
      further at c.meet_line.new.desk c.in-Ok.kind c.goes_on-goes.result c.journal_len.result c.push_reserved.new.self.items c.meet_line.new.made.items c.tell.new.ear own grown c.in-Ok.ensures.met c.goes_on-goes.ensures names c.journal_len.ensures c.tell.ensures,
      subst (λ (n : ℕ). IfSome c.first_of-before.new.first (λ first. first ≡ n)) (ap (λ (j : LoadedJob). first_file j c.args.round) c.requires.job.0 ∙ ap (first_file g.N.RoundName.job) c.requires.round.0) c.first_of-before.ensures.known,
    )

pub returns-clause-turned : goal.returns-clause-turned
returns-clause-turned g c =
    let it = called c.self.invariant.0 c.requires.job.0 c.requires.job.1 c.requires.round.0 in
    let f = c.in-Some.next in
    let at = called_at it c.args.control f.text.now f.line f.next f.force
    (subst (λ (ps : List Place). IsLineFor (files_of c.args.job.now c.args.round) ps c.args.control f.text.now f.line f.next f.force) c.as_slice.ensures.value c.in-Some.ensures.some) in
    let grown : c.push_reserved.new.self.items ≡ c.self.inside.events.items ++ record { control = c.args.control; line = f.line; kind = c.in-Ok.kind } ∷ [] =
    c.push_reserved.ensures.items ∙ ap (λ (es : List Event). es ++ record { control = c.args.control; line = f.line; kind = c.in-Ok.kind } ∷ []) c.reserve.ensures.same.0 in
    let names = c.in-Ok.ensures.named ∙ ap (λ ms. ms ++ made_behind (journal c.self.inside.desk) (journal c.meet_line.new.desk)) c.reserve.ensures.same.1 in
    subst (λ (old : Underway _). IsTurned g.E.Ear.name g.E.Ear.heard g.E.Ear.spare (files_of g.N.RoundName.job g.N.RoundName.number) g.N.RoundName.number c.args.control old (record {
      desk = c.meet_line.new.desk;
      events = c.push_reserved.new.self.items;
      made = c.meet_line.new.made.items;
      places = moved_on c.self.inside.places.items c.args.control f.line f.next c.goes_on-goes.result;
      ear = c.tell.new.ear;
    }) turns.Applied) c.self.view_is
    (one_more at c.meet_line.new.desk c.in-Ok.kind c.goes_on-goes.result c.journal_len.result c.push_reserved.new.self.items c.meet_line.new.made.items c.tell.new.ear grown c.in-Ok.ensures.met c.goes_on-goes.ensures names c.journal_len.ensures c.tell.ensures)

pub returns-clause-exact : goal.returns-clause-exact
returns-clause-exact g c =
    let it = called c.self.invariant.0 c.requires.job.0 c.requires.job.1 c.requires.round.0 in
    let f = c.in-Some.next in
    let at = called_at it c.args.control f.text.now f.line f.next f.force
    (subst (λ (ps : List Place). IsLineFor (files_of c.args.job.now c.args.round) ps c.args.control f.text.now f.line f.next f.force) c.as_slice.ensures.value c.in-Some.ensures.some) in
    λ through. absurd (not_through at (subst (λ (old : Underway _). IsThroughAll (files_of g.N.RoundName.job g.N.RoundName.number) c.args.control old.events) (sym c.self.view_is) through))
