use Rattle.std.proofs.Common.{◌≡◌, ℕ, ◌+◌, ◌<◌, ◌∙◌, List, [], ◌∷◌, ◌++◌, length, get_or, replicate, true, ap, sym, subst, refl, arith, le_refl}
use Rattle.pin_store.specs.declared.note.Note.{Note}
use Rattle.pin_store.specs.declared.note.Note.TheVariants.{Unknown}
use Rattle.pin_store.specs.declared.scan.Scan.{Scan}
use Rattle.pin_store.specs.declared.view.Sheet.{Sheet}
use Rattle.pin_store.specs.Calls.{seen_by, sheet_of}
use Rattle.pin_store.specs.Notes.{NotedFrom}
use Rattle.pin_store.specs.Found.{FoundIn}
use Rattle.desk_pools.proofs.OfTidying.Twice.{found_twice, unknown_all, last_start}
use Rattle.desk_pools.proofs.tidying.settling.settle.Goals as goal

pub returns-in-Pinned-clause-twice : goal.returns-in-Pinned-clause-twice
returns-in-Pinned-clause-twice g c = let zero = (sheet_of c.bump.new.self.place).notes in let first = (sheet_of c.scan.new.self.place).notes in let last = (sheet_of c.scan-in-Pinned.new.self.place).notes in
    let n = length (sheet_of c.args.writer.now.place).notes in let fresh : zero ≡ replicate n Unknown = ap (λ (d : Sheet). d.notes) c.bump.ensures.sheet in
    let one = c.scan.new.self.sound.noted in let shaped = ap (λ s. s.readers) c.scan.ensures.store.shaped in
    found_twice first last c.scan-in-Pinned.result c.scan-in-Pinned.ensures.same.count
    (λ i low. subst (λ (z : Note). NotedFrom z (get_or first i Unknown)) (ap (λ (z : List Note). get_or z i Unknown) fresh ∙ unknown_all n i) (c.scan.ensures.notes i (omega (arith, low, one, shaped))))
    (λ i low. c.scan-in-Pinned.ensures.notes i (omega (arith, low, one, shaped))) c.scan-in-Pinned.ensures.found

pub returns-in-Pinned-clause-quiet : goal.returns-in-Pinned-clause-quiet
returns-in-Pinned-clause-quiet g c = λ q. let old = sheet_of c.args.writer.now.place in let commits = length (seen_by c.args.writer.now.place) in
    let all = subst (FoundIn (sheet_of c.scan-in-Pinned.new.self.place).notes) q c.scan-in-Pinned.ensures.found in
    let quiet = c.scan-in-Pinned.ensures.quiet.clear all ∙ (c.scan.ensures.same.epoch ∙ ap (λ (d : Sheet). d.epoch) c.bump.ensures.sheet) in
    let starts = c.scan-in-Pinned.ensures.same.starts ∙ (c.scan.ensures.same.starts ∙ ap (λ (d : Sheet). d.starts) c.bump.ensures.sheet) in
    (λ t. get_or (starts t) (quiet t) 0) ∙ last_start old.starts commits (old.epoch + 1) c.args.writer.now.sound.begun

pub returns-in-Pinned-clause-low : goal.returns-in-Pinned-clause-low
returns-in-Pinned-clause-low g c = let s = c.scan-in-Pinned.new.self.sound in let last = sheet_of c.scan-in-Pinned.new.self.place in let up = s.rising last.quiet last.epoch s.quiet (le_refl last.epoch) in let top = s.recent in omega (arith, up, top)
