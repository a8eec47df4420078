use Rattle.std.proofs.Common.{◌≡◌, ℕ, ◌++◌, ◌∷◌, [], List, Bool, cond, sym, ap, ◌∙◌}
use Rattle.frame_edit.specs.declared.meta.Meta.{Meta}
use Rattle.capture_walk.specs.declared.ends.PacketEnd.{PacketEnd}
use Rattle.capture_walk.specs.EndWords.{is_noted, noted_meta, end_in, ends_in}
use Rattle.capture_walk.proofs.EndWords.{ends_in-push, AreNoted-push, one_note}
use Rattle.capture_walk.proofs.end_list.Ends.push.Goals as goal

pub returns-clause-ok : goal.returns-clause-ok
returns-clause-ok c =
    let words = c.self.inside.words.items in
    let notes = c.self.inside.notes.items in
    let end = c.args.end in
    let more : List Meta = cond c.in_ok-noted.noted (end.meta ∷ []) [] in
    let word = c.word_of.result in
    let all : c.push.new.self.items ≡ words ++ word ∷ [] = c.in_ok-push.ensures.items ∙ ap (λ (ws : List ℕ). ws ++ word ∷ []) c.in_ok-reserve.ensures.items in
    let meta : noted_meta (is_noted word) more ≡ end.meta = ap (λ (b : Bool). noted_meta b more) c.word_of.ensures.noted ∙ c.in_ok-noted.ensures.meta in
    rw (all, c.in_ok-noted.ensures.noted, ← c.self.view_is)
    (ends_in-push words notes more word c.self.invariant
    ∙ ap (λ (m : Meta). ends_in words notes ++ end_in word m ∷ []) meta
    ∙ ap (λ (e : PacketEnd). ends_in words notes ++ e ∷ []) c.word_of.ensures.end)

pub invariant_of-self-2 : goal.invariant_of-self-2
invariant_of-self-2 c =
    let words = c.self.inside.words.items in
    let notes = c.self.inside.notes.items in
    let end = c.args.end in
    let more : List Meta = cond c.in_ok-noted.noted (end.meta ∷ []) [] in
    let word = c.word_of.result in
    let all : c.push.new.self.items ≡ words ++ word ∷ [] = c.in_ok-push.ensures.items ∙ ap (λ (ws : List ℕ). ws ++ word ∷ []) c.in_ok-reserve.ensures.items in
    rw (all, c.in_ok-noted.ensures.noted)
    (AreNoted-push words notes more word c.self.invariant (one_note c.in_ok-noted.noted end.meta ∙ ap (λ (b : Bool). cond b 1 0) (sym c.word_of.ensures.noted)))
