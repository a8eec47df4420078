use Rattle.std.proofs.Common.{◌∙◌, ◌==◌, Some, refl, sym, ap, eqb-true, eq-eqb}
use Rattle.slot_pasts.specs.Serials.{past_at}
use Rattle.state_past.specs.Told.{words_told, words_or_none}
use Rattle.state_past.proofs.Bringing.{on_ok, brought_put, brought_still}
use Rattle.state_past.proofs.masks.put_words.Goals as goal

pub returns : goal.returns
returns c = let words = c.args.words.now.words in
    on_ok _ _ c.put.result (λ told. brought_put c.args.from words_told (λ mask. words) c.args.mask (λ k. k == c.args.mask) (Some c.args.words.now) (past_at c.args.masks.now) (past_at c.put.new.self)
    (λ k same. sym (eqb-true k c.args.mask same)) (λ k same. eq-eqb k c.args.mask (sym same)) c.requires told refl) c.put.ensures

pub returns-then-has_words : goal.returns-then-has_words
returns-then-has_words c = let words = c.args.words.now.words in
    brought_still c.args.from words_told (λ mask. words) c.args.mask (past_at c.args.masks.now) c.requires (ap words_or_none (sym c.at.ensures) ∙ c.has_words.ensures c.if-has_words.true)
