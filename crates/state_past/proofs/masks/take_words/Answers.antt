use Rattle.std.proofs.Common.{[], ◌==◌, None, refl, sym, eqb-true, eq-eqb}
use Rattle.slot_pasts.specs.Serials.{past_at}
use Rattle.state_past.specs.Told.{words_told}
use Rattle.state_past.proofs.Bringing.{on_ok, brought_put}
use Rattle.state_past.proofs.masks.take_words.Goals as goal

pub returns : goal.returns
returns c = on_ok _ _ c.put.result (λ told. brought_put c.args.from words_told (λ mask. []) c.args.mask (λ k. k == c.args.mask) None (past_at c.args.masks.now) (past_at c.put.new.self)
    (λ k same. sym (eqb-true k c.args.mask same)) (λ k same. eq-eqb k c.args.mask (sym same)) c.requires told refl) c.put.ensures
