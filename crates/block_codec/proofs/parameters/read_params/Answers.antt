use Rattle.std.proofs.Common.{◌≡◌, ◌∙◌, ap, sym, subst, Some}
use Rattle.std.specs.Prelude.{unwrap_or}
use Rattle.std.proofs.lemmas.Bool.{false≢true}
use Rattle.block_codec.specs.Parameters.{params_words, AreStorable, AreParamsIn}
use Rattle.block_codec.proofs.Standing.{none_only}
use Rattle.block_codec.proofs.Giving.{read_back, equal_words}
use Rattle.block_codec.proofs.parameters.read_params.Goals as goal
use Rattle.block_codec.proofs.parameters.read_params.Goals.{else-are_storable-via-then-are_storable+else-eq, else-are_storable-via-else-are_storable}

pub returns-else-are_storable : goal.returns-else-are_storable
returns-else-are_storable c = none_only (AreParamsIn c.args.words.now) (λ given is.
    let both : Some c.in_ok-params.params ≡ Some given = sym c.in_ok-params.was ∙ (c.params_in.ensures ∙ read_back c.args.words.now given is) in
    let same : c.in_ok-params.params ≡ given = ap (λ o. unwrap_or o given) both in
    elim c.else-are_storable.branch [
      | else-are_storable-via-then-are_storable+else-eq w ↦
          let words = w.as_slice.ensures ∙ (w.params_words.ensures.words ∙ (ap params_words same ∙ sym is.words_are)) in
          absurd (false≢true (sym w.if-eq.false ∙ (w.eq.ensures ∙ equal_words w.as_slice.result.now c.args.words.now words)))
      | else-are_storable-via-else-are_storable w ↦ absurd (false≢true (sym w.if-are_storable.false ∙ c.are_storable.ensures.1 (subst AreStorable (sym same) is.storable)))
    ])
