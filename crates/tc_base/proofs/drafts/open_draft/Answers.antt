use Rattle.std.specs.Prelude.{Ok, Err}
use Rattle.tc_base.proofs.AskedCalls.{Asked-one, Asked-mere, Asked-opens, Asked-opens_not}
use Rattle.tc_base.proofs.drafts.open_draft.Goals as goal

pub returns-in_err-draft-in-File : goal.returns-in_err-draft-in-File
returns-in_err-draft-in-File g c =
    let tried = Asked-mere _ _ _ _ (Asked-one _ _ _ c.look.ensures tt) c.try_write.ensures tt in
    let e = c.in_err-draft-in-File.field-0.0 in
    Asked-opens_not g.D.File.Write.contents _ _ _ _ _ c.from_residual-in_err-draft-in-File.ensures.1
    (Asked-opens g.D.File.Write.contents c.args.name.now (Err e) _ _ _ tried c.in_err-draft-in-File.ensures)

pub returns-in-Nothing : goal.returns-in-Nothing
returns-in-Nothing g c =
    Asked-opens g.D.File.Write.contents _ _ _ _ _ (Asked-one _ _ _ c.look.ensures tt) c.beside_or_in_place.ensures

pub returns-in_ok-draft-in-File : goal.returns-in_ok-draft-in-File
returns-in_ok-draft-in-File g c =
    let tried = Asked-mere _ _ _ _ (Asked-one _ _ _ c.look.ensures tt) c.try_write.ensures tt in
    Asked-opens g.D.File.Write.contents c.args.name.now (Ok c.in_ok-draft-in-File.draft) _ _ _ tried
    c.in_ok-draft-in-File.ensures
