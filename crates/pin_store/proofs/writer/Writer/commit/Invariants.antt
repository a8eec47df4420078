use Rattle.pin_store.specs.Layout.{commit_of}
use Rattle.pin_store.proofs.writer.Writer.commit.Given as goal

abbrev pub ghosts-put : goal.ghosts-put
ghosts-put g a = record { commit = commit_of a.store.now.shape a.self.now.place.me.0.sheet.cells a.root a.chain.now a.stamp a.edit g.E.EditName.edit }
