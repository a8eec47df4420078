use Rattle.shared_hook.proofs.desk.Desk.try_apply.Given as goal

abbrev pub ghosts-apply_as : goal.ghosts-apply_as
ghosts-apply_as a = record { edit = a.edit.now }
