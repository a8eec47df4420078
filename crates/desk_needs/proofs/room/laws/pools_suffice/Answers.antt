use Rattle.desk_needs.proofs.OfRoom.Pools.{suffice, edit_few}
use Rattle.desk_needs.proofs.room.laws.pools_suffice.Goals as goal

pub returns : goal.returns
returns c = λ s t y done pool sound line e. suffice s y pool sound (edit_few s t done sound y line e)
