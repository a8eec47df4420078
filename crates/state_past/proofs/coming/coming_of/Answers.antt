use Rattle.std.proofs.Common.{refl, sym}
use Rattle.state_past.proofs.Remembered.{same_pref, same_handle, same_serials, mask_is_there, its_mask}
use Rattle.state_past.proofs.coming.coming_of.Goals as goal

pub returns-in_err-mask-clause-row : goal.returns-in_err-mask-clause-row
returns-in_err-mask-clause-row c = λ t spells sound row is has. absurd (mask_is_there c.args.line.now c.args.pref c.args.handle c.args.serials.now row is t.rows has (c.mask_serial.ensures.none c.in_err-mask.was t spells))

pub returns-clause-row : goal.returns-clause-row
returns-clause-row c = λ t spells sound row is has. record {
  mask = its_mask c.args.line.now c.args.pref c.args.handle c.args.serials.now row is t.rows has sound.together c.in_ok-mask.mask _ refl (c.in_ok-mask.ensures.some t spells);
  words = sym is.mask;
  key = sym is.key;
  hook = sym is.hook;
  chain = sym is.chain;
  pref = same_pref c.args.line.now c.args.pref c.args.handle c.args.serials.now row is t.rows has;
  handle = same_handle c.args.line.now c.args.pref c.args.handle c.args.serials.now row is t.rows has;
  actions = same_serials c.args.line.now c.args.pref c.args.handle c.args.serials.now row is t.rows has;
}
