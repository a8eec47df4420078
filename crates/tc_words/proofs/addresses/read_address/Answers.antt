use Rattle.std.proofs.Common.{◌∙◌, sym}
use Rattle.tc_words.proofs.Dotted.{no_dot, one_dot, two_dots, three_dots}
use Rattle.tc_words.proofs.addresses.read_address.Goals as goal

pub returns-in_err-first : goal.returns-in_err-first
returns-in_err-first c = c.from_residual.ensures ∙ sym (no_dot _ (sym c.in_err-first.ensures))

pub returns-in_err-second : goal.returns-in_err-second
returns-in_err-second c = c.from_residual-in_err-second.ensures ∙ sym (one_dot _ _ _ (sym c.in_ok-first.ensures) (sym c.in_err-second.ensures))

pub returns-in_err-third : goal.returns-in_err-third
returns-in_err-third c = c.from_residual-in_err-third.ensures ∙ sym (two_dots _ _ _ _ _ (sym c.in_ok-first.ensures) (sym c.in_ok-second.ensures) (sym c.in_err-third.ensures))

pub returns : goal.returns
returns c =
    let address = three_dots c.args.text.now c.in_ok-first.first.now c.in_ok-first.rest.now c.in_ok-second.second.now c.in_ok-second.rest.now c.in_ok-third.third.now c.in_ok-third.fourth.now (sym c.in_ok-first.ensures) (sym c.in_ok-second.ensures) (sym c.in_ok-third.ensures) in
    cc (address, c.join_octets.ensures, c.read_octet.ensures, c.read_octet-2.ensures, c.read_octet-3.ensures, c.read_octet-4.ensures)
