use Rattle.std.proofs.Common.{◌≡◌, ℕ, None, refl, sym, ◌∙◌, ap, subst}
use Rattle.filter_state.specs.Tables.{mask_row}
use Rattle.filter_state.specs.Steps.{pref_for}
use Rattle.hook_store_law.specs.OfEdits.Premises.{now}
use Rattle.desk_actions.specs.OfLedgers.Kept.{commits}
use Rattle.desk_parts.proofs.OfWays.Looked.{sound}
use Rattle.desk_parts.proofs.OfWays.Prefs.{no_table, same_pref}
use Rattle.desk_parts.proofs.ways.seeking.way_in.Goals.{in-Some, in-None}
use Rattle.desk_parts.proofs.ways.seeking.way_in.Goals as goal

pub returns-in-None-found-clause-way : goal.returns-in-None-found-clause-way
returns-in-None-found-clause-way c = λ y add.
    let line = c.args.line.now in
    let s = now (commits c.args.parts.now.ledger) in
    record {
      line = line;
      add = add;
      on = refl;
      none = λ pref chosen. elim c.match-line.branch [
        | in-Some w ↦ subst (λ (p : ℕ). mask_row line.hook line.chain p line.mask.words s.rows ≡ None) (same_pref s line.hook line.chain line.pref w.in-Some.pref pref w.in-Some.is chosen)
            (w.mask_in-found.ensures.none (sym w.found-is ∙ c.in-None-found.is))
        | in-None w ↦ no_table s line.hook line.chain pref line.mask.words (sound c.args.parts.now c.requires) (sym (ap (pref_for s line.hook line.chain) w.in-None.is) ∙ chosen)
      ];
    }
