-- What a desk keeps of its lists and of its commits (this project's own). `h` is all commits, b is the base.
use Rattle.std.specs.Prelude.{ℕ, List, [], Some}
use Rattle.store_history.specs.declared.history.Commit.{Commit}
use Rattle.filter_state.specs.declared.edit.Edit.{Edit}
use Rattle.hook_lists.specs.declared.kept.Kept.{Kept}
use Rattle.filter_lists.specs.Spells.{Spells}
use Rattle.hook_law.specs.Places.{marker_root}
use Rattle.hook_law.specs.Keeping.{IsAtRest}
use Rattle.hook_store_law.specs.Stated.{hook_meaning}
use Rattle.hook_store_law.specs.Blocks.{hook_codec}
use Rattle.hook_store_law.specs.Kept.{IsKeptAt}
use Rattle.hook_store_law.specs.OfEdits.Premises.{now}

-- THE LISTS ARE THE STATE OF THE JOURNAL: the commits keep the law, with so many edits, each mask has its
-- size, and the lists spell the state to which the edits lead
pub record IsLedger (h : List (Commit Edit)) (b : ℕ) (lists : Kept) (point : ℕ) : Type 0 where
  pub kept : IsKeptAt h b point
  pub rest : IsAtRest hook_meaning hook_codec h
  pub spells : Spells lists (now h)

-- the commit of an edit that no walk can see
abbrev pub mark_at : ℕ → Edit → Commit Edit
mark_at number edit = record {
  root = marker_root;
  named = record { chain = []; stamp = number };
  edit = Some (number, edit);
}
