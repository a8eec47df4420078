-- A fate, as it is read (this project's own).
use Rattle.fate_search.specs.Found.{Found}
use Rattle.change_fates.specs.declared.views.FateView.{FateView}

abbrev pub fate_seen : FateView → Found
fate_seen fate = record {
  verdict = fate.verdict;
  length = fate.length;
  meta = fate.meta;
  bytes = fate.bytes.now;
  points = fate.points.now;
}
