use Rattle.std.proofs.Common.{◌≡◌, ◌≤◌, length, min}
use Rattle.flow_mask.specs.Places.{used_before, HasPlaces}
use Rattle.filter_index.specs.Sieves.{AreChosen}
use Rattle.filter_index.specs.declared.digests.TheConstants.{SIEVE_WORDS}
use Rattle.filter_index.proofs.sieve.choose.Given as goal

-- the first words so far that aren't 0 are chosen, all of them where there is room
abbrev pub invariant-loop-i : goal.invariant-loop-i
invariant-loop-i l = record {
  places : length l.places ≡ SIEVE_WORDS;
  words : length l.words ≡ SIEVE_WORDS;
  count : l.count ≡ min SIEVE_WORDS (used_before l.mask l.i);
  chosen : AreChosen l.mask l.places l.words l.count;
  listed : used_before l.mask l.i ≤ SIEVE_WORDS → HasPlaces l.mask l.i l.places l.count;
}
