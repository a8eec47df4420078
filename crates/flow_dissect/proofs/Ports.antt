-- What a transport header puts, for each way in which it may be there.
use Rattle.std.proofs.Common.{◌≡◌, ℕ, ◌+◌, ◌%◌, ◌<◌, ◌≤◌, ◌==◌, ◌||◌, List, length, slice_set, refl, arith}
use Rattle.std.proofs.lemmas.Bool.{lt-leb, le-leb, ne_eqb}
use Rattle.std.proofs.Math.Bool.{and-false}
use mathlib.Core.Logic.{◌≢◌}
use Rattle.frame_edit.specs.Tags.{two_at}
use Rattle.flow_dissect.proofs.Puts.{put}
use Rattle.flow_dissect.specs.Steps.{with_ports, with_transport}

-- a header of another protocol puts nothing
pub other_protocol : (bytes values : List ℕ) (protocol at : ℕ) → protocol ≢ 6 → protocol ≢ 17 → values ≡ with_transport bytes protocol at values
other_protocol bytes values protocol at tcp udp = rw (ne_eqb protocol 6 tcp) (rw (ne_eqb protocol 17 udp) refl)

-- one that is cut off within its ports puts nothing
pub no_ports : (bytes values : List ℕ) (protocol at : ℕ) → length bytes < at + 4 → values ≡ with_transport bytes protocol at values
no_ports bytes values protocol at short = rw (lt-leb (at + 4) (length bytes) short) (rw (and-false (protocol == 6 || protocol == 17)) refl)

-- UDP's header puts the ports
pub udp : (bytes old new : List ℕ) (protocol at : ℕ) → protocol ≡ 17 → at + 4 ≤ length bytes → new ≡ with_ports bytes at old → new ≡ with_transport bytes protocol at old
udp bytes old new protocol at is long ports = rw is (rw (le-leb (at + 4) (length bytes) long) ports)

-- and so does TCP's that is cut off behind them
pub short_tcp : (bytes old new : List ℕ) (protocol at : ℕ) → protocol ≡ 6 → at + 4 ≤ length bytes → length bytes < at + 14 → new ≡ with_ports bytes at old →
    new ≡ with_transport bytes protocol at old
short_tcp bytes old new protocol at is long short ports =
    rw is (rw (le-leb (at + 4) (length bytes) long) (rw (lt-leb (at + 14) (length bytes) short) ports))

-- a longer one puts the flags too
pub tcp : (bytes old once new : List ℕ) (protocol at flags : ℕ) → protocol ≡ 6 → at + 14 ≤ length bytes → once ≡ with_ports bytes at old → new ≡ slice_set once 10 flags →
    flags ≡ two_at bytes (at + 12) % 4096 → new ≡ with_transport bytes protocol at old
tcp bytes old once new protocol at flags is long ports set number =
    rw is (rw (le-leb (at + 4) (length bytes) (omega arith)) (rw (le-leb (at + 14) (length bytes) long) (put _ _ _ _ _ _ set ports number)))
