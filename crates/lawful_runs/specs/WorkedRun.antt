-- A small job, and a run of it: a batch drops packets to 10.0.0.1. Another lets those to 10.0.0.2 pass, and
-- its edit is accepted between the first and the second visit of a packet to 10.0.0.2.
use Rattle.std.specs.Prelude.{ℕ, false, List, [], ◌∷◌, ◌++◌, Some, None, codes}
use Rattle.tc_base.specs.declared.hook.Hook.TheVariants as hooks
use Rattle.pcap_io.specs.declared.capture.Capture.{Capture}
use Rattle.frame_edit.specs.Metadata.{no_meta}
use Rattle.act_kinds.specs.declared.params.Kind.TheVariants as kinds
use Rattle.filter_state.specs.declared.refusal.Done.{Done}
use Rattle.filter_state.specs.declared.refusal.Done.TheVariants as dones
use Rattle.walk_rules.specs.declared.verdict.Verdict.TheVariants as verdicts
use Rattle.job_lines.specs.declared.job.Job.{Job}
use Rattle.run_report.specs.declared.events.Event.{Event}
use Rattle.run_report.specs.declared.events.EventKind.TheVariants as events
use Rattle.run_report.specs.declared.outcomes.Outcome.{Outcome}
use Rattle.run_report.specs.declared.rounds.RoundRecord.{RoundRecord}
use Rattle.run_report.specs.declared.record.RunRecord.{RunRecord}
use Rattle.lawful_runs.specs.declared.loaded.LoadedJob.{LoadedJob}

-- ---- what the files hold
abbrev pub first_batch : List ℕ
first_batch = codes
    "qdisc add dev eth0 clsact\nfilter add dev eth0 ingress protocol ip pref 10 flower dst_ip 10.0.0.1 action drop\n"

abbrev pub second_batch : List ℕ
second_batch = codes "filter add dev eth0 ingress protocol ip pref 10 flower dst_ip 10.0.0.2 action ok\n"

-- Ethernet, IPv4 (RFC 791) from 10.0.0.254 to 10.0.0.2, UDP (RFC 768) from port 5000 to port 53, and 18 bytes
abbrev pub frame : List ℕ
frame =
    0x02 ∷ 0x00 ∷ 0x00 ∷ 0x00 ∷ 0x00 ∷ 0x01 ∷ 0x02 ∷ 0x00 ∷ 0x00 ∷ 0x00 ∷ 0x00 ∷ 0x02 ∷ 0x08 ∷ 0x00
    ∷ 0x45 ∷ 0x00 ∷ 0x00 ∷ 0x2e ∷ 0x00 ∷ 0x00 ∷ 0x00 ∷ 0x00 ∷ 0x40 ∷ 0x11 ∷ 0x00 ∷ 0x00 ∷ 10 ∷ 0 ∷ 0 ∷ 254
    ∷ 10 ∷ 0 ∷ 0 ∷ 2
    ∷ 0x13 ∷ 0x88 ∷ 0x00 ∷ 0x35 ∷ 0x00 ∷ 0x1a ∷ 0x00 ∷ 0x00
    ∷ 0 ∷ 0 ∷ 0 ∷ 0 ∷ 0 ∷ 0 ∷ 0 ∷ 0 ∷ 0 ∷ 0 ∷ 0 ∷ 0 ∷ 0 ∷ 0 ∷ 0 ∷ 0 ∷ 0 ∷ 0 ∷ []

abbrev pub capture : Capture
capture = record {
  big = false;
  nanos = false;
  packets = record { seconds = 1; fraction = 0; original = 60; bytes = frame } ∷ [];
}

-- ---- the job
abbrev pub job : Job
job = record {
  workers = 1;
  controls = 1;
  rounds =
      record { batches = record { control = 1; name = codes "first.tc"; force = false } ∷ []; capture = None }
      ∷ record {
        batches = record { control = 1; name = codes "second.tc"; force = false } ∷ [];
        capture = Some (record { hook = hooks.Ingress; name = codes "in.pcap"; out = codes "out.pcap" });
      }
      ∷ [];
}

abbrev pub worked_job : LoadedJob
worked_job = record { job = job; batches = first_batch ∷ second_batch ∷ []; captures = capture ∷ [] }

-- ---- the run
abbrev pub accepted_line : ℕ → Done → Event
accepted_line line done = record { control = 1; line = line; kind = events.Accepted done }

abbrev pub outcome : Outcome
outcome = record {
  worker = 1;
  verdict = verdicts.Pass;
  bytes = frame;
  meta = no_meta;
  points = 2 ∷ 3 ∷ 3 ∷ [];
  executed = (2, 60) ∷ [];
}

abbrev pub first_round : RoundRecord
first_round = record {
  events = accepted_line 1 dones.Hooked ∷ accepted_line 2 (dones.Filter 10 1 (1 ∷ []))
      ∷ [];
  outcomes = [];
}

abbrev pub second_round : RoundRecord
second_round = record { events = accepted_line 1 (dones.Filter 10 2 (2 ∷ [])) ∷ []; outcomes = outcome ∷ [] }

abbrev pub worked_run : RunRecord
worked_run = record {
  rounds = first_round ∷ second_round ∷ [];
  counters =
      record { serial = 1; kind = kinds.Gact; index = 1; packets = 0; bytes = 0 }
      ∷ record { serial = 2; kind = kinds.Gact; index = 2; packets = 1; bytes = 60 }
      ∷ [];
}

abbrev pub worked_report : List ℕ
worked_report =
    codes "clsact report 1\nround 1\n"
    ++ codes "edit 1 control 1 line 1 hooked\nedit 2 control 1 line 2 filter pref 10 handle 0x1 actions 1\n"
    ++ codes "end round 1\nround 2\n"
    ++ codes "edit 3 control 1 line 1 filter pref 10 handle 0x2 actions 2\npacket 1 worker 1 pass length 60 points 2 3 3\n"
    ++ codes "end round 2\n"
    ++ codes "counter serial 1 gact index 1 packets 0 bytes 0\ncounter serial 2 gact index 2 packets 1 bytes 60\n"
    ++ codes "summary edits 3 refused 0 packets 1 passed 1 dropped 0\nend\n"
