-- What a walk asks, and what it is answered (this project's own, after the kernel's tcf_classify,
-- net/sched/cls_api.c, and fl_classify, net/sched/cls_flower.c).
use Rattle.std.specs.Prelude.{ℕ, List}
use Rattle.tc_base.specs.declared.hook.Hook.{Hook}
use Rattle.tc_base.specs.declared.hook.Proto.{Proto}
use Rattle.act_kinds.specs.declared.params.Params.{Params}

-- a table of a hook, with the serials of its masks in order
pub record Head : Type 0 where
  pub serial : ℕ
  pub chain : ℕ
  pub pref : ℕ
  pub protocol : Proto
  pub masks : List ℕ

-- The tables of a hook; the filter of a mask of a table that a frame with those field values meets; the
-- parameters of an action. Tables, masks and actions are named by serial.
pub data Question : Type 0 where
  heads_of : Hook → Question
  filter_of : (table mask : ℕ) (values : List ℕ) → Question
  params_of : ℕ → Question

-- the tables; no filter; the actions of the filter; the parameters
pub data Answer : Type 0 where
  told_heads : List Head → Answer
  told_no_filter : Answer
  told_actions : List ℕ → Answer
  told_params : Params → Answer
