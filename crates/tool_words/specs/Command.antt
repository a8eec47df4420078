-- What the words of the command line ask for. The eight commands are this project's own.
use Rattle.gen_files.specs.declared.limits.TheConstants.{GEN_MAX}
use Rattle.std.specs.Prelude.{ℕ, Bool, true, false, ◌&&◌, ◌==◌, nat_le, List, [], ◌∷◌, length, Option, Some}
use Rattle.std.specs.Prelude.{None, if◌then◌else◌, codes, map, string_bytes, String}
use Rattle.std.specs.List.{list_all}
use Rattle.std.specs.Str.{bytes_eq}
use Rattle.std.specs.Option.{option_map}
use Rattle.std.specs.declared.alloc.Global.{Global}
use Rattle.tc_base.specs.declared.hook.Hook.{Hook}
use Rattle.tc_base.specs.declared.hook.Hook.TheVariants.{Ingress, Egress}
use Rattle.tc_words.specs.Numbers.{decimal_of}

-- the files of a change: a batch, the change that is applied behind it, and a capture
pub record ChangeFiles : Type 0 where
  pub batch : List ℕ
  pub change : List ℕ
  pub capture : List ℕ

-- a command with the names that it was given
pub data Request : Type 0 where
  Walk : (hook : Hook) (batch capture output : List ℕ) → Request
  Show : (batch : List ℕ) → Request
  Run : (job : List ℕ) → Request
  Recheck : (job report : List ℕ) → Request
  Gen : (count : ℕ) (front : List ℕ) → Request
  Trace : (hook : Hook) (batch capture : List ℕ) → Request
  TraceReport : (job report : List ℕ) → Request
  Foresee : (hook : Hook) (files : ChangeFiles) (force : Bool) → Request

abbrev pub texts : List (String Global) → List (List ℕ)
texts words = map string_bytes words

abbrev pub hook_of : List ℕ → Option Hook
hook_of word =
    if bytes_eq word (codes "ingress") then Some Ingress else if bytes_eq word (codes "egress") then Some
    Egress else None

-- 1 to 4,096 in decimal digits without a needless 0
abbrev pub above_zero : Option ℕ → Option ℕ
above_zero None = None
above_zero (Some n) = if nat_le 1 n then Some n else None

abbrev pub count_of : List ℕ → Option ℕ
count_of word = above_zero (decimal_of word GEN_MAX)

-- a byte that may stand in the names of made files: printable, and no `#`, which would begin a comment
abbrev pub is_name_byte : ℕ → Bool
is_name_byte b = if b == 35 then false else nat_le 33 b && nat_le b 126

-- 1 to 200 such bytes
abbrev pub is_front : List ℕ → Bool
is_front word =
    if nat_le 1 (length word) && nat_le (length word) 200 then list_all is_name_byte word else false

abbrev pub gen_request : Option ℕ → List ℕ → Option Request
gen_request None front = None
gen_request (Some count) front = if is_front front then Some (Gen count front) else None

abbrev pub request_of_one : List ℕ → List ℕ → Option Request
request_of_one verb name =
    if bytes_eq verb (codes "show") then Some (Show name) else if bytes_eq verb (codes "run") then Some
    (Run name) else None

abbrev pub request_of_two : List ℕ → List ℕ → List ℕ → Option Request
request_of_two verb first second =
    if bytes_eq verb (codes "recheck") then Some (Recheck first second)
    else if bytes_eq verb (codes "gen") then gen_request (count_of first) second
    else if bytes_eq verb (codes "trace") then Some (TraceReport first second)
    else None

abbrev pub request_of_three : List ℕ → List ℕ → List ℕ → List ℕ → Option Request
request_of_three verb hook batch capture =
    if bytes_eq verb (codes "trace") then option_map (λ h. Trace h batch capture) (hook_of hook) else None

abbrev pub request_of_four : List ℕ → List ℕ → List ℕ → List ℕ → List ℕ → Option Request
request_of_four verb hook batch second third =
    if bytes_eq verb (codes "walk") then option_map (λ h. Walk h batch second third) (hook_of hook)
    else if bytes_eq verb (codes "foresee") then
    option_map (λ h. Foresee h (record { batch = batch; change = second; capture = third }) false) (hook_of hook)
    else None

-- the last word is the only one that may stand behind the files of a change
abbrev pub request_of_five : List ℕ → List ℕ → List ℕ → List ℕ → List ℕ → List ℕ → Option Request
request_of_five verb hook batch change capture last =
    if bytes_eq verb (codes "foresee") && bytes_eq last (codes "force") then
    option_map (λ h. Foresee h (record { batch = batch; change = change; capture = capture }) true) (hook_of hook)
    else None

-- `show BATCH`, `run JOB`, `recheck JOB REPORT`, `gen N PREFIX`, `trace JOB REPORT`,
-- `trace HOOK BATCH CAPTURE`, `walk HOOK BATCH CAPTURE OUT`, `foresee HOOK BATCH CHANGE CAPTURE` with `force` behind
-- it or nothing, and no other words
abbrev pub request_of : List (List ℕ) → Option Request
request_of (verb ∷ name ∷ []) = request_of_one verb name
request_of (verb ∷ first ∷ second ∷ []) = request_of_two verb first second
request_of (verb ∷ hook ∷ batch ∷ capture ∷ []) = request_of_three verb hook batch capture
request_of (verb ∷ hook ∷ batch ∷ second ∷ third ∷ []) = request_of_four verb hook batch second third
request_of (verb ∷ hook ∷ batch ∷ change ∷ capture ∷ last ∷ []) =
    request_of_five verb hook batch change capture last
request_of words = None

-- a command that runs a job, and so may start threads
abbrev pub runs_job : Request → Bool
runs_job (Walk hook batch capture output) = false
runs_job (Show batch) = false
runs_job (Run job) = true
runs_job (Recheck job report) = false
runs_job (Gen count front) = true
runs_job (Trace hook batch capture) = false
runs_job (TraceReport job report) = false
runs_job (Foresee hook files force) = false

abbrev pub asks_for_job : Option Request → Bool
asks_for_job None = false
asks_for_job (Some request) = runs_job request
