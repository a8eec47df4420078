-- Files that are put one after the other, each under a name of its own.
use Rattle.std.proofs.Common.{◌≡◌, ◌≢◌, ◌∙◌, ℕ, ◌+◌, List, [], ◌∷◌, ◌++◌, length, length-append, take, Option, Some, None, refl, sym, ap, subst, arith}
use Rattle.std.specs.Prelude.{codes}
use Rattle.tc_base.specs.Outside.{Held, OthersStay, Stands}
use Rattle.tool_run.specs.declared.generated.workload.Generated.{Generated}
use Rattle.tool_run.specs.OfGenerated.Generated.{MadeFile}
use Rattle.tool_run.specs.Made.{AllStand, IsNoneOf, AllElseStay, PutUpTo, files_in}

-- ---- one put
-- a file under another name stands as before
file_stays : (b c : Option Held) (name : List ℕ) (file : MadeFile) → OthersStay b c name → name ≢ file.name
    → Stands b file.name file.bytes → Stands c file.name file.bytes
file_stays None None name file stay apart stands = tt
file_stays (Some b) (Some c) name file stay apart stands = stay file.name (λ e. apart (sym e)) ∙ stands
file_stays None (Some c) name file stay apart stands = absurd stay
file_stays (Some b) None name file stay apart stands = absurd stay

files_stay : (b c : Option Held) (name : List ℕ) (files : List MadeFile) → OthersStay b c name
    → IsNoneOf name files → AllStand b files → AllStand c files
files_stay b c name [] stay none stand = tt
files_stay b c name (file ∷ files) stay none stand =
    (file_stays b c name file stay none.0 stand.0, files_stay b c name files stay none.1 stand.1)

stand-push : (told : Option Held) (files : List MadeFile) (file : MadeFile) → AllStand told files
    → Stands told file.name file.bytes → AllStand told (files ++ file ∷ [])
stand-push told [] file stand stands = (stands, tt)
stand-push told (first ∷ files) file stand stands = (stand.0, stand-push told files file stand.1 stands)

none-push : (name : List ℕ) (files : List MadeFile) (file : MadeFile) → IsNoneOf name (files ++ file ∷ [])
    → IsNoneOf name files × (name ≢ file.name)
none-push name [] file none = (tt, none.0)
none-push name (first ∷ files) file none =
    let rest = none-push name files file none.1 in
    ((none.0, rest.0), rest.1)

others-push : (a b c : Option Held) (files : List MadeFile) (file : MadeFile) → AllElseStay a b files
    → OthersStay b c file.name → AllElseStay a c (files ++ file ∷ [])
others-push None None None files file so_far stay = tt
others-push (Some a) (Some b) (Some c) files file so_far stay =
    λ other none.
    let apart = none-push other files file none in
    stay other apart.1 ∙ so_far other apart.0
others-push None (Some b) c files file so_far stay = absurd so_far
others-push (Some a) None c files file so_far stay = absurd so_far
others-push None None (Some c) files file so_far stay = absurd stay
others-push (Some a) (Some b) None files file so_far stay = absurd stay

-- nothing was put, and so every name stays
pub name_stays : (told : Option Held) (name : List ℕ) → OthersStay told told name
name_stays None name = tt
name_stays (Some held) name = λ other apart. refl

all_stay : (told : Option Held) (files : List MadeFile) → AllElseStay told told files
all_stay None files = tt
all_stay (Some held) files = λ other none. refl

pub nothing_put : (told : Option Held) (files : List MadeFile) → PutUpTo told told files
nothing_put told files = record { many = 0; stand = tt; others = all_stay told (take 1 files) }

-- ---- the first ones of the files were put
pub record ArePut (old now : Option Held) (files : List MadeFile) : Type 0 where
  pub stand : AllStand now files
  pub others : AllElseStay old now files

pub none_put : (told : Option Held) → ArePut told told []
none_put told = record { stand = tt; others = all_stay told [] }

-- one more was put
pub one_more_put : (a b c : Option Held) (files : List MadeFile) (file : MadeFile) → IsNoneOf file.name files
    → ArePut a b files → OthersStay b c file.name → Stands c file.name file.bytes
    → ArePut a c (files ++ file ∷ [])
one_more_put a b c files file none put stay stands = record {
  stand = stand-push c files file (files_stay b c file.name files stay none put.stand) stands;
  others = others-push a b c files file put.others stay;
}

-- one more wasn't put
pub one_not_put : (a b c : Option Held) (files : List MadeFile) (many : ℕ) (file : MadeFile)
    → take (many + 1) files ≡ take many files ++ file ∷ [] → IsNoneOf file.name (take many files)
    → ArePut a b (take many files) → OthersStay b c file.name → PutUpTo a c files
one_not_put a b c files many file more none put stay = record {
  many = many;
  stand = files_stay b c file.name (take many files) stay none put.stand;
  others = subst (λ (first : List MadeFile). AllElseStay a c first) (sym more)
      (others-push a b c (take many files) file put.others stay);
}

-- ---- the files of a workload
abbrev batch_file : List ℕ → Generated → MadeFile
batch_file front made = record { name = front ++ codes ".tc"; bytes = made.batch.items }

abbrev capture_file : List ℕ → Generated → MadeFile
capture_file front made = record { name = front ++ codes ".pcap"; bytes = made.capture.items }

abbrev job_file : List ℕ → Generated → MadeFile
job_file front made = record { name = front ++ codes ".job"; bytes = made.job.items }

abbrev output_file : List ℕ → Generated → MadeFile
output_file front made = record { name = front ++ codes ".out.pcap"; bytes = made.output.items }

-- the ends of their names differ in length
apart : (front end other : List ℕ) → length end ≢ length other → front ++ end ≢ front ++ other
apart front end other lengths e =
    lengths (let a = length-append front end in let b = length-append front other in
    let whole = ap length e in omega (arith, a, b, whole))

capture_apart : (front : List ℕ) (made : Generated)
    → IsNoneOf (front ++ codes ".pcap") (take 1 (files_in front made))
capture_apart front made = (apart front (codes ".pcap") (codes ".tc") (λ e. omega (arith, e)), tt)

job_apart : (front : List ℕ) (made : Generated)
    → IsNoneOf (front ++ codes ".job") (take 2 (files_in front made))
job_apart front made =
    let capture = apart front (codes ".job") (codes ".pcap") (λ e. omega (arith, e)) in
    (apart front (codes ".job") (codes ".tc") (λ e. omega (arith, e)), (capture, tt))

output_apart : (front : List ℕ) (made : Generated)
    → IsNoneOf (front ++ codes ".out.pcap") (take 3 (files_in front made))
output_apart front made =
    let job = apart front (codes ".out.pcap") (codes ".job") (λ e. omega (arith, e)) in
    let capture = apart front (codes ".out.pcap") (codes ".pcap") (λ e. omega (arith, e)) in
    (apart front (codes ".out.pcap") (codes ".tc") (λ e. omega (arith, e)), (capture, (job, tt)))

-- the first so many of the files were put
abbrev pub FilesPut : ℕ → List ℕ → Generated → Option Held → Option Held → Type 0
FilesPut many front made old now = ArePut old now (take many (files_in front made))

-- the batch was put, then the capture, then the job, then the output
pub batch_put : (front : List ℕ) (made : Generated) (a b : Option Held)
    → OthersStay a b (front ++ codes ".tc") → Stands b (front ++ codes ".tc") made.batch.items
    → FilesPut 1 front made a b
batch_put front made a b stay stands =
    one_more_put a a b [] (batch_file front made) tt (none_put a) stay stands

pub capture_put : (front : List ℕ) (made : Generated) (a b c : Option Held) → FilesPut 1 front made a b
    → OthersStay b c (front ++ codes ".pcap") → Stands c (front ++ codes ".pcap") made.capture.items
    → FilesPut 2 front made a c
capture_put front made a b c put stay stands =
    one_more_put a b c (take 1 (files_in front made)) (capture_file front made) (capture_apart front made) put
    stay stands

pub job_put : (front : List ℕ) (made : Generated) (a b c : Option Held) → FilesPut 2 front made a b
    → OthersStay b c (front ++ codes ".job") → Stands c (front ++ codes ".job") made.job.items
    → FilesPut 3 front made a c
job_put front made a b c put stay stands =
    one_more_put a b c (take 2 (files_in front made)) (job_file front made) (job_apart front made) put stay
    stands

pub output_put : (front : List ℕ) (made : Generated) (a b c : Option Held) → FilesPut 3 front made a b
    → OthersStay b c (front ++ codes ".out.pcap") → Stands c (front ++ codes ".out.pcap") made.output.items
    → ArePut a c (files_in front made)
output_put front made a b c put stay stands =
    one_more_put a b c (take 3 (files_in front made)) (output_file front made) (output_apart front made) put
    stay stands

-- the capture wasn't put, or the job, or the output
pub capture_not_put : (front : List ℕ) (made : Generated) (a b c : Option Held) → FilesPut 1 front made a b
    → OthersStay b c (front ++ codes ".pcap") → PutUpTo a c (files_in front made)
capture_not_put front made a b c put stay =
    one_not_put a b c (files_in front made) 1 (capture_file front made) refl (capture_apart front made) put
    stay

pub job_not_put : (front : List ℕ) (made : Generated) (a b c : Option Held) → FilesPut 2 front made a b
    → OthersStay b c (front ++ codes ".job") → PutUpTo a c (files_in front made)
job_not_put front made a b c put stay =
    one_not_put a b c (files_in front made) 2 (job_file front made) refl (job_apart front made) put stay

pub output_not_put : (front : List ℕ) (made : Generated) (a b c : Option Held) → FilesPut 3 front made a b
    → OthersStay b c (front ++ codes ".out.pcap") → PutUpTo a c (files_in front made)
output_not_put front made a b c put stay =
    one_not_put a b c (files_in front made) 3 (output_file front made) refl (output_apart front made) put stay
