-- Files that are put behind others.
use Rattle.std.proofs.Common.{ℕ, List, [], ◌∷◌, ◌++◌, Option, Some, None, refl, sym, subst, inl, inr}
use Rattle.tc_base.specs.Outside.{Held, OthersStay}
use Rattle.tool_run.specs.OfGenerated.Generated.{MadeFile}
use Rattle.tool_run.specs.OfOutputs.Puts.{ArePut, ArePutUpTo}

-- more files are put behind those that were
pub put_on : (old between new : Option Held) (files more : List MadeFile) → ArePut old between files
    → ArePut between new more → ArePut old new (files ++ more)
put_on old between new [] more put rest = subst (λ (held : Option Held). ArePut held new more) put rest
put_on old between new (file ∷ files) more put rest =
    (put.0, put.1, put.2, put_on put.0 between new files more put.3 rest)

pub put_on_up_to : (old between new : Option Held) (files more : List MadeFile) → ArePut old between files
    → ArePutUpTo between new more → ArePutUpTo old new (files ++ more)
put_on_up_to old between new [] more put rest =
    subst (λ (held : Option Held). ArePutUpTo held new more) put rest
put_on_up_to old between new (file ∷ files) more put rest =
    inr (put.0, put.1, put.2, put_on_up_to put.0 between new files more put.3 rest)

-- ---- puts that ended before more files
name_stays : (held : Option Held) (name : List ℕ) → OthersStay held held name
name_stays None name = tt
name_stays (Some held) name = λ other apart. refl

pub none_put : (held : Option Held) (files : List MadeFile) → ArePutUpTo held held files
none_put held [] = refl
none_put held (file ∷ files) = inl (name_stays held file.name)

pub up_to_among : (old new : Option Held) (files more : List MadeFile) → ArePutUpTo old new files
    → ArePutUpTo old new (files ++ more)
up_to_among old new [] more put = subst (λ (held : Option Held). ArePutUpTo old held more) (sym put) (none_put old more)
up_to_among old new (file ∷ files) more (inl others) = inl others
up_to_among old new (file ∷ files) more (inr put) =
    inr (put.0, put.1, put.2, up_to_among put.0 new files more put.3)
