-- What a printer, which holds bytes back for a while, has put of the texts that it was given.
use Rattle.std.specs.Prelude.{◌≡◌, ◌++◌, ◌⊎◌, ℕ, List, Option}
use Rattle.std.specs.Io.KnownBytes.{Appends}
use Rattle.pmem_cli.specs.Wholes.{Known, ForEachWhole, left_in, left_before_in}

-- a prefix of these bytes was put
pub record AppendsFront (before after : Option (List ℕ)) (bytes : List ℕ) : Type 0 where
  pub done : List ℕ
  pub rest : List ℕ
  pub cut : bytes ≡ done ++ rest
  pub appended : Appends before after done

-- the bytes that were put, if they are exposed, and those that wait to be put after them
pub record Output : Type 0 where
  pub put : Option (List ℕ)
  pub waiting : List ℕ

abbrev pub with_waiting : Option (List ℕ) → List ℕ → Output
with_waiting put waiting = record { put = put; waiting = waiting }

-- a text was printed: what waited and then the text was put, except for what waits now
pub record Prints (before after : Output) (text : List ℕ) : Type 0 where
  pub done : List ℕ
  pub in_order : before.waiting ++ text ≡ done ++ after.waiting
  pub appended : Appends before.put after.put done

-- what waited and then the text was put, and maybe more
abbrev pub PutsAtLeast : Output → Option (List ℕ) → List ℕ → Type 0
PutsAtLeast before put text = (more : List ℕ) × Appends before.put put (before.waiting ++ text ++ more)

-- a prefix of what waited and then the text was put
abbrev pub PrintsFront : Output → Output → List ℕ → Type 0
PrintsFront before after text = AppendsFront before.put after.put (before.waiting ++ text)

-- ---- a sink, a source and a printer before and after a call

-- a text was printed between two states of a sink, of which `put` tells what was put: so much waited before, and so much waits
abbrev pub HasPrinted : {K : Type 0} → (K → Option (List ℕ)) → K → K → List ℕ → List ℕ → List ℕ → Type 0
HasPrinted put out_old out_new waited waiting text = Prints (with_waiting (put out_old) waited) (with_waiting (put out_new) waiting) text

-- a prefix of the text was, if the sink failed
abbrev pub HasPrintedFront : {K : Type 0} → (K → Option (List ℕ)) → K → K → List ℕ → List ℕ → List ℕ → Type 0
HasPrintedFront put out_old out_new waited waiting text =
    PrintsFront (with_waiting (put out_old) waited) (with_waiting (put out_new) waiting) text

-- A fact of what the source had left and has left, whatever all its bytes may be, and of what was printed before and after.
abbrev pub Across : {S K : Type 0} → (Option (List ℕ) → Option (List ℕ) → Output → Output → Type 0)
    → (S → Known) → S → S → (K → Option (List ℕ)) → K → K → List ℕ → List ℕ → Type 0
Across fact known trace_old trace_new put out_old out_new waited waiting =
    ForEachWhole (known trace_new) (λ whole.
    fact (left_in known whole trace_old) (left_in known whole trace_new) (with_waiting (put out_old) waited) (with_waiting (put out_new) waiting))

-- The source is as it was. Or a fact of what it had left at first and before its last pull, of what was printed before,
-- and of what is put now. So it is whatever all its bytes may be.
abbrev pub IfPulled : {S K : Type 0} → (Option (List ℕ) → Option (List ℕ) → Output → Option (List ℕ) → Type 0)
    → (S → Known) → S → S → (K → Option (List ℕ)) → K → K → List ℕ → Type 0
IfPulled fact known trace_old trace_new put out_old out_new waited =
    ForEachWhole (known trace_new) (λ whole.
    (trace_new ≡ trace_old) ⊎ fact (left_in known whole trace_old) (left_before_in known whole trace_new) (with_waiting (put out_old) waited) (put out_new))
