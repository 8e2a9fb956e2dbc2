-- A plan: what a call does of a board, step by step, and what each of its ends leaves.
use Rattle.std.specs.Prelude.{ℕ, zero, suc, ◌+◌, List, [], ◌∷◌, Result, Ok, Err}
use Rattle.pmem_base.specs.declared.faults.Cut.{Cut}
use Rattle.pmem_base.specs.declared.lines.Line.{Line}
use Rattle.pmem_base.specs.declared.registers.Regs.{Regs}

-- A plan is done with a T, or stops with an E. Each step says what a cut before it leaves, an E.
pub data Plan (E T : Type 0) : Type 0 where
  done : T → Plan E T
  stop : E → Plan E T
  read : E → ℕ → (Line → Plan E T) → Plan E T
  write : E → ℕ → Line → Plan E T → Plan E T
  latch : E → Regs → Plan E T → Plan E T

-- one plan, and if it is done another one, as `?` goes on
unfoldable pub bind : {E T U : Type 0} → Plan E T → (T → Plan E U) → Plan E U
bind (done t) next = next t
bind (stop left) next = stop left
bind (read left at later) next = read left at (λ line. bind (later line) next)
bind (write left at line later) next = write left at line (bind later next)
bind (latch left regs later) next = latch left regs (bind later next)

-- the same steps, with other words for what an end leaves
unfoldable pub mapped : {E F T U : Type 0} → (E → F) → (T → U) → Plan E T → Plan F U
mapped f h (done t) = done (h t)
mapped f h (stop left) = stop (f left)
mapped f h (read left at later) = read (f left) at (λ line. mapped f h (later line))
mapped f h (write left at line later) = write (f left) at line (mapped f h later)
mapped f h (latch left regs later) = latch (f left) regs (mapped f h later)

-- A plan over a part of the state, in the words of the whole: where the part stands in it, and what its
-- faults are there.
abbrev pub lifted : {S P A F G : Type 0} → (S → P) → (F → G) → Plan (S × F) (S × A) → Plan (P × G) (P × A)
lifted whole fault plan = mapped (λ left. (whole left.0, fault left.1)) (λ end. (whole end.0, end.1)) plan

-- n turns, each with its number, from number i on; a turn takes what the one before it was done with
unfoldable pub repeated : {E T : Type 0} → (ℕ → T → Plan E T) → ℕ → ℕ → T → Plan E T
repeated turn i zero t = done t
repeated turn i (suc n) t = bind (turn i t) (λ t. repeated turn (i + 1) n t)

-- a turn for each item, in order
unfoldable pub for_each : {X E T : Type 0} → (X → T → Plan E T) → List X → T → Plan E T
for_each turn [] t = done t
for_each turn (x ∷ later) t = bind (turn x t) (λ t. for_each turn later t)

-- ---- ends

abbrev pub the_cut : Cut
the_cut = record {}

-- an answer, with the state that it leaves
abbrev pub ended : {S A F : Type 0} → Result A F → S → Result (S × A) (S × F)
ended (Ok value) state = Ok (state, value)
ended (Err fault) state = Err (state, fault)

-- an end in other words
abbrev pub mapped_end : {E F T U : Type 0} → (E → F) → (T → U) → Result T E → Result U F
mapped_end f h (Ok t) = Ok (h t)
mapped_end f h (Err left) = Err (f left)
