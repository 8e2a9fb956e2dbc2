-- What each answer of a session's call means.
use Rattle.std.specs.Prelude.{ℕ, ◌≡◌, ⊤, List, Option, Some, None, Result, Ok, Err}
use Rattle.arrayvec.specs.ArrayVec.{ArrayVec}
use Rattle.pmem_base.specs.declared.answers.Exhibit.{Exhibit}
use Rattle.pmem_base.specs.declared.commands.Kind.{Kind}
use Rattle.trace_text.specs.declared.talk.Halt.{Halt}
use Rattle.trace_text.specs.declared.talk.Halt.TheVariants as Stop

-- what a line is to a grammar
pub data Sort : Type 0 where
  skipped : Sort
  asked : Sort
  faulty : Kind → Sort

abbrev pub Talked : Type 0
Talked = Result (Option (ArrayVec ℕ)) Halt

-- which answers come of which lines
abbrev pub IsOfSort : Talked → Sort → Type 0
IsOfSort (Ok None) sort = sort ≡ skipped
IsOfSort (Ok (Some text)) sort = sort ≡ asked
IsOfSort (Err Stop.Memory) sort = sort ≡ asked
IsOfSort (Err (Stop.Line kind)) sort = sort ≡ faulty kind
IsOfSort (Err (Stop.Shown exhibit)) sort = sort ≡ asked

-- what holds of a text
abbrev pub IfText : Talked → (List ℕ → Type 0) → Type 0
IfText (Ok (Some text)) P = P text.items
IfText talked P = ⊤

-- what holds of an exhibit
abbrev pub IfShown : Talked → (Exhibit → Type 0) → Type 0
IfShown (Err (Stop.Shown exhibit)) P = P exhibit
IfShown talked P = ⊤

-- what holds if memory was needed
abbrev pub IfMemory : Talked → Type 0 → Type 0
IfMemory (Err Stop.Memory) P = P
IfMemory talked P = ⊤

-- what holds if nothing was done
abbrev pub IfNothing : Talked → Type 0 → Type 0
IfNothing (Ok None) P = P
IfNothing (Err Stop.Memory) P = P
IfNothing (Err (Stop.Line kind)) P = P
IfNothing talked P = ⊤
