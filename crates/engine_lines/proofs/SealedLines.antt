-- Memory as the marks have it: each line of an anchored chip was sealed, and its plain line is whole.
use Rattle.std.proofs.Common.{rules, ℕ, ◌≡◌, ◌<◌, List, Option, Some, None, refl, sym, ap, subst, ◌∙◌, zero-add, arith}
use Rattle.std.specs.Prelude.{IsSome, option_map, unwrap_or}
use Rattle.std.proofs.lemmas.Option.{none-some, same_Some}
use Rattle.std.proofs.lemmas.List.Elements.{All-from_get_or}
use Rattle.std.proofs.lemmas.List.FromFn.{length-map-range_with_len, get_or-map-range_with_len}
use Rattle.pmem_base.specs.declared.lines.Line.{Line}
use Rattle.pmem_base.specs.declared.answers.Mark.{Mark}
use Rattle.pmem_base.specs.declared.answers.Mark.TheVariants.{Seal}
use Rattle.pmem_base.specs.declared.registers.Regs.{Regs}
use Rattle.pmem_base.specs.Layout.{data_lines}
use Rattle.pmem_base.specs.Lines.{IsLine, line_at, zero_line}
use Rattle.pmem_base.specs.Marks.{SealOf, last_seal}
use Rattle.board.specs.Device.{AreLinesOf}
use Rattle.seal_ledger.specs.Ledger.{LedgerState, IsMark}
use Rattle.seal_ledger.proofs.MarkLemmas.{last_seal_has}
use Rattle.suite.specs.Formulas.{AreInRange}
use Rattle.suite.specs.Setup.{Setup}
use Rattle.suite.proofs.CipherLemmas.{xor_lines-IsLine}
use Rattle.plain_model.specs.State.{Memory}
use Rattle.plain_model.specs.View.{IsMemoryOf, plain_of_seal, plain_line, plain_memory}
use Rattle.pmem_engine.specs.Invariants.{IsAnchored}

-- ---- sealed lines

some_mapped : {X Y : Type 0} (f : X → Y) (found : Option X) (y : Y) → option_map f found ≡ Some y → IsSome found
some_mapped f None y is = absurd (none-some y is)
some_mapped f (Some x) y is = search rules

-- each line of an anchored chip was sealed
pub sealed_in : (setup : Setup) (regs : Regs) (ledger : LedgerState) → IsAnchored setup regs ledger → (a : ℕ)
    → a < data_lines setup.shape → IsSome (last_seal ledger.marks a)
sealed_in setup regs ledger anchored a within = some_mapped (λ (seal : SealOf). seal.ctr) (last_seal ledger.marks a) _ (anchored.last_counters a within)

some_of : (found : Option Line) → IsSome found → found ≡ Some (unwrap_or found zero_line)
some_of None is = absurd (search (rules, is))
some_of (Some line) is = refl

some_plain : (setup : Setup) (marks : List Mark) (a : ℕ) → IsSome (last_seal marks a) → IsSome (plain_line setup.formulas marks a)
some_plain setup marks a is = go (last_seal marks a) is
  where
    go : (found : Option SealOf) → IsSome found → IsSome (option_map (plain_of_seal setup.formulas a) found)
    go None is = absurd (search (rules, is))
    go (Some seal) is = search rules

-- so memory is what the marks say
pub places_of : (setup : Setup) (marks : List Mark) → ((a : ℕ) → a < data_lines setup.shape → IsSome (last_seal marks a))
    → IsMemoryOf setup marks (plain_memory setup marks)
unfolding plain_memory
places_of setup marks sealed =
    record {
      count = length-map-range_with_len plain 0 (data_lines setup.shape);
      each =
          λ a within.
          some_of (plain_line setup.formulas marks a) (some_plain setup marks a (sealed a within))
          ∙ ap (λ (line : Line). Some line)
          (sym (get_or-map-range_with_len plain 0 (data_lines setup.shape) a a zero_line within (zero-add a)));
    }
  where
    plain : ℕ → Line
    plain a = unwrap_or (plain_line setup.formulas marks a) zero_line

-- ---- plain lines are whole

pub whole_places : (setup : Setup) (regs : Regs) (ledger : LedgerState) (memory : Memory) → AreInRange setup.formulas → IsAnchored setup regs ledger
    → IsMemoryOf setup ledger.marks memory → AreLinesOf (data_lines setup.shape) memory
whole_places setup regs ledger memory in_range anchored its =
    record {
      count = its.count;
      each =
          All-from_get_or IsLine memory zero_line
          (λ a inside.
          let within : a < data_lines setup.shape = let count = its.count in omega (arith, inside, count) in
          go a (last_seal ledger.marks a) refl (sealed_in setup regs ledger anchored a within) (its.each a within));
    }
  where
    go : (a : ℕ) (found : Option SealOf) → last_seal ledger.marks a ≡ found → IsSome (last_seal ledger.marks a)
        → option_map (plain_of_seal setup.formulas a) (last_seal ledger.marks a) ≡ Some (line_at memory a) → IsLine (line_at memory a)
    go a None none some plain = absurd (let it = subst IsSome none some in search (rules, it))
    go a (Some seal) there some plain =
        let mark : IsMark setup.shape (Seal a seal.ctr seal.cipher seal.tag) =
        last_seal_has (IsMark setup.shape) ledger.marks a seal anchored.of_shape.marks_in_range there in
        subst IsLine
        (same_Some (plain_of_seal setup.formulas a seal) (line_at memory a) (ap (option_map (plain_of_seal setup.formulas a)) (sym there) ∙ plain))
        (xor_lines-IsLine seal.cipher (setup.formulas.pad_of a seal.ctr) mark.2 (in_range.pads a seal.ctr mark.1))
