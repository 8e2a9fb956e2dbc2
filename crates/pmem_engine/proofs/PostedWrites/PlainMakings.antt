-- A write's plain line: its own where it is a whole line, else the unsealed one with its bytes.
use Rattle.std.proofs.Common.{rules, ℕ, ◌≡◌, ◌<◌, ◌≤◌, ◌+◌, ◌-◌, ◌++◌, List, [], ◌∷◌, length, take, drop, Option, Some, None, Result, Ok, Err, refl, ap, ◌∙◌, arith}
use Rattle.std.specs.Prelude.{◌*◌, nat_lt, slice_range, option_map, IfSome, IsOk, is_ok}
use Rattle.std.proofs.lemmas.Bool.{true≢false, cond-true, cond-false, lt-ltb}
use Rattle.std.proofs.lemmas.List.{take_all, drop_all, length-drop, append-nil}
use Rattle.pmem_base.specs.declared.lines.Line.{Line}
use Rattle.pmem_base.specs.declared.lines.Ctr.{Ctr}
use Rattle.pmem_base.specs.declared.commands.Posted.{Posted}
use Rattle.pmem_base.specs.declared.answers.Mark.TheVariants.{Seal}
use Rattle.pmem_base.specs.Layout.{page_of}
use Rattle.pmem_base.specs.Lines.{xor_bytes}
use Rattle.pmem_base.specs.Marks.{SealOf, last_seal}
use Rattle.pmem_base.specs.Ranges.{IsPosted}
use Rattle.pmem_base.specs.WaitingWrites.{put_write}
use Rattle.seal_ledger.specs.Ledger.{IsMark}
use Rattle.seal_ledger.proofs.MarkLemmas.{last_seal_has}
use Rattle.suite.specs.Setup.{Setup}
use Rattle.meta_path.specs.Blocks.{IsPathCached}
use Rattle.plain_model.specs.View.{plain_of_seal}
use Rattle.pmem_engine.specs.declared.fault.LineFault.{LineFault}
use Rattle.pmem_engine.specs.declared.reading.Unsealed.{Unsealed}
use Rattle.pmem_engine.specs.Parts.{Parts, AreTrusted}
use Rattle.pmem_engine.specs.CallFacts.{IsWork, unseal_work, unsealed_count}
use Rattle.pmem_engine.specs.Inner.{HasUnsealed, IsLastCounter}
use Rattle.pmem_engine.specs.Writing.{HasMadePlain}
use Rattle.pmem_engine.proofs.CallEnds.StillParts.{nothing_done, left_alone}
use Rattle.pmem_engine.proofs.CallEnds.ExactWork.{work_alone, unseal_worked}

-- ---- a write of a whole line

short_xor : (xs ys : List ℕ) → length (xor_bytes xs ys) ≤ length xs
short_xor [] ys = omega arith
short_xor (x ∷ xs) [] = omega arith
short_xor (x ∷ xs) (y ∷ ys) = let later = short_xor xs ys in omega (arith, later)

-- so many bytes put from the front on are all of the line
module _ (n : ℕ) (xs ys : List ℕ) (from len : ℕ) (front : from ≡ 0) (whole : len ≡ n) (short : length xs ≤ n) (long : length ys ≡ n) where
  abbrev put : List ℕ
  put = slice_range ys from (from + len)

  put_is : slice_range ys from (from + len) ≡ ys
  put_is =
      take_all (from + len - from) (drop from ys) (let left = length-drop from ys in omega (arith, left, whole, long, front))
      ∙ ap (λ k. drop k ys) front

  put_all : take from xs ++ put ++ drop (from + length put) xs ≡ ys
  put_all = search (rules, drop_all, append-nil, put_is)

pub put_whole : (line : Line) (write : Posted) → length line.0 ≤ 64 → IsPosted write → write.len ≡ 64
    → write.line ≡ put_write line write
put_whole line write short posted whole = search (rules, put_all)

whole_answer : (setup : Setup) (write : Posted) (parts : Parts) → IsPosted write → write.len ≡ 64 → AreTrusted setup parts
    → (last : Option SealOf) → last_seal parts.ledger.marks write.at ≡ last
    → IfSome (option_map (plain_of_seal setup.formulas write.at) last) (λ line. write.line ≡ put_write line write)
whole_answer setup write parts posted whole trusted None is = tt
whole_answer setup write parts posted whole trusted (Some seal) is =
    put_whole (plain_of_seal setup.formulas write.at seal) write short posted whole
  where
    in_range : IsMark setup.shape (Seal write.at seal.ctr seal.cipher seal.tag)
    in_range =
        last_seal_has (IsMark setup.shape) parts.ledger.marks write.at seal trusted.anchored.of_shape.marks_in_range is

    short : length (plain_of_seal setup.formulas write.at seal).0 ≤ 64
    short =
        let under = short_xor seal.cipher.0 (setup.formulas.pad_of write.at seal.ctr).0 in
        let long = in_range.2.long in
        omega (arith, under, long)

none_unsealed : (write : Posted) → write.len ≡ 64 → unsealed_count write ≡ 0
none_unsealed write whole = cond-false (nat_lt write.len 64) 1 0 (ap (λ n. nat_lt n 64) whole)

pub plain_whole : (setup : Setup) (write : Posted) (parts : Parts) → IsPosted write → write.len ≡ 64
    → HasMadePlain setup write parts parts (Ok write.line)
plain_whole setup write parts posted whole =
    record {
      done = nothing_done setup parts;
      answered =
          λ trusted cached. (
            whole_answer setup write parts posted whole trusted (last_seal parts.ledger.marks write.at) refl,
            λ shorter. absurd (omega (arith, shorter, whole)),
          );
      unrefused = λ sound cached. tt;
      whole = λ is. (refl, left_alone parts);
      engine = refl;
      lines = refl;
      regs = refl;
      digests = refl;
      same_ledger = λ unshown. refl;
      no_steps = record { writes = omega arith; latches = omega arith; sum = λ one two. omega arith };
      work =
          λ ok.
          work_alone (unseal_work (unsealed_count write)) parts parts (ap (λ n. 2 * n) (none_unsealed write whole)) refl refl
          (none_unsealed write whole) refl (left_alone parts);
      cut_unpowered = λ is. absurd (true≢false (ap is_ok is));
    }

-- ---- a shorter one

-- the plain line with the write's bytes of a line unsealed
abbrev pub made_of : Posted → Result Unsealed LineFault → Result Line LineFault
made_of write (Ok unsealed) = Ok (put_write unsealed.plain write)
made_of write (Err fault) = Err fault

module _ (setup : Setup) (write : Posted) (ctr : Ctr) (old new : Parts) (shorter : write.len < 64)
    (last : AreTrusted setup old → IsPathCached setup.shape old.engine.cache (page_of write.at) → IsLastCounter old write.at ctr) where
  worked : (answer : Result Unsealed LineFault) → HasUnsealed setup write.at ctr old new answer → IsOk (made_of write answer)
      → IsWork (unseal_work (unsealed_count write)) old new
  worked answer it ok = search (rules, true≢false, cond-true, lt-ltb, unseal_worked)

  pub plain_unsealed : (answer : Result Unsealed LineFault) → HasUnsealed setup write.at ctr old new answer
      → HasMadePlain setup write old new (made_of write answer)
  plain_unsealed answer it = let did = worked answer it in search rules
