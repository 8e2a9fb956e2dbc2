-- What a write does of the board, as a plan: part by part, in the order of the work.
use Rattle.std.specs.Prelude.{ℕ, ◌==◌, Bool, length, Option, Some, None, Result, Ok, Err, if◌then◌else◌}
use Rattle.pmem_base.specs.declared.lines.Line.{Line}
use Rattle.pmem_base.specs.declared.lines.Ctr.{Ctr}
use Rattle.pmem_base.specs.declared.commands.Posted.{Posted}
use Rattle.pmem_base.specs.declared.registers.Regs.{Regs}
use Rattle.pmem_base.specs.Layout.{page_of, index_in_page}
use Rattle.pmem_base.specs.Registers.{not_done}
use Rattle.pmem_base.specs.WaitingWrites.{put_write}
use Rattle.call_plan.specs.Plans.{Plan, done, stop, bind, mapped, lifted, repeated}
use Rattle.page_reencrypt.specs.Registers.{registers_with_done}
use Rattle.suite.specs.Setup.{Setup}
use Rattle.pmem_engine.specs.declared.fault.Fault.{Fault}
use Rattle.pmem_engine.specs.declared.fault.LineFault.{LineFault}
use Rattle.pmem_engine.specs.Outcomes.{fault_of_cut, fault_of_line, fault_of_path}
use Rattle.pmem_engine.specs.Inner.{cached_block}
use Rattle.pmem_engine.specs.Writing.{overflow_of, register_to_finish}
use Rattle.pmem_engine.specs.Plans.{Chip, with_engine, name_plan, fetch_path_plan, its_counter, unseal_plan, register_at, held_of, reseal_plan}
use Rattle.pmem_engine.specs.SealPlans.{seal_next_plan, begin_for_plan}

-- ---- the counter

-- whether the line's page has to be re-encrypted; spent if its counter is exhausted
abbrev pub overflow_end : Chip → Result Bool Fault → Plan (Chip × Fault) Bool
overflow_end chip (Ok overflows) = done overflows
overflow_end chip (Err fault) = stop (chip, fault)

unfoldable pub overflow_plan : Setup → ℕ → Chip → Plan (Chip × Fault) Bool
overflow_plan setup at chip =
    overflow_end chip
    (overflow_of (cached_block setup.shape chip.engine (page_of at)) (page_of at) (index_in_page at))

-- ---- the plain line

-- the plain line with the write's bytes in it; a write of a whole line needs nothing of the old one
unfoldable pub plain_plan : Setup → Regs → Posted → Chip → Plan (Chip × LineFault) (Chip × Line)
plain_plan setup regs write chip =
    if write.len == 64 then done (chip, write.line)
    else mapped (λ left. left) (λ end. (end.0, put_write end.1.plain write))
    (unseal_plan setup write.at (its_counter setup regs write.at chip) chip)

-- ---- a page finished

-- the registers once the lowest line not done of register n's page is done
abbrev pub with_next_done : ℕ → Regs → Regs
with_next_done n regs =
    record regs { progress = record { items = registers_with_done regs.progress.items (held_of (register_at regs n)).at } }

-- that line is resealed, whichever it is by now
abbrev pub finish_turn : Setup → ℕ → ℕ → Chip × Regs → Plan (Chip × LineFault) (Chip × Regs)
finish_turn setup n i before =
    mapped (λ left. left) (λ end. (end.0, with_next_done n before.1)) (reseal_plan setup n before.1 before.0)

-- every line not done of register n's page is, from the lowest; the answer is the registers that are left
unfoldable pub finish_page_plan : Setup → ℕ → Regs → Chip → Plan (Chip × LineFault) (Chip × Regs)
finish_page_plan setup n regs chip =
    repeated (finish_turn setup n) 0 (length (not_done (register_at regs n))) (chip, regs)

-- of the register found, if any
unfoldable pub finish_found_plan : Setup → Regs → Chip → Option ℕ → Plan (Chip × LineFault) (Chip × Regs)
finish_found_plan setup regs chip None = done (chip, regs)
finish_found_plan setup regs chip (Some n) = finish_page_plan setup n regs chip

-- if the page has to be re-encrypted: its own register if it is open, else the oldest if four are
unfoldable pub finish_for_plan : Setup → ℕ → Bool → Regs → Chip → Plan (Chip × LineFault) (Chip × Regs)
finish_for_plan setup page overflows regs chip =
    if overflows then finish_found_plan setup regs chip (register_to_finish regs.progress.items page)
    else done (chip, regs)

-- ---- the whole

-- The page's path is fetched, the line's counter looked at, its plain line made, a page finished if one has to be, the path named, the page
-- begun if it has to be, and the line sealed; the answer is its counter.
unfoldable pub write_plan : Setup → Regs → Posted → Chip → Plan (Chip × Fault) (Chip × Ctr)
write_plan setup regs write chip =
    bind (lifted (λ now. now) fault_of_path (fetch_path_plan setup regs.root (page_of write.at) chip)) (λ fetched.
    bind (overflow_plan setup write.at fetched.0) (λ overflows.
    bind (lifted (λ now. now) fault_of_line (plain_plan setup regs write fetched.0)) (λ made.
    bind (lifted (λ now. now) fault_of_line (finish_for_plan setup (page_of write.at) overflows regs made.0)) (λ finished.
    bind (lifted (with_engine finished.0) fault_of_cut (name_plan (page_of write.at) finished.0.engine)) (λ named.
    bind (begin_for_plan setup (page_of write.at) overflows finished.1 named.0) (λ begun.
    lifted (λ now. now) fault_of_cut (seal_next_plan setup write.at made.1 begun.1 begun.0)))))))
