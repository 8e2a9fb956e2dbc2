-- How far a posted write has come along its plan: one lemma a part, and one for the part's end.
use Rattle.std.proofs.Common.{◌≡◌, ℕ, Bool, Result, Ok, Err, subst, subst₂, sym, rules}
use Rattle.pmem_base.specs.declared.faults.Cut.{Cut}
use Rattle.pmem_base.specs.declared.lines.Line.{Line}
use Rattle.pmem_base.specs.declared.lines.Ctr.{Ctr}
use Rattle.pmem_base.specs.declared.commands.Posted.{Posted}
use Rattle.pmem_base.specs.declared.registers.Regs.{Regs}
use Rattle.pmem_base.specs.Layout.{page_of, index_in_page}
use Rattle.board.specs.Device.{Device}
use Rattle.call_plan.specs.Plans.{Plan, bind, lifted}
use Rattle.call_plan.specs.Following.{Follows}
use Rattle.call_plan.proofs.Steps.{is_done, is_stopped}
use Rattle.call_plan.proofs.Bind.{lifted_follows}
use Rattle.call_plan.proofs.Loops.{HasReached, reached_start, reached_ok, reached_err}
use Rattle.meta_path.specs.declared.faults.PathFault.{PathFault}
use Rattle.suite.specs.Setup.{Setup}
use Rattle.pmem_engine.specs.declared.fault.Fault.{Fault}
use Rattle.pmem_engine.specs.declared.fault.LineFault.{LineFault}
use Rattle.pmem_engine.specs.Engine.{ChipState}
use Rattle.pmem_engine.specs.Outcomes.{fault_of_cut, fault_of_line, fault_of_path}
use Rattle.pmem_engine.specs.Inner.{cached_block}
use Rattle.pmem_engine.specs.Writing.{overflow_of}
use Rattle.pmem_engine.specs.Plans.{Chip, with_engine, name_plan, fetch_path_plan}
use Rattle.pmem_engine.specs.SealPlans.{seal_next_plan, begin_for_plan}
use Rattle.pmem_engine.specs.WritePlans.{overflow_end, overflow_plan, plain_plan, finish_for_plan, write_plan}

module _ (setup : Setup) (regs : Regs) (write : Posted) where
  abbrev page : ℕ
  page = page_of write.at

  -- ---- what is left, from each part on

  abbrev pub to_seal : Line → Chip × Regs → Plan (Chip × Fault) (Chip × Ctr)
  to_seal plain begun = lifted (λ now. now) fault_of_cut (seal_next_plan setup write.at plain begun.1 begun.0)

  abbrev pub to_begin : Bool → Line → Regs → Chip × Unit {0} → Plan (Chip × Fault) (Chip × Ctr)
  to_begin overflows plain left named = bind (begin_for_plan setup page overflows left named.0) (to_seal plain)

  abbrev pub to_name : Bool → Line → Chip × Regs → Plan (Chip × Fault) (Chip × Ctr)
  to_name overflows plain finished =
      bind (lifted (with_engine finished.0) fault_of_cut (name_plan page finished.0.engine)) (to_begin overflows plain finished.1)

  abbrev pub to_finish : Bool → Chip × Line → Plan (Chip × Fault) (Chip × Ctr)
  to_finish overflows made =
      bind (lifted (λ now. now) fault_of_line (finish_for_plan setup page overflows regs made.0)) (to_name overflows made.1)

  abbrev pub to_plain : Chip × Unit {0} → Bool → Plan (Chip × Fault) (Chip × Ctr)
  to_plain fetched overflows = bind (lifted (λ now. now) fault_of_line (plain_plan setup regs write fetched.0)) (to_finish overflows)

  abbrev pub to_overflow : Chip × Unit {0} → Plan (Chip × Fault) (Chip × Ctr)
  to_overflow fetched = bind (overflow_plan setup write.at fetched.0) (to_plain fetched)

  module _ (chip : Chip) (start : Device) where
    -- the write has come so far
    abbrev pub HasCome : Plan (Chip × Fault) (Chip × Ctr) → Device → Type 0
    HasCome rest now = HasReached (write_plan setup regs write chip) start rest now

    begins : HasCome (bind (lifted (λ now. now) fault_of_path (fetch_path_plan setup regs.root page chip)) to_overflow) start
    unfolding write_plan
    begins = reached_start (write_plan setup regs write chip) start

    -- ---- the fetch

    pub is_fetched : {mid : Device} (fetched : Chip) → Follows (fetch_path_plan setup regs.root page chip) start mid (Ok (fetched, tt))
        → HasCome (to_overflow (fetched, tt)) mid
    is_fetched fetched it = reached_ok _ to_overflow begins (lifted_follows (λ (now : Chip). now) fault_of_path it)

    pub isnt_fetched : {new : Device} (after : Chip) (fault : PathFault)
        → Follows (fetch_path_plan setup regs.root page chip) start new (Err (after, fault))
        → Follows (write_plan setup regs write chip) start new (Err (after, fault_of_path fault))
    isnt_fetched after fault it = reached_err _ to_overflow begins (lifted_follows (λ (now : Chip). now) fault_of_path it)

    -- ---- the counter

    module _ {now : Device} (fetched : Chip) (come : HasCome (to_overflow (fetched, tt)) now) where
      abbrev overflow : Result Bool Fault
      overflow = overflow_of (cached_block setup.shape fetched.engine page) page (index_in_page write.at)

      pub is_known : (overflows : Bool) → overflow ≡ Ok overflows → HasCome (to_plain (fetched, tt) overflows) now
      unfolding overflow_plan
      is_known overflows is =
          reached_ok (overflow_plan setup write.at fetched) (to_plain (fetched, tt)) come
          (subst (λ (r : Result Bool Fault). Follows (overflow_end fetched r) now now (Ok overflows)) (sym is) (is_done {E = Chip × Fault} overflows now))

      pub is_spent : (fault : Fault) → overflow ≡ Err fault → Follows (write_plan setup regs write chip) start now (Err (fetched, fault))
      unfolding overflow_plan
      is_spent fault is =
          reached_err (overflow_plan setup write.at fetched) (to_plain (fetched, tt)) come
          (subst (λ (r : Result Bool Fault). Follows (overflow_end fetched r) now now (Err (fetched, fault))) (sym is)
          (is_stopped {T = Bool} (fetched, fault) now))

    -- ---- the plain line

    module _ {now : Device} (fetched : Chip) (overflows : Bool) (come : HasCome (to_plain (fetched, tt) overflows) now)
        (its : Setup) (its_regs : Regs) (same : its ≡ setup) (same_regs : its_regs ≡ regs) where
      as_its : {new : Device} {end : Result (Chip × Line) (Chip × LineFault)} → Follows (plain_plan its its_regs write fetched) now new end
          → Follows (plain_plan setup regs write fetched) now new end
      as_its {new = new} {end = end} it = subst₂ (λ (s : Setup) (r : Regs). Follows (plain_plan s r write fetched) now new end) same same_regs it

      pub is_made : {new : Device} (made : Chip) (plain : Line) → Follows (plain_plan its its_regs write fetched) now new (Ok (made, plain))
          → HasCome (to_finish overflows (made, plain)) new
      is_made made plain it = reached_ok _ (to_finish overflows) come (lifted_follows (λ (now : Chip). now) fault_of_line (as_its it))

      pub isnt_made : {new : Device} (after : Chip) (fault : LineFault) → Follows (plain_plan its its_regs write fetched) now new (Err (after, fault))
          → Follows (write_plan setup regs write chip) start new (Err (after, fault_of_line fault))
      isnt_made after fault it = reached_err _ (to_finish overflows) come (lifted_follows (λ (now : Chip). now) fault_of_line (as_its it))

    -- ---- a page finished

    module _ {now : Device} (made : Chip) (plain : Line) (overflows : Bool) (come : HasCome (to_finish overflows (made, plain)) now)
        (its : Setup) (its_regs : Regs) (same : its ≡ setup) (same_regs : its_regs ≡ regs) where
      as_finished : {new : Device} {end : Result (Chip × Regs) (Chip × LineFault)} → Follows (finish_for_plan its page overflows its_regs made) now new end
          → Follows (finish_for_plan setup page overflows regs made) now new end
      as_finished {new = new} {end = end} it = search rules

      pub is_finished : {new : Device} (finished : Chip × Regs) → Follows (finish_for_plan its page overflows its_regs made) now new (Ok finished)
          → HasCome (to_name overflows plain finished) new
      is_finished finished it =
          reached_ok _ (to_name overflows plain) come (lifted_follows (λ (now : Chip). now) fault_of_line (as_finished it))

      pub isnt_finished : {new : Device} (after : Chip) (fault : LineFault)
          → Follows (finish_for_plan its page overflows its_regs made) now new (Err (after, fault))
          → Follows (write_plan setup regs write chip) start new (Err (after, fault_of_line fault))
      isnt_finished after fault it =
          reached_err _ (to_name overflows plain) come (lifted_follows (λ (now : Chip). now) fault_of_line (as_finished it))

    -- ---- the path named

    module _ {now : Device} (finished : Chip × Regs) (plain : Line) (overflows : Bool) (come : HasCome (to_name overflows plain finished) now) where
      pub is_named : {new : Device} (engine : ChipState) → Follows (name_plan page finished.0.engine) now new (Ok (engine, tt))
          → HasCome (to_begin overflows plain finished.1 (with_engine finished.0 engine, tt)) new
      is_named engine it = reached_ok _ (to_begin overflows plain finished.1) come (lifted_follows (with_engine finished.0) fault_of_cut it)

      pub isnt_named : {new : Device} (engine : ChipState) (cut : Cut) → Follows (name_plan page finished.0.engine) now new (Err (engine, cut))
          → Follows (write_plan setup regs write chip) start new (Err (with_engine finished.0 engine, fault_of_cut cut))
      isnt_named engine cut it = reached_err _ (to_begin overflows plain finished.1) come (lifted_follows (with_engine finished.0) fault_of_cut it)

    -- ---- the page begun

    module _ {now : Device} (left : Regs) (named : Chip) (plain : Line) (overflows : Bool)
        (come : HasCome (to_begin overflows plain left (named, tt)) now)
        (its : Setup) (its_regs : Regs) (same : its ≡ setup) (same_regs : its_regs ≡ left) where
      as_begun : {new : Device} {end : Result (Chip × Regs) (Chip × Fault)} → Follows (begin_for_plan its page overflows its_regs named) now new end
          → Follows (begin_for_plan setup page overflows left named) now new end
      as_begun {new = new} {end = end} it = search rules

      pub is_begun : {new : Device} (begun : Chip × Regs) → Follows (begin_for_plan its page overflows its_regs named) now new (Ok begun)
          → HasCome (to_seal plain begun) new
      is_begun begun it = reached_ok _ (to_seal plain) come (as_begun it)

      pub isnt_begun : {new : Device} (after : Chip) (fault : Fault) → Follows (begin_for_plan its page overflows its_regs named) now new (Err (after, fault))
          → Follows (write_plan setup regs write chip) start new (Err (after, fault))
      isnt_begun after fault it = reached_err _ (to_seal plain) come (as_begun it)

    -- ---- the line sealed

    module _ {now : Device} (begun : Chip × Regs) (plain : Line) (come : HasCome (to_seal plain begun) now) (its : Setup) (same : its ≡ setup) where
      as_sealed : {new : Device} {end : Result (Chip × Ctr) (Chip × Cut)} → Follows (seal_next_plan its write.at plain begun.1 begun.0) now new end
          → Follows (seal_next_plan setup write.at plain begun.1 begun.0) now new end
      as_sealed {new = new} {end = end} it = subst (λ (s : Setup). Follows (seal_next_plan s write.at plain begun.1 begun.0) now new end) same it

      pub is_sealed : {new : Device} (after : Chip) (ctr : Ctr) → Follows (seal_next_plan its write.at plain begun.1 begun.0) now new (Ok (after, ctr))
          → Follows (write_plan setup regs write chip) start new (Ok (after, ctr))
      is_sealed after ctr it = come.follows _ _ (lifted_follows (λ (now : Chip). now) fault_of_cut (as_sealed it))

      pub isnt_sealed : {new : Device} (after : Chip) (cut : Cut) → Follows (seal_next_plan its write.at plain begun.1 begun.0) now new (Err (after, cut))
          → Follows (write_plan setup regs write chip) start new (Err (after, fault_of_cut cut))
      isnt_sealed after cut it = come.follows _ _ (lifted_follows (λ (now : Chip). now) fault_of_cut (as_sealed it))
