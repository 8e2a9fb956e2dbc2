-- The steps of making the doubted counter blocks, upwards.
use Rattle.std.proofs.Common.{rules, ℕ, zero, suc, ◌≡◌, ◌≢◌, ◌<◌, ◌≤◌, ◌+◌, ◌-◌, true, false, List, [], ◌∷◌, ◌++◌, length, Some, ap, sym, subst, ◌∙◌, inl, inr, arith}
use Rattle.std.proofs.lemmas.Bool.{true≢false}
use Rattle.std.proofs.lemmas.List.Elements.{All-nil}
use Rattle.pmem_base.specs.declared.lines.Line.{Line}
use Rattle.pmem_base.specs.declared.registers.Regs.{Regs}
use Rattle.pmem_base.specs.Shape.{IsShape}
use Rattle.pmem_base.specs.Layout.{pages, meta_lines, level_start}
use Rattle.bonsai_tree.specs.Positions.{counter_position}
use Rattle.bonsai_tree.proofs.Levels.{meta_lines-level}
use Rattle.suite.specs.Setup.{Setup}
use Rattle.pmem_engine.specs.Invariants.{is_doubted}
use Rattle.pmem_recovery.specs.declared.entries.MadeEntry.{MadeEntry}
use Rattle.pmem_recovery.specs.declared.faults.RecFault.{RecFault}
use Rattle.pmem_recovery.specs.declared.faults.RecFault.TheVariants.{NoCounter, Root, Twin}
use Rattle.pmem_recovery.specs.Trials.{tried_minors, AreDecided}
use Rattle.pmem_recovery.specs.Upward.{IsMadeLine, AreMadeTo, IsDoneTo, block_made}
use Rattle.pmem_recovery.specs.Parts.{AreOneTried, IsTwinOf, IsPageRefusal, IsRefusal}
use Rattle.pmem_recovery.proofs.UndecidedLaws.{AreDecided-more, first_undecided_at}
use Rattle.pmem_recovery.proofs.UpwardSteps.{AreMadeTo-upto, AreMadeTo-block}

-- so far as the counter blocks below a position
pub record AreBlocksTo (setup : Setup) (lines : List Line) (regs : Regs) (page : ℕ) (made : List MadeEntry) : Type 0 where
  pub decided : AreDecided setup lines regs page
  pub blocks : AreMadeTo setup lines regs setup.shape.levels (counter_position setup.shape page) made

-- before any of them
pub AreBlocksTo-none : (setup : Setup) (lines : List Line) (regs : Regs) (page : ℕ) → page ≡ 0 → AreBlocksTo setup lines regs page []
AreBlocksTo-none setup lines regs page e =
    record {
      decided = record { each = λ p low. absurd (omega (arith, e, low)) };
      blocks =
          record {
            each = All-nil (IsMadeLine setup lines regs);
            only_done = All-nil (λ entry. IsDoneTo setup.shape.levels (counter_position setup.shape page) entry.at);
            distinct = λ i j d less within. absurd (omega arith);
            in_order = λ i j d less within. absurd (omega arith);
            every = λ x inside done named. absurd (go x inside done);
          };
    }
  where
    go : (x : ℕ) → x < meta_lines setup.shape → IsDoneTo setup.shape.levels (counter_position setup.shape page) x → ⊥
    go x inside (inl low) = omega (arith, inside, low, meta_lines-level setup.shape)
    go x inside (inr d) = omega (arith, d.0, d.1, e)

-- pages that aren't doubted
decided_gap : (setup : Setup) (lines : List Line) (regs : Regs) (page n : ℕ) → ((p : ℕ) → page ≤ p → p < page + n → is_doubted setup.shape lines (counter_position setup.shape p) ≡ false) → AreDecided setup lines regs page → AreDecided setup lines regs (page + n)
decided_gap setup lines regs page zero none d =
    let same : page ≡ page + 0 = omega arith in
    subst (AreDecided setup lines regs) same d
decided_gap setup lines regs page (suc n) none d =
    let same : page + 1 + n ≡ page + suc n = omega arith in
    subst (AreDecided setup lines regs) same
    (decided_gap setup lines regs (page + 1) n (λ p low high. none p (omega arith) (omega arith))
    (AreDecided-more setup lines regs page d (λ named i small. absurd (true≢false (sym named ∙ none page (omega arith) (omega arith))))))

pub AreBlocksTo-gap : (setup : Setup) (lines : List Line) (regs : Regs) (page next : ℕ) (made : List MadeEntry) → page ≤ next → ((p : ℕ) → page ≤ p → p < next → is_doubted setup.shape lines (counter_position setup.shape p) ≡ false) → AreBlocksTo setup lines regs page made → AreBlocksTo setup lines regs next made
AreBlocksTo-gap setup lines regs page next made low none b =
    let g = setup.shape in
    let same : page + (next - page) ≡ next = omega (arith, low) in
    record {
      decided =
          subst (AreDecided setup lines regs) same
          (decided_gap setup lines regs page (next - page) (λ p from to. none p from (omega (arith, same, to))) b.decided);
      blocks =
          AreMadeTo-upto setup lines regs g.levels (counter_position g page) (counter_position g next) made (omega arith) (omega (arith, low))
          (λ x from to.
          let its : level_start g.levels + (x - level_start g.levels) ≡ x = omega (arith, from) in
          subst (λ z. is_doubted g lines z ≡ false) its (none (x - level_start g.levels) (omega (arith, from)) (omega (arith, from, to))))
          b.blocks;
    }

-- the next doubted page, made
pub AreBlocksTo-next : (setup : Setup) (lines : List Line) (regs : Regs) (page : ℕ) (made : List MadeEntry) → IsShape setup.shape → page < pages setup.shape → is_doubted setup.shape lines (counter_position setup.shape page) ≡ true → AreOneTried setup lines regs page → AreBlocksTo setup lines regs page made → AreBlocksTo setup lines regs (page + 1) (made ++ block_made setup lines regs page ∷ [])
AreBlocksTo-next setup lines regs page made shape inside named one b =
    let more : counter_position setup.shape page + 1 ≡ counter_position setup.shape (page + 1) = omega arith in
    record {
      decided = AreDecided-more setup lines regs page b.decided (λ n. one);
      blocks =
          subst (λ m. AreMadeTo setup lines regs setup.shape.levels m (made ++ block_made setup lines regs page ∷ [])) more
          (AreMadeTo-block setup lines regs page made shape inside named b.blocks);
    }

no_elements : {X : Type 0} (xs : List X) → xs ≡ [] → length xs ≢ 1
no_elements xs e one = let zero : length xs ≡ 0 = ap length e in omega (arith, zero, one)

two_elements : {X : Type 0} (xs : List X) (a b : X) (more : List X) → xs ≡ a ∷ b ∷ more → length xs ≢ 1
two_elements xs a b more e one = search rules

-- a stop at the next doubted page is the first there is
pub stopped_at : (setup : Setup) (lines : List Line) (regs : Regs) (page : ℕ) (fault : RecFault) → page < pages setup.shape → is_doubted setup.shape lines (counter_position setup.shape page) ≡ true → AreDecided setup lines regs page → IsPageRefusal setup lines regs page fault → IsRefusal setup lines regs fault
stopped_at setup lines regs page (NoCounter at) inside named d r =
    let here = r.here in (
      first_undecided_at setup lines regs page r.place inside named r.in_page d r.before (no_elements _ here.1)
          ∙ ap Some (sym here.0),
      ap (tried_minors setup lines regs) here.0 ∙ here.1,
    )
stopped_at setup lines regs page (Root kept found) inside named d r = absurd r.here
stopped_at setup lines regs page (Twin at major low high cipher tag) inside named d r =
    let here = r.here in (
      first_undecided_at setup lines regs page r.place inside named r.in_page d r.before (two_elements _ low high here.1.more here.1.tried)
          ∙ ap Some (sym here.0),
      subst (λ a. IsTwinOf setup lines regs a major low high cipher tag) (sym here.0) here.1,
    )
stopped_at setup lines regs page fault inside named d r = tt
