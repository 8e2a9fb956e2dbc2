-- Two new worlds of one geometry, of the same keys and counts: formatting's plan leaves one device.
use Rattle.std.proofs.Common.{ℕ, ◌≡◌, false, inl, inr, List, Option, Some, refl, sym, ap, ap₂, subst, ◌∙◌}
use Rattle.std.specs.Prelude.{Ok, is_some, slice_set}
use Rattle.std.proofs.lemmas.Option.{same_Some}
use Rattle.pmem_base.specs.declared.lines.Line.{Line}
use Rattle.pmem_base.specs.declared.answers.Mark.{Mark}
use Rattle.pmem_base.specs.declared.answers.Exhibit.{Exhibit}
use Rattle.pmem_base.specs.Layout as layout
use Rattle.board.specs.Device.{Device}
use Rattle.board.specs.Memory.{BoardMemory, device_of, new_memory}
use Rattle.board.specs.Steps.{with_line}
use Rattle.call_plan.specs.Plans.{Plan, done, stop, read, write, latch}
use Rattle.call_plan.specs.Following.{Took}
use Rattle.call_plan.proofs.Determined.{same_line, read_is_determined, write_is_determined, latch_is_determined}
use Rattle.suite.specs.Setup.{Setup}
use Rattle.call_effects.proofs.ResultLaws.{none_is}
use Rattle.seal_ledger.specs.Ledger.{LedgerState}
use Rattle.plain_model.specs.State.{PlainState, start_state}
use Rattle.pmem_replay.specs.World.{WorldState}
use Rattle.pmem_replay.specs.Stepped.{IsNewWorld, counts_in}
use Rattle.pmem_replay.specs.Determined.{AreAlike}

-- ---- a plan that is done

-- a run that is done isn't cut: two of them leave one device, where its lines are told
done_alike : {E T : Type 0} (plan : Plan E T) (lines : List Line) (old a b : Device) (t u : T) → old.lines ≡ Some lines → Took plan old a (Ok t)
    → Took plan old b (Ok u) → a ≡ b
unfolding Took
done_alike (done end) lines old a b t u told it its = it.1 ∙ sym its.1
done_alike (stop left) lines old a b t u told it its = it.1 ∙ sym its.1
done_alike (read left at later) lines old a b t u told (inl s) (inl r) =
    let line = same_line lines old s.mid r.mid at s.line r.line told s.step r.step in
    let mid = read_is_determined old s.mid r.mid at s.line r.line s.step r.step in
    done_alike (later s.line) lines s.mid a b t u (s.step.lines ∙ told) s.rest
    (subst (λ (d : Device). Took (later s.line) d b (Ok u)) (sym mid) (subst (λ l. Took (later l) r.mid b (Ok u)) (sym line) r.rest))
done_alike (read left at later) lines old a b t u told (inl s) (inr r) = let no = r.0.ends in absurd (cc)
done_alike (read left at later) lines old a b t u told (inr s) its = let no = s.0.ends in absurd (cc)
done_alike (write left at line later) lines old a b t u told (inl s) (inl r) =
    let mid = write_is_determined old s.mid r.mid at line s.step r.step in
    done_alike later (slice_set lines at line) s.mid a b t u (s.step.lines ∙ ap (λ told. with_line told at line) told) s.rest
    (subst (λ (d : Device). Took later d b (Ok u)) (sym mid) r.rest)
done_alike (write left at line later) lines old a b t u told (inl s) (inr r) = let no = r.ends in absurd (cc)
done_alike (write left at line later) lines old a b t u told (inr s) its = let no = s.ends in absurd (cc)
done_alike (latch left regs later) lines old a b t u told (inl s) (inl r) =
    let mid = latch_is_determined old s.mid r.mid regs s.step r.step in
    done_alike later lines s.mid a b t u (s.step.lines ∙ told) s.rest (subst (λ (d : Device). Took later d b (Ok u)) (sym mid) r.rest)
done_alike (latch left regs later) lines old a b t u told (inl s) (inr r) = let no = r.ends in absurd (cc)
done_alike (latch left regs later) lines old a b t u told (inr s) its = let no = s.ends in absurd (cc)

-- ---- parts

boards_alike : (a b : BoardMemory) → device_of a ≡ device_of b → a.fuse ≡ b.fuse → a.snapshot ≡ b.snapshot → a ≡ b
boards_alike a b device fuse snapshot =
    let lines : a.lines ≡ b.lines = same_Some a.lines b.lines (ap (λ (d : Device). d.lines) device) in
    let accesses : a.accesses ≡ b.accesses = same_Some a.accesses b.accesses (ap (λ (d : Device). d.accesses) device) in
    λ i.
    record {
      lines = lines i;
      regs = (device i).regs;
      powered = (device i).live;
      fuse = fuse i;
      snapshot = snapshot i;
      reads = (device i).reads;
      writes = (device i).writes;
      latches = (device i).latches;
      cuts = (device i).cuts;
      accesses = accesses i;
    }

ledgers_alike : (a b : LedgerState) → a.marks ≡ b.marks → a.truth ≡ b.truth → a.data_lines ≡ b.data_lines → is_some a.exhibit ≡ false
    → is_some b.exhibit ≡ false → a ≡ b
ledgers_alike a b marks truth count first second =
    ap₂ (λ (m : List Mark) (t : List Line). record a { marks = m; truth = t }) marks truth
    ∙ ap₂ (λ (n : ℕ) (e : Option Exhibit). record b { data_lines = n; exhibit = e }) count (none_is a.exhibit first ∙ sym (none_is b.exhibit second))

-- ---- the worlds

-- nothing was snapped yet
unsnapped : (setup : Setup) (world : WorldState) → IsNewWorld setup world → is_some world.board.snapshot ≡ false
unfolding start_state
unsnapped setup world is = is.holds.board.snapped ∙ ap (λ (s : PlainState). s.snapped) is.state

pub new_worlds_alike : (setup : Setup) (a b : WorldState) → IsNewWorld setup a → IsNewWorld setup b → a.tags ≡ b.tags → a.digests ≡ b.digests
    → AreAlike a b
new_worlds_alike setup a b it its tags digests =
    let blank : BoardMemory = new_memory (layout.device_lines setup.shape) in
    let device : device_of a.board ≡ device_of b.board =
    done_alike _ blank.lines (device_of blank) (device_of a.board) (device_of b.board) tt tt refl it.formatted.plan.took its.formatted.plan.took in
    let state : a.state ≡ b.state = it.state ∙ sym its.state in
    let board : a.board ≡ b.board =
    boards_alike a.board b.board device
    (it.holds.board.fuse ∙ ap (λ (s : PlainState). s.fuse) state ∙ sym its.holds.board.fuse)
    (none_is a.board.snapshot (unsnapped setup a it) ∙ sym (none_is b.board.snapshot (unsnapped setup b its))) in
    let counts : counts_in a ≡ counts_in b =
    ap (λ (m : BoardMemory). counts_in (record a { board = m })) board
    ∙ ap₂ (λ (t d : ℕ). counts_in (record b { tags = t; digests = d })) tags digests in
    record {
      shape = it.its_shape ∙ sym its.its_shape;
      start = it.start ∙ counts ∙ sym its.start;
      shown = it.not_shown ∙ sym its.not_shown;
      state = λ unshown. state;
      parts =
          record {
            board = board;
            engine = it.engine ∙ sym its.engine;
            ledger =
                ledgers_alike a.ledger b.ledger (it.formatted.marks ∙ sym its.formatted.marks) (it.formatted.truth ∙ sym its.formatted.truth)
                (it.formatted.anchored.of_shape.line_count ∙ sym its.formatted.anchored.of_shape.line_count) it.formatted.anchored.no_exhibit
                its.formatted.anchored.no_exhibit;
            tags = tags;
            digests = digests;
          };
    }
