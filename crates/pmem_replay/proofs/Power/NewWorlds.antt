-- The first world, as formatting leaves it.
use Rattle.std.proofs.Common.{rules}
use Rattle.std.proofs.Common.{ℕ, ◌≡◌, ◌<◌, ◌≤◌, true, false, inl, List, [], Option, Some, None, refl, sym, ap, subst, ◌∙◌, arith}
use Rattle.std.specs.Prelude.{length, replicate, All, is_none, is_some, MatchOption, map}
use Rattle.std.proofs.lemmas.Bool.{true≢false, and_parts}
use Rattle.std.proofs.lemmas.List.{length-replicate, get_or-replicate, ext_get_or}
use Rattle.pmem_base.specs.declared.lines.Line.{Line}
use Rattle.pmem_base.specs.declared.lines.Ctr.{Ctr}
use Rattle.pmem_base.specs.declared.registers.Regs.{Regs}
use Rattle.pmem_base.specs.declared.answers.Stat.{Stat}
use Rattle.pmem_base.specs.Shape.{IsShape}
use Rattle.pmem_base.specs.Layout as layout
use Rattle.pmem_base.specs.Lines.{IsLine, line_at, zero_line}
use Rattle.pmem_base.specs.WaitingWrites.{no_writes}
use Rattle.bonsai_tree.specs.Positions.{level_of}
use Rattle.board.specs.Device.{Device}
use Rattle.board.specs.Memory.{device_of, new_memory}
use Rattle.commit_regs.specs.Groups.{redone}
use Rattle.meta_cache.specs.Banks.{IsBanksOf, is_cached_dirty}
use Rattle.suite.specs.Formulas.{AreInRange}
use Rattle.suite.specs.Setup.{Setup}
use Rattle.plain_model.specs.Bounds.{group_bound}
use Rattle.plain_model.specs.State.{is_flagged, start_state}
use Rattle.plain_model.specs.View.{OpenPage, start_view, view_of, IsMemoryOf, plain_memory}
use Rattle.plain_model.proofs.Views.{length-view_of, counter_at-last}
use Rattle.pmem_engine.specs.Engine.{EngineState, on_chip}
use Rattle.pmem_engine.specs.Invariants.{IsSound, register_page, stored_meta}
use Rattle.pmem_engine.specs.Mendable.{new_engine}
use Rattle.pmem_recovery.specs.Formatting.{HasFormatted, first_regs, first_counter}
use Rattle.pmem_replay.specs.Flagged.{Tampering, Dirtying, no_tampering, no_dirtying}
use Rattle.pmem_replay.specs.World.{WorldState, WorldParts, IsOn, IsPowered, IsWorld, state_in, world_of, lines_in}
use Rattle.pmem_replay.specs.During.{WasFormatted}
use Rattle.pmem_replay.specs.Stepped.{IsNewWorld}
use Rattle.pmem_replay.proofs.Marks.AfterMarks.{unflagged}
use Rattle.pmem_replay.proofs.Boards.FlagLemmas.{length-no_flags}
use Rattle.pmem_replay.proofs.Power.OnLaws.{nothing_dirty}
use Rattle.pmem_replay.proofs.Power.RecoveryCalls.{whole_empty}
use Rattle.pmem_replay.proofs.Steps.MarklessCalls.{HasQueues-none}
use Rattle.plain_model.proofs.PlainMemory.{memory_is}

-- what formatting leaves beside the device
pub record IsJustMade (setup : Setup) (p : WorldParts) (old : Device) : Type 0 where
  pub shape : IsShape setup.shape
  pub formulas : AreInRange setup.formulas
  pub blank : old ≡ device_of (new_memory (layout.device_lines setup.shape))
  pub formatted : WasFormatted setup p.ledger old (device_of p.board) p.engine
  pub count : length p.board.lines ≡ layout.device_lines setup.shape
  pub each_line : All IsLine p.board.lines
  pub no_snapshot : p.board.snapshot ≡ None
  pub queues : p.queues ≡ no_writes
  pub tampering : p.tampering ≡ no_tampering setup.shape
  pub dirtying : p.dirtying ≡ no_dirtying setup.shape
  pub steps : p.steps ≡ 0
  pub start : p.start ≡ record { reads = p.board.reads; writes = p.board.writes; latches = p.board.latches; tags = p.tags; digests = p.digests }
  pub shown : p.shown ≡ false

engine_of : (setup : Setup) (p : WorldParts) (old : Device) (engine : Option EngineState)
    → MatchOption engine ⊥ (λ found. HasFormatted setup p.ledger old (device_of p.board) found)
    → (found : EngineState) × (engine ≡ Some found) × HasFormatted setup p.ledger old (device_of p.board) found
engine_of setup p old None formatted = absurd formatted
engine_of setup p old (Some found) formatted = (found, refl, formatted)

fuse_none : (fuse : Option ℕ) → is_none fuse ≡ true → fuse ≡ None
fuse_none None is = refl
fuse_none (Some n) is = absurd (true≢false (sym is))

module _ (setup : Setup) (p : WorldParts) (old : Device) (made : IsJustMade setup p old) where
  abbrev world : WorldState
  world = world_of setup p

  found : (found : EngineState) × (p.engine ≡ Some found) × HasFormatted setup p.ledger old (device_of p.board) found
  found = engine_of setup p old p.engine made.formatted

  abbrev formatted : HasFormatted setup p.ledger old (device_of p.board) found.0
  formatted = found.2

  regs : p.board.regs ≡ first_regs setup (line_at p.ledger.truth 0)
  regs = formatted.regs

  memory : IsMemoryOf setup p.ledger.marks (replicate (layout.data_lines setup.shape) zero_line)
  memory =
      record {
        count = length-replicate (layout.data_lines setup.shape) zero_line;
        each =
            λ a within.
            formatted.plain a within
            ∙ ap (λ (l : Line). Some l) (sym (get_or-replicate (layout.data_lines setup.shape) a zero_line zero_line within));
      }

  memory_same : plain_memory setup p.ledger.marks ≡ replicate (layout.data_lines setup.shape) zero_line
  memory_same = memory_is setup p.ledger.marks (replicate (layout.data_lines setup.shape) zero_line) memory

  powered : p.board.powered ≡ true
  powered = (and_parts p.board.powered (is_none p.board.fuse) formatted.steady).0

  fuse : p.board.fuse ≡ None
  fuse = fuse_none p.board.fuse (and_parts p.board.powered (is_none p.board.fuse) formatted.steady).1

  its_state : state_in setup p ≡ start_state setup.shape
  unfolding start_state
  its_state =
      cc (
        memory_same,
        made.queues,
        powered,
        ap (λ (b : Option (List Line)). is_some b) made.no_snapshot,
        fuse,
        made.steps,
        ap (λ (t : Tampering). t.named) made.tampering,
        ap (λ (t : Tampering). t.hurt) made.tampering,
        ap (λ (t : Tampering). t.spoiled) made.tampering,
        ap (λ (t : Tampering). t.loose) made.tampering,
        ap (λ (d : Dirtying). d.touched) made.dirtying,
        ap (λ (d : Dirtying). d.flushed) made.dirtying,
        ap (λ (r : Regs). r.loss) regs,
      )

  counters_same : (view_of setup.shape p.ledger.marks).counters ≡ replicate (layout.data_lines setup.shape) (first_counter setup)
  counters_same =
      ext_get_or (record { major = 0; minor = 0 }) (view_of setup.shape p.ledger.marks).counters (replicate (layout.data_lines setup.shape) (first_counter setup))
      (length-view_of setup.shape p.ledger.marks ∙ sym (length-replicate (layout.data_lines setup.shape) (first_counter setup)))
      (λ a low.
      let within : a < layout.data_lines setup.shape = omega (arith, low, length-view_of setup.shape p.ledger.marks) in
      counter_at-last setup.shape p.ledger.marks a (first_counter setup) within (formatted.last_counters a within)
      ∙ sym (get_or-replicate (layout.data_lines setup.shape) a (first_counter setup) (record { major = 0; minor = 0 }) within))

  pages_same : (view_of setup.shape p.ledger.marks).open_pages ≡ []
  pages_same = formatted.anchored.open_pages ∙ ap (λ (r : Regs). map register_page r.progress.items) regs

  its_view : view_of setup.shape p.ledger.marks ≡ start_view setup.shape
  unfolding start_view
  its_view =
      ap (λ (c : List Ctr). record { counters = c; open_pages = (view_of setup.shape p.ledger.marks).open_pages }) counters_same
      ∙ ap (λ (o : List OpenPage). record { counters = replicate (layout.data_lines setup.shape) (first_counter setup); open_pages = o }) pages_same

  sound : IsSound setup (on_chip found.0) p.board.lines p.board.regs p.ledger
  sound = formatted.sound p.board.lines refl

  lines : lines_in world ≡ p.board.lines
  lines = ap (λ group. redone group p.board.lines) formatted.trusted.no_group

  clean : (bank x : ℕ) → is_cached_dirty setup.shape found.0.cache bank x ≡ false
  clean bank x =
      ap (λ (e : EngineState). is_cached_dirty setup.shape e.cache bank x) formatted.engine_new ∙ nothing_dirty setup.shape bank x

  -- each metadata line is the true one
  true_line : (x : ℕ) → x < layout.meta_lines setup.shape → stored_meta setup.shape (lines_in world) x ≡ line_at p.ledger.truth x
  true_line x within = ap (λ ls. stored_meta setup.shape ls x) lines ∙ sound.true_unless_dirty x within (clean (level_of x) x)

  on : IsOn setup world found.0
  on =
      record {
        powered = powered;
        up = ap (λ (e : EngineState). e.down) formatted.engine_new;
        trusted = formatted.trusted;
        sound = λ honest. sound;
        whole_cache = subst (λ (e : EngineState). IsBanksOf setup.shape e.cache) (sym formatted.engine_new) (whole_empty setup.shape);
        metadata =
            λ tight x within unnamed.
            inl (true_line x within);
        dirty = λ bank x dirty. absurd (true≢false (sym dirty ∙ clean bank x));
      }

  pub made_world : IsWorld setup world
  made_world =
      record {
        its_shape = refl;
        whole_shape = made.shape;
        whole_formulas = made.formulas;
        whole_lines = record { count = made.count; each = made.each_line };
        memory = subst (IsMemoryOf setup p.ledger.marks) (sym memory_same) memory;
        chip = subst (λ (e : Option EngineState). IsPowered setup world e) (sym found.1) on;
        kept =
            record {
              seals = λ a within whole. sound.durable.mendable.seals_stored a within;
              spoiled =
                  λ a within broken.
                  absurd (true≢false (sym broken ∙ ap (λ (t : Tampering). is_flagged t.spoiled a) made.tampering ∙ unflagged (layout.data_lines setup.shape) a));
              counters = λ tight page within unnamed. sound.durable.mendable.counters_stored page within;
              strict = λ x within at_once unnamed. true_line x within;
            };
        flags =
            record {
              named = ap (λ (t : Tampering). length t.named) made.tampering ∙ length-no_flags (layout.device_lines setup.shape);
              hurt = ap (λ (t : Tampering). length t.hurt) made.tampering ∙ length-no_flags (layout.data_lines setup.shape);
              spoiled = ap (λ (t : Tampering). length t.spoiled) made.tampering ∙ length-no_flags (layout.data_lines setup.shape);
              touched = ap (λ (d : Dirtying). length d.touched) made.dirtying ∙ length-no_flags (layout.pages setup.shape);
              flushed = ap (λ (d : Dirtying). length d.flushed) made.dirtying ∙ length-no_flags (layout.meta_lines setup.shape);
            };
        queues = HasQueues-none setup.shape (state_in setup p) made.queues;
        board =
            record {
              power = refl;
              fuse = refl;
              snapped = refl;
              loss = refl;
              few_armed = subst (λ (items : List (ℕ × Line)). length items ≤ group_bound setup.shape) (sym formatted.trusted.no_group) (omega arith);
            };
        steps =
            record {
              in_range = omega (arith, made.steps);
              reads = omega (arith, ap (λ (s : Stat). s.reads) made.start);
              writes = omega (arith, ap (λ (s : Stat). s.writes) made.start);
              latches = omega (arith, ap (λ (s : Stat). s.latches) made.start);
              sum =
                  λ exact low.
                  omega (arith, made.steps, ap (λ (s : Stat). s.writes) made.start, ap (λ (s : Stat). s.latches) made.start);
            };
      }

  its_engine : world.engine ≡ Some (new_engine setup.shape)
  its_engine = found.1 ∙ ap (λ (e : EngineState). Some e) formatted.engine_new

  pub made_new : IsNewWorld setup world
  made_new =
      let just : HasFormatted setup p.ledger (device_of (new_memory (layout.device_lines setup.shape))) (device_of p.board) (new_engine setup.shape) =
      subst (λ (d : Device). HasFormatted setup p.ledger d (device_of p.board) (new_engine setup.shape)) made.blank
      (subst (λ (e : EngineState). HasFormatted setup p.ledger old (device_of p.board) e) formatted.engine_new formatted) in
      search (rules, its_state, its_view, made_world, its_engine, just)

-- as many lines as before
pub device_count : (setup : Setup) (p : WorldParts) (old : Device) → WasFormatted setup p.ledger old (device_of p.board) p.engine
    → length p.board.lines ≡ old.size
device_count setup p old formatted = (engine_of setup p old p.engine formatted).2.size

pub length-new : (count size : ℕ) → size ≡ count → length (new_memory size).lines ≡ count
length-new count size same = length-replicate size zero_line ∙ same
