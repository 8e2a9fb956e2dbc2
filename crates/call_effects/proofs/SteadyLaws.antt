-- Writes one after another on a steady device.
use Rattle.std.proofs.Common.{rules, ℕ, ◌+◌, ◌∙◌}
use Rattle.pmem_base.specs.declared.lines.Line.{Line}
use Rattle.board.specs.Device.{Device}
use Rattle.board.specs.Steps.{HasWritten}
use Rattle.board.proofs.CountLemmas.{RisesBy-then, RisesBy-once}
use Rattle.call_effects.specs.Steady.{StaysSteady}

pub StaysSteady-none : (d : Device) → StaysSteady 0 d d
StaysSteady-none d = search rules

pub StaysSteady-then : (n m : ℕ) (old mid new : Device) → StaysSteady n old mid → StaysSteady m mid new → StaysSteady (n + m) old new
StaysSteady-then n m old mid new a b =
    record {
      size = b.size ∙ a.size;
      regs = b.regs ∙ a.regs;
      steady = λ s. b.steady (a.steady s);
      live = λ l. b.live (a.live l);
      told = b.told ∙ a.told;
      writes = RisesBy-then n m old.writes mid.writes new.writes a.writes b.writes;
      reads = b.reads ∙ a.reads;
      latches = b.latches ∙ a.latches;
      cuts = b.cuts ∙ a.cuts;
    }

pub StaysSteady-written : (old : Device) (at : ℕ) (line : Line) (new : Device) → HasWritten old at line new → StaysSteady 1 old new
StaysSteady-written old at line new w = search (rules, RisesBy-once)
