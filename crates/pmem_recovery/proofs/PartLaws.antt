-- Laws of the stages: what they do to the device and to the suite's counts, one after another.
use Rattle.std.proofs.Common.{rules, ℕ, ◌≤◌, ◌<◌, ◌+◌, ◌*◌, refl, ◌∙◌}
use Rattle.std.proofs.lemmas.Nat.{mul-le}
use Rattle.pmem_base.specs.declared.geometry.Geo.{Geo}
use Rattle.pmem_base.specs.Geo.{shape_of}
use Rattle.pmem_base.specs.Shape.{Shape, IsShape}
use Rattle.pmem_base.specs.Layout.{slots}
use Rattle.pmem_base.specs.declared.lines.Line.{Line}
use Rattle.board.proofs.CountLemmas.{HasRisen-once}
use Rattle.board.specs.Device.{Device}
use Rattle.board.specs.Steps.{HasRead, WasCut}
use Rattle.call_effects.specs.SuiteStates.{SuiteState}
use Rattle.pmem_recovery.specs.Parts.{KeepsDevice, IsUncut, IsCutOff, SuiteWork}

-- ---- the device

pub KeepsDevice-none : (old : Device) → KeepsDevice old old
KeepsDevice-none old = search rules

pub KeepsDevice-then : (old mid new : Device) → KeepsDevice old mid → KeepsDevice mid new → KeepsDevice old new
KeepsDevice-then old mid new a b = search rules

pub IsUncut-none : (old : Device) → IsUncut old old
IsUncut-none old = record { cuts = refl; steady = λ s. s; live = λ s. s }

pub IsUncut-then : (old mid new : Device) → IsUncut old mid → IsUncut mid new → IsUncut old new
IsUncut-then old mid new a b = search rules

-- a cut after a stage that went on
pub IsCutOff-after : (old mid new : Device) → IsUncut old mid → IsCutOff mid new → IsCutOff old new
IsCutOff-after old mid new a b = search rules

pub KeepsDevice-read : (old : Device) (at : ℕ) (line : Line) (new : Device) → HasRead old at line new → KeepsDevice old new
KeepsDevice-read old at line new r = search rules

pub IsUncut-read : (old : Device) (at : ℕ) (line : Line) (new : Device) → HasRead old at line new → IsUncut old new
IsUncut-read old at line new r = record { cuts = r.cuts; steady = λ was. r.steady ∙ was; live = λ was. r.live ∙ was }

pub IsCutOff-cut : (old new : Device) → WasCut old new → IsCutOff old new
IsCutOff-cut old new c = search (rules, HasRisen-once)

-- ---- the suite

pub SuiteWork-none : (old : SuiteState) → SuiteWork 0 0 old old
SuiteWork-none old = record { keys = refl; pads = refl; tags = refl; digests = refl }

-- ---- the geometry

pub IsShape-geo : (geo : Geo) → IsShape (shape_of geo)
IsShape-geo geo = search rules

pub slots-small : (g : Shape) → IsShape g → slots g ≤ 512
slots-small g shape = mul-le g.sets g.ways 64 8 shape.at_most_64_sets shape.at_most_eight_ways

-- ---- bounds of what is done for each of a few

pub few_in_all : (done each few most : ℕ) → done ≤ few * each → few ≤ most → done ≤ each * most
few_in_all done each few most h low = search rules

pub few_and_one : (done more each few most : ℕ) → done ≤ few * each → more ≤ each → few < most → done + more ≤ each * most
few_and_one done more each few most h less low = search rules
