-- The answers that the table decides, and exhibits, which it never decides: a legal one holds.
use Rattle.std.proofs.Common.{◌≡◌, ◌∙◌, ◌+◌, ℕ, Bool, true, false, refl, sym, ap, subst}
use Rattle.std.specs.Prelude.{⊤, Option, None, Some, IfSome, MatchOption, length, nat_lt, nat_le, ◌==◌, ◌&&◌, if◌then◌else◌}
use Rattle.std.proofs.lemmas.Bool.{true≢false}
use Rattle.pmem_base.specs.declared.commands.Command.{Command}
use Rattle.pmem_base.specs.declared.commands.Posted.{Posted}
use Rattle.pmem_base.specs.declared.commands.Command.TheVariants as Do
use Rattle.pmem_base.specs.declared.answers.Answer.{Answer}
use Rattle.pmem_base.specs.declared.answers.Answer.TheVariants as Say
use Rattle.pmem_base.specs.declared.answers.Exhibit.{Exhibit}
use Rattle.pmem_base.specs.Shape.{Shape, is_loss}
use Rattle.pmem_base.specs.Layout as layout
use Rattle.pmem_base.specs.WaitingWrites.{queue_of, is_queue_full}
use Rattle.collision_witness.specs.Exhibits.{IsExhibit}
use Rattle.suite.specs.Setup.{Setup}
use Rattle.plain_model.specs.State.{PlainState, Reply}
use Rattle.plain_model.specs.View.{DeviceView}
use Rattle.plain_model.specs.After.{posted_line, posted_part}
use Rattle.plain_model.specs.Answers.{is_shown, is_covered, is_on_device, posting_answer, decided_answer}
use Rattle.plain_model.specs.Shown.{IsEngineReply, IsShownAnswer, IsLegal}

-- ---- the table

-- the answers that the table decides
abbrev pub IsTabled : Answer → Type 0
IsTabled Say.Ok = ⊤
IsTabled (Say.Got line steps) = ⊤
IsTabled (Say.LossSet steps) = ⊤
IsTabled Say.Full = ⊤
IsTabled Say.Empty = ⊤
IsTabled Say.Off = ⊤
IsTabled Say.Already = ⊤
IsTabled Say.Range = ⊤
IsTabled Say.NoSnap = ⊤
IsTabled answer = ⊥

tabled_if : (b : Bool) (o p : Option Answer) → IfSome o IsTabled → IfSome p IsTabled → IfSome (if b then o else p) IsTabled
tabled_if true o p first second = first
tabled_if false o p first second = second

tabled-posting : (g : Shape) (s : PlainState) (port : ℕ) (write : Posted) → IfSome (posting_answer g s port write) IsTabled
tabled-posting g s port write =
    tabled_if s.power _ _
    (tabled_if (nat_lt write.at (layout.data_lines g) && nat_le (write.from + write.len) 64) _ _
    (tabled_if (is_queue_full g.combines (queue_of s.queues port) write) _ _ tt tt) tt) tt

pub tabled-decided : (g : Shape) (s : PlainState) (command : Command) → IfSome (decided_answer g s command) IsTabled
tabled-decided g s (Do.Post port at line) = tabled-posting g s port (posted_line at line)
tabled-decided g s (Do.Part port at from count line) = tabled-posting g s port (posted_part at from count line)
tabled-decided g s (Do.Drain port) = tabled_if s.power _ _ (tabled_if (length (queue_of s.queues port) == 0) _ _ tt tt) tt
tabled-decided g s (Do.Fence port) = tabled_if s.power _ _ tt tt
tabled-decided g s (Do.Read port at) = tabled_if s.power _ _ (tabled_if (nat_lt at (layout.data_lines g)) _ _ (tabled_if (is_covered s port at) _ _ tt tt) tt) tt
tabled-decided g s Do.Turn = tabled_if s.power _ _ tt tt
tabled-decided g s Do.Flush = tabled_if s.power _ _ tt tt
tabled-decided g s (Do.Cut n) = tt
tabled-decided g s Do.Off = tabled_if s.power _ _ tt tt
tabled-decided g s Do.On = tabled_if s.power _ _ tt tt
tabled-decided g s (Do.Poke d line) = tabled_if (is_on_device g d) _ _ tt tt
tabled-decided g s (Do.Flip d bit) = tabled_if (is_on_device g d && nat_le bit 511) _ _ tt tt
tabled-decided g s (Do.Move from to) = tabled_if (is_on_device g from && is_on_device g to) _ _ tt tt
tabled-decided g s Do.Snap = tt
tabled-decided g s (Do.Back d) = tabled_if (is_on_device g d) _ _ (tabled_if s.snapped _ _ tt tt) tt
tabled-decided g s (Do.Peek d) = tabled_if (is_on_device g d) _ _ tt tt
tabled-decided g s Do.Stat = tt
tabled-decided g s (Do.Loss n) = tabled_if s.power _ _ (tabled_if (is_loss n) _ _ (tabled_if (n == s.loss) _ _ tt tt) tt) tt

tabled-hidden : (answer : Answer) → IsTabled answer → is_shown answer ≡ false
tabled-hidden (Say.Shown exhibit) is = absurd is
tabled-hidden answer is = refl

-- ---- a legal exhibit holds

engine_exhibit : (setup : Setup) (state : PlainState) (view : DeviceView) (command : Command) (reply : Reply) (exhibit : Exhibit)
    → IsEngineReply setup state view command reply → reply.answer ≡ Say.Shown exhibit → IsExhibit setup.formulas exhibit
engine_exhibit setup state view command reply exhibit legal shown =
    (subst (λ answer. IsShownAnswer setup state view command reply.marks answer) shown legal.shown).holds

legal_by : (setup : Setup) (state : PlainState) (view : DeviceView) (command : Command) (reply : Reply) (exhibit : Exhibit) (decided : Option Answer) → IfSome decided IsTabled
    → MatchOption decided (IsEngineReply setup state view command reply) (λ answer. reply.answer ≡ answer)
    → reply.answer ≡ Say.Shown exhibit → IsExhibit setup.formulas exhibit
legal_by setup state view command reply exhibit None tabled legal shown = engine_exhibit setup state view command reply exhibit legal shown
legal_by setup state view command reply exhibit (Some answer) tabled legal shown =
    absurd (true≢false (sym (ap is_shown shown) ∙ (ap is_shown legal ∙ tabled-hidden answer tabled)))

pub legal_exhibit : (setup : Setup) (state : PlainState) (view : DeviceView) (command : Command) (reply : Reply) (exhibit : Exhibit)
    → IsLegal setup state view command reply → reply.answer ≡ Say.Shown exhibit → IsExhibit setup.formulas exhibit
legal_exhibit setup state view command reply exhibit legal shown =
    legal_by setup state view command reply exhibit (decided_answer setup.shape state command) (tabled-decided setup.shape state command) legal shown

-- ---- which answer it is

pub exhibit_of : (answer : Answer) → is_shown answer ≡ true → (exhibit : Exhibit) × (answer ≡ Say.Shown exhibit)
exhibit_of (Say.Shown exhibit) shown = (exhibit, refl)
exhibit_of answer shown = absurd cc
