-- A data line and its tag line are read, and the line is unsealed or refused.
use Rattle.std.proofs.Common.{rules, ℕ, ◌≡◌, ◌≢◌, ◌<◌, true, false, List, [], Option, Some, None, Ok, Err, refl, sym, ap, ap₂, subst, ◌∙◌, arith}
use Rattle.std.specs.Prelude.{MatchOption, IfSome, IsSome, option_map, All}
use Rattle.std.proofs.lemmas.Bool.{true≢false, cond-false}
use Rattle.std.proofs.lemmas.Option.{none-some, same_Some}
use Rattle.pmem_base.specs.declared.lines.Line.{Line}
use Rattle.pmem_base.specs.declared.lines.Ctr.{Ctr}
use Rattle.pmem_base.specs.declared.answers.Mark.{Mark}
use Rattle.pmem_base.specs.declared.answers.Exhibit.TheVariants.{Forged}
use Rattle.pmem_base.specs.Counts.{risen}
use Rattle.pmem_base.specs.Lines.{tag_slot}
use Rattle.pmem_base.specs.Layout as layout
use Rattle.pmem_base.specs.Marks.{SealOf, last_seal}
use Rattle.suite.specs.Formulas.{Formulas}
use Rattle.commit_regs.specs.Groups.{redone_told}
use Rattle.suite.specs.Setup.{Setup}
use Rattle.board.proofs.CountLemmas.{RisesBy-then, RisesBy-once}
use Rattle.board.specs.Counts.{RisesBy}
use Rattle.board.specs.Device.{Device}
use Rattle.board.specs.Steps.{HasRead, Tells}
use Rattle.seal_ledger.specs.Ledger.{LedgerState}
use Rattle.seal_ledger.specs.Notes.{HasExhibit}
use Rattle.seal_ledger.proofs.MarkLemmas.{last_seal_has}
use Rattle.line_seal.specs.Seals.{unsealed}
use Rattle.plain_model.specs.View.{plain_line}
use Rattle.pmem_engine.specs.declared.fault.LineFault.TheVariants as AtLine
use Rattle.pmem_engine.specs.Engine.{ChipState}
use Rattle.pmem_engine.specs.Invariants.{IsSound, IsSealStored, IsSealTagged}
use Rattle.pmem_engine.specs.Parts.{Parts, parts_with, AreTrusted, AreSound, HoldsSeal}
use Rattle.pmem_engine.specs.Outcomes.{NeverFalls, TakesSteps}
use Rattle.pmem_engine.specs.Still.{HasOnlyRead}
use Rattle.pmem_engine.specs.Inner.{HasUnsealed, IsLastCounter}
use Rattle.pmem_engine.proofs.CallEnds.StillParts.{done_reading}
use Rattle.pmem_base.proofs.ByteLaws.{same_bytes-true}

-- a count that rose by one, or stands still, doesn't fall
pub risen_never_falls : (n : ℕ) → NeverFalls n (risen n)
risen_never_falls n within = (omega arith, omega arith)

pub same_never_falls : (n m : ℕ) → m ≡ n → NeverFalls n m
same_never_falls n m same within = (omega (arith, same, within), omega (arith, same, within))

-- both lines were read
pub record HasReadBoth (setup : Setup) (a : ℕ) (cipher tag_line : Line) (old new : Device) : Type 0 where
  pub size : new.size ≡ old.size
  pub lines : new.lines ≡ old.lines
  pub regs : new.regs ≡ old.regs
  pub writes : new.writes ≡ old.writes
  pub latches : new.latches ≡ old.latches
  pub cuts : new.cuts ≡ old.cuts
  pub steady : old.steady ≡ true → new.steady ≡ true
  pub live : old.live ≡ true → new.live ≡ true
  pub reads : RisesBy 2 old.reads new.reads
  pub tells_cipher : Tells new.lines a cipher
  pub tells_tag_line : Tells new.lines (layout.tag_line setup.shape a) tag_line

pub read_both : (setup : Setup) (a : ℕ) (cipher tag_line : Line) (old mid new : Device)
    → HasRead old a cipher mid → HasRead mid (layout.tag_line setup.shape a) tag_line new
    → HasReadBoth setup a cipher tag_line old new
read_both setup a cipher tag_line old mid new first second = search (rules, RisesBy-then, RisesBy-once)

-- what a told device with a stored seal gives: that seal's cipher, and its tag
record IsReadSeal (marks : List Mark) (a : ℕ) (cipher : Line) (tag : List ℕ) : Type 0 where
  seal : SealOf
  last : last_seal marks a ≡ Some seal
  its_cipher : cipher ≡ seal.cipher
  its_tag : tag ≡ seal.tag

-- what a sound device gives, where no group is armed
sound_seal : (setup : Setup) (parts : Parts) (told : Option (List Line)) (a : ℕ) (cipher tag_line : Line) → AreSound setup parts
    → told ≡ parts.device.lines → Tells told a cipher → Tells told (layout.tag_line setup.shape a) tag_line
    → a < layout.data_lines setup.shape → IsReadSeal parts.ledger.marks a cipher (tag_slot tag_line a)
sound_seal setup parts told a cipher tag_line sound same reads tag_reads within = search rules

-- the seal read has its own tag under its own counter
tag_of_read : (setup : Setup) (parts : Parts) (a : ℕ) (ctr : Ctr) (cipher : Line) (tag : List ℕ)
    → All (IsSealTagged setup.formulas) parts.ledger.marks → IsLastCounter parts a ctr
    → IsReadSeal parts.ledger.marks a cipher tag → setup.formulas.tag_of a ctr cipher ≡ tag
tag_of_read setup parts a ctr cipher tag tagged counter it =
    let same : Some it.seal.ctr ≡ Some ctr = ap (option_map (λ s. s.ctr)) (sym it.last) ∙ counter in
    ap₂ (λ c line. setup.formulas.tag_of a c line) (sym (same_Some it.seal.ctr ctr same)) it.its_cipher
    ∙ last_seal_has (IsSealTagged setup.formulas) parts.ledger.marks a it.seal tagged it.last
    ∙ sym it.its_tag

-- a line that was unsealed has its right tag
pub right_tag : (f : Formulas) (a : ℕ) (ctr : Ctr) (cipher : Line) (tag slot : List ℕ) (plain : Line) → tag ≡ slot
    → unsealed f a ctr cipher tag ≡ Some plain → (f.tag_of a ctr cipher ≡ slot) × (unsealed f a ctr cipher slot ≡ Some plain)
right_tag f a ctr cipher tag slot plain same it = search (rules, cond-false, none-some, same_bytes-true)

module _ (setup : Setup) (engine : ChipState) (ledger : LedgerState) (a : ℕ) (ctr : Ctr) (cipher tag_line : Line)
    (old new : Device) (tags digests tags_now digests_now : ℕ)
    (both : HasReadBoth setup a cipher tag_line old new) (one_tag : tags_now ≡ risen tags) (same : digests_now ≡ digests) where
  abbrev before : Parts
  before = parts_with engine old ledger tags digests

  abbrev after : LedgerState → Parts
  after noted = parts_with engine new noted tags_now digests_now

  only_read : HasOnlyRead before (after ledger)
  only_read = search rules

  no_steps : TakesSteps 0 old new
  no_steps = search rules

  -- an error is no answer
  no_answer : {T : Type 0} → false ≡ true → T
  no_answer it = absurd (true≢false (sym it))

  -- the tag isn't the one in its slot
  pub refused : a < layout.data_lines setup.shape → setup.formulas.tag_of a ctr cipher ≢ tag_slot tag_line a
      → HasUnsealed setup a ctr before (after ledger) (Err (AtLine.Tag a))
  refused within other =
      record {
        done = done_reading setup before (after ledger) only_read;
        answered =
            search rules;
        unrefused = λ sound counter. other (tag_of_read setup before a ctr cipher (tag_slot tag_line a)
            (sound_tagged sound) counter
            (sound_seal setup before new.lines a cipher tag_line sound both.lines both.tells_cipher both.tells_tag_line within));
        engine = refl;
        lines = both.lines;
        regs = both.regs;
        digests = same;
        same_ledger = λ unshown. refl;
        tells_tag_line = tt;
        writes = both.writes;
        latches = both.latches;
        no_steps = no_steps;
        two_reads = λ ok. no_answer ok;
        one_tag = λ ok. no_answer ok;
        cut_unpowered = λ is_cut. cc;
      }
    where
      sound_tagged : AreSound setup before → All (IsSealTagged setup.formulas) ledger.marks
      sound_tagged sound = go old.lines sound
        where
          go : (lines : Option (List Line)) → MatchOption lines ⊥ (λ lines. IsSound setup engine lines old.regs ledger)
              → All (IsSealTagged setup.formulas) ledger.marks
          go None it = absurd it
          go (Some lines) it = it.trusted.anchored.seals_tagged

  -- the audit has another cipher for the line's last seal
  pub stopped : (noted : LedgerState) → a < layout.data_lines setup.shape → IsSome (last_seal ledger.marks a)
      → setup.formulas.tag_of a ctr cipher ≡ tag_slot tag_line a
      → IfSome (last_seal ledger.marks a) (λ seal. cipher ≢ seal.cipher)
      → HasExhibit ledger noted (Forged a ctr cipher (tag_slot tag_line a))
      → HasUnsealed setup a ctr before (after noted) (Err AtLine.Shown)
  stopped noted within known right other shows = search rules

  -- the line is unsealed, and it is the last seal's
  pub opened : (plain : Line) → a < layout.data_lines setup.shape
      → unsealed setup.formulas a ctr cipher (tag_slot tag_line a) ≡ Some plain
      → setup.formulas.tag_of a ctr cipher ≡ tag_slot tag_line a → IsSome (last_seal ledger.marks a)
      → IfSome (last_seal ledger.marks a) (λ seal. cipher ≡ seal.cipher)
      → HasUnsealed setup a ctr before (after ledger) (Ok (record { plain = plain; tag_line = tag_line }))
  opened plain within it right known its_cipher =
      record {
        done = done_reading setup before (after ledger) only_read;
        answered = λ trusted counter. (plain_is counter (last_seal ledger.marks a) refl, stored trusted counter);
        unrefused = λ sound counter. tt;
        engine = refl;
        lines = both.lines;
        regs = both.regs;
        digests = same;
        same_ledger = λ unshown. refl;
        tells_tag_line = both.tells_tag_line;
        writes = both.writes;
        latches = both.latches;
        no_steps = no_steps;
        two_reads = λ ok. both.reads;
        one_tag = λ ok. one_tag;
        cut_unpowered = λ is_cut. cc;
      }
    where
      seal_read : IsLastCounter before a ctr → (seal : SealOf) × (last_seal ledger.marks a ≡ Some seal) × (seal.ctr ≡ ctr) × (cipher ≡ seal.cipher)
      seal_read counter = search rules

      plain_is : IsLastCounter before a ctr → (o : Option SealOf) → last_seal ledger.marks a ≡ o
          → plain_line setup.formulas ledger.marks a ≡ Some plain
      plain_is counter o same_o = search rules

      stored : AreTrusted setup before → IsLastCounter before a ctr → HoldsSeal setup.shape (after ledger) a
      stored trusted counter =
          subst (λ group. IfSome (redone_told group new.lines) (λ lines. IsSealStored setup.shape lines ledger.marks a))
          (sym (ap (λ regs. regs.group.items) both.regs ∙ trusted.no_group)) (told new.lines both.tells_cipher both.tells_tag_line)
        where
          told : (lines : Option (List Line)) → Tells lines a cipher → Tells lines (layout.tag_line setup.shape a) tag_line
              → IfSome (redone_told [] lines) (λ lines. IsSealStored setup.shape lines ledger.marks a)
          told None reads tag_reads = tt
          told (Some lines) reads tag_reads =
              let found = seal_read counter in
              record {
                cipher = ap (option_map (λ s. s.cipher)) found.1 ∙ ap Some (sym found.3 ∙ reads);
                tag =
                    ap (option_map (λ s. s.tag)) found.1
                    ∙ ap Some
                    (sym (last_seal_has (IsSealTagged setup.formulas) ledger.marks a found.0 trusted.anchored.seals_tagged found.1)
                    ∙ ap₂ (λ c line. setup.formulas.tag_of a c line) found.2 (sym found.3)
                    ∙ right ∙ ap (λ line. tag_slot line a) tag_reads);
              }
