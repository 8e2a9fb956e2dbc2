-- What a refusal, an exhibit and an answered read rest on: lines that were tampered with, and lines that weren't.
use Rattle.std.proofs.Common.{rules}
use Rattle.std.proofs.Common.{ℕ, ◌≡◌, ◌≢◌, ◌<◌, ◌≤◌, ◌++◌, inl, inr, Bool, true, false, List, [], IsTrue, Option, Some, None, refl, sym, ap, subst, subst₂, ◌∙◌, arith}
use Rattle.std.specs.Prelude.{All, IfSome, option_map, ◌||◌, ◌==◌}
use Rattle.std.specs.List.{Any}
use Rattle.std.proofs.lemmas.Option.{same_Some, none-some}
use Rattle.std.proofs.lemmas.Bool.{cases_Bool, true≢false, false≢true, or_parts, eqb-true}
use Rattle.std.proofs.lemmas.List.{append-nil}
use Rattle.std.proofs.lemmas.List.Folds.{Any-from_list_any}
use Rattle.pmem_base.specs.declared.lines.Line.{Line}
use Rattle.pmem_base.specs.declared.lines.Ctr.{Ctr}
use Rattle.pmem_base.specs.declared.registers.Regs.{Regs}
use Rattle.pmem_base.specs.declared.answers.Mark.{Mark}
use Rattle.pmem_base.specs.Shape.{Shape, IsShape}
use Rattle.pmem_base.specs.Layout as layout
use Rattle.pmem_base.specs.Lines.{line_at, tag_slot}
use Rattle.pmem_base.specs.Marks.{SealOf, last_seal}
use Rattle.bonsai_tree.specs.Positions.{is_on_path, level_of, path_of, counter_position}
use Rattle.bonsai_tree.proofs.PathPositions.{path_of-within, own_block_on_path}
use Rattle.commit_regs.specs.Groups.{redone}
use Rattle.meta_cache.specs.Banks.{is_cached}
use Rattle.seal_ledger.specs.Ledger.{LedgerState}
use Rattle.seal_ledger.proofs.MarkLemmas.{last_seal_has}
use Rattle.suite.specs.Formulas.{AreInRange, cipher_of}
use Rattle.suite.specs.Setup.{Setup}
use Rattle.plain_model.specs.State.{PlainState, is_flagged}
use Rattle.plain_model.specs.Legal.{MayDiffer}
use Rattle.plain_model.specs.View.{IsMemoryOf}
use Rattle.pmem_engine.specs.Engine.{EngineState, on_chip}
use Rattle.pmem_engine.specs.Invariants.{IsAnchored, IsTrusted, IsSealStored, IsSealTagged, stored_meta}
use Rattle.call_effects.specs.Outcomes.{Outcome, going, cut_short, shown}
use Rattle.pmem_engine.specs.Outcomes.{is_sealed_by, KeepsPlaces, CallEffect}
use Rattle.pmem_engine.specs.Faults.{IsFetchedLine, IsTagRefused, IsForgedShown}
use Rattle.pmem_replay.specs.World.{WorldState, AreKept, IsOn, lines_in}
use Rattle.watched_board.specs.declared.taken.Taken.{Taken}
use Rattle.watched_board.specs.Watching.{none_taken}
use Rattle.pmem_replay.specs.During.{parts_in}
use Rattle.meta_path.proofs.WriteLemmas.{dirty_is_cached}
use Rattle.pmem_engine.proofs.PostedWrites.WriteParts.{last_seal-unsealed}
use Rattle.pmem_replay.proofs.Marks.SealedLines.{same_truth, last_cipher}

-- a position of a page's path is one of the tree
pub on_path-within : (g : Shape) (page x : ℕ) → page < layout.pages g → IsTrue (is_on_path g page x) → x < layout.meta_lines g
on_path-within g page x within on =
    let found : Any (λ y. (y == x) ≡ true) (path_of g page) = Any-from_list_any (λ y. y == x) (path_of g page) on in
    subst (λ z. z < layout.meta_lines g) (ap (λ y. y) found.3 ∙ eqb-true found.1 x found.4)
    (path_of-within g page within found.0 found.1 found.2)

-- so is a counter block's
pub counter_position-within : (g : Shape) (page : ℕ) → page < layout.pages g → counter_position g page < layout.meta_lines g
counter_position-within g page within =
    on_path-within g page (counter_position g page) within (own_block_on_path g page)

-- with no group armed the lines are as they stand
pub lines_unarmed : (world : WorldState) → world.board.regs.group.items ≡ [] → lines_in world ≡ world.board.lines
lines_unarmed world none = ap (λ group. redone group world.board.lines) none

-- a line other than the true one at an uncached position was tampered with, or the device was before
pub may_differ : (setup : Setup) (world : WorldState) (engine : EngineState) (x : ℕ) (line : Line)
    → IsOn setup world engine → x < layout.meta_lines setup.shape
    → is_cached setup.shape engine.cache (level_of x) x ≡ false
    → line ≡ line_at world.board.lines (layout.meta_line setup.shape x) → line ≢ line_at world.ledger.truth x
    → MayDiffer setup world.state x
may_differ setup world engine x line on within uncached read other =
    elim (cases_Bool (is_flagged world.state.named (layout.meta_line setup.shape x) || world.state.loose)) [
      | inl may ↦ may
      | inr tight ↦
          let parts = or_parts (is_flagged world.state.named (layout.meta_line setup.shape x)) world.state.loose tight in
          elim (on.metadata parts.1 x within parts.0) [
            | inl stored ↦
                absurd (other (read
                ∙ ap (λ lines. line_at lines (layout.meta_line setup.shape x)) (sym (lines_unarmed world on.trusted.no_group))
                ∙ stored))
            | inr dirty ↦
                absurd (false≢true (sym uncached ∙ dirty_is_cached setup.shape engine.cache (level_of x) x dirty))
          ]
    ]

-- ---- data lines

-- a line whose last seal is stored isn't spoiled
pub stored_unspoiled : (setup : Setup) (state : PlainState) (lines : List Line) (loss : ℕ) (ledger : LedgerState) (a : ℕ)
    → AreKept setup state lines loss ledger → a < layout.data_lines setup.shape → IsSealStored setup.shape lines ledger.marks a
    → is_flagged state.spoiled a ≡ false
stored_unspoiled setup state lines loss ledger a kept within stored =
    elim (cases_Bool (is_flagged state.spoiled a)) [
      | inl broken ↦ absurd (differs (last_seal ledger.marks a) (kept.spoiled a within broken) stored.cipher)
      | inr whole ↦ whole
    ]
  where
    differs : (seal : Option SealOf) → IfSome seal (λ s. line_at lines a ≢ s.cipher)
        → option_map (λ s. s.cipher) seal ≡ Some (line_at lines a) → ⊥
    differs None other same = none-some (line_at lines a) same
    differs (Some seal) other same = other (sym (same_Some seal.cipher (line_at lines a) same))

module _ (setup : Setup) (old new : WorldState) (engine after : EngineState) (taken : Taken) (made : List Mark) where
  -- a line that no mark seals and whose last seal is stored afterwards had it stored before
  pub stored_before : KeepsPlaces setup made (parts_in old engine none_taken) (parts_in new after taken)
      → new.ledger.marks ≡ old.ledger.marks ++ made → (a : ℕ) → a < layout.data_lines setup.shape
      → is_sealed_by made a ≡ false → IsSealStored setup.shape (lines_in new) new.ledger.marks a
      → IsSealStored setup.shape (lines_in old) old.ledger.marks a
  stored_before places marks a within unsealed stored = search (rules, last_seal-unsealed, same_Some)

-- what is stored of a line is what was read of it
pub record IsReadOf (setup : Setup) (world : WorldState) (a : ℕ) (cipher : Line) (tag : List ℕ) : Type 0 where
  pub its_line : cipher ≡ line_at (lines_in world) a
  pub its_slot : tag_slot (line_at (lines_in world) (layout.tag_line setup.shape a)) a ≡ tag

-- a stored seal's tag is right, so a line whose tag is wrong isn't stored
pub tag_stored : (setup : Setup) (world : WorldState) (a : ℕ) (ctr : Ctr) (cipher : Line) (tag : List ℕ)
    → All (IsSealTagged setup.formulas) world.ledger.marks
    → option_map (λ seal. seal.ctr) (last_seal world.ledger.marks a) ≡ Some ctr
    → IsReadOf setup world a cipher tag → IsSealStored setup.shape (lines_in world) world.ledger.marks a
    → setup.formulas.tag_of a ctr cipher ≡ tag
tag_stored setup world a ctr cipher tag tagged its_ctr read stored =
    go (last_seal world.ledger.marks a) refl
  where
    go : (seal : Option SealOf) → last_seal world.ledger.marks a ≡ seal → setup.formulas.tag_of a ctr cipher ≡ tag
    go None none = absurd (none-some ctr (ap (option_map (λ s. s.ctr)) (sym none) ∙ its_ctr))
    go (Some seal) there =
        let right : setup.formulas.tag_of a seal.ctr seal.cipher ≡ seal.tag =
        last_seal_has (IsSealTagged setup.formulas) world.ledger.marks a seal tagged there in
        let ctr_is : seal.ctr ≡ ctr =
        same_Some seal.ctr ctr (ap (option_map (λ s. s.ctr)) (sym there) ∙ its_ctr) in
        let cipher_is : seal.cipher ≡ line_at (lines_in world) a =
        same_Some seal.cipher (line_at (lines_in world) a) (ap (option_map (λ s. s.cipher)) (sym there) ∙ stored.cipher) in
        let tag_is : seal.tag ≡ tag_slot (line_at (lines_in world) (layout.tag_line setup.shape a)) a =
        same_Some seal.tag (tag_slot (line_at (lines_in world) (layout.tag_line setup.shape a)) a)
        (ap (option_map (λ s. s.tag)) (sym there) ∙ stored.tag) in
        subst₂ (λ c l. setup.formulas.tag_of a c l ≡ tag) ctr_is (cipher_is ∙ sym read.its_line)
        (right ∙ tag_is ∙ read.its_slot)

-- and its cipher is the last seal's
pub cipher_stored : (setup : Setup) (world : WorldState) (a : ℕ) (cipher : Line) (tag : List ℕ)
    → IsReadOf setup world a cipher tag → IsSealStored setup.shape (lines_in world) world.ledger.marks a
    → IfSome (last_seal world.ledger.marks a) (λ seal. cipher ≢ seal.cipher) → ⊥
cipher_stored setup world a cipher tag read stored other =
    go (last_seal world.ledger.marks a) other stored.cipher
  where
    go : (seal : Option SealOf) → IfSome seal (λ s. cipher ≢ s.cipher)
        → option_map (λ s. s.cipher) seal ≡ Some (line_at (lines_in world) a) → ⊥
    go None other same = none-some (line_at (lines_in world) a) same
    go (Some seal) other same = other (read.its_line ∙ sym (same_Some seal.cipher (line_at (lines_in world) a) same))

-- what isn't stored afterwards, and isn't sealed, was hurt
pub hurt_before : (setup : Setup) (old new : WorldState) (engine after : EngineState) (taken : Taken) (made : List Mark) (a : ℕ)
    → AreKept setup old.state (lines_in old) old.board.regs.loss old.ledger
    → KeepsPlaces setup made (parts_in old engine none_taken) (parts_in new after taken) → a < layout.data_lines setup.shape
    → (IsSealStored setup.shape (lines_in new) new.ledger.marks a → ⊥)
    → IsTrue (is_flagged old.state.hurt a)
hurt_before setup old new engine after taken made a kept places within unstored =
    elim (cases_Bool (is_flagged old.state.hurt a)) [
      | inl hurt ↦ hurt
      | inr whole ↦ absurd (unstored (places.seals a within (inl (kept.seals a within whole))))
    ]

-- a line whose tag is refused isn't stored, with a trusted chip afterwards
pub tag_unstored : (setup : Setup) (world : WorldState) (engine : EngineState) (taken : Taken) (a : ℕ)
    → IsTrusted setup (on_chip engine) world.board.regs world.ledger
    → IsTagRefused setup a (parts_in world engine taken)
    → IsSealStored setup.shape (lines_in world) world.ledger.marks a → ⊥
tag_unstored setup world engine taken a trusted refused stored =
    let lines = sym (lines_unarmed world trusted.no_group) in
    refused.other_tag
    (tag_stored setup world a refused.ctr refused.cipher refused.tag trusted.anchored.seals_tagged refused.unsealed.counter
    (record {
      its_line = refused.unsealed.cipher_read ∙ ap (λ lines. line_at lines a) lines;
      its_slot =
          ap (λ lines. tag_slot (line_at lines (layout.tag_line setup.shape a)) a) (sym lines)
          ∙ ap (λ line. tag_slot line a) (sym refused.unsealed.tag_read)
          ∙ refused.unsealed.its_slot;
    })
    stored)

-- a line that was fetched and isn't the true one stood there before the call, where the engine goes on
pub fetched_before : (setup : Setup) (old new : WorldState) (engine after : EngineState) (taken : Taken) (page x : ℕ) (line : Line)
    → IsShape setup.shape → IsOn setup old engine
    → CallEffect setup going [] (parts_in old engine none_taken) (parts_in new after taken)
    → x < layout.meta_lines setup.shape
    → IsFetchedLine setup page x line (parts_in old engine none_taken) (parts_in new after taken)
    → line ≢ line_at old.ledger.truth x
    → line ≡ line_at old.board.lines (layout.meta_line setup.shape x)
fetched_before setup old new engine after taken page x line shape on gone within fetched other =
    let trusted = gone.trusted on.trusted in
    let read : line ≡ stored_meta setup.shape (lines_in new) x =
    fetched.read ∙ ap (λ lines. stored_meta setup.shape lines x) (sym (lines_unarmed new trusted.no_group)) in
    elim ((gone.metadata on.trusted).changed x within) [
      | inl same ↦
          read
          ∙ same_Some (stored_meta setup.shape (lines_in new) x) (stored_meta setup.shape (lines_in old) x) same
          ∙ ap (λ lines. stored_meta setup.shape lines x) (lines_unarmed old on.trusted.no_group)
      | inr held ↦
          elim held [
            | inl stored ↦
                absurd (other (read ∙ stored
                ∙ ap (λ truth. line_at truth x)
                (same_truth setup old.board.regs new.board.regs old.ledger new.ledger shape on.trusted.anchored trusted.anchored
                (gone.marks ∙ append-nil old.ledger.marks))))
            | inr dirty ↦
                elim ((gone.metadata on.trusted).dirty (level_of x) x dirty) [
                  | inl was ↦ absurd (false≢true (sym fetched.uncached ∙ dirty_is_cached setup.shape engine.cache (level_of x) x was))
                  | inr touched ↦ absurd (true≢false (sym touched.1))
                ]
          ]
    ]

-- a line whose cipher isn't its last seal's isn't stored
pub forged_unstored : (setup : Setup) (world : WorldState) (engine : EngineState) (taken : Taken) (a : ℕ)
    → world.board.regs.group.items ≡ []
    → IsForgedShown setup a (parts_in world engine taken)
    → IsSealStored setup.shape (lines_in world) world.ledger.marks a → ⊥
forged_unstored setup world engine taken a none forged stored = search (rules, cipher_stored, lines_unarmed)

-- and isn't that of memory's line under the last counter
pub forged_other : (setup : Setup) (regs : Regs) (ledger : LedgerState) (memory : List Line) (a : ℕ) (ctr : Ctr) (cipher : Line)
    → AreInRange setup.formulas → IsAnchored setup regs ledger → IsMemoryOf setup ledger.marks memory
    → a < layout.data_lines setup.shape
    → option_map (λ seal. seal.ctr) (last_seal ledger.marks a) ≡ Some ctr
    → IfSome (last_seal ledger.marks a) (λ seal. cipher ≢ seal.cipher)
    → cipher ≢ cipher_of setup.formulas a ctr (line_at memory a)
forged_other setup regs ledger memory a ctr cipher in_range anchored memory_of within its other same =
    go (last_seal ledger.marks a) refl
  where
    go : (seal : Option SealOf) → last_seal ledger.marks a ≡ seal → ⊥
    go None none = none-some ctr (ap (option_map (λ s. s.ctr)) (sym none) ∙ its)
    go (Some seal) there =
        let ctr_is : seal.ctr ≡ ctr = same_Some seal.ctr ctr (ap (option_map (λ s. s.ctr)) (sym there) ∙ its) in
        let differs : cipher ≢ seal.cipher = subst (λ s. IfSome s (λ s. cipher ≢ s.cipher)) there other in
        differs (same
        ∙ ap (λ c. cipher_of setup.formulas a c (line_at memory a)) (sym ctr_is)
        ∙ sym (last_cipher setup regs ledger memory a seal in_range anchored memory_of within there))

-- no step is within every fuse
pub zero_within : (fuse : Option ℕ) → IfSome fuse (λ n. 0 ≤ n)
zero_within None = tt
zero_within (Some n) = omega arith

abbrev is_shown_end : Outcome → Bool
is_shown_end going = false
is_shown_end cut_short = false
is_shown_end shown = true

pub shown_uncut : shown ≢ cut_short
shown_uncut e = absurd (true≢false (ap is_shown_end e))
