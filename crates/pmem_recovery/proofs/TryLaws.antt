-- Laws of the trials of one line, as they are made.
use Rattle.std.proofs.Common.{rules, ℕ, ◌≡◌, ◌≤◌, ◌<◌, ◌+◌, ◌-◌, ◌*◌, ◌/◌, ◌⊎◌, inl, inr, List, [], ◌∷◌, length, get_or, set, All, Option, Some, None, false, refl, sym, ap, subst, ◌∙◌, arith}
use Rattle.std.specs.Prelude.{slice_index, is_some, slice_get, unwrap_or}
use Rattle.std.proofs.Math.Nat.{div-mul-le_self}
use Rattle.std.proofs.lemmas.List.FromFn.{length-range_with_len}
use Rattle.std.proofs.lemmas.List.Elements.{All-head, All-tail}
use Rattle.std.proofs.lemmas.Bool.{true≢false, cases_eq}
use Rattle.std.proofs.lemmas.List.{get_or-set_same, get_or-set_other}
use Rattle.board.specs.Device.{Device}
use Rattle.pmem_base.specs.declared.lines.Line.{Line}
use Rattle.pmem_base.specs.declared.registers.Progress.{Progress}
use Rattle.pmem_base.specs.declared.registers.Regs.{Regs}
use Rattle.pmem_base.specs.Layout.{tag_line, page_of, index_in_page}
use Rattle.pmem_base.specs.Lines.{line_at, tag_slot}
use Rattle.pmem_base.proofs.ByteLaws.{same_bytes-true}
use Rattle.pmem_base.proofs.ListLaws.{All-into_filter}
use Rattle.page_reencrypt.specs.Registers.{register_held}
use Rattle.split_counters.specs.declared.Block.{Block}
use Rattle.suite.specs.Formulas.{Formulas}
use Rattle.suite.specs.Setup.{Setup}
use Rattle.stop_loss.specs.declared.Found.{Found}
use Rattle.stop_loss.specs.Trials.{is_match, matching_minors, found_among, IsFoundWithin}
use Rattle.stop_loss.specs.Windows.{window_minors}
use Rattle.pmem_recovery.specs.declared.faults.RecFault.{RecFault}
use Rattle.pmem_recovery.specs.declared.faults.RecFault.TheVariants.{Memory, Cut, NoCounter, Root, Twin}
use Rattle.pmem_recovery.specs.Trials.{stored_block, tried_minors}
use Rattle.pmem_recovery.specs.Parts.{IsLineRefusal, IsUncut, StopsBy, IsFaultShown, decided_of, IsDecided, IsUndecided}
use Rattle.pmem_recovery.specs.Fixed.{fixed_minor, fixed_block}
use Rattle.pmem_recovery.proofs.FixedLaws.{block_from}

-- ---- what was found

module _ (f : Formulas) (at major : ℕ) (cipher : Line) (tag : List ℕ) where
  -- each minor kept fits
  matches : (candidates : List ℕ) → All (λ minor. f.tag_of at (record { major = major; minor = minor }) cipher ≡ tag) (matching_minors f at major cipher tag candidates)
  matches candidates =
      All-into_filter (λ minor. is_match f at major cipher tag minor) (λ minor. f.tag_of at (record { major = major; minor = minor }) cipher ≡ tag) candidates
      (λ k d inside met. same_bytes-true (f.tag_of at (record { major = major; minor = get_or candidates k d }) cipher) tag met)

  decided_from : (matching : List ℕ) (last : ℕ) → last ≤ 127 → (first : ℕ) → IsFoundWithin first last (found_among matching) → All (λ minor. f.tag_of at (record { major = major; minor = minor }) cipher ≡ tag) matching → IsDecided f at major cipher tag matching (decided_of (found_among matching) at major cipher tag)
  decided_from [] last small first within all = (refl, refl)
  decided_from (minor ∷ []) last small first within all = (refl, omega (arith, small, within.1))
  decided_from (low ∷ high ∷ more) last small first within all =
      let P : ℕ → Type 0 = λ minor. f.tag_of at (record { major = major; minor = minor }) cipher ≡ tag in (
        refl,
        refl,
        refl,
        refl,
        record {
          more = more;
          least = refl;
          holds =
              record {
                in_order = within.1;
                in_range = omega (arith, small, within.2);
                fits_low = All-head P low (high ∷ more) all;
                fits_high = All-head P high more (All-tail P low (high ∷ more) all);
              };
        },
      )

  pub decided_is : (candidates : List ℕ) (first last : ℕ) (found : Found) → last ≤ 127 → found ≡ found_among (matching_minors f at major cipher tag candidates) → IsFoundWithin first last found → IsDecided f at major cipher tag (matching_minors f at major cipher tag candidates) (decided_of found at major cipher tag)
  decided_is candidates first last found small e within =
      let matching = matching_minors f at major cipher tag candidates in
      subst (λ z. IsDecided f at major cipher tag matching (decided_of z at major cipher tag)) (sym e)
      (decided_from matching last small first (subst (IsFoundWithin first last) e within) (matches candidates))

  pub shown_undecided : (matching : List ℕ) (fault : RecFault) → IsUndecided f at major cipher tag matching fault → IsFaultShown f fault
  shown_undecided matching Memory u = u
  shown_undecided matching Cut u = tt
  shown_undecided matching (NoCounter a) u = tt
  shown_undecided matching (Root kept found) u = tt
  shown_undecided matching (Twin a m low high c t) u = u.4.holds

  pub stops_undecided : (matching : List ℕ) (fault : RecFault) (old new : Device) → IsUndecided f at major cipher tag matching fault → IsUncut old new → StopsBy fault old new
  stops_undecided matching Memory old new u goes = goes
  stops_undecided matching Cut old new u goes = absurd u
  stops_undecided matching (NoCounter a) old new u goes = goes
  stops_undecided matching (Root kept found) old new u goes = goes
  stops_undecided matching (Twin a m low high c t) old new u goes = goes

-- ---- what is tried of a device

pub none_left : (o : Option Progress) → is_some o ≡ false → o ≡ None
none_left None q = refl
none_left (Some register) q = absurd (true≢false q)

-- the minors that fit are those of the definition, if the block, the cipher and the tag are the device's
pub tried_is : (setup : Setup) (lines : List Line) (regs : Regs) (at : ℕ) (block : Block) (cipher : Line) (tag candidates : List ℕ) → register_held regs.progress.items at ≡ None → block ≡ stored_block setup.shape lines (page_of at) → cipher ≡ line_at lines at → tag ≡ tag_slot (line_at lines (tag_line setup.shape at)) at → candidates ≡ window_minors (slice_index block.minors (index_in_page at)) regs.loss → tried_minors setup lines regs at ≡ matching_minors setup.formulas at block.major cipher tag candidates
tried_is setup lines regs at block cipher tag candidates free b c t w = search rules

pub refusal_is : (setup : Setup) (lines : List Line) (regs : Regs) (at : ℕ) (block : Block) (cipher : Line) (tag matching : List ℕ) (fault : RecFault) → tried_minors setup lines regs at ≡ matching → block ≡ stored_block setup.shape lines (page_of at) → cipher ≡ line_at lines at → tag ≡ tag_slot (line_at lines (tag_line setup.shape at)) at → IsUndecided setup.formulas at block.major cipher tag matching fault → IsLineRefusal setup lines regs at fault
refusal_is setup lines regs at block cipher tag matching Memory tried b c t u = u
refusal_is setup lines regs at block cipher tag matching Cut tried b c t u = tt
refusal_is setup lines regs at block cipher tag matching (NoCounter a) tried b c t u = (u.0, tried ∙ u.1)
refusal_is setup lines regs at block cipher tag matching (Root kept found) tried b c t u = u
refusal_is setup lines regs at block cipher tag matching (Twin a m low high c' t') tried b c t u = (
  u.0,
  record {
    more = u.4.more;
    tried = tried ∙ u.4.least;
    its_major = u.1 ∙ ap (λ (z : Block). z.major) b;
    its_cipher = u.2 ∙ c;
    its_tag = u.3 ∙ t;
  },
)

-- a window has at most as many minors as the stop-loss number
pub length-window_minors : (stored loss : ℕ) → length (window_minors stored loss) ≤ loss
length-window_minors stored loss =
    let long = length-range_with_len stored ((stored / loss) * loss + loss - stored) in
    let start : stored / loss * loss ≤ stored = div-mul-le_self stored loss in
    omega arith

-- ---- a page, line by line

-- one more line has one minor
pub minors_more : (tried : ℕ → List ℕ) (minors : List ℕ) (i minor : ℕ) → i < length minors → ((k : ℕ) → k < i → tried k ≡ get_or minors k 0 ∷ []) → tried i ≡ minor ∷ [] → (k : ℕ) → k < i + 1 → tried k ≡ get_or (set minors i minor) k 0 ∷ []
minors_more tried minors i minor inside before here k low = go (cases_eq k i)
  where
    go : (k ≡ i) ⊎ (k ≡ i → ⊥) → tried k ≡ get_or (set minors i minor) k 0 ∷ []
    go (inl same) =
        ap tried same ∙ here
        ∙ ap (λ m. m ∷ []) (sym (get_or-set_same minors i minor 0 inside) ∙ ap (λ j. get_or (set minors i minor) j 0) (sym same))
    go (inr other) =
        before k (omega arith) ∙ ap (λ m. m ∷ []) (sym (get_or-set_other minors i k minor 0 other))

-- the block of these minors is the fixed one
pub fixed_block_is : (setup : Setup) (lines : List Line) (regs : Regs) (page : ℕ) (fixed : Block) → fixed.major ≡ (stored_block setup.shape lines page).major → length fixed.minors ≡ 64 → ((k : ℕ) → k < 64 → tried_minors setup lines regs (64 * page + k) ≡ get_or fixed.minors k 0 ∷ []) → fixed ≡ fixed_block setup lines regs page
fixed_block_is setup lines regs page fixed major long each =
    sym (block_from (stored_block setup.shape lines page).major 64 (λ i. fixed_minor setup lines regs (64 * page + i)) fixed (sym major) long
    (λ k small. sym (ap (λ l. unwrap_or (slice_get l 0) 0) (each k small))))
