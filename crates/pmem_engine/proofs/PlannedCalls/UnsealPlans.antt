-- The ends of a line's unsealing, as its plan has them.
use Rattle.std.proofs.Common.{◌≡◌, ℕ, Bool, true, false, Option, Some, None, Result, Ok, Err, sym, subst, rules}
use Rattle.std.specs.Prelude.{if◌then◌else◌}
use Rattle.pmem_base.specs.declared.lines.Line.{Line}
use Rattle.pmem_base.specs.declared.lines.Ctr.{Ctr}
use Rattle.pmem_base.specs.declared.answers.Exhibit.TheVariants.{Forged}
use Rattle.pmem_base.specs.Counts.{risen}
use Rattle.pmem_base.specs.Layout as layout
use Rattle.pmem_base.specs.Lines.{IsLine, tag_slot}
use Rattle.pmem_base.specs.Marks.{last_seal}
use Rattle.board.specs.Device.{Device}
use Rattle.board.specs.Steps.{HasRead, WasCut}
use Rattle.call_plan.specs.Plans.{Plan, done, stop, read}
use Rattle.call_plan.specs.Following.{Follows}
use Rattle.call_plan.proofs.Steps.{is_done, is_stopped, read_then, read_cut}
use Rattle.line_seal.specs.Seals.{unsealed}
use Rattle.suite.specs.Setup.{Setup}
use Rattle.pmem_engine.specs.declared.fault.LineFault.{LineFault}
use Rattle.pmem_engine.specs.declared.fault.LineFault.TheVariants as AtLine
use Rattle.pmem_engine.specs.declared.reading.Unsealed.{Unsealed}
use Rattle.seal_ledger.specs.Notes.{shown, is_cipher_of}
use Rattle.pmem_engine.specs.Plans.{Chip, with_ledger, with_tags, opened_plan, unseal_plan}

module _ (setup : Setup) (at : ℕ) (ctr : Ctr) (chip : Chip) where
  abbrev tags_plan : Line → Plan (Chip × LineFault) (Chip × Unsealed)
  tags_plan cipher =
      read (chip, AtLine.Cut) (layout.tag_line setup.shape at) (λ tags.
      opened_plan at ctr cipher tags (with_tags chip (risen chip.tags)) (unsealed setup.formulas at ctr cipher (tag_slot tags at)))

  -- neither line was read
  pub unread : {old new : Device} → WasCut old new → old.live ≡ false → Follows (unseal_plan setup at ctr chip) old new (Err (chip, AtLine.Cut))
  unfolding unseal_plan
  unread was off = read_cut (chip, AtLine.Cut) at tags_plan was off

  module _ {old mid : Device} {cipher : Line} (first : HasRead old at cipher mid) (whole : IsLine cipher) where
    -- only the first was
    pub half_read : {new : Device} → WasCut mid new → mid.live ≡ false → Follows (unseal_plan setup at ctr chip) old new (Err (chip, AtLine.Cut))
    unfolding unseal_plan
    half_read was off = search (rules, read_then, read_cut)

    module _ {new : Device} {tags : Line} (second : HasRead mid (layout.tag_line setup.shape at) tags new) (tags_whole : IsLine tags) where
      abbrev after : Chip
      after = with_tags chip (risen chip.tags)

      by_plain : (plain : Option Line) {end : Result (Chip × Unsealed) (Chip × LineFault)} → unsealed setup.formulas at ctr cipher (tag_slot tags at) ≡ plain
          → Follows (opened_plan at ctr cipher tags after plain) new new end → Follows (unseal_plan setup at ctr chip) old new end
      unfolding unseal_plan
      by_plain plain {end = end} is it =
          read_then (chip, AtLine.Cut) first whole (read_then (chip, AtLine.Cut) second tags_whole
          (subst (λ p. Follows (opened_plan at ctr cipher tags after p) new new end) (sym is) it))

      -- the tag is another one
      pub not_unsealed : unsealed setup.formulas at ctr cipher (tag_slot tags at) ≡ None
          → Follows (unseal_plan setup at ctr chip) old new (Err (after, AtLine.Tag at))
      not_unsealed is = by_plain None is (is_stopped (after, AtLine.Tag at) new)

      abbrev forged : Chip
      forged = with_ledger after (shown chip.ledger (Forged at ctr cipher (tag_slot tags at)))

      by_cipher : (plain : Line) (last : Bool) {end : Result (Chip × Unsealed) (Chip × LineFault)}
          → unsealed setup.formulas at ctr cipher (tag_slot tags at) ≡ Some plain → is_cipher_of (last_seal chip.ledger.marks at) cipher ≡ last
          → Follows {E = Chip × LineFault} {T = Chip × Unsealed} (if last then done (after, record { plain = plain; tag_line = tags }) else stop (forged, AtLine.Shown)) new new end
          → Follows (unseal_plan setup at ctr chip) old new end
      by_cipher plain last {end = end} is known it =
          by_plain (Some plain) is
          (subst (λ (b : Bool). Follows {E = Chip × LineFault} {T = Chip × Unsealed} (if b then done (after, record { plain = plain; tag_line = tags })
          else stop (forged, AtLine.Shown)) new new end) (sym known) it)

      -- the cipher is the last one
      pub is_unsealed : (plain : Line) → unsealed setup.formulas at ctr cipher (tag_slot tags at) ≡ Some plain
          → is_cipher_of (last_seal chip.ledger.marks at) cipher ≡ true
          → Follows (unseal_plan setup at ctr chip) old new (Ok (after, record { plain = plain; tag_line = tags }))
      is_unsealed plain is last = by_cipher plain true is last (is_done (after, record { plain = plain; tag_line = tags }) new)

      -- or another one
      pub is_shown : (plain : Line) → unsealed setup.formulas at ctr cipher (tag_slot tags at) ≡ Some plain
          → is_cipher_of (last_seal chip.ledger.marks at) cipher ≡ false
          → Follows (unseal_plan setup at ctr chip) old new (Err (forged, AtLine.Shown))
      is_shown plain is other = by_cipher plain false is other (is_stopped (forged, AtLine.Shown) new)
