-- The dirty counter blocks are written the oldest first: wherever that ends, the first of them are written and clean.
use Rattle.std.proofs.Common.{ℕ, ◌≡◌, ◌∷◌, ◌++◌, [], List, Result, Ok, Err, length, refl, sym, ap, subst, ◌∙◌}
use Rattle.std.proofs.lemmas.List.{append-nil, append_assoc, length-append}
use Rattle.pmem_base.specs.declared.faults.Cut.{Cut}
use Rattle.pmem_base.specs.declared.lines.Line.{Line}
use Rattle.pmem_base.specs.Counts.{risen, risen_times}
use Rattle.pmem_base.specs.Layout as layout
use Rattle.pmem_base.proofs.CountLemmas.{risen_times-add}
use Rattle.board.specs.Device.{Device}
use Rattle.board.specs.Steps.{HasWritten, WasCut, with_line}
use Rattle.call_plan.specs.Plans.{for_each}
use Rattle.call_plan.specs.Bounds.{Leaves, AtEnd}
use Rattle.call_plan.proofs.Leaves.{leaves, leaves_mapped, leaves_more, leaves_for_each}
use Rattle.commit_regs.specs.Groups.{redone_told}
use Rattle.commit_regs.proofs.GroupLemmas.{redone-nil, redone-more}
use Rattle.meta_path.specs.Blocks.{line_in}
use Rattle.meta_path.specs.Plans.{cleaned, write_back_plan}
use Rattle.pmem_engine.specs.Engine.{ChipState}
use Rattle.pmem_engine.specs.Flushed.{cache_of}
use Rattle.pmem_engine.specs.Plans.{with_cache, block_plan, dirty_counter_blocks, counter_block_turn, counter_blocks_plan}
use Rattle.pmem_engine.specs.KeptLaws.{with_clean, block_entries, AreWrittenBack, IsWrittenInOrder, BlocksAreWrittenInOrder}

-- one block more
clean-more : (front : List ℕ) (x : ℕ) (engine : ChipState) → with_clean (front ++ x ∷ []) engine ≡ with_clean (x ∷ []) (with_clean front engine)
clean-more [] x engine = refl
clean-more (y ∷ front) x engine = clean-more front x (with_cache engine (cleaned (cache_of engine) engine.shape.levels y))

entries-more : (front : List ℕ) (x : ℕ) (engine : ChipState)
    → block_entries (front ++ x ∷ []) engine ≡ block_entries front engine ++ block_entries (x ∷ []) (with_clean front engine)
entries-more [] x engine = refl
entries-more (y ∷ front) x engine =
    ap (λ (entries : List (ℕ × Line)). (layout.meta_line engine.shape y, line_in engine.shape engine.cache engine.shape.levels y) ∷ entries)
    (entries-more front x (with_cache engine (cleaned (cache_of engine) engine.shape.levels y)))

module _ (first : ChipState) (old : Device) where
  abbrev blocks : List ℕ
  blocks = dirty_counter_blocks first

  -- these blocks are left, and those before them are written back
  record AreLeft (later : List ℕ) (engine : ChipState) (now : Device) : Type 0 where
    front : List ℕ
    both : blocks ≡ front ++ later
    written : AreWrittenBack front first engine old now

  abbrev IsCut : ChipState × Cut → Device → Type 0
  IsCut left new = IsWrittenInOrder first old new (Err left)

  at_cut : (later : List ℕ) (engine : ChipState) (cut : Cut) (now new : Device) → AreLeft later engine now → WasCut now new → IsCut (engine, cut) new
  at_cut later engine cut now new left was = (
    left.front,
    record { later = later; all_of = left.both },
    record {
      lines = was.lines ∙ left.written.lines;
      writes = was.writes ∙ left.written.writes;
      engine_left = left.written.engine_left;
      regs = was.regs ∙ left.written.regs;
      reads = was.reads ∙ left.written.reads;
    },
  )

  one_more : (x : ℕ) (later : List ℕ) (engine : ChipState) (now new : Device) → AreLeft (x ∷ later) engine now
      → HasWritten now (layout.meta_line engine.shape x) (line_in engine.shape engine.cache engine.shape.levels x) new
      → AreLeft later (with_cache engine (cleaned (cache_of engine) engine.shape.levels x)) new
  one_more x later engine now new left was =
      record {
        front = left.front ++ x ∷ [];
        both = left.both ∙ sym (append_assoc left.front (x ∷ []) later);
        written =
            record {
              lines =
                  was.lines ∙ ap (λ told. with_line told (layout.meta_line engine.shape x) (line_in engine.shape engine.cache engine.shape.levels x)) left.written.lines
                  ∙ ap (λ (e : ChipState). with_line (redone_told (block_entries left.front first) old.lines) (layout.meta_line e.shape x)
                  (line_in e.shape e.cache e.shape.levels x)) left.written.engine_left
                  ∙ sym (redone-more (block_entries left.front first) _ old.lines)
                  ∙ ap (λ entries. redone_told entries old.lines) (sym (entries-more left.front x first));
              writes =
                  was.writes.is_risen ∙ ap risen left.written.writes ∙ sym (risen_times-add (length left.front) 1 old.writes)
                  ∙ ap (λ n. risen_times n old.writes) (sym (length-append left.front (x ∷ [])));
              engine_left =
                  ap (λ (e : ChipState). with_cache e (cleaned (cache_of e) e.shape.levels x)) left.written.engine_left
                  ∙ sym (clean-more left.front x first);
              regs = was.regs ∙ left.written.regs;
              reads = was.reads ∙ left.written.reads;
            };
      }

  turn : (x : ℕ) (later : List ℕ) (engine : ChipState) (now : Device) → AreLeft (x ∷ later) engine now
      → Leaves (block_plan engine.shape.levels x engine) (λ end d. AreLeft later end.0 d) (λ left d. IsCut left d) now
  unfolding block_plan write_back_plan Leaves
  turn x later engine now left =
      leaves_mapped _ _ (λ end d. AreLeft later end.0 d) (λ left d. IsCut left d) (write_back_plan (cache_of engine) engine.shape.levels x) now
      (λ new was. at_cut (x ∷ later) engine _ now new left was, λ new was. one_more x later engine now new left was)

  begins : AreLeft blocks first old
  begins =
      record {
        front = [];
        both = refl;
        written = record { lines = sym (redone-nil old.lines); writes = refl; engine_left = refl; regs = refl; reads = refl };
      }

  in_order : Leaves (counter_blocks_plan first) (λ end d. AreWrittenBack blocks first end.0 old d) (λ left d. IsCut left d) old
  unfolding counter_blocks_plan
  in_order =
      leaves_mapped _ _ (λ end d. AreWrittenBack blocks first end.0 old d) (λ left d. IsCut left d) (for_each counter_block_turn blocks (first, tt)) old
      (leaves_more (λ end d. AreLeft [] end.0 d) (λ end d. AreWrittenBack blocks first end.0 old d) (λ left d. IsCut left d) (λ left d. IsCut left d)
      (for_each counter_block_turn blocks (first, tt)) old
      (λ end d left. subst (λ front. AreWrittenBack front first end.0 old d) (sym (left.both ∙ append-nil left.front)) left.written) (λ left d it. it)
      (leaves_for_each (λ later end d. AreLeft later end.0 d) (λ left d. IsCut left d) counter_block_turn blocks (first, tt) old
      (λ x later end d left. turn x later end.0 d left) begins))

pub blocks_in_order : BlocksAreWrittenInOrder
blocks_in_order engine old new end it =
    at_end end (leaves (λ end d. AreWrittenBack (dirty_counter_blocks engine) engine end.0 old d) (λ left d. IsCut engine old left d) (in_order engine old) it)
  where
    at_end : (end : Result (ChipState × ℕ) (ChipState × Cut))
        → AtEnd (λ end d. AreWrittenBack (dirty_counter_blocks engine) engine end.0 old d) (λ left d. IsCut engine old left d) end new
        → IsWrittenInOrder engine old new end
    at_end (Ok t) it = it
    at_end (Err left) it = it
