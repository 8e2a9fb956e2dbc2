-- The plans of a call and of a read, at each of their ends.
use Rattle.std.proofs.Common.{◌≡◌, ℕ, ◌%◌, true, false, Ok, Err}
use Rattle.asit_shadow.proofs.Common.{Line, Device, Setup, Plan, Follows, is_stopped, bind_ok, bind_err, mapped_follows, Node, FetchFault, counter, ReadParts, line_plan, chosen, not_chosen, TreeFault, TreeChip, read_parts_of, with_engine, with_read, fault_of_line, fetch_plan, ended_engine, data_plan}
use Rattle.asit_shadow.specs.declared.fault.TreeFault.TheVariants as Fail
use Rattle.asit_shadow.specs.Plans.{called_plan, read_line_plan}
use Rattle.asit_shadow.proofs.FetchPlans.{lifted_err}

-- ---- a call

module _ {A : Type 0} (chip : TreeChip) (plan : Plan (TreeChip × TreeFault) (TreeChip × A)) where
  pub called_down : (d : Device) → chip.engine.down ≡ true → Follows (called_plan chip plan) d d (Err (chip, Fail.Down))
  unfolding called_plan
  called_down d down = chosen _ down (is_stopped (chip, Fail.Down) d)

  module _ (up : chip.engine.down ≡ false) {old new : Device} (after : TreeChip) where
    pub called_ok : (value : A) → Follows plan old new (Ok (after, value)) → Follows (called_plan chip plan) old new (Ok (after, value))
    unfolding called_plan
    called_ok value it = not_chosen _ up (mapped_follows _ _ it)

    pub called_err : (fault : TreeFault) → Follows plan old new (Err (after, fault))
        → Follows (called_plan chip plan) old new (Err (with_engine after (ended_engine after.engine fault), fault))
    unfolding called_plan
    called_err fault it = not_chosen _ up (mapped_follows _ _ it)

-- ---- a read

module _ (setup : Setup) (a : ℕ) (chip : TreeChip) {old : Device} where
  -- the path wasn't fetched
  pub unfetched_read : {new : Device} {left : TreeChip × TreeFault} → Follows (fetch_plan setup a chip) old new (Err left)
      → Follows (read_line_plan setup a chip) old new (Err left)
  unfolding read_line_plan
  unfetched_read it = bind_err (data_plan setup a) it

  module _ {mid new : Device} (fetched : TreeChip) (node : Node) (first : Follows (fetch_plan setup a chip) old mid (Ok (fetched, node))) where
    -- the line was read, or not
    pub fetched_read : (after : ReadParts) (plain : Line)
        → Follows (line_plan setup a (counter node (a % 4)) (read_parts_of fetched)) mid new (Ok (after, plain))
        → Follows (read_line_plan setup a chip) old new (Ok (with_read fetched after, plain))
    unfolding read_line_plan
    fetched_read after plain it = bind_ok (data_plan setup a) first (mapped_follows _ _ it)

    pub refused_read : (after : ReadParts) {fault : FetchFault} (its : TreeFault) → fault_of_line a fault ≡ its
        → Follows (line_plan setup a (counter node (a % 4)) (read_parts_of fetched)) mid new (Err (after, fault))
        → Follows (read_line_plan setup a chip) old new (Err (with_read fetched after, its))
    unfolding read_line_plan
    refused_read after its is it = bind_ok (data_plan setup a) first (lifted_err (with_read fetched) (fault_of_line a) its is it)
