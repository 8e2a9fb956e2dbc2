-- What reading a node and reading a data line do, as plans over the watch and the suite's counts of pads and tags.
use Rattle.std.specs.Prelude.{ℕ, zero, suc, ◌+◌, ◌-◌, Bool, map, List, [], ◌∷◌, Option, Some, None, if◌then◌else◌}
use Rattle.std.specs.List.{range_with_len}
use Rattle.pmem_base.specs.declared.lines.Line.{Line}
use Rattle.pmem_base.specs.declared.answers.Exhibit.{Exhibit}
use Rattle.pmem_base.specs.declared.answers.Exhibit.TheVariants.{Clash, Forged}
use Rattle.pmem_base.specs.Counts.{risen}
use Rattle.pmem_base.specs.Lines.{same_bytes, tag_slot}
use Rattle.pmem_base.specs.Layout.{level_start}
use Rattle.suite.specs.Formulas.{Formulas}
use Rattle.suite.specs.Setup.{Setup}
use Rattle.bonsai_tree.specs.Positions.{level_of}
use Rattle.line_seal.specs.Seals.{unsealed}
use Rattle.call_plan.specs.Plans.{Plan, done, stop, read}
use Rattle.counter_tree.specs.declared.nodes.Node.{Node}
use Rattle.counter_tree.specs.declared.watch.LineSeal.{LineSeal}
use Rattle.counter_tree.specs.declared.accepted.FetchFault.{FetchFault}
use Rattle.counter_tree.specs.declared.accepted.FetchFault.TheVariants as Fail
use Rattle.counter_tree.specs.Layout.{line_of_node, line_of_tag}
use Rattle.counter_tree.specs.Nodes.{version_counter, stored_node, makes_node_tag, node_read}
use Rattle.counter_tree.specs.Shadow.{shadow_height, shadow_tree_line, up}
use Rattle.counter_tree.specs.Trees.{node_at}
use Rattle.counter_tree.specs.Watch.{WatchState, last_seal_of, first_shown, forged_node}

-- what a read works on next to the board
pub record ReadParts : Type 0 where
  pub watch : WatchState
  pub pads : ℕ
  pub tags : ℕ

abbrev pub read_parts : WatchState → ℕ → ℕ → ReadParts
read_parts watch pads tags = record { watch = watch; pads = pads; tags = tags }

-- the watch once an exhibit came
abbrev pub with_exhibit : WatchState → Exhibit → WatchState
with_exhibit watch shown = record watch { exhibit = first_shown watch.exhibit shown }

-- ---- a node

-- its counters are those of the true node, or its line is shown as forged
abbrev pub known_node_plan : ℕ → Line → Node → ReadParts → Plan (ReadParts × FetchFault) (ReadParts × Node)
known_node_plan x line node at =
    if same_bytes (stored_node line).0 (node_at at.watch.nodes x).0 then done (at, node)
    else stop (read_parts (with_exhibit at.watch (forged_node at.watch x line)) at.pads at.tags, Fail.Shown)

-- the line isn't that of a node of this version, or it is
unfoldable pub taken_node_plan : ℕ → Line → ReadParts → Option Node → Plan (ReadParts × FetchFault) (ReadParts × Node)
taken_node_plan x line at None = stop (at, Fail.Refused)
taken_node_plan x line at (Some node) = known_node_plan x line node at

-- the tags once a line was read as a node of a version
abbrev pub tags_of_node : Line → ℕ → ℕ → ℕ
tags_of_node line version tags = if makes_node_tag line version then risen tags else tags

-- its line is read; a tag is made if the line's zero bytes and its sum are right
unfoldable pub node_plan : Setup → ℕ → ℕ → ReadParts → Plan (ReadParts × FetchFault) (ReadParts × Node)
node_plan setup x version at =
    read (at, Fail.Cut) (line_of_node setup.shape x) (λ line.
    taken_node_plan x line (read_parts at.watch at.pads (tags_of_node line version at.tags))
    (node_read setup.formulas x line version))

-- ---- a data line

-- the cipher is that of the last seal, or it is shown as forged
unfoldable pub known_line_plan :
    ℕ → Line → Line → Line → ReadParts → Option LineSeal → Plan (ReadParts × FetchFault) (ReadParts × Line)
known_line_plan a cipher tags plain at None = done (at, plain)
known_line_plan a cipher tags plain at (Some seal) =
    if same_bytes cipher.0 seal.cipher.0 then done (at, plain)
    else
    stop (
      read_parts (with_exhibit at.watch (Forged a (version_counter seal.counter) cipher (tag_slot tags 0))) at.pads at.tags,
      Fail.Shown,
    )

-- its tag is another one, or a pad is made
unfoldable pub opened_line_plan : ℕ → Line → Line → ReadParts → Option Line → Plan (ReadParts × FetchFault) (ReadParts × Line)
opened_line_plan a cipher tags at None = stop (at, Fail.Refused)
opened_line_plan a cipher tags at (Some plain) =
    known_line_plan a cipher tags plain (read_parts at.watch (risen at.pads) at.tags) (last_seal_of at.watch a)

-- its cipher and its tag line are read, and a tag is made
unfoldable pub line_plan : Setup → ℕ → ℕ → ReadParts → Plan (ReadParts × FetchFault) (ReadParts × Line)
line_plan setup a counter at =
    read (at, Fail.Cut) a (λ cipher.
    read (at, Fail.Cut) (line_of_tag setup.shape a) (λ tags.
    opened_line_plan a cipher tags (read_parts at.watch at.pads (risen at.tags))
    (unsealed setup.formulas a (version_counter counter) cipher (tag_slot tags 0))))

-- ---- the slot lines

-- the place of the first slot at which two lists of as many lines differ
abbrev pub first_other : List Line → List Line → ℕ
first_other [] second = 0
first_other (line ∷ first) [] = 0
first_other (line ∷ first) (other ∷ second) = if same_bytes line.0 other.0 then suc (first_other first second) else 0

-- whether a position, m levels above the leaves, has the same line in two trees
abbrev pub is_same_there : Formulas → ℕ → List Line → List Line → ℕ → ℕ → Bool
is_same_there f h first second m x =
    same_bytes (shadow_tree_line f h first m x).0 (shadow_tree_line f h second m x).0

-- of the n levels above a leaf, the highest one at which two trees differ, and 0 if they differ at the leaf alone
abbrev pub top_other : Formulas → ℕ → List Line → List Line → ℕ → ℕ → ℕ
top_other f h first second leaf zero = 0
top_other f h first second leaf (suc n) =
    if is_same_there f h first second (suc n) (up (suc n) leaf) then top_other f h first second leaf n else suc n

-- a position's lines in two trees
abbrev pub lines_there : Formulas → ℕ → List Line → List Line → ℕ → ℕ → Exhibit
lines_there f h first second m x = Clash x (shadow_tree_line f h first m x) (shadow_tree_line f h second m x)

-- what is shown of slot lines that aren't the true ones: the highest position of the path of the first slot that
-- differs at which their tree differs from that of the true ones
unfoldable pub clash_of : WatchState → List Line → Exhibit
clash_of watch slots =
    let f = watch.setup.formulas in
    let h = shadow_height watch.setup.shape in
    let leaf = level_start h + first_other slots watch.slots in
    let m = top_other f h slots watch.slots leaf h in
    lines_there f h slots watch.slots m (up m leaf)

-- all lines of the tree of height h over slot lines, from the top down
unfoldable pub shadow_tree : Formulas → ℕ → List Line → List Line
shadow_tree f h slots = map (λ x. shadow_tree_line f h slots (h - level_of x) x) (range_with_len 0 (level_start (suc h)))
