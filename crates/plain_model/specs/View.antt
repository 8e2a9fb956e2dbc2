-- The device view: what the marks say of counters, of pages under re-encryption, and so of every
-- true metadata line.
use Rattle.std.specs.Prelude.{ℕ, zero, suc, ◌+◌, ◌-◌, ◌*◌, ◌==◌, ◌≡◌, ◌<◌, nat_lt, Bool, false, not, List, [], ◌∷◌, ◌++◌, length, map, filter, find, replicate, slice_index_or, Option, Some, None, option_map, unwrap_or, if◌then◌else◌, slice_set}
use Rattle.std.specs.List.{list_any, range_with_len}
use Rattle.pmem_base.specs.declared.lines.Line.{Line}
use Rattle.pmem_base.specs.declared.lines.Ctr.{Ctr}
use Rattle.pmem_base.specs.declared.answers.Mark.{Mark}
use Rattle.pmem_base.specs.declared.answers.Mark.TheVariants.{Begin, Seal}
use Rattle.pmem_base.specs.Shape.{Shape}
use Rattle.pmem_base.specs.Layout as layout
use Rattle.pmem_base.specs.Layout.{page_of, index_in_page, level_start}
use Rattle.pmem_base.specs.Lines.{line_at, zero_line, xor_lines}
use Rattle.pmem_base.specs.Marks.{SealOf, last_seal}
use Rattle.pmem_base.specs.Registers.{places_of_page}
use Rattle.suite.specs.Formulas.{Formulas}
use Rattle.split_counters.specs.declared.Block.{Block}
use Rattle.split_counters.specs.Blocks.{packed}
use Rattle.bonsai_tree.specs.Positions.{level_of}
use Rattle.bonsai_tree.specs.Nodes.{node_over}
use Rattle.suite.specs.Setup.{Setup}

-- a page under re-encryption: its new major, and the places of the lines not done, upwards
pub record OpenPage : Type 0 where
  pub page : ℕ
  pub major : ℕ
  pub left : List ℕ

-- each data line's last counter, and the open pages, the oldest first
pub record DeviceView : Type 0 where
  pub counters : List Ctr
  pub open_pages : List OpenPage

-- every line sealed once, under the first major and 0
unfoldable pub start_view : Shape → DeviceView
start_view g =
    record {
      counters = replicate (layout.data_lines g) (record { major = g.major; minor = 0 });
      open_pages = [];
    }

-- the last counter of line a
abbrev pub counter_at : DeviceView → ℕ → Ctr
counter_at view a = slice_index_or view.counters a (record { major = 0; minor = 0 })

abbrev pub open_page : DeviceView → ℕ → Option OpenPage
open_page view page = find (λ opened. opened.page == page) view.open_pages

-- the line at place i of the page is not done
abbrev pub is_left_in : OpenPage → ℕ → Bool
is_left_in opened i = list_any (λ j. j == i) opened.left

-- whether line a is a line of an open page that isn't done
abbrev pub is_left : DeviceView → ℕ → Bool
is_left view a =
    list_any (λ opened. if opened.page == page_of a then is_left_in opened (index_in_page a) else false)
    view.open_pages

-- the page opened, under the major of its lines plus 1, with all 64 lines not done
abbrev pub page_opened : DeviceView → ℕ → OpenPage
page_opened view page =
    record {
      page = page;
      major = (counter_at view (64 * page)).major + 1;
      left = places_of_page;
    }

-- the page with line a done, if it is the page of line a
abbrev pub page_with_done : ℕ → OpenPage → OpenPage
page_with_done a opened =
    if opened.page == page_of a
    then record opened { left = filter (λ i. not (i == index_in_page a)) opened.left }
    else opened

-- the pages with line a done; a page closes with its last line
abbrev pub pages_with_done : List OpenPage → ℕ → List OpenPage
pages_with_done pages a = filter (λ opened. nat_lt 0 (length opened.left)) (map (page_with_done a) pages)

-- the view after one mark
abbrev pub view_after : DeviceView → Mark → DeviceView
view_after view (Begin page) =
    record view { open_pages = view.open_pages ++ page_opened view page ∷ [] }
view_after view (Seal at ctr cipher tag) =
    record {
      counters = slice_set view.counters at ctr;
      open_pages = pages_with_done view.open_pages at;
    }

-- the view after these marks
abbrev pub view_after_marks : DeviceView → List Mark → DeviceView
view_after_marks view [] = view
view_after_marks view (mark ∷ marks) = view_after_marks (view_after view mark) marks

-- the view of all marks since formatting began, or since it ended
abbrev pub view_of : Shape → List Mark → DeviceView
view_of g marks = view_after_marks (start_view g) marks

-- ---- the true metadata lines

-- the counters of a page's lines
abbrev pub page_counters : DeviceView → ℕ → List Ctr
page_counters view page = map (λ i. counter_at view (64 * page + i)) places_of_page

-- the minor in the block of an open page: 0 for a line not done
abbrev pub minor_in_open : DeviceView → OpenPage → ℕ → ℕ
minor_in_open view opened i =
    if is_left_in opened i then 0 else (counter_at view (64 * opened.page + i)).minor

abbrev pub block_under : DeviceView → ℕ → Option OpenPage → Block
block_under view page None =
    record {
      major = (counter_at view (64 * page)).major;
      minors = map (λ ctr. ctr.minor) (page_counters view page);
    }
block_under view page (Some opened) =
    record {
      major = opened.major;
      minors = map (minor_in_open view opened) places_of_page;
    }

-- page p's counter block
abbrev pub counter_block_of : DeviceView → ℕ → Block
counter_block_of view page = block_under view page (open_page view page)

-- the true line x, which has j levels below it: a packed counter block, or its children's digests
abbrev pub true_line_above : Setup → DeviceView → ℕ → ℕ → Line
true_line_above setup view zero x =
    packed (counter_block_of view (x - level_start setup.shape.levels))
true_line_above setup view (suc j) x = node_over setup.formulas x (true_line_above setup view j)

abbrev pub true_line : Setup → DeviceView → ℕ → Line
true_line setup view x = true_line_above setup view (setup.shape.levels - level_of x) x

-- all true metadata lines, by position
abbrev pub true_lines : Setup → DeviceView → List Line
true_lines setup view = map (true_line setup view) (range_with_len 0 (layout.meta_lines setup.shape))

-- ---- plain lines

-- the plain line of a seal of line a
abbrev pub plain_of_seal : Formulas → ℕ → SealOf → Line
plain_of_seal f a seal = xor_lines seal.cipher (f.pad_of a seal.ctr)

-- the plain line that line a was last sealed with
abbrev pub plain_line : Formulas → List Mark → ℕ → Option Line
plain_line f marks a = option_map (plain_of_seal f a) (last_seal marks a)

-- plain memory: each line the plain line that it was last sealed with
unfoldable pub plain_memory : Setup → List Mark → List Line
plain_memory setup marks =
    map (λ a. unwrap_or (plain_line setup.formulas marks a) zero_line)
    (range_with_len 0 (layout.data_lines setup.shape))

-- that many lines, each the plain line that it was last sealed with
pub record IsMemoryOf (setup : Setup) (marks : List Mark) (memory : List Line) : Type 0 where
  pub count : length memory ≡ layout.data_lines setup.shape
  pub each :
      (a : ℕ) → a < layout.data_lines setup.shape
      → plain_line setup.formulas marks a ≡ Some (line_at memory a)
