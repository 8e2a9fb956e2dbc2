-- The device's layout: which device line holds what.
use Rattle.std.specs.Prelude.{◌≡◌, ◌<◌, nat_lt, if◌then◌else◌, ℕ, ◌^◌, ◌+◌, ◌-◌, ◌*◌, ◌/◌, ◌%◌}
use Rattle.pmem_base.specs.Shape.{Shape}

-- the pages, each of 64 data lines
abbrev pub pages : Shape → ℕ
pages g = 4 ^ g.levels

-- the data lines
abbrev pub data_lines : Shape → ℕ
data_lines g = 64 * pages g

-- the metadata lines: tree nodes and counter blocks
abbrev pub meta_lines : Shape → ℕ
meta_lines g = (4 ^ (g.levels + 1) - 1) / 3

-- level j of the tree has 4 ^ j positions, from this one on
abbrev pub level_start : ℕ → ℕ
level_start j = (4 ^ j - 1) / 3

-- the slots of one bank of the cache
abbrev pub slots : Shape → ℕ
slots g = g.sets * g.ways

-- the shadow lines of the counter bank, 16 entries in each
abbrev pub shadow_counter_lines : Shape → ℕ
shadow_counter_lines g = (slots g + 15) / 16

-- the shadow lines of the banks of tree nodes
abbrev pub shadow_tree_lines : Shape → ℕ
shadow_tree_lines g = (g.levels * slots g + 15) / 16

-- all shadow lines, the counter lines first; none on a device without shadow tables
abbrev pub shadow_lines : Shape → ℕ
shadow_lines g = if g.shadow then shadow_counter_lines g + shadow_tree_lines g else 0

-- the device line with the tag of data line a
abbrev pub tag_line : Shape → ℕ → ℕ
tag_line g a = data_lines g + a / 4

-- the device line of metadata line x
abbrev pub meta_line : Shape → ℕ → ℕ
meta_line g x = 80 * pages g + x

-- the device line of shadow line n
abbrev pub shadow_line : Shape → ℕ → ℕ
shadow_line g n = 80 * pages g + meta_lines g + n

-- the device lines
abbrev pub device_lines : Shape → ℕ
device_lines g = 80 * pages g + meta_lines g + shadow_lines g

-- the page of data line a, and a's place in it
abbrev pub page_of : ℕ → ℕ
page_of a = a / 64

abbrev pub index_in_page : ℕ → ℕ
index_in_page a = a % 64

-- what a device line holds: data line a; the tags of the four data lines from a on; metadata line x;
-- shadow line n; or nothing, past the end
pub data Content : Type 0 where
  data_line : ℕ → Content
  tags_from : ℕ → Content
  metadata : ℕ → Content
  shadow : ℕ → Content
  nothing : Content

abbrev pub content_of : Shape → ℕ → Content
content_of g d =
    if nat_lt d (data_lines g) then data_line d
    else if nat_lt d (meta_line g 0) then tags_from (4 * (d - data_lines g))
    else if nat_lt d (shadow_line g 0) then metadata (d - meta_line g 0)
    else if nat_lt d (device_lines g) then shadow (d - shadow_line g 0)
    else nothing

-- ---- each part has its own place

-- what a memory keeps on its device
pub data Part : Type 0 where
  data_part : ℕ → Part
  tag_part : ℕ → Part
  meta_part : ℕ → Part
  shadow_part : ℕ → Part

-- the memory has this part
abbrev pub IsPart : Shape → Part → Type 0
IsPart g (data_part a) = a < data_lines g
IsPart g (tag_part a) = a < data_lines g
IsPart g (meta_part x) = x < meta_lines g
IsPart g (shadow_part n) = n < shadow_lines g

-- the device line of a part, and its slot of 16 bytes there, which is 0 if it has the line for itself
abbrev pub place : Shape → Part → ℕ × ℕ
place g (data_part a) = (a, 0)
place g (tag_part a) = (tag_line g a, a % 4)
place g (meta_part x) = (meta_line g x, 0)
place g (shadow_part n) = (shadow_line g n, 0)

-- what the part's device line holds: a tag is one of four
abbrev pub content_with : Part → Content
content_with (data_part a) = data_line a
content_with (tag_part a) = tags_from (4 * (a / 4))
content_with (meta_part x) = metadata x
content_with (shadow_part n) = shadow n

-- no two parts stand at one place, each stands on a device line, and each device line holds one
pub record IsOneToOne (g : Shape) : Type 0 where
  pub apart : (p q : Part) → IsPart g p → IsPart g q → place g p ≡ place g q → p ≡ q
  pub within : (p : Part) → IsPart g p → (place g p).0 < device_lines g
  pub covered : (d : ℕ) → d < device_lines g → (p : Part) × IsPart g p × ((place g p).0 ≡ d)
  pub told : (p : Part) → IsPart g p → content_of g (place g p).0 ≡ content_with p
