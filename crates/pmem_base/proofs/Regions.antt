-- The regions of the device lie apart, and each of their lines is on the device.
use Rattle.std.proofs.Common.{◌≡◌, ◌≢◌, ℕ, ◌<◌, arith}
use Rattle.pmem_base.specs.Shape.{Shape}
use Rattle.pmem_base.specs.Layout.{data_lines, meta_lines, tag_line, meta_line, shadow_line, device_lines}

-- a data line isn't a tag line
pub tag_line≢data : (g : Shape) (a b : ℕ) → a < data_lines g → a ≢ tag_line g b
tag_line≢data g a b h e = omega arith

pub tag_on_device : (g : Shape) (a : ℕ) → a < data_lines g → tag_line g a < device_lines g
tag_on_device g a h = omega arith

pub meta_on_device : (g : Shape) (x : ℕ) → x < meta_lines g → meta_line g x < device_lines g
meta_on_device g x h = omega arith

-- what stands before the shadow lines
pub data_before_shadow : (g : Shape) (a : ℕ) → a < data_lines g → a < shadow_line g 0
data_before_shadow g a h = omega arith

pub tag_before_shadow : (g : Shape) (a : ℕ) → a < data_lines g → tag_line g a < shadow_line g 0
tag_before_shadow g a h = omega arith

pub meta_before_shadow : (g : Shape) (x : ℕ) → x < meta_lines g → meta_line g x < shadow_line g 0
meta_before_shadow g x h = omega arith
