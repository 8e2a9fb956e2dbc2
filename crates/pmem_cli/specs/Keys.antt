-- What a run is set up with: the chosen geometry, and the formulas of the chosen suite under the chosen keys.
use Rattle.std.specs.Prelude.{ℕ, true, false, List, [], ◌∷◌, ◌++◌, take, Option, Some, None, unwrap_or}
use Rattle.std.specs.List.{range_with_len}
use Rattle.pmem_base.specs.declared.geometry.Geo.{Geo}
use Rattle.pmem_base.specs.declared.lines.Line.{Line}
use Rattle.pmem_base.specs.Geo.{shape_of}
use Rattle.suite.specs.Formulas.{Formulas}
use Rattle.suite.specs.Aes.{aes_formulas}
use Rattle.suite.specs.Weak.{weak_formulas, blur_flag}
use Rattle.suite.specs.Setup.{Setup}
use Rattle.pmem_base.specs.Shape.{Shape}
use Rattle.pmem_cli.specs.declared.options.SuiteName.{SuiteName}
use Rattle.pmem_cli.specs.declared.options.SuiteName.TheVariants.{Aes, Weak, Blur}
use Rattle.pmem_cli.specs.declared.options.Choices.{Choices}

-- the key: the bytes 00 to 0f if none is chosen
abbrev pub chosen_key : Choices → List ℕ
chosen_key c = unwrap_or c.key (range_with_len 0 16)

-- the bytes of a chosen tag key
abbrev pub tag_key_bytes : Option (ℕ × Line) → List ℕ
tag_key_bytes None = range_with_len 16 32
tag_key_bytes (Some key) = take key.0 key.1.0

-- the tag key: the bytes 10 to 2f if none is chosen
abbrev pub chosen_tag_key : Choices → List ℕ
chosen_tag_key c = tag_key_bytes c.tag_key

abbrev pub formulas_named : SuiteName → List ℕ → Formulas
formulas_named Aes keys = aes_formulas keys
formulas_named Weak keys = weak_formulas (keys ++ blur_flag false ∷ [])
formulas_named Blur keys = weak_formulas (keys ++ blur_flag true ∷ [])

-- the keys of a named suite, as that suite keeps them
abbrev pub suite_keys_named : SuiteName → List ℕ → List ℕ
suite_keys_named Aes keys = keys
suite_keys_named Weak keys = keys ++ blur_flag false ∷ []
suite_keys_named Blur keys = keys ++ blur_flag true ∷ []

-- those of the suite that is chosen
abbrev pub suite_keys_chosen : Choices → List ℕ
suite_keys_chosen c = suite_keys_named (unwrap_or c.suite Aes) (chosen_key c ++ chosen_tag_key c)

-- aes if no suite is chosen
unfoldable pub formulas_of : Choices → Formulas
formulas_of c = formulas_named (unwrap_or c.suite Aes) (chosen_key c ++ chosen_tag_key c)

-- the geometry: two levels of nodes, four sets of two ways, windows of four minors, major 0 at first, no line of a path in
-- each group, shadow tables, and volatile queues that combine nothing, if nothing is chosen
unfoldable pub shape_chosen : Choices → Shape
shape_chosen c =
    record {
      levels = unwrap_or c.levels 2;
      sets = unwrap_or c.sets 4;
      ways = unwrap_or c.ways 2;
      loss = unwrap_or c.loss 4;
      major = unwrap_or c.major 0;
      persist = unwrap_or c.persist 0;
      shadow = unwrap_or c.shadow true;
      durable = unwrap_or c.durable false;
      combines = unwrap_or c.combines false;
    }

unfoldable pub setup_chosen : Choices → Setup
setup_chosen c = record { shape = shape_chosen c; formulas = formulas_of c }

-- of a geometry, and of the formulas that a suite has under its keys
abbrev pub setup_made : {U : Type 0} → Geo → (List ℕ → Formulas) → (U → List ℕ) → U → Setup
setup_made geo formulas_of keys suite = record { shape = shape_of geo; formulas = formulas_of (keys suite) }

-- after how many writes the gap of a levelled memory moves: 100 if none is chosen
abbrev pub every_chosen : Choices → ℕ
every_chosen c = unwrap_or c.every 100
