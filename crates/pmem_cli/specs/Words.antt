-- What the words of the command line ask for.
use Rattle.std.specs.Prelude.{ℕ, ◌≤◌, ◌+◌, ◌==◌, ⊤, nat_lt, nat_le, Bool, true, false, ◌&&◌, List, [], ◌∷◌, length, take, drop, codes, Option, Some, None, IfSome, IsTrue, unwrap_or, Result, Ok, Err, if◌then◌else◌}
use Rattle.std.specs.List.{position_or_len}
use Rattle.std.specs.Str.{bytes_eq}
use Rattle.pmem_base.specs.declared.commands.Kind.{Kind}
use Rattle.pmem_base.specs.Shape.{HasLevels, HasSets, HasWays, is_loss}
use Rattle.pmem_base.specs.Ranges.{IsPartLine}
use Rattle.collision_witness.specs.Words.{Word, number_of, number_up_to, hex_bytes}
use Rattle.plain_model.specs.Grammar.{part_of}
use Rattle.pmem_cli.specs.declared.options.SuiteName.{SuiteName}
use Rattle.pmem_cli.specs.declared.options.SuiteName.TheVariants.{Aes, Weak, Blur}
use Rattle.pmem_cli.specs.declared.options.Choices.{Choices}
use Rattle.pmem_cli.specs.declared.options.Allowed.{Allowed}
use Rattle.pmem_cli.specs.declared.options.Task.{Task}

-- the value, and then what it gives, or nothing
infixl 10 ◌>>=◌
abbrev pub ◌>>=◌ : {A B : Type 0} → Option A → (A → Option B) → Option B
(Some value) >>= next = next value
None >>= next = None

-- ---- values

abbrev pub value_of : {A : Type 0} → Result A Kind → Option A
value_of (Ok value) = Some value
value_of (Err kind) = None

-- a number that passes a test
abbrev pub number_where : (ℕ → Bool) → Word → Option ℕ
number_where test word = do
  n ← value_of (number_of word)
  if test n then Some n else None

-- 1 up to a greatest one
abbrev pub is_up_to : ℕ → ℕ → Bool
is_up_to most n = nat_le 1 n && nat_le n most

-- the suite of a name
abbrev pub suite_named : Word → Option SuiteName
suite_named word =
    if bytes_eq word (codes "aes") then Some Aes
    else if bytes_eq word (codes "weak") then Some Weak
    else if bytes_eq word (codes "blur") then Some Blur
    else None

-- a switch, by the names of its two states: off and on
abbrev pub switch_named : List ℕ → List ℕ → Word → Option Bool
switch_named off on word =
    if bytes_eq word off then Some false
    else if bytes_eq word on then Some true
    else None

-- the lines of the longest path: a counter block, and a node on each of six levels
abbrev pub longest_path : ℕ
longest_path = 7

-- ---- options

-- an option that wasn't chosen yet, by a value that it may have
abbrev pub once : {A : Type 0} → Option A → Option A → (A → Choices) → Option Choices
once (Some old) value next = None
once None (Some value) next = Some (next value)
once None None next = None

-- nothing is chosen
unfoldable pub no_choices : Choices
no_choices =
    record {
      levels = None;
      sets = None;
      ways = None;
      loss = None;
      major = None;
      suite = None;
      key = None;
      tag_key = None;
      every = None;
      durable = None;
      combines = None;
      log = false;
      persist = None;
      shadow = None;
    }

-- the options of the suite
abbrev pub choose_suite : Choices → Word → Word → Option Choices
choose_suite c name value =
    if bytes_eq name (codes "suite") then once c.suite (suite_named value) (λ suite. record c { suite = Some suite })
    else if bytes_eq name (codes "key") then once c.key (value_of (hex_bytes 16 value)) (λ key. record c { key = Some key })
    else if bytes_eq name (codes "tag-key") then once c.tag_key (value_of (part_of value)) (λ key. record c { tag_key = Some key })
    else None

-- and those of a counter tree's geometry
abbrev pub choose_tree : Choices → Word → Word → Option Choices
choose_tree c name value =
    if bytes_eq name (codes "levels") then once c.levels (number_where (is_up_to 6) value) (λ n. record c { levels = Some n })
    else if bytes_eq name (codes "sets") then once c.sets (number_where (is_up_to 64) value) (λ n. record c { sets = Some n })
    else choose_suite c name value

-- and the persistence policy
abbrev pub choose_policy : Choices → Word → Word → Option Choices
choose_policy c name value =
    if bytes_eq name (codes "persist")
    then once c.persist (number_where (λ n. nat_le n longest_path) value) (λ n. record c { persist = Some n })
    else if bytes_eq name (codes "shadow")
    then once c.shadow (switch_named (codes "off") (codes "on") value) (λ b. record c { shadow = Some b })
    else choose_tree c name value

-- and of a run's
abbrev pub choose_run : Choices → Word → Word → Option Choices
choose_run c name value =
    if bytes_eq name (codes "ways") then once c.ways (number_where (is_up_to 8) value) (λ n. record c { ways = Some n })
    else if bytes_eq name (codes "loss") then once c.loss (number_where is_loss value) (λ n. record c { loss = Some n })
    else if bytes_eq name (codes "major") then once c.major (value_of (number_of value)) (λ n. record c { major = Some n })
    else choose_policy c name value

-- and of a levelled memory: after how many writes its gap moves
abbrev pub choose_wear : Choices → Word → Word → Option Choices
choose_wear c name value =
    if bytes_eq name (codes "every") then once c.every (number_where (is_up_to 1_000_000) value) (λ n. record c { every = Some n })
    else choose_run c name value

-- and of a run's write queues: whether they outlive power, and whether they combine posted lines
abbrev pub choose_queues : Choices → Word → Word → Option Choices
choose_queues c name value =
    if bytes_eq name (codes "queue")
    then once c.durable (switch_named (codes "volatile") (codes "durable") value) (λ b. record c { durable = Some b })
    else if bytes_eq name (codes "combine")
    then once c.combines (switch_named (codes "off") (codes "on") value) (λ b. record c { combines = Some b })
    else choose_run c name value

-- that the log is printed
abbrev pub choose_log : Choices → Option Choices
choose_log c = if c.log then None else Some (record c { log = true })

-- those that a task takes
abbrev pub choose : Allowed → Choices → Word → Word → Option Choices
choose Allowed.Suite c name value = choose_suite c name value
choose Allowed.Tree c name value = choose_tree c name value
choose Allowed.Run c name value = choose_run c name value
choose Allowed.Wear c name value = choose_wear c name value
choose Allowed.Queues c name value = choose_queues c name value

-- ---- the words of options

abbrev pub is_equals : ℕ → Bool
is_equals byte = byte == 61

-- the name of an option, and its value if the word has it: they stand apart at the first `=`
abbrev pub parts_at_equals : Word → Word × Option Word
parts_at_equals text =
    if nat_lt (position_or_len is_equals text) (length text)
    then (take (position_or_len is_equals text) text, Some (drop (position_or_len is_equals text + 1) text))
    else (text, None)

-- an option's word begins with two dashes
abbrev pub option_parts : Word → Option (Word × Option Word)
option_parts word = if bytes_eq (take 2 word) (codes "--") then Some (parts_at_equals (drop 2 word)) else None

abbrev pub some_or : {A B : Type 0} → Option A → (A → B) → B → B
some_or (Some value) next other = next value
some_or None next other = other

-- the value of an option, its own or else the next word, and the words behind it
abbrev pub next_value : Option Word → List Word → Option (Word × List Word)
next_value (Some value) words = Some (value, words)
next_value None [] = None
next_value None (next ∷ words) = Some (next, words)

-- the word is a flag that the task takes, which has no value
abbrev pub is_flag : Allowed → Word → Bool
is_flag Allowed.Suite word = false
is_flag allowed word = bytes_eq word (codes "--log")

-- what is chosen by these words, after earlier choices: options as `--name value` or `--name=value`, or the flag
unfoldable pub take_options : Allowed → Choices → List Word → Option Choices
take_options allowed c [] = Some c
take_options allowed c (word ∷ []) =
    if is_flag allowed word then choose_log c
    else (option_parts word >>= λ parts. some_or parts.1 (λ value. choose allowed c parts.0 value) None)
take_options allowed c (word ∷ next ∷ words) =
    if is_flag allowed word then (choose_log c >>= λ more. take_options allowed more (next ∷ words))
    else
    (option_parts word
    >>= λ parts. some_or parts.1
    (λ value. choose allowed c parts.0 value >>= λ more. take_options allowed more (next ∷ words))
    (choose allowed c parts.0 next >>= λ more. take_options allowed more words))

-- at most all lines of a path stand in each group
abbrev pub is_of_path : Choices → Bool
is_of_path c = nat_le (unwrap_or c.persist 0) (unwrap_or c.levels 2 + 1)

-- what is chosen by these words
unfoldable pub options_of : Allowed → List Word → Option Choices
options_of allowed words = take_options allowed no_choices words >>= λ c. if is_of_path c then Some c else None

-- ---- the whole command line

-- a seed, and a count up to 999,999
abbrev pub seed_and_count : List Word → Option (ℕ × ℕ)
seed_and_count (seed ∷ count ∷ []) = do
  its_seed ← value_of (number_of seed)
  its_count ← value_of (number_up_to 999_999 count)
  Some (its_seed, its_count)
seed_and_count words = None

-- a run with these options, and whether its log is printed
abbrev pub run_asked : List Word → Option Task
run_asked words = options_of Allowed.Queues words >>= λ c. Some (if c.log then Task.Log c else Task.Run c)

-- a session of the memory of this name, with these options
abbrev pub session_asked : Word → List Word → Option Task
session_asked name words =
    if bytes_eq name (codes "wear") then (options_of Allowed.Wear words >>= λ c. Some (Task.Wear c))
    else if bytes_eq name (codes "tree") then (options_of Allowed.Tree words >>= λ c. Some (Task.Tree c))
    else if bytes_eq name (codes "txn") then (options_of Allowed.Run words >>= λ c. Some (Task.Txn c))
    else None

-- what the words ask for, or nothing if they break the rules
unfoldable pub task_of : List Word → Option Task
task_of [] = None
task_of (name ∷ words) =
    if bytes_eq name (codes "run") then run_asked words
    else if bytes_eq name (codes "check") then (options_of Allowed.Suite words >>= λ c. Some (Task.Check c))
    else if bytes_eq name (codes "make") then (seed_and_count words >>= λ found. Some (Task.Make found.0 found.1))
    else if bytes_eq name (codes "sample") then (seed_and_count words >>= λ found. Some (Task.Sample found.0 found.1))
    else session_asked name words

-- ---- what is known of them

-- numbers taken so far are in their ranges, and a chosen tag key's bytes are the first of its line
abbrev pub AreTaken : Choices → Type 0
AreTaken c =
    IfSome c.levels HasLevels × IfSome c.sets HasSets × IfSome c.ways HasWays
    × IfSome c.loss (λ n. IsTrue (is_loss n)) × IfSome c.tag_key (λ key. IsPartLine key.0 key.1)
    × IfSome c.every (λ n. (1 ≤ n) × (n ≤ 1_000_000)) × IfSome c.persist (λ n. n ≤ longest_path)

-- all that is chosen is, and at most all lines of a path stand in each group
abbrev pub AreChosen : Choices → Type 0
AreChosen c = AreTaken c × (unwrap_or c.persist 0 ≤ unwrap_or c.levels 2 + 1)

abbrev pub HasChosen : Task → Type 0
HasChosen (Task.Run c) = AreChosen c
HasChosen (Task.Log c) = AreChosen c
HasChosen (Task.Check c) = AreChosen c
HasChosen (Task.Wear c) = AreChosen c
HasChosen (Task.Tree c) = AreChosen c
HasChosen (Task.Txn c) = AreChosen c
HasChosen task = ⊤

-- it reads no trace
abbrev pub PullsNothing : Task → Type 0
PullsNothing (Task.Make seed count) = ⊤
PullsNothing (Task.Sample seed count) = ⊤
PullsNothing (Task.Run c) = ⊥
PullsNothing (Task.Log c) = ⊥
PullsNothing (Task.Check c) = ⊥
PullsNothing (Task.Wear c) = ⊥
PullsNothing (Task.Tree c) = ⊥
PullsNothing (Task.Txn c) = ⊥

-- the value as a function sees it
abbrev pub map_some : {A B : Type 0} → (A → B) → Option A → Option B
map_some f None = None
map_some f (Some x) = Some (f x)
