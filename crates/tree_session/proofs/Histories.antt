-- What the commands and answers so far say is what the plain state has, so the next answer is one that they allow.
use Rattle.std.proofs.Common.{ℕ, ◌≡◌, ◌<◌, ◌≤◌, ◌+◌, true, false, Bool, inl, inr, List, length, Option, Some, None, refl, ap, subst, ◌∙◌, arith, rules}
use Rattle.tree_session.proofs.Common.{slice_set, is_some, is_none, not, nat_lt, if◌then◌else◌, cases_Bool, cases_lt, lt-ltb, le-ltb, length-set, Line, Shape, Setup, tree_lines, tree_size, PlainTree, true_count, TreeCommand, TreeAnswer, tree_decided, tree_after_decided, TakesTreeSteps, IsTreeCutAt, IsPlainKept, IsPlainWritten, SaysOfWrite, SaysOfRead, SaysOfOn, AnswersWith, IsPathTampered, IsSlotTampered, IsHurt, History, history_with, IsAllowed}
use Rattle.trace_text.specs.Sessions.{burnt}
use Rattle.tree_session.specs.declared.commands.TreeCommand.TheVariants as Do
use Rattle.tree_session.specs.declared.answers.TreeAnswer.TheVariants as Say

-- what a plain state has of it
abbrev pub history_of : PlainTree → History
history_of plain =
    record {
      memory = plain.memory;
      counts = plain.counts;
      tampered = plain.tampered;
      hurt = plain.hurt;
      power = plain.board.powered;
      fuse = plain.board.fuse;
      snapped = is_some plain.board.snapshot;
    }

pub history-equal : (p q : History) → p.memory ≡ q.memory → p.counts ≡ q.counts → p.tampered ≡ q.tampered → p.hurt ≡ q.hurt → p.power ≡ q.power → p.fuse ≡ q.fuse → p.snapped ≡ q.snapped → p ≡ q
history-equal p q memory counts tampered hurt power fuse snapped = grind arith

-- ---- steps

-- only the board changed, by steps
stepped : (s : ℕ) (power now : Bool) (before after : PlainTree) → power ≡ now → TakesTreeSteps s power before.board after.board → IsPlainKept before after
    → history_of after ≡ record (history_of before) { power = now; fuse = burnt before.board.fuse s }
stepped s power now before after is steps kept =
    history-equal (history_of after) (record (history_of before) { power = now; fuse = burnt before.board.fuse s }) (ap (λ (p : PlainTree). p.memory) kept) (ap (λ (p : PlainTree). p.counts) kept)
    (ap (λ (p : PlainTree). p.tampered) kept) (ap (λ (p : PlainTree). p.hurt) kept) (steps.power ∙ is) steps.fuse.rest (ap is_some steps.snapshot)

-- or by a cut
darkened : (s : ℕ) (before after : PlainTree) → IsTreeCutAt s before.board after.board → IsPlainKept before after → history_of after ≡ record (history_of before) { power = false; fuse = None }
darkened s before after cut kept =
    history-equal (history_of after) (record (history_of before) { power = false; fuse = None }) (ap (λ (p : PlainTree). p.memory) kept) (ap (λ (p : PlainTree). p.counts) kept)
    (ap (λ (p : PlainTree). p.tampered) kept) (ap (λ (p : PlainTree). p.hurt) kept) cut.power cut.fuse.cleared (ap is_some cut.snapshot)

-- the history with a line written, power and the fuse
abbrev with_write : PlainTree → ℕ → Line → Bool → Option ℕ → History
with_write before a line power fuse =
    record (history_of before) {
      memory = slice_set before.memory a line;
      counts = slice_set before.counts a (true_count before a + 1);
      hurt = slice_set before.hurt a false;
      power = power;
      fuse = fuse;
    }

stepped-write : (g : Shape) (s a : ℕ) (line : Line) (now : Bool) (before after : PlainTree) → true ≡ now → TakesTreeSteps s true before.board after.board
    → IsPlainWritten g a line before after → history_of after ≡ with_write before a line now (burnt before.board.fuse s)
stepped-write g s a line now before after is steps made =
    history-equal (history_of after) (with_write before a line now (burnt before.board.fuse s)) (ap (λ (p : PlainTree). p.memory) made)
    (ap (λ (p : PlainTree). p.counts) made) (ap (λ (p : PlainTree). p.tampered) made) (ap (λ (p : PlainTree). p.hurt) made) (steps.power ∙ is) steps.fuse.rest (ap is_some steps.snapshot)

darkened-write : (g : Shape) (s a : ℕ) (line : Line) (before after : PlainTree) → IsTreeCutAt s before.board after.board → IsPlainWritten g a line before after
    → history_of after ≡ with_write before a line false None
darkened-write g s a line before after cut made =
    history-equal (history_of after) (with_write before a line false None) (ap (λ (p : PlainTree). p.memory) made)
    (ap (λ (p : PlainTree). p.counts) made) (ap (λ (p : PlainTree). p.tampered) made) (ap (λ (p : PlainTree). p.hurt) made) cut.power cut.fuse.cleared (ap is_some cut.snapshot)

-- ---- one answer

-- it is allowed, and says what the state has then; as many counts are kept
pub record TreeFollows (g : Shape) (before after : PlainTree) (command : TreeCommand) (answer : TreeAnswer) : Type 0 where
  pub allowed : IsAllowed g (history_of before) command answer
  pub history : history_of after ≡ history_with g (history_of before) command answer
  pub count : length after.counts ≡ length before.counts

counts-kept : (before after : PlainTree) → IsPlainKept before after → length after.counts ≡ length before.counts
counts-kept before after kept = ap (λ (p : PlainTree). length p.counts) kept

counts-made : (g : Shape) (a : ℕ) (line : Line) (before after : PlainTree) → IsPlainWritten g a line before after → length after.counts ≡ length before.counts
counts-made g a line before after made = ap (λ (p : PlainTree). length p.counts) made ∙ length-set before.counts a (true_count before a + 1)

-- the state tree_decided it
knows : (setup : Setup) (before after : PlainTree) (command : TreeCommand) (answer known : TreeAnswer) → AnswersWith setup before command after answer (Some known)
    → IsAllowed setup.shape (history_of before) command known
    → history_of (tree_after_decided setup.shape before command known) ≡ history_with setup.shape (history_of before) command known
    → length (tree_after_decided setup.shape before command known).counts ≡ length before.counts
    → TreeFollows setup.shape before after command answer
knows setup before after command answer known it allowed history count = search rules

-- what was tampered with stays so
pub tampered-kept : (before after : PlainTree) → IsPlainKept before after → after.tampered ≡ before.tampered
tampered-kept before after kept = ap (λ (p : PlainTree). p.tampered) kept

pub path-kept : (g : Shape) (before after : PlainTree) (a x : ℕ) → IsPlainKept before after → IsPathTampered g after.tampered a x → IsPathTampered g before.tampered a x
path-kept g before after a x kept it = subst (λ (flags : List Bool). IsPathTampered g flags a x) (tampered-kept before after kept) it

pub slot-kept : (g : Shape) (before after : PlainTree) → IsPlainKept before after → IsSlotTampered g after.tampered → IsSlotTampered g before.tampered
slot-kept g before after kept it = subst (IsSlotTampered g) (tampered-kept before after kept) it

pub hurt-kept : (before after : PlainTree) (a : ℕ) → IsPlainKept before after → IsHurt after.hurt a → IsHurt before.hurt a
hurt-kept before after a kept it = subst (λ (flags : List Bool). IsHurt flags a) (ap (λ (p : PlainTree). p.hurt) kept) it

-- ---- writes

by_write : (setup : Setup) (before after : PlainTree) (a : ℕ) (line : Line) (answer : TreeAnswer) → before.board.powered ≡ true → a < tree_lines setup.shape → length before.counts ≡ tree_lines setup.shape
    → SaysOfWrite setup before a line after answer → TreeFollows setup.shape before after (Do.Write a line) answer
by_write setup before after a line (Say.Written s) on low count it = search (rules, stepped-write, counts-made)
by_write setup before after a line (Say.CutKept s) on low count it = search (rules, darkened-write, counts-made)
by_write setup before after a line (Say.CutLost s) on low count it = search (rules, darkened, counts-kept)
by_write setup before after a line (Say.Spent s) on low count it = search rules
by_write setup before after a line (Say.RefusedNode x s) on low count it = search (rules, path-kept, stepped, counts-kept)
by_write setup before after a line answer on low count it = absurd it

-- ---- reads

by_read : (setup : Setup) (before after : PlainTree) (a : ℕ) (answer : TreeAnswer) → before.board.powered ≡ true → a < tree_lines setup.shape
    → SaysOfRead setup before a after answer → TreeFollows setup.shape before after (Do.Read a) answer
by_read setup before after a (Say.Got got s) on low it = search (rules, stepped, counts-kept)
by_read setup before after a (Say.Cut s) on low it = search (rules, darkened, counts-kept)
by_read setup before after a (Say.RefusedData b s) on low it = search (rules, hurt-kept, stepped, counts-kept)
by_read setup before after a (Say.RefusedNode x s) on low it = search (rules, path-kept, stepped, counts-kept)
by_read setup before after a answer on low it = absurd it

-- ---- recoveries

by_on : (setup : Setup) (before after : PlainTree) (answer : TreeAnswer) → before.board.powered ≡ false → SaysOfOn setup before after answer → TreeFollows setup.shape before after Do.On answer
by_on setup before after (Say.Recovered digests s) off it = search (rules, stepped, counts-kept)
by_on setup before after (Say.Cut s) off it = search (rules, darkened, counts-kept)
by_on setup before after (Say.RefusedShadow kept found s) off it = search (rules, slot-kept, stepped, counts-kept)
by_on setup before after answer off it = absurd it

-- ---- any command

-- whether the power is on, and whether a place is there, decide
on_line : (setup : Setup) (before after : PlainTree) (command : TreeCommand) (answer : TreeAnswer) (a : ℕ)
    → AnswersWith setup before command after answer (if not before.board.powered then Some Say.Off else if nat_lt a (tree_lines setup.shape) then None else Some Say.Range)
    → (before.board.powered ≡ false → AnswersWith setup before command after answer (Some Say.Off) → TreeFollows setup.shape before after command answer)
    → (before.board.powered ≡ true → tree_lines setup.shape ≤ a → AnswersWith setup before command after answer (Some Say.Range) → TreeFollows setup.shape before after command answer)
    → (before.board.powered ≡ true → a < tree_lines setup.shape → AnswersWith setup before command after answer None → TreeFollows setup.shape before after command answer)
    → TreeFollows setup.shape before after command answer
on_line setup before after command answer a it off range served =
    elim (cases_Bool before.board.powered) [
      | inr dark ↦ off dark (subst (λ (b : Bool). AnswersWith setup before command after answer (if not b then Some Say.Off else if nat_lt a (tree_lines setup.shape) then None else Some Say.Range)) dark it)
      | inl on ↦
          let lit = subst (λ (b : Bool). AnswersWith setup before command after answer (if not b then Some Say.Off else if nat_lt a (tree_lines setup.shape) then None else Some Say.Range)) on it in
          elim (cases_lt a (tree_lines setup.shape)) [
            | inl low ↦ served on low (subst (λ (b : Bool). AnswersWith setup before command after answer (if b then None else Some Say.Range)) (lt-ltb a (tree_lines setup.shape) low) lit)
            | inr high ↦ range on high (subst (λ (b : Bool). AnswersWith setup before command after answer (if b then None else Some Say.Range)) (le-ltb a (tree_lines setup.shape) high) lit)
          ]
    ]

some-snapshot : (found : Option (List Line)) → is_none found ≡ false → is_some found ≡ true
some-snapshot None is = absurd (Rattle.std.proofs.lemmas.Bool.true≢false is)
some-snapshot (Some kept) is = refl

no-snapshot : (found : Option (List Line)) → is_none found ≡ true → is_some found ≡ false
no-snapshot None is = refl
no-snapshot (Some kept) is = absurd (Rattle.std.proofs.lemmas.Bool.false≢true is)

pub follows : (setup : Setup) (before after : PlainTree) (command : TreeCommand) (answer : TreeAnswer) → length before.counts ≡ tree_lines setup.shape
    → AnswersWith setup before command after answer (tree_decided setup.shape before command) → TreeFollows setup.shape before after command answer
follows setup before after (Do.Write a line) answer count it =
    on_line setup before after (Do.Write a line) answer a it
    (λ dark known. knows setup before after (Do.Write a line) answer Say.Off known dark refl refl)
    (λ on high known. knows setup before after (Do.Write a line) answer Say.Range known (on, high) refl refl)
    (λ on low made. by_write setup before after a line answer on low count made)
follows setup before after (Do.Read a) answer count it =
    on_line setup before after (Do.Read a) answer a it
    (λ dark known. knows setup before after (Do.Read a) answer Say.Off known dark refl refl)
    (λ on high known. knows setup before after (Do.Read a) answer Say.Range known (on, high) refl refl)
    (λ on low made. by_read setup before after a answer on low made)
follows setup before after Do.On answer count it = search (rules, cases_Bool, knows, by_on)
follows setup before after Do.Off answer count it = search (rules, cases_Bool, knows)
follows setup before after (Do.Cut n) answer count it = knows setup before after (Do.Cut n) answer Say.Ok it refl refl refl
follows setup before after (Do.Poke d line) answer count it = search (rules, cases_lt, knows, lt-ltb, le-ltb)
follows setup before after Do.Snap answer count it = knows setup before after Do.Snap answer Say.Ok it refl refl refl
follows setup before after (Do.Back d) answer count it =
    elim (cases_lt d (tree_size setup.shape)) [
      | inr high ↦
          knows setup before after (Do.Back d) answer Say.Range
          (subst (λ (b : Bool). AnswersWith setup before (Do.Back d) after answer (if not b then Some Say.Range else if is_none before.board.snapshot then Some Say.NoSnap else Some Say.Ok))
          (le-ltb d (tree_size setup.shape) high) it) high refl refl
      | inl low ↦
          let there = subst (λ (b : Bool). AnswersWith setup before (Do.Back d) after answer (if not b then Some Say.Range else if is_none before.board.snapshot then Some Say.NoSnap else Some Say.Ok))
          (lt-ltb d (tree_size setup.shape) low) it in
          elim (cases_Bool (is_none before.board.snapshot)) [
            | inl none ↦
                knows setup before after (Do.Back d) answer Say.NoSnap
                (subst (λ (b : Bool). AnswersWith setup before (Do.Back d) after answer (if b then Some Say.NoSnap else Some Say.Ok)) none there) (low, no-snapshot before.board.snapshot none) refl refl
            | inr some ↦
                knows setup before after (Do.Back d) answer Say.Ok
                (subst (λ (b : Bool). AnswersWith setup before (Do.Back d) after answer (if b then Some Say.NoSnap else Some Say.Ok)) some there) (low, some-snapshot before.board.snapshot some) refl refl
          ]
    ]
