-- The lines of a check, one after the other.
use Rattle.std.proofs.Common.{rules, ◌≡◌, ◌≢◌, ◌∙◌, ◌+◌, ◌<◌, ◌≤◌, ℕ, List, [], ◌∷◌, ◌++◌, length, refl, sym, ap, subst, arith, append_assoc, length-append, lt-ltb, inl, inr}
use Rattle.std.specs.Prelude.{◌⊎◌, Option, None, Some, IfSome, Ok, Err}
use Rattle.std.specs.List.{flat_map}
use Rattle.std.specs.Io.KnownBytes.{Consumes, Keeps, IsAtEnd, prepend_known}
use Rattle.std.proofs.KnownBytes.{Consumes-trans, Consumes-whole}
use Rattle.std.proofs.lemmas.Bool.{lt-leb}
use Rattle.std.proofs.lemmas.List.Elements.{All-cons, All-nil}
use Rattle.pmem_base.specs.declared.commands.Kind.{Kind}
use Rattle.pmem_base.specs.declared.answers.Exhibit.{Exhibit}
use Rattle.suite.specs.Formulas.{Formulas}
use Rattle.collision_witness.specs.Reading.{exhibit_of_line}
use Rattle.plain_model.specs.declared.Stop.{Stop}
use Rattle.plain_model.specs.declared.Stop.TheVariants.{Finished, ReadFault, Refused, TooManyLines}
use Rattle.plain_model.specs.Lines.{lines_of, ended, IsWithin}
use Rattle.plain_model.specs.Run.{line_limit}
use Rattle.pmem_cli.specs.declared.ending.Ending.TheVariants.{Stopped}
use Rattle.pmem_cli.specs.Checked.{is_skipped, found_with, found_on, found_in_lines, IsRefusedIn, IsBrokenOff, LooksTo, HasCheckedLines, HasLookedFirst, ChecksLine, ChecksNext, IsChecked}
use Rattle.pmem_cli.specs.Pulling.{IsUndecided, PullsUndecided}
use Rattle.pmem_cli.proofs.LineLemmas.{lines_ahead, lines_of-last, lines_of-begins, lines_of-some}
use Rattle.pmem_cli.proofs.TurnLemmas.{IfSome-ahead, all_unread}

-- ---- one line in front

found_in_lines-cons : (f g : Option Exhibit) (line : List ℕ) (lines : List (List ℕ)) (after : Option Exhibit)
    → found_with f line ≡ Ok g → found_in_lines g lines ≡ Ok after → found_in_lines f (line ∷ lines) ≡ Ok after
found_in_lines-cons f g line lines after first rest = ap (λ r. found_on r lines) first ∙ rest

broken_after : (f g : Option Exhibit) (served : ℕ) (bytes rest line : List ℕ) (left : Option (List ℕ)) (after : Option Exhibit)
    → bytes ≡ ended line ++ rest → IsWithin line → found_with f line ≡ Ok g → IsBrokenOff g (served + 1) rest left after → IsBrokenOff f served bytes left after
broken_after f g served bytes rest line left after split within first broken =
    let taken : Consumes (Some bytes) (Some rest) (ended line) = split in record {
      before = line ∷ broken.before;
      part = broken.part;
      taken =
          rw (append_assoc (ended line) (flat_map ended broken.before) broken.part)
          (Consumes-trans (Some bytes) (Some rest) left (ended line) (flat_map ended broken.before ++ broken.part) taken broken.taken);
      whole = All-cons IsWithin line broken.before within broken.whole;
      unfinished = broken.unfinished;
      short = broken.short;
      read = found_in_lines-cons f g line broken.before after first broken.read;
      counted = omega (arith, broken.counted);
      at_limit = λ full. broken.at_limit (omega (arith, full));
    }

-- what a stop says behind a line, it says from that line on
looks_after : (stop : Stop) (f g : Option Exhibit) (served : ℕ) (bytes rest line : List ℕ) (left : Option (List ℕ)) (after : Option Exhibit)
    → bytes ≡ ended line ++ rest → IsWithin line → found_with f line ≡ Ok g → LooksTo g (served + 1) stop rest left after → LooksTo f served stop bytes left after
looks_after Finished f g served bytes rest line left after split within first looks =
    let cut : lines_of bytes ≡ line ∷ lines_of rest = ap lines_of split ∙ lines_ahead line rest within in record {
      read = ap (found_in_lines f) cut ∙ found_in_lines-cons f g line (lines_of rest) after first looks.read;
      counted = rw cut (omega (arith, looks.counted));
    }
looks_after ReadFault f g served bytes rest line left after split within first looks = broken_after f g served bytes rest line left after split within first looks
looks_after (Refused number kind) f g served bytes rest line left after split within first looks = record {
  before = line ∷ looks.before;
  line = looks.line;
  behind = looks.behind;
  cut = ap lines_of split ∙ lines_ahead line rest within ∙ ap (λ ls. line ∷ ls) looks.cut;
  between = looks.between;
  read = found_in_lines-cons f g line looks.before looks.between first looks.read;
  refused = looks.refused;
  numbered = omega (arith, looks.numbered);
  counted = looks.counted;
}
looks_after TooManyLines f g served bytes rest line left after split within first looks = record {
  before = line ∷ looks.before;
  behind = looks.behind;
  cut = ap lines_of split ∙ lines_ahead line rest within ∙ ap (λ ls. line ∷ ls) looks.cut;
  read = found_in_lines-cons f g line looks.before after first looks.read;
  counted = omega (arith, looks.counted);
  more = looks.more;
}
looks_after stop f g served bytes rest line left after split within first looks = absurd looks

if_looks : (stop : Stop) (f g : Option Exhibit) (served : ℕ) (ahead behind left : Option (List ℕ)) (line : List ℕ) (after : Option Exhibit)
    → Consumes ahead behind (ended line) → IsWithin line → found_with f line ≡ Ok g → IfSome behind (λ bytes. LooksTo g (served + 1) stop bytes left after)
    → IfSome ahead (λ bytes. LooksTo f served stop bytes left after)
if_looks stop f g served None behind left line after taken within first looks = tt
if_looks stop f g served (Some bytes) None left line after taken within first looks = absurd taken
if_looks stop f g served (Some bytes) (Some rest) left line after taken within first looks = looks_after stop f g served bytes rest line left after taken within first looks

pub HasCheckedLines-after : (stop : Stop) (f g : Option Exhibit) (served : ℕ) (ahead behind left : Option (List ℕ)) (line : List ℕ) (after : Option Exhibit)
    → Consumes ahead behind (ended line) → IsWithin line → found_with f line ≡ Ok g → HasCheckedLines stop behind left g after (served + 1) → HasCheckedLines stop ahead left f after served
HasCheckedLines-after stop f g served ahead behind left line after taken within first looked =
    (looked.0, looked.1, if_looks stop f g served ahead behind left line after taken within first looked.2)

-- ---- stops at the next line

refused_here : (found : Option Exhibit) (served number : ℕ) (kind : Kind) (bytes line : List ℕ) (behind : List (List ℕ))
    → lines_of bytes ≡ line ∷ behind → found_with found line ≡ Err kind → number ≡ served + 1 → served < line_limit → IsRefusedIn found served (lines_of bytes) number kind
refused_here found served number kind bytes line behind cut refused numbered limit = record {
  before = [];
  line = line;
  behind = behind;
  cut = cut;
  between = found;
  read = refl;
  refused = refused;
  numbered = omega (arith, numbered);
  counted = omega (arith, numbered, limit);
}

-- a line with its LF
pub ChecksNext-line : (stop : Option Stop) (ahead behind left : Option (List ℕ)) (before after : Option Exhibit) (line : List ℕ) (served number : ℕ)
    → Consumes ahead behind (ended line) → IsWithin line → number ≡ served + 1 → served < line_limit → ChecksLine stop line number before after
    → ChecksNext stop ahead behind left before after served
ChecksNext-line None ahead behind left before after line served number taken within numbered limit checked = (line, taken, within, checked)
ChecksNext-line (Some (Refused n kind)) ahead behind left before after line served number taken within numbered limit checked = (
  λ same. cc,
  λ same. cc,
  IfSome-ahead ahead behind (ended line) (λ bytes. LooksTo before served (Refused n kind) bytes left after) taken
      (λ rest. refused_here before served n kind (ended line ++ rest) line (lines_of rest) (lines_ahead line rest within) checked.1 (checked.0 ∙ numbered) limit),
)
ChecksNext-line (Some stop) ahead behind left before after line served number taken within numbered limit checked = absurd checked

-- the last line
pub HasCheckedLines-last : (ahead behind left : Option (List ℕ)) (before after : Option Exhibit) (line : List ℕ) (served : ℕ)
    → Consumes ahead behind line → IsWithin line → 0 < length line → IsAtEnd behind → served < line_limit → found_with before line ≡ Ok after
    → HasCheckedLines Finished ahead left before after served
HasCheckedLines-last ahead behind left before after line served taken within some end limit checked =
    let cut = lines_of-last line within some in (
      λ same. cc,
      λ same. cc,
      Consumes-whole ahead behind line (λ bytes. LooksTo before served Finished bytes left after) taken end
          (record { read = ap (found_in_lines before) cut ∙ found_in_lines-cons before after line [] after checked refl; counted = rw cut (omega (arith, limit)) }),
    )

-- the last line, at which the check stops
pub HasCheckedLines-at_last : (stop : Stop) (ahead behind left : Option (List ℕ)) (before after : Option Exhibit) (line : List ℕ) (served number : ℕ)
    → Consumes ahead behind line → IsWithin line → 0 < length line → IsAtEnd behind → number ≡ served + 1 → served < line_limit → ChecksLine (Some stop) line number before after
    → HasCheckedLines stop ahead left before after served
HasCheckedLines-at_last (Refused n kind) ahead behind left before after line served number taken within some end numbered limit checked = (
  λ same. cc,
  λ same. cc,
  Consumes-whole ahead behind line (λ bytes. LooksTo before served (Refused n kind) bytes left after) taken end
      (refused_here before served n kind line line [] (lines_of-last line within some) checked.1 (checked.0 ∙ numbered) limit),
)
HasCheckedLines-at_last stop ahead behind left before after line served number taken within some end numbered limit checked = absurd checked

-- a line that is too long is refused whatever it holds
long_refused : (found : Option Exhibit) (line : List ℕ) → 1024 < length line → found_with found line ≡ Err Kind.Long
unfolding found_with is_skipped exhibit_of_line
long_refused None line long = rw (lt-leb (length line) 1024 long, lt-ltb 1024 (length line) long) refl
long_refused (Some shown) line long = rw (lt-leb (length line) 1024 long, lt-ltb 1024 (length line) long) refl

pub HasCheckedLines-long : (ahead behind left : Option (List ℕ)) (found : Option Exhibit) (part : List ℕ) (served number : ℕ)
    → Consumes ahead behind part → IsWithin part → 1024 < length part → number ≡ served + 1 → served < line_limit → HasCheckedLines (Refused number Kind.Long) ahead left found found served
HasCheckedLines-long ahead behind left found part served number taken within long numbered limit = (
  λ same. cc,
  λ same. cc,
  IfSome-ahead ahead behind part (λ bytes. LooksTo found served (Refused number Kind.Long) bytes left found) taken
      (λ rest.
      let (more, others, cut) = lines_of-begins part rest within (omega arith) in
      let far : 1024 < length (part ++ more) = rw length-append (omega arith) in
      refused_here found served number Kind.Long (part ++ rest) (part ++ more) others cut (long_refused found (part ++ more) far) numbered limit),
)

-- nothing is ahead
pub HasCheckedLines-end : (ahead behind left : Option (List ℕ)) (found : Option Exhibit) (served : ℕ) → Consumes ahead behind [] → IsAtEnd behind → served ≤ line_limit
    → HasCheckedLines Finished ahead left found found served
unfolding lines_of
HasCheckedLines-end ahead behind left found served taken end limit = search rules

broken_here : (ahead left : Option (List ℕ)) (found : Option Exhibit) (part : List ℕ) (served : ℕ) → Consumes ahead left part → IsWithin part → length part ≤ 1024 → served ≤ line_limit
    → (served ≡ line_limit → part ≡ []) → IfSome ahead (λ bytes. IsBrokenOff found served bytes left found)
broken_here None left found part served taken within short counted limit = tt
broken_here (Some bytes) left found part served taken within short counted limit = record {
  before = [];
  part = part;
  taken = taken;
  whole = All-nil IsWithin;
  unfinished = within;
  short = short;
  read = refl;
  counted = omega (arith, counted);
  at_limit = λ full. limit (omega (arith, full));
}

-- a read fault in the middle of a line
pub HasCheckedLines-fault : (ahead left : Option (List ℕ)) (found : Option Exhibit) (part : List ℕ) (served : ℕ) → Consumes ahead left part → IsWithin part → length part ≤ 1024 → served ≤ line_limit
    → (served ≡ line_limit → part ≡ []) → HasCheckedLines ReadFault ahead left found found served
HasCheckedLines-fault ahead left found part served taken within short counted limit = (λ same. cc, λ same. cc, broken_here ahead left found part served taken within short counted limit)

-- the limit is reached, and a byte follows
pub HasCheckedLines-limit : (known left : Option (List ℕ)) (unread : List ℕ) (found : Option Exhibit) (served : ℕ) → 0 < length unread → served ≡ line_limit
    → HasCheckedLines TooManyLines (prepend_known unread known) left found found served
HasCheckedLines-limit known left unread found served some limit = (
  λ same. cc,
  λ same. cc,
  IfSome-ahead (prepend_known unread known) known unread (λ bytes. LooksTo found served TooManyLines bytes left found) (all_unread known unread)
      (λ rest. record {
        before = [];
        behind = lines_of (unread ++ rest);
        cut = refl;
        read = refl;
        counted = omega (arith, limit);
        more = lines_of-some (unread ++ rest) (rw length-append (omega arith));
      }),
)

-- what was ahead may be at hand now
pub HasCheckedLines-kept : (stop : Stop) (a b left : Option (List ℕ)) (found after : Option Exhibit) (served : ℕ) → Keeps a b → HasCheckedLines stop b left found after served → HasCheckedLines stop a left found after served
HasCheckedLines-kept stop None b left found after served kept looked = (looked.0, looked.1, tt)
HasCheckedLines-kept stop (Some x) None left found after served kept looked = absurd kept
HasCheckedLines-kept stop (Some x) (Some y) left found after served kept looked = (looked.0, looked.1, subst (λ bytes. LooksTo found served stop bytes left after) kept looked.2)

-- a stop before all lines were read is the check's end
pub IsChecked-stopped : (formulas : Formulas) (stop : Stop) (ahead left : Option (List ℕ)) (after : Option Exhibit) → stop ≢ Finished → HasCheckedLines stop ahead left None after 0
    → IfSome ahead (λ bytes. IsChecked formulas (Stopped stop) bytes left)
IsChecked-stopped formulas stop None left after early looked = tt
IsChecked-stopped formulas Finished (Some bytes) left after early looked = absurd (early refl)
IsChecked-stopped formulas ReadFault (Some bytes) left after early looked = (after, looked.2)
IsChecked-stopped formulas (Refused number kind) (Some bytes) left after early looked = inl looked.2
IsChecked-stopped formulas TooManyLines (Some bytes) left after early looked = (after, looked.2)
IsChecked-stopped formulas stop (Some bytes) left after early looked = absurd looked.2

-- ---- before a pull

undecided_at : (k n : ℕ) (part : List ℕ) → k ≡ n → IsUndecided k part → IsUndecided n part
undecided_at k n part same undecided = subst (λ m. IsUndecided m part) same undecided

pub HasLookedFirst-here : (f : Option Exhibit) (served : ℕ) (ahead told : Option (List ℕ)) → PullsUndecided served ahead told → HasLookedFirst f served ahead told
HasLookedFirst-here f served None told pulled = tt
HasLookedFirst-here f served (Some bytes) None pulled = tt
HasLookedFirst-here f served (Some bytes) (Some behind) (part, taken, undecided) =
    (part, taken, record { lines = []; part = part; cut = refl; whole = All-nil IsWithin; undecided = undecided_at served (served + 0) part (omega arith) undecided; after = f; read = refl })

pub HasLookedFirst-after : (f g : Option Exhibit) (served : ℕ) (ahead behind told : Option (List ℕ)) (line : List ℕ)
    → Consumes ahead behind (ended line) → IsWithin line → found_with f line ≡ Ok g → HasLookedFirst g (served + 1) behind told → HasLookedFirst f served ahead told
HasLookedFirst-after f g served None behind told line taken within first looked = tt
HasLookedFirst-after f g served (Some bytes) None told line taken within first looked = absurd taken
HasLookedFirst-after f g served (Some bytes) (Some rest) None line taken within first looked = tt
HasLookedFirst-after f g served (Some bytes) (Some rest) (Some left) line taken within first (given, cut, looked) = (
  ended line ++ given,
  taken ∙ ap (λ l. ended line ++ l) cut ∙ sym (append_assoc (ended line) given left),
  record {
    lines = line ∷ looked.lines;
    part = looked.part;
    cut = ap (λ l. ended line ++ l) looked.cut ∙ sym (append_assoc (ended line) (flat_map ended looked.lines) looked.part);
    whole = All-cons IsWithin line looked.lines within looked.whole;
    undecided = undecided_at (served + 1 + length looked.lines) (served + length (line ∷ looked.lines)) looked.part (omega arith) looked.undecided;
    after = looked.after;
    read = found_in_lines-cons f g line looked.lines looked.after first looked.read;
  },
)

-- after one more look
pub looked_on : {T : Type 0} (first mid last : T) (remembered : T → Option (List ℕ)) (f g : Option Exhibit) (served : ℕ) (a b : Option (List ℕ))
    → ((told : Option (List ℕ)) → HasLookedFirst g served b told → HasLookedFirst f 0 a told)
    → (mid ≡ first) ⊎ HasLookedFirst f 0 a (remembered mid) → (last ≡ mid) ⊎ PullsUndecided served b (remembered last)
    → (last ≡ first) ⊎ HasLookedFirst f 0 a (remembered last)
looked_on first mid last remembered f g served a b on (inl kept) (inl same) = inl (same ∙ kept)
looked_on first mid last remembered f g served a b on (inr before) (inl same) = inr (rw same before)
looked_on first mid last remembered f g served a b on before (inr pulled) = inr (on (remembered last) (HasLookedFirst-here g served b (remembered last) pulled))
