-- Lines that were answered one after the other, and how that ends, from a later line on.
use Rattle.std.proofs.Common.{◌≡◌, ◌∙◌, ◌+◌, ◌<◌, ◌≤◌, ℕ, List, [], ◌∷◌, ◌++◌, length, refl, sym, ap, subst, arith, append_assoc, append-nil, length-append, Bool, true, false, lt-ltb, inl, inr}
use Rattle.std.specs.Prelude.{◌⊎◌, All, Option, Some, nat_lt, if◌then◌else◌}
use Rattle.std.specs.List.{flat_map}
use Rattle.std.proofs.KnownBytes.{Consumes-trans}
use Rattle.std.proofs.lemmas.Bool.{le-ltb}
use Rattle.std.proofs.lemmas.List.Concat.{flat_map-append}
use Rattle.std.proofs.lemmas.List.Elements.{All-append}
use Rattle.pmem_base.specs.declared.commands.Kind.{Kind}
use Rattle.pmem_base.specs.declared.commands.Kind.TheVariants.{Long}
use Rattle.plain_model.specs.declared.Stop.{Stop}
use Rattle.plain_model.specs.declared.Stop.TheVariants.{Finished, Words, Memory, ReadFault, WriteFault, Refused, Shown, TooManyLines}
use Rattle.plain_model.specs.Lines.{lines_of, ended, IsWithin}
use Rattle.plain_model.specs.Run.{line_limit}
use Rattle.trace_text.specs.Talks.{Sort, asked, faulty}
use Rattle.trace_text.specs.Conversations.{Protocol, line_sort, AnswersOne, IsTalk, AreRepliesGiven, IsTalkFront, IsCutShortTalk, IsShownTalk, TalkEnds}
use Rattle.pmem_cli.proofs.LineLemmas.{lines_of-begins, lines_of-all_ended}

short_sort : (b : Bool) (s : Sort) → b ≡ false → (if b then faulty Long else s) ≡ s
short_sort false s short = refl
short_sort true s short = absurd cc

long_sort : (b : Bool) (s : Sort) → b ≡ true → (if b then faulty Long else s) ≡ faulty Long
long_sort true s long = refl
long_sort false s long = absurd cc

module _ {S X : Type 0} (p : Protocol S X) where
  -- ---- what a line is

  -- a line that isn't too long is what the grammar says
  pub sort_within : (line : List ℕ) → length line ≤ 1024 → line_sort p line ≡ p.sort_of line
  sort_within line within = short_sort (nat_lt 1024 (length line)) (p.sort_of line) (le-ltb 1024 (length line) within)

  pub sort_beyond : (line : List ℕ) → 1024 < length line → line_sort p line ≡ faulty Long
  sort_beyond line far = long_sort (nat_lt 1024 (length line)) (p.sort_of line) (lt-ltb 1024 (length line) far)

  -- ---- some lines, and more

  pub IsTalk-one : (first next : S) (line : List ℕ) (xs : List X) → AnswersOne p first line xs next → IsTalk p first (line ∷ []) xs next
  IsTalk-one first next line xs answered = (next, xs, [], answered, sym (append-nil xs), (refl, refl))

  pub IsTalk-append : (first middle last : S) (ls ms : List (List ℕ)) (xs ys : List X)
      → IsTalk p first ls xs middle → IsTalk p middle ms ys last → IsTalk p first (ls ++ ms) (xs ++ ys) last
  IsTalk-append first middle last [] ms xs ys a b =
      subst (λ s. IsTalk p s ms (xs ++ ys) last) a.1 (subst (λ zs. IsTalk p middle ms (zs ++ ys) last) (sym a.0) b)
  IsTalk-append first middle last (line ∷ ls) ms xs ys a b = (
    a.0,
    a.1,
    a.2 ++ ys,
    a.3,
    ap (λ l. l ++ ys) a.4 ∙ append_assoc a.1 a.2 ys,
    IsTalk-append a.0 middle last ls ms a.2 ys a.5 b,
  )

  -- one reply, and more
  given_one : (first next : S) (line : List ℕ) (here later : List X) → AnswersOne p first line here next → AreRepliesGiven p next later → AreRepliesGiven p first (here ++ later)
  given_one first next line here later (inl skip) g =
      subst (λ s. AreRepliesGiven p s (here ++ later)) skip.2 (subst (λ zs. AreRepliesGiven p next (zs ++ later)) (sym skip.1) g)
  given_one first next line here later (inr one) g =
      subst (λ zs. AreRepliesGiven p first (zs ++ later)) (sym one.2) (line, one.1, inl (next, one.3, g))

  -- replies that follow those to some lines
  pub AreRepliesGiven-after : (first middle : S) (ls : List (List ℕ)) (xs ys : List X) → IsTalk p first ls xs middle → AreRepliesGiven p middle ys → AreRepliesGiven p first (xs ++ ys)
  AreRepliesGiven-after first middle [] xs ys a g = subst (λ s. AreRepliesGiven p s (xs ++ ys)) a.1 (subst (λ zs. AreRepliesGiven p middle (zs ++ ys)) (sym a.0) g)
  AreRepliesGiven-after first middle (line ∷ ls) xs ys a g =
      subst (λ zs. AreRepliesGiven p first zs) (sym (ap (λ l. l ++ ys) a.4 ∙ append_assoc a.1 a.2 ys))
      (given_one first a.0 line a.1 (a.2 ++ ys) a.3 (AreRepliesGiven-after a.0 middle ls a.2 ys a.5 g))

  pub AreRepliesGiven-all : (first last : S) (ls : List (List ℕ)) (xs : List X) → IsTalk p first ls xs last → AreRepliesGiven p first xs
  AreRepliesGiven-all first last ls xs a = subst (λ zs. AreRepliesGiven p first zs) (append-nil xs) (AreRepliesGiven-after first last ls xs [] a tt)

  -- a reply that is an exhibit
  pub AreRepliesGiven-shown : (first next : S) (line : List ℕ) (x : X) → line_sort p line ≡ asked → p.shows first line x next → AreRepliesGiven p first (x ∷ [])
  AreRepliesGiven-shown first next line x its_sort shown = (line, its_sort, inr (next, shown, refl))

  -- ---- what a stop says after some lines, it says from the lines before them on

  abbrev pub front_nil : (first : S) (ls : List (List ℕ)) → IsTalkFront p first ls []
  front_nil first ls = record { before = []; behind = ls; cut = refl; last = first; talk = (refl, refl) }

  abbrev front_after : (first middle : S) (all before rest : List (List ℕ)) (xs ys : List X) → all ≡ before ++ rest
      → IsTalk p first before xs middle → IsTalkFront p middle rest ys → IsTalkFront p first all (xs ++ ys)
  front_after first middle all before rest xs ys split talk front =
      record {
        before = before ++ front.before;
        behind = front.behind;
        cut = split ∙ ap (λ ls. before ++ ls) front.cut ∙ sym (append_assoc before front.before front.behind);
        last = front.last;
        talk = IsTalk-append first middle front.last before front.before xs ys talk front.talk;
      }

  shown_after : (first middle : S) (served : ℕ) (all before rest : List (List ℕ)) (xs ys : List X) → all ≡ before ++ rest
      → IsTalk p first before xs middle → IsShownTalk p middle (served + length before) rest ys → IsShownTalk p first served all (xs ++ ys)
  shown_after first middle served all before rest xs ys split talk ends =
      record {
        before = before ++ ends.before;
        line = ends.line;
        behind = ends.behind;
        cut = split ∙ ap (λ ls. before ++ ls) ends.cut ∙ sym (append_assoc before ends.before (ends.line ∷ ends.behind));
        earlier = xs ++ ends.earlier;
        middle = ends.middle;
        talk = IsTalk-append first middle ends.middle before ends.before xs ends.earlier talk ends.talk;
        last = ends.last;
        all = ap (λ l. xs ++ l) ends.all ∙ sym (append_assoc xs ends.earlier (ends.last ∷ []));
        its_sort = ends.its_sort;
        after = ends.after;
        shown = ends.shown;
        counted = rw length-append (omega (arith, ends.counted));
      }

  cut_short_after : (first middle : S) (served : ℕ) (trace rest : List ℕ) (left : Option (List ℕ)) (before : List (List ℕ)) (xs ys : List X)
      → trace ≡ flat_map ended before ++ rest → All IsWithin before → IsTalk p first before xs middle
      → IsCutShortTalk p middle (served + length before) rest left ys → IsCutShortTalk p first served trace left (xs ++ ys)
  cut_short_after first middle served trace rest left before xs ys split within talk ends =
      let bytes : flat_map ended (before ++ ends.before) ++ ends.part ≡ flat_map ended before ++ (flat_map ended ends.before ++ ends.part) =
      rw flat_map-append (append_assoc (flat_map ended before) (flat_map ended ends.before) ends.part) in
      record {
        before = before ++ ends.before;
        part = ends.part;
        taken = rw bytes (Consumes-trans (Some trace) (Some rest) left (flat_map ended before) (flat_map ended ends.before ++ ends.part) split ends.taken);
        whole = All-append IsWithin before ends.before within ends.whole;
        unfinished = ends.unfinished;
        short = ends.short;
        last = ends.last;
        talk = IsTalk-append first middle ends.last before ends.before xs ys talk ends.talk;
        counted = rw length-append (omega (arith, ends.counted));
        at_limit = λ full. ends.at_limit (omega (arith, rw length-append at full));
      }

  pub TalkEnds-after : (stop : Stop) (first middle : S) (served : ℕ) (trace rest : List ℕ) (left : Option (List ℕ)) (before : List (List ℕ)) (xs ys : List X)
      → trace ≡ flat_map ended before ++ rest → All IsWithin before → IsTalk p first before xs middle
      → TalkEnds p middle (served + length before) stop rest left ys → TalkEnds p first served stop trace left (xs ++ ys)
  TalkEnds-after Finished first middle served trace rest left before xs ys split within talk ends =
      let cut = ap lines_of split ∙ lines_of-all_ended before rest within in
      record {
        last = ends.last;
        talk = rw cut (IsTalk-append first middle ends.last before (lines_of rest) xs ys talk ends.talk);
        counted = rw (cut, length-append) (omega (arith, ends.counted));
      }
  TalkEnds-after Words first middle served trace rest left before xs ys split within talk ends = ends
  TalkEnds-after Memory first middle served trace rest left before xs ys split within talk ends =
      record {
        before = before ++ ends.before;
        line = ends.line;
        behind = ends.behind;
        cut = ap lines_of split ∙ lines_of-all_ended before rest within ∙ ap (λ ls. before ++ ls) ends.cut ∙ sym (append_assoc before ends.before (ends.line ∷ ends.behind));
        last = ends.last;
        talk = IsTalk-append first middle ends.last before ends.before xs ys talk ends.talk;
        its_sort = ends.its_sort;
        wanted = ends.wanted;
        counted = rw length-append (omega (arith, ends.counted));
      }
  TalkEnds-after ReadFault first middle served trace rest left before xs ys split within talk ends =
      cut_short_after first middle served trace rest left before xs ys split within talk ends
  TalkEnds-after WriteFault first middle served trace rest left before xs ys split within talk ends =
      let cut = ap lines_of split ∙ lines_of-all_ended before rest within in
      elim ends [
        | inl limited ↦ inl (record {
          front = front_after first middle (lines_of trace) before (lines_of rest) xs ys cut talk limited.front;
          counted = rw length-append (omega (arith, limited.counted));
        })
        | inr shown ↦ inr (shown_after first middle served (lines_of trace) before (lines_of rest) xs ys cut talk shown)
      ]
  TalkEnds-after Shown first middle served trace rest left before xs ys split within talk ends =
      shown_after first middle served (lines_of trace) before (lines_of rest) xs ys (ap lines_of split ∙ lines_of-all_ended before rest within) talk ends
  TalkEnds-after (Refused number kind) first middle served trace rest left before xs ys split within talk ends =
      record {
        before = before ++ ends.before;
        line = ends.line;
        behind = ends.behind;
        cut = ap lines_of split ∙ lines_of-all_ended before rest within ∙ ap (λ ls. before ++ ls) ends.cut ∙ sym (append_assoc before ends.before (ends.line ∷ ends.behind));
        last = ends.last;
        talk = IsTalk-append first middle ends.last before ends.before xs ys talk ends.talk;
        refused = ends.refused;
        numbered = rw length-append (omega (arith, ends.numbered));
        counted = ends.counted;
      }
  TalkEnds-after TooManyLines first middle served trace rest left before xs ys split within talk ends =
      record {
        front = front_after first middle (lines_of trace) before (lines_of rest) xs ys (ap lines_of split ∙ lines_of-all_ended before rest within) talk ends.front;
        counted = rw length-append (omega (arith, ends.counted));
        more = ends.more;
      }

  -- ---- the first line

  -- it is refused
  pub TalkEnds-refused : (first : S) (served number : ℕ) (kind : Kind) (left : Option (List ℕ)) (trace line : List ℕ) (behind : List (List ℕ))
      → lines_of trace ≡ line ∷ behind → line_sort p line ≡ faulty kind → number ≡ served + 1 → served < line_limit
      → TalkEnds p first served (Refused number kind) trace left []
  TalkEnds-refused first served number kind left trace line behind cut refused numbered limit =
      record {
        before = [];
        line = line;
        behind = behind;
        cut = cut;
        last = first;
        talk = (refl, refl);
        refused = refused;
        numbered = omega (arith, numbered);
        counted = omega (arith, numbered, limit);
      }

  -- it is too long, by the bytes that it begins with
  pub TalkEnds-long : (first : S) (served number : ℕ) (left : Option (List ℕ)) (part rest : List ℕ)
      → IsWithin part → 1024 < length part → number ≡ served + 1 → served < line_limit
      → TalkEnds p first served (Refused number Long) (part ++ rest) left []
  TalkEnds-long first served number left part rest within long numbered limit =
      let (more, behind, cut) = lines_of-begins part rest within (omega arith) in
      let far : 1024 < length (part ++ more) = rw length-append (omega arith) in
      TalkEnds-refused first served number Long left (part ++ rest) (part ++ more) behind cut (sort_beyond (part ++ more) far) numbered limit

  -- memory was wanted for its reply
  pub TalkEnds-wanting : (first : S) (served : ℕ) (left : Option (List ℕ)) (trace line : List ℕ) (behind : List (List ℕ))
      → lines_of trace ≡ line ∷ behind → line_sort p line ≡ asked → p.wants_memory first line → served < line_limit
      → TalkEnds p first served Memory trace left []
  TalkEnds-wanting first served left trace line behind cut its_sort wants limit =
      record {
        before = [];
        line = line;
        behind = behind;
        cut = cut;
        last = first;
        talk = (refl, refl);
        its_sort = its_sort;
        wanted = wants;
        counted = omega (arith, limit);
      }

  -- it was answered by an exhibit
  pub TalkEnds-shown : (first next : S) (served : ℕ) (left : Option (List ℕ)) (trace line : List ℕ) (behind : List (List ℕ)) (x : X)
      → lines_of trace ≡ line ∷ behind → line_sort p line ≡ asked → p.shows first line x next → served < line_limit
      → TalkEnds p first served Shown trace left (x ∷ [])
  TalkEnds-shown first next served left trace line behind x cut its_sort shown limit =
      record {
        before = [];
        line = line;
        behind = behind;
        cut = cut;
        earlier = [];
        middle = first;
        talk = (refl, refl);
        last = x;
        all = refl;
        its_sort = its_sort;
        after = next;
        shown = shown;
        counted = omega (arith, limit);
      }

  -- it was answered, and its reply wasn't printed
  pub TalkEnds-untold : (first next : S) (served : ℕ) (left : Option (List ℕ)) (trace line : List ℕ) (behind : List (List ℕ)) (x : X)
      → lines_of trace ≡ line ∷ behind → line_sort p line ≡ asked → p.answers first line x next ⊎ p.shows first line x next → served < line_limit
      → TalkEnds p first served WriteFault trace left (x ∷ [])
  TalkEnds-untold first next served left trace line behind x cut its_sort (inl replied) limit =
      inl (record {
        front = record { before = line ∷ []; behind = behind; cut = cut; last = next; talk = IsTalk-one first next line (x ∷ []) (inr (x, its_sort, refl, replied)) };
        counted = omega (arith, limit);
      })
  TalkEnds-untold first next served left trace line behind x cut its_sort (inr shown) limit =
      inr (TalkEnds-shown first next served left trace line behind x cut its_sort shown limit)

  -- so its reply was given
  pub AreRepliesGiven-untold : (first next : S) (line : List ℕ) (x : X) → line_sort p line ≡ asked → p.answers first line x next ⊎ p.shows first line x next → AreRepliesGiven p first (x ∷ [])
  AreRepliesGiven-untold first next line x its_sort (inl replied) = (line, its_sort, inl (next, replied, tt))
  AreRepliesGiven-untold first next line x its_sort (inr shown) = AreRepliesGiven-shown first next line x its_sort shown
