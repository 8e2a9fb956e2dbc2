-- Turns of a run, one after the other.
use Rattle.std.proofs.Common.{◌≤◌, ◌≡◌, ◌∙◌, ◌+◌, ◌<◌, ℕ, List, [], ◌∷◌, ◌++◌, length, refl, sym, subst, arith, append-nil, length-append, inl, inr}
use Rattle.std.specs.Prelude.{Option, None, Some, IfSome}
use Rattle.std.specs.List.{flat_map}
use Rattle.std.specs.Io.KnownBytes.{Consumes, Keeps, IsAtEnd, prepend_known}
use Rattle.std.proofs.KnownBytes.{Consumes-nil, Consumes-kept, Consumes-trans, Consumes-whole}
use Rattle.std.proofs.lemmas.List.Concat.{flat_map-append}
use Rattle.std.proofs.lemmas.List.Elements.{All-append, All-cons, All-nil}
use Rattle.pmem_base.specs.declared.commands.Kind.TheVariants.{Long}
use Rattle.plain_model.specs.declared.Stop.{Stop}
use Rattle.plain_model.specs.declared.Stop.TheVariants.{Finished, Memory, ReadFault, WriteFault, Refused, Shown, TooManyLines}
use Rattle.plain_model.specs.Lines.{lines_of, IsWithin, ended}
use Rattle.plain_model.specs.Run.{line_limit}
use Rattle.trace_text.specs.Conversations.{Protocol, texts_of, IsTalk, IsCutShortTalk, TalkEnds}
use Rattle.pmem_cli.specs.Printed.{Output, Prints, PrintsFront}
use Rattle.pmem_cli.specs.Turns.{HasServed, HasStopped, AnswersLine, Turns}
use Rattle.pmem_cli.proofs.LineLemmas.{lines_ahead, lines_of-last, lines_of-some}
use Rattle.pmem_cli.proofs.PrintLemmas.{Prints-nil, Prints-trans, Prints-front, PrintsFront-trans}
use Rattle.pmem_cli.proofs.TalkLemmas.{sort_within, IsTalk-one, IsTalk-append, AreRepliesGiven-after, AreRepliesGiven-all, AreRepliesGiven-shown, AreRepliesGiven-untold, front_nil, TalkEnds-after, TalkEnds-refused, TalkEnds-long, TalkEnds-wanting, TalkEnds-shown, TalkEnds-untold}

-- what holds of all bytes that begin so holds of those that were ahead
pub IfSome-ahead : (a b : Option (List ℕ)) (front : List ℕ) (P : List ℕ → Type 0) → Consumes a b front → ((rest : List ℕ) → P (front ++ rest)) → IfSome a P
IfSome-ahead None b front P taken holds = tt
IfSome-ahead (Some xs) None front P taken holds = absurd taken
IfSome-ahead (Some xs) (Some ys) front P taken holds = subst P (sym taken) (holds ys)

-- what holds of everything holds of what there is
pub IfSome-any : {T : Type 0} (a : Option T) (P : T → Type 0) → ((x : T) → P x) → IfSome a P
IfSome-any None P holds = tt
IfSome-any (Some x) P holds = holds x

-- what holds of what is there
pub IfSome-is : {T : Type 0} (a : Option T) (P : T → Type 0) → ((x : T) → a ≡ Some x → P x) → IfSome a P
IfSome-is None P holds = tt
IfSome-is (Some x) P holds = holds x refl

-- what follows from a fact of what there is
pub IfSome-map : {T : Type 0} (a : Option T) (P Q : T → Type 0) → ((x : T) → a ≡ Some x → P x → Q x) → IfSome a P → IfSome a Q
IfSome-map None P Q follows holds = tt
IfSome-map (Some x) P Q follows holds = follows x refl holds

pub all_unread : (known : Option (List ℕ)) (unread : List ℕ) → Consumes (prepend_known unread known) known unread
all_unread None unread = tt
all_unread (Some xs) unread = refl

no_lines : lines_of [] ≡ []
unfolding lines_of
no_lines = refl

-- one line's answer, printed
pub record HasOne {S X : Type 0} (p : Protocol S X) (s t : S) (o q : Output) (line : List ℕ) : Type 0 where
  pub replies : List X
  pub talk : IsTalk p s (line ∷ []) replies t
  pub running : p.runs t
  pub printed : Prints o q (texts_of p replies)

module _ {S X : Type 0} (p : Protocol S X) where
  -- ---- lines that were served

  pub HasServed-nil : (a : Option (List ℕ)) (s : S) (o : Output) → p.runs s → HasServed p a a s s o o [] []
  HasServed-nil a s o running = record { taken = Consumes-nil a; within = All-nil IsWithin; talk = (refl, refl); running = running; printed = Prints-nil o }

  pub HasServed-trans : (a b c : Option (List ℕ)) (s t u : S) (o q r : Output) (ls ms : List (List ℕ)) (xs ys : List X)
      → HasServed p a b s t o q ls xs → HasServed p b c t u q r ms ys → HasServed p a c s u o r (ls ++ ms) (xs ++ ys)
  HasServed-trans a b c s t u o q r ls ms xs ys first second =
      record {
        taken = rw flat_map-append (Consumes-trans a b c (flat_map ended ls) (flat_map ended ms) first.taken second.taken);
        within = All-append IsWithin ls ms first.within second.within;
        talk = IsTalk-append p s t u ls ms xs ys first.talk second.talk;
        running = second.running;
        printed = rw flat_map-append (Prints-trans o q r (texts_of p xs) (texts_of p ys) first.printed second.printed);
      }

  ends_after : (left a b : Option (List ℕ)) (s t : S) (o q : Output) (ls : List (List ℕ)) (xs ys : List X) (stop : Stop) (k : ℕ)
      → HasServed p a b s t o q ls xs → IfSome b (λ bytes. TalkEnds p t (k + length ls) stop bytes left ys)
      → IfSome a (λ bytes. TalkEnds p s k stop bytes left (xs ++ ys))
  ends_after left None b s t o q ls xs ys stop k served ends = tt
  ends_after left (Some trace) None s t o q ls xs ys stop k served ends = absurd served.taken
  ends_after left (Some trace) (Some rest) s t o q ls xs ys stop k served ends =
      TalkEnds-after p stop s t k trace rest left ls xs ys served.taken served.within served.talk ends

  -- a stop after some lines is a stop of the whole
  pub HasStopped-after : (left a b : Option (List ℕ)) (s t : S) (o q r : Output) (ls : List (List ℕ)) (xs : List X) (stop : Stop) (k : ℕ)
      → HasServed p a b s t o q ls xs → HasStopped p stop b left t q r (k + length ls) → HasStopped p stop a left s o r k
  HasStopped-after left a b s t o q r ls xs stop k served stopped =
      record {
        replies = xs ++ stopped.replies;
        ends = ends_after left a b s t o q ls xs stopped.replies stop k served stopped.ends;
        given = AreRepliesGiven-after p s t ls xs stopped.replies served.talk stopped.given;
        front = rw flat_map-append (PrintsFront-trans o q r (texts_of p xs) (texts_of p stopped.replies) served.printed stopped.front);
        whole = λ told. rw flat_map-append (Prints-trans o q r (texts_of p xs) (texts_of p stopped.replies) served.printed (stopped.whole told));
      }

  -- ---- stops

  -- one at which nothing is printed
  pub HasStopped-quiet : (stop : Stop) (a left : Option (List ℕ)) (s : S) (o : Output) (k : ℕ)
      → IfSome a (λ bytes. TalkEnds p s k stop bytes left []) → HasStopped p stop a left s o o k
  HasStopped-quiet stop a left s o k ends =
      record { replies = []; ends = ends; given = tt; front = Prints-front o o [] (Prints-nil o); whole = λ told. Prints-nil o }

  -- the sink failed at bytes that waited
  pub HasStopped-unput : (a left : Option (List ℕ)) (s : S) (o q : Output) (k : ℕ) → k ≤ line_limit → PrintsFront o q [] → HasStopped p WriteFault a left s o q k
  HasStopped-unput a left s o q k limit front =
      record {
        replies = [];
        ends =
            IfSome-any a (λ bytes. TalkEnds p s k WriteFault bytes left [])
            (λ bytes. inl (record { front = front_nil p s (lines_of bytes); counted = omega (arith, limit) }));
        given = tt;
        front = front;
        whole = λ told. absurd (told refl);
      }

  -- the run stops at a line, of which this is known where the bytes are told
  abbrev StopsAtLine : Stop → Option (List ℕ) → Option (List ℕ) → S → ℕ → List ℕ → List X → Type 0
  StopsAtLine stop a left s served line xs =
      ((trace : List ℕ) (behind : List (List ℕ)) → lines_of trace ≡ line ∷ behind → TalkEnds p s served stop trace left xs)
      → IfSome a (λ bytes. TalkEnds p s served stop bytes left xs)

  -- so it does by its answer
  stopped_at : (stop : Stop) (a left : Option (List ℕ)) (s t : S) (o q : Output) (line : List ℕ) (served number : ℕ) → number ≡ served + 1 → served < line_limit
      → length line ≤ 1024 → ((xs : List X) → StopsAtLine stop a left s served line xs) → AnswersLine p (Some stop) line number s t o q → HasStopped p stop a left s o q served
  stopped_at (Refused n kind) a left s t o q line served number numbered limit short ends (same, refused, kept) =
      subst (λ out. HasStopped p (Refused n kind) a left s o out served) (sym kept)
      (HasStopped-quiet (Refused n kind) a left s o served
      (ends [] (λ trace behind cut. TalkEnds-refused p s served n kind left trace line behind cut (sort_within p line short ∙ refused) (same ∙ numbered) limit)))
  stopped_at Memory a left s t o q line served number numbered limit short ends (its_sort, wants, kept) =
      subst (λ out. HasStopped p Memory a left s o out served) (sym kept)
      (HasStopped-quiet Memory a left s o served
      (ends [] (λ trace behind cut. TalkEnds-wanting p s served left trace line behind cut (sort_within p line short ∙ its_sort) wants limit)))
  stopped_at WriteFault a left s t o q line served number numbered limit short ends (x, its_sort, replied, front) =
      let here = sort_within p line short ∙ its_sort in
      record {
        replies = x ∷ [];
        ends = ends (x ∷ []) (λ trace behind cut. TalkEnds-untold p s t served left trace line behind x cut here replied limit);
        given = AreRepliesGiven-untold p s t line x here replied;
        front = rw append-nil front;
        whole = λ told. absurd (told refl);
      }
  stopped_at Shown a left s t o q line served number numbered limit short ends (x, its_sort, shown, printed) =
      let here = sort_within p line short ∙ its_sort in
      record {
        replies = x ∷ [];
        ends = ends (x ∷ []) (λ trace behind cut. TalkEnds-shown p s t served left trace line behind x cut here shown limit);
        given = AreRepliesGiven-shown p s t line x here shown;
        front = rw append-nil (Prints-front o q (p.text_of x) printed);
        whole = λ told. rw append-nil printed;
      }
  stopped_at stop a left s t o q line served number numbered limit short ends answered = absurd answered

  stops_ahead : (stop : Stop) (a b left : Option (List ℕ)) (s : S) (line : List ℕ) (served : ℕ) (xs : List X)
      → Consumes a b (ended line) → IsWithin line → StopsAtLine stop a left s served line xs
  stops_ahead stop a b left s line served xs taken within ends =
      IfSome-ahead a b (ended line) (λ bytes. TalkEnds p s served stop bytes left xs) taken
      (λ rest. ends (ended line ++ rest) (lines_of rest) (lines_ahead line rest within))

  stops_last : (stop : Stop) (a b left : Option (List ℕ)) (s : S) (line : List ℕ) (served : ℕ) (xs : List X)
      → Consumes a b line → IsWithin line → 0 < length line → IsAtEnd b → StopsAtLine stop a left s served line xs
  stops_last stop a b left s line served xs taken within some end ends =
      Consumes-whole a b line (λ bytes. TalkEnds p s served stop bytes left xs) taken end
      (ends line [] (lines_of-last line within some))

  -- ---- lines

  one_line : (s t : S) (o q : Output) (line : List ℕ) (number : ℕ) → length line ≤ 1024 → AnswersLine p None line number s t o q → HasOne p s t o q line
  one_line s t o q line number short (running, inl (its_sort, same, kept)) =
      record {
        replies = [];
        talk = IsTalk-one p s t line [] (inl (sort_within p line short ∙ its_sort, refl, same));
        running = running;
        printed = subst (λ out. Prints o out []) (sym kept) (Prints-nil o);
      }
  one_line s t o q line number short (running, inr (x, its_sort, replied, printed)) =
      record {
        replies = x ∷ [];
        talk = IsTalk-one p s t line (x ∷ []) (inr (x, sort_within p line short ∙ its_sort, refl, replied));
        running = running;
        printed = rw append-nil printed;
      }

  -- a line with its LF
  pub Turns-line : (stop : Option Stop) (a b left : Option (List ℕ)) (s t : S) (o q : Output) (line : List ℕ) (served number : ℕ)
      → Consumes a b (ended line) → IsWithin line → length line ≤ 1024 → number ≡ served + 1 → served < line_limit → AnswersLine p stop line number s t o q
      → Turns p stop a b left s t o q served
  Turns-line None a b left s t o q line served number taken within short numbered limit answered =
      let one = one_line s t o q line number short answered in (
        line,
        one.replies,
        record {
          taken = rw append-nil taken;
          within = All-cons IsWithin line [] within (All-nil IsWithin);
          talk = one.talk;
          running = one.running;
          printed = one.printed;
        },
      )
  Turns-line (Some stop) a b left s t o q line served number taken within short numbered limit answered =
      stopped_at stop a left s t o q line served number numbered limit short (λ xs. stops_ahead stop a b left s line served xs taken within) answered

  -- the last line, answered
  pub HasStopped-last : (a b left : Option (List ℕ)) (s t : S) (o q : Output) (line : List ℕ) (served number : ℕ)
      → Consumes a b line → IsWithin line → 0 < length line → IsAtEnd b → length line ≤ 1024 → served < line_limit → AnswersLine p None line number s t o q
      → HasStopped p Finished a left s o q served
  HasStopped-last a b left s t o q line served number taken within some end short limit answered =
      let cut = lines_of-last line within some in
      let one = one_line s t o q line number short answered in
      record {
        replies = one.replies;
        ends =
            Consumes-whole a b line (λ bytes. TalkEnds p s served Finished bytes left one.replies) taken end
            (record { last = t; talk = rw cut one.talk; counted = rw cut (omega (arith, limit)) });
        given = AreRepliesGiven-all p s t (line ∷ []) one.replies one.talk;
        front = Prints-front o q (texts_of p one.replies) one.printed;
        whole = λ told. one.printed;
      }

  -- the last line, at which the run stops
  pub HasStopped-at_last : (stop : Stop) (a b left : Option (List ℕ)) (s t : S) (o q : Output) (line : List ℕ) (served number : ℕ)
      → Consumes a b line → IsWithin line → 0 < length line → IsAtEnd b → length line ≤ 1024 → number ≡ served + 1 → served < line_limit
      → AnswersLine p (Some stop) line number s t o q → HasStopped p stop a left s o q served
  HasStopped-at_last stop a b left s t o q line served number taken within some end short numbered limit answered =
      stopped_at stop a left s t o q line served number numbered limit short (λ xs. stops_last stop a b left s line served xs taken within some end) answered

  -- a line that is too long
  pub HasStopped-long : (a b left : Option (List ℕ)) (s : S) (o : Output) (part : List ℕ) (served number : ℕ)
      → Consumes a b part → IsWithin part → 1024 < length part → number ≡ served + 1 → served < line_limit → HasStopped p (Refused number Long) a left s o o served
  HasStopped-long a b left s o part served number taken within long numbered limit =
      HasStopped-quiet (Refused number Long) a left s o served
      (IfSome-ahead a b part (λ bytes. TalkEnds p s served (Refused number Long) bytes left []) taken
      (λ rest. TalkEnds-long p s served number left part rest within long numbered limit))

  -- nothing is ahead
  nothing_here : (s : S) (served : ℕ) (left : Option (List ℕ)) → served ≤ line_limit → TalkEnds p s served Finished [] left []
  nothing_here s served left limit = record { last = s; talk = rw no_lines (refl, refl); counted = rw no_lines (omega (arith, limit)) }

  pub HasStopped-end : (a b left : Option (List ℕ)) (s : S) (o : Output) (served : ℕ) → Consumes a b [] → IsAtEnd b → served ≤ line_limit → HasStopped p Finished a left s o o served
  HasStopped-end a b left s o served taken end limit =
      HasStopped-quiet Finished a left s o served
      (Consumes-whole a b [] (λ bytes. TalkEnds p s served Finished bytes left []) taken end (nothing_here s served left limit))

  unfinished_here : (a left : Option (List ℕ)) (s : S) (part : List ℕ) (served : ℕ) → Consumes a left part → IsWithin part → length part ≤ 1024 → served ≤ line_limit
      → (served ≡ line_limit → part ≡ []) → IfSome a (λ bytes. IsCutShortTalk p s served bytes left [])
  unfinished_here None left s part served taken within short counted limit = tt
  unfinished_here (Some bytes) left s part served taken within short counted limit =
      record {
        before = [];
        part = part;
        taken = taken;
        whole = All-nil IsWithin;
        unfinished = within;
        short = short;
        last = s;
        talk = (refl, refl);
        counted = omega (arith, counted);
        at_limit = λ full. limit (omega (arith, full));
      }

  -- a read fault in the middle of a line
  pub HasStopped-fault : (a left : Option (List ℕ)) (s : S) (o : Output) (part : List ℕ) (served : ℕ) → Consumes a left part → IsWithin part → length part ≤ 1024
      → served ≤ line_limit → (served ≡ line_limit → part ≡ []) → HasStopped p ReadFault a left s o o served
  HasStopped-fault a left s o part served taken within short counted limit =
      HasStopped-quiet ReadFault a left s o served (unfinished_here a left s part served taken within short counted limit)

  -- the limit is reached, and a byte follows
  pub HasStopped-limit : (a known left : Option (List ℕ)) (unread : List ℕ) (s : S) (o : Output) (served : ℕ) → Keeps a (prepend_known unread known)
      → 0 < length unread → served ≡ line_limit → HasStopped p TooManyLines a left s o o served
  HasStopped-limit a known left unread s o served kept some limit =
      let at_hand = prepend_known unread known in
      let taken = Consumes-trans a at_hand known [] unread (Consumes-kept a a at_hand [] (Consumes-nil a) kept) (all_unread known unread) in
      HasStopped-quiet TooManyLines a left s o served
      (IfSome-ahead a known unread (λ bytes. TalkEnds p s served TooManyLines bytes left []) taken
      (λ rest. record {
        front = front_nil p s (lines_of (unread ++ rest));
        counted = omega (arith, limit);
        more = lines_of-some (unread ++ rest) (rw length-append (omega arith));
      }))

  -- ---- what waited was put before

  HasStopped-put : (stop : Stop) (a left : Option (List ℕ)) (s : S) (o q r : Output) (k : ℕ) → Prints o q [] → HasStopped p stop a left s q r k → HasStopped p stop a left s o r k
  HasStopped-put stop a left s o q r k put stopped =
      record {
        replies = stopped.replies;
        ends = stopped.ends;
        given = stopped.given;
        front = PrintsFront-trans o q r [] (texts_of p stopped.replies) put stopped.front;
        whole = λ told. Prints-trans o q r [] (texts_of p stopped.replies) put (stopped.whole told);
      }

  pub Turns-put : (stop : Option Stop) (a b left : Option (List ℕ)) (s t : S) (o q r : Output) (k : ℕ) → Prints o q [] → Turns p stop a b left s t q r k → Turns p stop a b left s t o r k
  Turns-put None a b left s t o q r k put turn = (
    turn.0,
    turn.1,
    record {
      taken = turn.2.taken;
      within = turn.2.within;
      talk = turn.2.talk;
      running = turn.2.running;
      printed = Prints-trans o q r [] (texts_of p turn.1) put turn.2.printed;
    },
  )
  Turns-put (Some stop) a b left s t o q r k put turn = HasStopped-put stop a left s o q r k put turn
