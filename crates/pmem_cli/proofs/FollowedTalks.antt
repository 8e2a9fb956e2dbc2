-- What was answered by one protocol was answered by another, in the same states and with the same texts.
use Rattle.std.proofs.Common.{◌≡◌, ◌∙◌, ℕ, List, [], ◌∷◌, ◌++◌, refl, sym, ap, subst, inl, inr, Bool, true, false, map}
use Rattle.std.specs.Prelude.{Option, None, Some, IfSome}
use Rattle.std.proofs.lemmas.List.Concat.{flat_map-append}
use Rattle.board.specs.declared.access.Access.{Access}
use Rattle.plain_model.specs.declared.Stop.{Stop}
use Rattle.plain_model.specs.declared.Stop.TheVariants.{Finished, Words, Memory, ReadFault, WriteFault, Refused, Shown, TooManyLines}
use Rattle.plain_model.specs.Lines.{lines_of}
use Rattle.trace_text.specs.Conversations.{Protocol, line_sort, texts_of, AnswersOne, IsTalk, AreRepliesGiven, IsShownTalk, TalkEnds}
use Rattle.pmem_cli.specs.Printed.{Output, PutsAtLeast}
use Rattle.pmem_cli.specs.Logged.{log_text}
use Rattle.pmem_cli.specs.Talked.{HasToldFirst}
use Rattle.pmem_cli.specs.Telling.{Told, ReplyAs, said_by, told_protocol, voice}
use Rattle.pmem_cli.proofs.TalkLemmas.{AreRepliesGiven-all, AreRepliesGiven-after, AreRepliesGiven-shown}

-- each reply by the first is one by the second with the same text, where an invariant of the states holds and stays
pub record Follows {S X Y : Type 0} (p : Protocol S X) (q : Protocol S Y) (I : S → Type 0) : Type 0 where
  pub sorts : (line : List ℕ) → line_sort q line ≡ line_sort p line
  pub wants : (old : S) (line : List ℕ) → I old → p.wants_memory old line → q.wants_memory old line
  pub answered :
      (old new : S) (line : List ℕ) (x : X) → I old → p.answers old line x new
      → (y : Y) × q.answers old line y new × (q.text_of y ≡ p.text_of x) × I new
  pub shown :
      (old new : S) (line : List ℕ) (x : X) → I old → p.shows old line x new
      → (y : Y) × q.shows old line y new × (q.text_of y ≡ p.text_of x)

module _ {S X Y : Type 0} (p : Protocol S X) (q : Protocol S Y) (I : S → Type 0) (f : Follows p q I) where
  -- ---- some lines

  follow_one : (old new : S) (line : List ℕ) (xs : List X) → I old → AnswersOne p old line xs new
      → (ys : List Y) × AnswersOne q old line ys new × (texts_of q ys ≡ texts_of p xs) × I new
  follow_one old new line xs i (inl (its_sort, none, same)) = (
    [],
    inl (f.sorts line ∙ its_sort, refl, same),
    rw none refl,
    subst I (sym same) i,
  )
  follow_one old new line xs i (inr (x, its_sort, one, answered)) =
      let its = f.answered old new line x i answered in (
        its.0 ∷ [],
        inr (its.0, f.sorts line ∙ its_sort, refl, its.1),
        rw one (ap (λ l. l ++ []) its.2),
        its.3,
      )

  pub follow_talk : (first last : S) (ls : List (List ℕ)) (xs : List X) → I first → IsTalk p first ls xs last
      → (ys : List Y) × IsTalk q first ls ys last × (texts_of q ys ≡ texts_of p xs) × I last
  follow_talk first last [] xs i (none, same) = ([], (refl, same), rw none refl, subst I (sym same) i)
  follow_talk first last (line ∷ ls) xs i (next, here, later, answered, split, more) =
      let one = follow_one first next line here i answered in
      let rest = follow_talk next last ls later one.3 more in (
        one.0 ++ rest.0,
        (next, one.0, rest.0, one.1, refl, rest.1),
        rw (split, flat_map-append q.text_of one.0 rest.0, flat_map-append p.text_of here later, one.2, rest.2) refl,
        rest.3,
      )

  pub follow_given : (first : S) (xs : List X) → I first → AreRepliesGiven p first xs
      → (ys : List Y) × AreRepliesGiven q first ys × (texts_of q ys ≡ texts_of p xs)
  follow_given first [] i given = ([], tt, refl)
  follow_given first (x ∷ xs) i (line, its_sort, inl (next, answered, more)) =
      let one = f.answered first next line x i answered in
      let rest = follow_given next xs one.3 more in (
        one.0 ∷ rest.0,
        (line, f.sorts line ∙ its_sort, inl (next, one.1, rest.1)),
        rw (one.2, rest.2) refl,
      )
  follow_given first (x ∷ xs) i (line, its_sort, inr (next, shown, none)) =
      let one = f.shown first next line x i shown in (
        one.0 ∷ [],
        (line, f.sorts line ∙ its_sort, inr (next, one.1, refl)),
        rw none (ap (λ l. l ++ []) one.2),
      )

  -- ---- stops

  -- what a stop says, with replies that have these texts
  abbrev Followed : (S → List Y → Type 0) → S → List X → Type 0
  Followed P first xs = (ys : List Y) × P first ys × AreRepliesGiven q first ys × (texts_of q ys ≡ texts_of p xs)

  follow_shown : (first : S) (served : ℕ) (lines : List (List ℕ)) (xs : List X) → I first → IsShownTalk p first served lines xs
      → Followed (λ s ys. IsShownTalk q s served lines ys) first xs
  follow_shown first served lines xs i ends =
      let talk = follow_talk first ends.middle ends.before ends.earlier i ends.talk in
      let one = f.shown ends.middle ends.after ends.line ends.last talk.3 ends.shown in
      let its_sort = f.sorts ends.line ∙ ends.its_sort in (
        talk.0 ++ one.0 ∷ [],
        record {
          before = ends.before;
          line = ends.line;
          behind = ends.behind;
          cut = ends.cut;
          earlier = talk.0;
          middle = ends.middle;
          talk = talk.1;
          last = one.0;
          all = refl;
          its_sort = its_sort;
          after = ends.after;
          shown = one.1;
          counted = ends.counted;
        },
        AreRepliesGiven-after q first ends.middle ends.before talk.0 (one.0 ∷ []) talk.1 (AreRepliesGiven-shown q ends.middle ends.after ends.line one.0 its_sort one.1),
        rw (ends.all, flat_map-append q.text_of talk.0 (one.0 ∷ []), flat_map-append p.text_of ends.earlier (ends.last ∷ []), talk.2, one.2) refl,
      )

  pub follow_ends : (stop : Stop) (first : S) (served : ℕ) (trace : List ℕ) (left : Option (List ℕ)) (xs : List X) → I first
      → TalkEnds p first served stop trace left xs
      → (ys : List Y) × TalkEnds q first served stop trace left ys × AreRepliesGiven q first ys × (texts_of q ys ≡ texts_of p xs)
  follow_ends Finished first served trace left xs i ends =
      let talk = follow_talk first ends.last (lines_of trace) xs i ends.talk in (
        talk.0,
        record { last = ends.last; talk = talk.1; counted = ends.counted },
        AreRepliesGiven-all q first ends.last (lines_of trace) talk.0 talk.1,
        talk.2,
      )
  follow_ends Memory first served trace left xs i ends =
      let talk = follow_talk first ends.last ends.before xs i ends.talk in (
        talk.0,
        record {
          before = ends.before;
          line = ends.line;
          behind = ends.behind;
          cut = ends.cut;
          last = ends.last;
          talk = talk.1;
          its_sort = f.sorts ends.line ∙ ends.its_sort;
          wanted = f.wants ends.last ends.line talk.3 ends.wanted;
          counted = ends.counted;
        },
        AreRepliesGiven-all q first ends.last ends.before talk.0 talk.1,
        talk.2,
      )
  follow_ends Words first served trace left xs i ends = absurd ends
  follow_ends ReadFault first served trace left xs i ends =
      let talk = follow_talk first ends.last ends.before xs i ends.talk in (
        talk.0,
        record {
          before = ends.before;
          part = ends.part;
          taken = ends.taken;
          whole = ends.whole;
          unfinished = ends.unfinished;
          short = ends.short;
          last = ends.last;
          talk = talk.1;
          counted = ends.counted;
          at_limit = ends.at_limit;
        },
        AreRepliesGiven-all q first ends.last ends.before talk.0 talk.1,
        talk.2,
      )
  follow_ends WriteFault first served trace left xs i (inl ends) =
      let talk = follow_talk first ends.front.last ends.front.before xs i ends.front.talk in (
        talk.0,
        inl (record {
          front = record { before = ends.front.before; behind = ends.front.behind; cut = ends.front.cut; last = ends.front.last; talk = talk.1 };
          counted = ends.counted;
        }),
        AreRepliesGiven-all q first ends.front.last ends.front.before talk.0 talk.1,
        talk.2,
      )
  follow_ends WriteFault first served trace left xs i (inr ends) =
      let its = follow_shown first served (lines_of trace) xs i ends in (its.0, inr its.1, its.2, its.3)
  follow_ends (Refused number kind) first served trace left xs i ends =
      let talk = follow_talk first ends.last ends.before xs i ends.talk in (
        talk.0,
        record {
          before = ends.before;
          line = ends.line;
          behind = ends.behind;
          cut = ends.cut;
          last = ends.last;
          talk = talk.1;
          refused = f.sorts ends.line ∙ ends.refused;
          numbered = ends.numbered;
          counted = ends.counted;
        },
        AreRepliesGiven-all q first ends.last ends.before talk.0 talk.1,
        talk.2,
      )
  follow_ends Shown first served trace left xs i ends = follow_shown first served (lines_of trace) xs i ends
  follow_ends TooManyLines first served trace left xs i ends =
      let talk = follow_talk first ends.front.last ends.front.before xs i ends.front.talk in (
        talk.0,
        record {
          front = record { before = ends.front.before; behind = ends.front.behind; cut = ends.front.cut; last = ends.front.last; talk = talk.1 };
          counted = ends.counted;
          more = ends.more;
        },
        AreRepliesGiven-all q first ends.front.last ends.front.before talk.0 talk.1,
        talk.2,
      )

  -- so it is where the source tells its bytes; and if it doesn't, of the replies alone
  pub follow_all : (stop : Stop) (first : S) (trace left : Option (List ℕ)) (xs : List X) → I first
      → IfSome trace (λ bytes. TalkEnds p first 0 stop bytes left xs) → AreRepliesGiven p first xs
      → (ys : List Y) × IfSome trace (λ bytes. TalkEnds q first 0 stop bytes left ys) × AreRepliesGiven q first ys × (texts_of q ys ≡ texts_of p xs)
  follow_all stop first None left xs i ends given =
      let its = follow_given first xs i given in (its.0, tt, its.1, its.2)
  follow_all stop first (Some bytes) left xs i ends given = follow_ends stop first 0 bytes left xs i ends

  -- ---- replies before a pull

  pub follow_told : (first : S) (trace told : Option (List ℕ)) (o : Output) (put : Option (List ℕ)) → I first
      → HasToldFirst p first trace told o put → HasToldFirst q first trace told o put
  follow_told first None told o put i before = tt
  follow_told first (Some bytes) None o put i before = tt
  follow_told first (Some bytes) (Some behind) o put i (given, cut, are) =
      let talk = follow_talk first are.last are.lines are.replies i are.talk in (
        given,
        cut,
        record {
          lines = are.lines;
          part = are.part;
          cut = are.cut;
          whole = are.whole;
          undecided = are.undecided;
          replies = talk.0;
          last = are.last;
          talk = talk.1;
          told = subst (λ text. PutsAtLeast o put text) (sym talk.2) are.told;
        },
      )

-- so it is where replies are told by themselves or with what their commands took
pub follows_voiced : {S X Y : Type 0} (p : Protocol S X) (q : Protocol S Y) (I : S → Type 0) (logs : S → List ℕ → Option (List Access) → Option (List Access) → S → Type 0)
    (work : S → ℕ × ℕ) (logged : Bool) → Follows p q I → Follows (voice p logs work logged) (voice q logs work logged) I
follows_voiced p q I logs work false f = f
follows_voiced p q I logs work true f =
    record {
      sorts = f.sorts;
      wants = λ old line i wanted. elim wanted [ inl its ↦ inl (f.wants old line i its) | inr lost ↦ inr lost ];
      answered = λ old new line told i answered.
          let one = f.answered old new line told.said i answered.0 in (
            record { said = one.0; accesses = told.accesses; tags = told.tags; digests = told.digests },
            (one.1, record { accessed = answered.1.accessed; tags = answered.1.tags; digests = answered.1.digests }),
            ap (λ text. log_text told.accesses told.tags told.digests ++ text) one.2,
            one.3,
          );
      shown = λ old new line told i shown.
          let one = f.shown old new line told.said i shown.0 in (
            record { said = one.0; accesses = told.accesses; tags = told.tags; digests = told.digests },
            (one.1, record { accessed = shown.1.accessed; tags = shown.1.tags; digests = shown.1.digests }),
            ap (λ text. log_text told.accesses told.tags told.digests ++ text) one.2,
          );
    }

-- what was said by replies was given by itself
untold : {S X : Type 0} (p : Protocol S X) (logs : S → List ℕ → Option (List Access) → Option (List Access) → S → Type 0) (work : S → ℕ × ℕ) (first : S)
    (all : List (Told X)) → AreRepliesGiven (told_protocol p logs work) first all → AreRepliesGiven p first (map (λ (told : Told X). told.said) all)
untold p logs work first [] given = tt
untold p logs work first (told ∷ all) (line, its_sort, inl (next, answered, more)) = (line, its_sort, inl (next, answered.0, untold p logs work next all more))
untold {S} {X} p logs work first (told ∷ all) (line, its_sort, inr (next, shown, none)) =
    (line, its_sort, inr (next, shown.0, ap (map (λ (told : Told X). told.said)) none))

pub said_given : {S X : Type 0} (p : Protocol S X) (logs : S → List ℕ → Option (List Access) → Option (List Access) → S → Type 0) (work : S → ℕ × ℕ) (logged : Bool)
    (first : S) (all : List (ReplyAs X logged)) → AreRepliesGiven (voice p logs work logged) first all → AreRepliesGiven p first (said_by X logged all)
said_given p logs work false first all given = given
said_given p logs work true first all given = untold p logs work first all given
