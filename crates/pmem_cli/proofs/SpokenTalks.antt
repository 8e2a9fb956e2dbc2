-- What a session answers by its states it says in its language, which knows none.
use Rattle.std.proofs.Common.{◌≡◌, ◌∙◌, ℕ, List, [], ◌∷◌, refl, sym, subst, inl, inr, Bool, true, false}
use Rattle.std.specs.Prelude.{Option, None, Some, IfSome}
use Rattle.plain_model.specs.declared.Stop.{Stop}
use Rattle.plain_model.specs.declared.Stop.TheVariants.{Finished, Words, Memory, ReadFault, WriteFault, Refused, Shown, TooManyLines}
use Rattle.plain_model.specs.Lines.{lines_of}
use Rattle.trace_text.specs.Conversations.{Protocol, line_sort, texts_of, AnswersOne, IsTalk, AreRepliesGiven, IsTalkFront, IsShownTalk, TalkEnds}
use Rattle.pmem_cli.specs.Printed.{Output, PutsAtLeast}
use Rattle.pmem_cli.specs.Sessions.{Session, Said, reply, exhibit, Replies, Shows, IsReplyTo, IsExhibitSaid, telling, spoken}
use Rattle.pmem_cli.specs.Talked.{HasToldFirst}
use Rattle.pmem_cli.specs.Telling.{ReplyAs}

-- a reply by the first is one by the second, for which one state is enough
record Forgets {S T X : Type 0} (p : Protocol S X) (q : Protocol T X) (t : T) : Type 0 where
  sorts : (line : List ℕ) → line_sort q line ≡ line_sort p line
  wants : (old : S) (line : List ℕ) → p.wants_memory old line → q.wants_memory t line
  answered : (old new : S) (line : List ℕ) (x : X) → p.answers old line x new → q.answers t line x t
  shown : (old new : S) (line : List ℕ) (x : X) → p.shows old line x new → q.shows t line x t

module _ {S T X : Type 0} (p : Protocol S X) (q : Protocol T X) (t : T) (f : Forgets p q t) where
  forget_one : (old new : S) (line : List ℕ) (xs : List X) → AnswersOne p old line xs new → AnswersOne q t line xs t
  forget_one old new line xs (inl (its_sort, none, same)) = inl (f.sorts line ∙ its_sort, none, refl)
  forget_one old new line xs (inr (x, its_sort, one, answered)) =
      inr (x, f.sorts line ∙ its_sort, one, f.answered old new line x answered)

  forget_talk : (first last : S) (ls : List (List ℕ)) (xs : List X) → IsTalk p first ls xs last → IsTalk q t ls xs t
  forget_talk first last [] xs (none, same) = (none, refl)
  forget_talk first last (line ∷ ls) xs (next, here, later, answered, split, more) =
      (t, here, later, forget_one first next line here answered, split, forget_talk next last ls later more)

  forget_given : (first : S) (xs : List X) → AreRepliesGiven p first xs → AreRepliesGiven q t xs
  forget_given first [] given = tt
  forget_given first (x ∷ xs) (line, its_sort, inl (next, answered, more)) =
      (line, f.sorts line ∙ its_sort, inl (t, f.answered first next line x answered, forget_given next xs more))
  forget_given first (x ∷ xs) (line, its_sort, inr (next, shown, none)) =
      (line, f.sorts line ∙ its_sort, inr (t, f.shown first next line x shown, none))

  forget_front : (first : S) (ls : List (List ℕ)) (xs : List X) → (front : IsTalkFront p first ls xs) → IsTalk q t front.before xs t
  forget_front first ls xs front = forget_talk first front.last front.before xs front.talk

  forget_shown : (first : S) (served : ℕ) (ls : List (List ℕ)) (xs : List X) → IsShownTalk p first served ls xs → IsShownTalk q t served ls xs
  forget_shown first served ls xs ends = record {
    before = ends.before;
    line = ends.line;
    behind = ends.behind;
    cut = ends.cut;
    earlier = ends.earlier;
    middle = t;
    talk = forget_talk first ends.middle ends.before ends.earlier ends.talk;
    last = ends.last;
    all = ends.all;
    its_sort = f.sorts ends.line ∙ ends.its_sort;
    after = t;
    shown = f.shown ends.middle ends.after ends.line ends.last ends.shown;
    counted = ends.counted;
  }

  forget_ends : (stop : Stop) (first : S) (served : ℕ) (trace : List ℕ) (left : Option (List ℕ)) (xs : List X)
      → TalkEnds p first served stop trace left xs → TalkEnds q t served stop trace left xs
  forget_ends Finished first served trace left xs ends =
      record { last = t; talk = forget_talk first ends.last (lines_of trace) xs ends.talk; counted = ends.counted }
  forget_ends Memory first served trace left xs ends = record {
    before = ends.before;
    line = ends.line;
    behind = ends.behind;
    cut = ends.cut;
    last = t;
    talk = forget_talk first ends.last ends.before xs ends.talk;
    its_sort = f.sorts ends.line ∙ ends.its_sort;
    wanted = f.wants ends.last ends.line ends.wanted;
    counted = ends.counted;
  }
  forget_ends Words first served trace left xs ends = absurd ends
  forget_ends ReadFault first served trace left xs ends = record {
    before = ends.before;
    part = ends.part;
    taken = ends.taken;
    whole = ends.whole;
    unfinished = ends.unfinished;
    short = ends.short;
    last = t;
    talk = forget_talk first ends.last ends.before xs ends.talk;
    counted = ends.counted;
    at_limit = ends.at_limit;
  }
  forget_ends WriteFault first served trace left xs (inl ends) =
      inl (record {
        front = record {
          before = ends.front.before;
          behind = ends.front.behind;
          cut = ends.front.cut;
          last = t;
          talk = forget_front first (lines_of trace) xs ends.front;
        };
        counted = ends.counted;
      })
  forget_ends WriteFault first served trace left xs (inr ends) = inr (forget_shown first served (lines_of trace) xs ends)
  forget_ends (Refused number kind) first served trace left xs ends = record {
    before = ends.before;
    line = ends.line;
    behind = ends.behind;
    cut = ends.cut;
    last = t;
    talk = forget_talk first ends.last ends.before xs ends.talk;
    refused = f.sorts ends.line ∙ ends.refused;
    numbered = ends.numbered;
    counted = ends.counted;
  }
  forget_ends Shown first served trace left xs ends = forget_shown first served (lines_of trace) xs ends
  forget_ends TooManyLines first served trace left xs ends = record {
    front = record {
      before = ends.front.before;
      behind = ends.front.behind;
      cut = ends.front.cut;
      last = t;
      talk = forget_front first (lines_of trace) xs ends.front;
    };
    counted = ends.counted;
    more = ends.more;
  }

  forget_told : (texts : (xs : List X) → texts_of q xs ≡ texts_of p xs) (first : S) (trace told : Option (List ℕ)) (o : Output) (put : Option (List ℕ))
      → HasToldFirst p first trace told o put → HasToldFirst q t trace told o put
  forget_told texts first None told o put before = tt
  forget_told texts first (Some bytes) None o put before = tt
  forget_told texts first (Some bytes) (Some behind) o put (given, cut, are) = (
    given,
    cut,
    record {
      lines = are.lines;
      part = are.part;
      cut = are.cut;
      whole = are.whole;
      undecided = are.undecided;
      replies = are.replies;
      last = t;
      talk = forget_talk first are.last are.lines are.replies are.talk;
      told = subst (λ text. PutsAtLeast o put text) (sym (texts are.replies)) are.told;
    },
  )

-- ---- a session and its language

module _ {S R : Type 0} (session : Session S R) where
  replied : (old new : S) (line : List ℕ) (said : Said R) → Replies session old line said new → IsReplyTo session.language line said
  replied old new line (reply its) answered = answered.0
  replied old new line (exhibit its) answered = answered

  is_exhibit : (old new : S) (line : List ℕ) (said : Said R) → Shows session old line said new → IsExhibitSaid said
  is_exhibit old new line (reply its) shown = shown
  is_exhibit old new line (exhibit its) shown = tt

  forgets : (logged : Bool) → Forgets (telling session logged) (spoken session.language logged) tt
  forgets false = record {
    sorts = λ line. refl;
    wants = λ old line wants. tt;
    answered = λ old new line said answered. replied old new line said answered;
    shown = λ old new line said shown. is_exhibit old new line said shown;
  }
  forgets true = record {
    sorts = λ line. refl;
    wants = λ old line wants. tt;
    answered = λ old new line told answered. replied old new line told.said answered.0;
    shown = λ old new line told shown. is_exhibit old new line told.said shown.0;
  }

  pub spoken_texts : (logged : Bool) (xs : List (ReplyAs (Said R) logged)) → texts_of (spoken session.language logged) xs ≡ texts_of (telling session logged) xs
  spoken_texts false xs = refl
  spoken_texts true xs = refl

  module _ (logged : Bool) (first : S) where
    pub spoken_ends : (stop : Stop) (trace left : Option (List ℕ)) (xs : List (ReplyAs (Said R) logged))
        → IfSome trace (λ bytes. TalkEnds (telling session logged) first 0 stop bytes left xs)
        → IfSome trace (λ bytes. TalkEnds (spoken session.language logged) tt 0 stop bytes left xs)
    spoken_ends stop None left xs ends = tt
    spoken_ends stop (Some bytes) left xs ends =
        forget_ends (telling session logged) (spoken session.language logged) tt (forgets logged) stop first 0 bytes left xs ends

    pub spoken_given : (xs : List (ReplyAs (Said R) logged)) → AreRepliesGiven (telling session logged) first xs → AreRepliesGiven (spoken session.language logged) tt xs
    spoken_given = forget_given (telling session logged) (spoken session.language logged) tt (forgets logged) first

    pub spoken_first : (trace told : Option (List ℕ)) (o : Output) (put : Option (List ℕ)) → HasToldFirst (telling session logged) first trace told o put
        → HasToldFirst (spoken session.language logged) tt trace told o put
    spoken_first = forget_told (telling session logged) (spoken session.language logged) tt (forgets logged) (spoken_texts logged) first
