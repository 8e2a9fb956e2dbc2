-- A session that was made for a command, over a trace.
use Rattle.std.proofs.Common.{◌≡◌, ◌∙◌, ℕ, List, [], refl, sym, subst, subst₂, inl, inr, Bool}
use Rattle.std.specs.Prelude.{◌⊎◌, Option}
use Rattle.pmem_base.specs.Shape.{Shape}
use Rattle.suite.specs.Formulas.{Formulas}
use Rattle.suite.specs.Setup.{Setup}
use Rattle.plain_model.specs.declared.Stop.{Stop}
use Rattle.plain_model.specs.declared.Stop.TheVariants.{Memory}
use Rattle.trace_text.specs.Conversations.{Protocol, texts_of, AreRepliesGiven}
use Rattle.pmem_cli.specs.declared.options.Choices.{Choices}
use Rattle.pmem_cli.specs.Keys.{shape_chosen, formulas_of, setup_chosen, suite_keys_chosen}
use Rattle.pmem_cli.specs.Printed.{Output, Prints, PrintsFront}
use Rattle.pmem_cli.specs.Sessions.{Session, Said, session_protocol, telling, spoken, HasConversed, HasSaidFirst}
use Rattle.pmem_cli.specs.Talked.{HasToldFirst}
use Rattle.pmem_cli.specs.Telling.{ReplyAs, said_by, voice}
use Rattle.pmem_cli.specs.Turns.{HasStopped}
use Rattle.pmem_cli.proofs.FollowedTalks.{Follows, follow_all, follow_told, follows_voiced, said_given}
use Rattle.pmem_cli.proofs.KeyLemmas.{setup_same}
use Rattle.pmem_cli.proofs.SpokenTalks.{spoken_texts, spoken_ends, spoken_given}
use Rattle.pmem_cli.proofs.PrintLemmas.{Prints-nil, Prints-front}

-- memory was wanted for the session itself
pub HasConversed-memory : {S R : Type 0} (session : Session S R) (logged : Bool) (trace : Option (List ℕ)) (o : Output) → HasConversed session logged Memory trace trace o o
HasConversed-memory session logged trace o = record {
  replies = [];
  spoken_so = inl (refl, refl, refl);
  talked = inl (refl, refl, refl);
  printed = record { whole = λ told. Prints-nil o; front = Prints-front o o [] (Prints-nil o) };
}

-- whatever it says from a new state on is as it promises
abbrev pub KeepsPromise : {S R : Type 0} → Session S R → Type 0
KeepsPromise {S} {R} session =
    (first : S) (said : List (Said R)) → session.begins first → AreRepliesGiven (session_protocol session) first said
    → session.language.promises said × session.keeps first said

-- a session of commands and answers, by one of lines and texts
module _ {S R X : Type 0} (session : Session S R) (p : Protocol S X) (I : S → Type 0) (logged : Bool) (f : Follows p (session_protocol session) I) where
  abbrev its : Protocol S (ReplyAs X logged)
  its = voice p session.logs session.work logged

  follows : Follows its (telling session logged) I
  follows = follows_voiced p (session_protocol session) I session.logs session.work logged f

  pub HasConversed-stopped : (first : S) (stop : Stop) (trace left : Option (List ℕ)) (a b : Output) → KeepsPromise session → session.begins first → I first
      → HasStopped its stop trace left first a b 0 → HasConversed session logged stop trace left a b
  HasConversed-stopped first stop trace left a b keeps begins i stopped =
      let all = follow_all its (telling session logged) I follows stop first trace left stopped.replies i stopped.ends stopped.given in
      let kept =
      keeps first (said_by (Said R) logged all.0) begins (said_given (session_protocol session) session.logs session.work logged first all.0 all.2) in
      let same : texts_of (spoken session.language logged) all.0 ≡ texts_of its stopped.replies = spoken_texts session logged all.0 ∙ all.3 in
      record {
        replies = all.0;
        spoken_so =
            inr (record {
              ends = spoken_ends session logged first stop trace left all.0 all.1;
              given = spoken_given session logged first all.0 all.2;
              promised = kept.0;
            });
        talked = inr (record { first = first; begins = begins; ends = all.1; given = all.2; kept = kept.1 });
        printed = record {
          whole = λ told. subst (λ text. Prints a b text) (sym same) (stopped.whole told);
          front = subst (λ text. PrintsFront a b text) (sym same) stopped.front;
        };
      }

  pub said_first : {T : Type 0} (before now : T) (first : S) (trace told : Option (List ℕ)) (o : Output) (put : Option (List ℕ)) → session.begins first → I first
      → (now ≡ before) ⊎ HasToldFirst its first trace told o put → (now ≡ before) ⊎ HasSaidFirst session logged trace told o put
  said_first before now first trace told o put begins i (inl same) = inl same
  said_first before now first trace told o put begins i (inr are) =
      inr (first, begins, follow_told its (telling session logged) I follows first trace told o put i are)

-- ---- as it is chosen

module _ {S R : Type 0} (session : Setup → List ℕ → Session S R) (logged : Bool) where
  pub conversed_as : (c : Choices) (shape : Shape) (formulas : Formulas) (keys : List ℕ) (stop : Stop) (trace left : Option (List ℕ)) (a b : Output)
      → shape ≡ shape_chosen c → formulas ≡ formulas_of c → keys ≡ suite_keys_chosen c
      → HasConversed (session (record { shape = shape; formulas = formulas }) keys) logged stop trace left a b
      → HasConversed (session (setup_chosen c) (suite_keys_chosen c)) logged stop trace left a b
  conversed_as c shape formulas keys stop trace left a b its_shape its_formulas its_keys =
      subst₂ (λ (setup : Setup) (keys : List ℕ). HasConversed (session setup keys) logged stop trace left a b)
      (setup_same c shape formulas its_shape its_formulas) its_keys

  pub said_as : {T : Type 0} (before now : T) (c : Choices) (shape : Shape) (formulas : Formulas) (keys : List ℕ) (trace told : Option (List ℕ)) (o : Output)
      (put : Option (List ℕ)) → shape ≡ shape_chosen c → formulas ≡ formulas_of c → keys ≡ suite_keys_chosen c
      → (now ≡ before) ⊎ HasSaidFirst (session (record { shape = shape; formulas = formulas }) keys) logged trace told o put
      → (now ≡ before) ⊎ HasSaidFirst (session (setup_chosen c) (suite_keys_chosen c)) logged trace told o put
  said_as before now c shape formulas keys trace told o put its_shape its_formulas its_keys =
      subst₂ (λ (setup : Setup) (keys : List ℕ). (now ≡ before) ⊎ HasSaidFirst (session setup keys) logged trace told o put)
      (setup_same c shape formulas its_shape its_formulas) its_keys
