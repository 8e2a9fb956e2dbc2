-- Replies that were put before the source was pulled.
use Rattle.std.proofs.Common.{rules, ◌≡◌, ◌≢◌, ◌∙◌, ℕ, List, [], ◌++◌, refl, sym, ap, subst, append_assoc, append-nil, inl, inr, Bool}
use Rattle.std.specs.Prelude.{◌⊎◌, length, Option, None, Some}
use Rattle.std.specs.List.{flat_map}
use Rattle.std.specs.Io.KnownBytes.{Appends}
use Rattle.std.proofs.KnownBytes.{Appends-trans}
use Rattle.pmem_base.specs.Shape.{Shape}
use Rattle.suite.specs.Formulas.{Formulas}
use Rattle.suite.specs.Setup.{Setup}
use Rattle.plain_model.specs.declared.Stop.{Stop}
use Rattle.plain_model.specs.declared.Stop.TheVariants.{WriteFault}
use Rattle.plain_model.specs.Lines.{ended}
use Rattle.plain_model.specs.Run.{Machine, start, steps_text}
use Rattle.trace_text.specs.Conversations.{Protocol, texts_of}
use Rattle.pmem_replay.specs.World.{WorldState}
use Rattle.pmem_replay.specs.Stepped.{IsNewWorld}
use Rattle.pmem_cli.specs.declared.ending.Ending.{Ending}
use Rattle.pmem_cli.specs.declared.ending.Ending.TheVariants.{Stopped}
use Rattle.pmem_cli.specs.declared.options.Task.{Task}
use Rattle.pmem_cli.specs.Endings.{ending_text}
use Rattle.pmem_cli.specs.Keys.{setup_chosen}
use Rattle.pmem_cli.specs.Printed.{Output, Prints, PrintsFront, PutsAtLeast, with_waiting}
use Rattle.pmem_cli.specs.Pulling.{PullsUndecided}
use Rattle.pmem_cli.specs.RepliesFirst.{HasRepliedFirst, TaskRepliesFirst, MachineRepliesFirst}
use Rattle.pmem_cli.specs.Logged.{logged_protocol, logged_texts, HasRepliedLoggedFirst}
use Rattle.pmem_cli.specs.Standing.{standing_of}
use Rattle.pmem_cli.specs.Replies.{world_protocol}
use Rattle.pmem_cli.specs.Sessions.{Session, telling, HasSpokenFirst, HasSaidFirst}
use Rattle.pmem_cli.specs.Talked.{HasToldFirst}
use Rattle.pmem_cli.specs.Turns.{HasServed, Turns}
use Rattle.pmem_cli.specs.Tree.{tree_chosen}
use Rattle.pmem_cli.specs.Txn.{txn_chosen}
use Rattle.pmem_cli.specs.Wear.{wear_chosen}
use Rattle.pmem_cli.proofs.StandingLemmas.{new_setup, new_machine}
use Rattle.pmem_cli.proofs.WorldTalks.{replied_of_told}
use Rattle.pmem_cli.proofs.LoggedTalks.{replied_of_logged}
use Rattle.pmem_cli.proofs.SpokenTalks.{spoken_first}

-- ---- what is put

-- a turn only appends
pub turn_appends : {S X : Type 0} (w : Protocol S X) (stop : Option Stop) (a b left : Option (List ℕ)) (s t : S) (p q : Output) (k : ℕ) → Turns w stop a b left s t p q k
    → (more : List ℕ) × Appends p.put q.put more
turn_appends w None a b left s t p q k turn = (turn.2.printed.done, turn.2.printed.appended)
turn_appends w (Some stop) a b left s t p q k turn = (turn.front.done, turn.front.appended)

-- what waited was put, and then more
puts_flushed : (p q : Output) (put : Option (List ℕ)) (more : List ℕ) → Prints p q [] → q.waiting ≡ [] → Appends q.put put more → PutsAtLeast p put []
puts_flushed p q put more printed none grown =
    let whole : p.waiting ++ [] ≡ printed.done = printed.in_order ∙ ap (λ l. printed.done ++ l) none ∙ append-nil printed.done in
    (more, rw whole (Appends-trans p.put q.put put printed.done more printed.appended grown))

-- a text was printed, and what waited of it was put
puts_after : (p q : Output) (put : Option (List ℕ)) (text : List ℕ) → Prints p q text → PutsAtLeast q put [] → PutsAtLeast p put text
puts_after p q put text printed (more, appended) =
    let in_order : printed.done ++ (q.waiting ++ [] ++ more) ≡ p.waiting ++ text ++ more =
    ap (λ l. printed.done ++ (l ++ more)) (append-nil q.waiting) ∙ sym (append_assoc printed.done q.waiting more) ∙ ap (λ l. l ++ more) (sym printed.in_order) in
    (more, subst (λ l. Appends p.put put l) in_order (Appends-trans p.put q.put put printed.done (q.waiting ++ [] ++ more) printed.appended appended))

puts_more : (p : Output) (put later : Option (List ℕ)) (text more : List ℕ) → PutsAtLeast p put text → Appends put later more → PutsAtLeast p later text
puts_more p put later text more (first, appended) grown = (
  first ++ more,
  subst (λ l. Appends p.put later l) (append_assoc (p.waiting ++ text) first more)
      (Appends-trans p.put put later (p.waiting ++ text ++ first) more appended grown),
)

-- the last line of an ending is put, if anything
pub ending_appends : (ending : Ending) (p : Output) (after : Option (List ℕ)) → (ending ≡ Stopped WriteFault → after ≡ p.put)
    → (ending ≢ Stopped WriteFault → PrintsFront p (with_waiting after []) (ending_text ending)) → (more : List ℕ) × Appends p.put after more
ending_appends ending p after kept front = search rules

-- ---- turns

-- what waited was put before a turn that may pull
pub pulled_flushed : {S X T : Type 0} (w : Protocol S X) (before now : T) (stop : Option Stop) (a b left : Option (List ℕ)) (s t : S) (p q r : Output) (k : ℕ) (P : Type 0)
    → Prints p q [] → Turns w stop a b left s t q r k → (now ≡ before) ⊎ ((q.waiting ≡ []) × P) → (now ≡ before) ⊎ (PutsAtLeast p r.put [] × P)
pulled_flushed w before now stop a b left s t p q r k P printed turn (inl same) = inl same
pulled_flushed w before now stop a b left s t p q r k P printed turn (inr pulled) =
    let grown = turn_appends w stop a b left s t q r k turn in
    inr (puts_flushed p q r.put grown.0 printed pulled.0 grown.1, pulled.1)

-- the lines before a pull were answered, and what waited was put
told_here : {S X : Type 0} (w : Protocol S X) (a b told : Option (List ℕ)) (s t : S) (p q : Output) (put : Option (List ℕ)) (ls : List (List ℕ)) (xs : List X)
    → HasServed w a b s t p q ls xs → PutsAtLeast q put [] → PullsUndecided (length ls) b told → HasToldFirst w s a told p put
told_here w None b told s t p q put ls xs served puts pulled = tt
told_here w (Some bytes) b None s t p q put ls xs served puts pulled = tt
told_here w (Some bytes) None (Some behind) s t p q put ls xs served puts pulled = absurd served.taken
told_here w (Some bytes) (Some rest) (Some behind) s t p q put ls xs served puts (part, taken, undecided) = (
  flat_map ended ls ++ part,
  served.taken ∙ ap (λ l. flat_map ended ls ++ l) taken ∙ sym (append_assoc (flat_map ended ls) part behind),
  record {
    lines = ls;
    part = part;
    cut = refl;
    whole = served.within;
    undecided = undecided;
    replies = xs;
    last = t;
    talk = served.talk;
    told = puts_after p q put (texts_of w xs) served.printed puts;
  },
)

-- more may be put since
pub told_more : {S X : Type 0} (w : Protocol S X) (s : S) (a told : Option (List ℕ)) (p : Output) (put later : Option (List ℕ)) (more : List ℕ)
    → HasToldFirst w s a told p put → Appends put later more → HasToldFirst w s a told p later
told_more w s None told p put later more before grown = tt
told_more w s (Some bytes) None p put later more before grown = tt
told_more w s (Some bytes) (Some behind) p put later more (given, cut, are) grown = (
  given,
  cut,
  record {
    lines = are.lines;
    part = are.part;
    cut = are.cut;
    whole = are.whole;
    undecided = are.undecided;
    replies = are.replies;
    last = are.last;
    talk = are.talk;
    told = puts_more p put later (texts_of w are.replies) more are.told grown;
  },
)

-- so it is of a new session
pub said_more : {S R : Type 0} (session : Session S R) (logged : Bool) (trace told : Option (List ℕ)) (o : Output) (put later : Option (List ℕ)) (more : List ℕ)
    → HasSaidFirst session logged trace told o put → Appends put later more → HasSaidFirst session logged trace told o later
said_more session logged trace told o put later more (first, begins, are) grown =
    (first, begins, told_more (telling session logged) first trace told o put later more are grown)

pub told_more_since : {S X T : Type 0} (w : Protocol S X) (first last : T) (s : S) (a told : Option (List ℕ)) (p : Output) (put later : Option (List ℕ)) (more : List ℕ)
    → (last ≡ first) ⊎ HasToldFirst w s a told p put → Appends put later more → (last ≡ first) ⊎ HasToldFirst w s a told p later
told_more_since w first last s a told p put later more (inl kept) grown = inl kept
told_more_since w first last s a told p put later more (inr before) grown = inr (told_more w s a told p put later more before grown)

-- after one more turn
pub told_turn : {S X T : Type 0} (w : Protocol S X) (first mid last : T) (remembered : T → Option (List ℕ)) (a b : Option (List ℕ)) (s t : S) (p q : Output) (put : Option (List ℕ))
    (ls : List (List ℕ)) (xs : List X) → HasServed w a b s t p q ls xs → (mid ≡ first) ⊎ HasToldFirst w s a (remembered mid) p q.put
    → (last ≡ mid) ⊎ (PutsAtLeast q put [] × PullsUndecided (length ls) b (remembered last)) → (more : List ℕ) × Appends q.put put more
    → (last ≡ first) ⊎ HasToldFirst w s a (remembered last) p put
told_turn w first mid last remembered a b s t p q put ls xs served (inl kept) (inl same) grown = inl (same ∙ kept)
told_turn w first mid last remembered a b s t p q put ls xs served (inr before) (inl same) grown =
    inr (rw same (told_more w s a (remembered mid) p q.put put grown.0 before grown.1))
told_turn w first mid last remembered a b s t p q put ls xs served before (inr pulled) grown =
    inr (told_here w a b (remembered last) s t p q put ls xs served pulled.0 pulled.1)

-- ---- a run over a world

-- more may be put since
pub replied_more : (setup : Setup) (machine : Machine) (a told : Option (List ℕ)) (p : Output) (put later : Option (List ℕ)) (more : List ℕ)
    → HasRepliedFirst setup machine a told p put → Appends put later more → HasRepliedFirst setup machine a told p later
replied_more setup machine None told p put later more replied grown = tt
replied_more setup machine (Some bytes) None p put later more replied grown = tt
replied_more setup machine (Some bytes) (Some behind) p put later more (given, cut, are) grown = (
  given,
  cut,
  record {
    lines = are.lines;
    part = are.part;
    cut = are.cut;
    whole = are.whole;
    undecided = are.undecided;
    steps = are.steps;
    run = are.run;
    replied = puts_more p put later (steps_text are.steps) more are.replied grown;
  },
)

-- the whole run, over a new world
pub replied_new : {T : Type 0} (first last : T) (f : List ℕ → Formulas) (shape : Shape) (keys : List ℕ) (world : WorldState) (a told : Option (List ℕ)) (p : Output)
    (put : Option (List ℕ)) → IsNewWorld (record { shape = shape; formulas = f keys }) world → world.keys ≡ keys
    → (last ≡ first) ⊎ HasToldFirst (world_protocol f) world a told p put
    → (last ≡ first) ⊎ HasRepliedFirst (record { shape = shape; formulas = f keys }) (start (record { shape = shape; formulas = f keys })) a told p put
replied_new first last f shape keys world a told p put is same (inl kept) = inl kept
replied_new first last f shape keys world a told p put is same (inr before) =
    let setup : Setup = record { shape = shape; formulas = f keys } in
    let replied = replied_of_told f world a told p put is.not_shown before in
    inr (subst (λ machine. HasRepliedFirst setup machine a told p put) (new_machine f setup world is)
    (subst (λ (u : Setup). HasRepliedFirst u (standing_of f world).machine a told p put) (new_setup f shape keys world is same) replied))

-- so it is with a log
replied_logged_more : (setup : Setup) (machine : Machine) (a told : Option (List ℕ)) (p : Output) (put later : Option (List ℕ)) (more : List ℕ)
    → HasRepliedLoggedFirst setup machine a told p put → Appends put later more → HasRepliedLoggedFirst setup machine a told p later
replied_logged_more setup machine None told p put later more replied grown = tt
replied_logged_more setup machine (Some bytes) None p put later more replied grown = tt
replied_logged_more setup machine (Some bytes) (Some behind) p put later more (given, cut, are) grown = (
  given,
  cut,
  record {
    lines = are.lines;
    part = are.part;
    cut = are.cut;
    whole = are.whole;
    undecided = are.undecided;
    all = are.all;
    run = are.run;
    replied = puts_more p put later (logged_texts are.all) more are.replied grown;
  },
)

pub replied_logged_new : {T : Type 0} (first last : T) (f : List ℕ → Formulas) (shape : Shape) (keys : List ℕ) (world : WorldState) (a told : Option (List ℕ)) (p : Output)
    (put : Option (List ℕ)) → IsNewWorld (record { shape = shape; formulas = f keys }) world → world.keys ≡ keys
    → (last ≡ first) ⊎ HasToldFirst (logged_protocol f) world a told p put
    → (last ≡ first) ⊎ HasRepliedLoggedFirst (record { shape = shape; formulas = f keys }) (start (record { shape = shape; formulas = f keys })) a told p put
replied_logged_new first last f shape keys world a told p put is same (inl kept) = inl kept
replied_logged_new first last f shape keys world a told p put is same (inr before) =
    let setup : Setup = record { shape = shape; formulas = f keys } in
    let replied = replied_of_logged f world a told p put is.not_shown before in
    inr (subst (λ machine. HasRepliedLoggedFirst setup machine a told p put) (new_machine f setup world is)
    (subst (λ (u : Setup). HasRepliedLoggedFirst u (standing_of f world).machine a told p put) (new_setup f shape keys world is same) replied))

-- and after the last line
pub task_replied_more : (task : Task) (a left told : Option (List ℕ)) (p : Output) (put later : Option (List ℕ)) (more : List ℕ)
    → MachineRepliesFirst task a left told p put → Appends put later more → MachineRepliesFirst task a left told p later
task_replied_more (Task.Run c) a left told p put later more replies grown =
    λ given. replied_more (setup_chosen c) (start (setup_chosen c)) a told p put later more (replies given) grown
task_replied_more (Task.Log c) a left told p put later more replies grown =
    λ given. replied_logged_more (setup_chosen c) (start (setup_chosen c)) a told p put later more (replies given) grown
task_replied_more (Task.Check c) a left told p put later more replies grown = replies
task_replied_more (Task.Wear c) a left told p put later more replies grown = λ given. said_more (wear_chosen c) c.log a told p put later more (replies given) grown
task_replied_more (Task.Tree c) a left told p put later more replies grown = λ given. said_more (tree_chosen c) c.log a told p put later more (replies given) grown
task_replied_more (Task.Txn c) a left told p put later more replies grown = λ given. said_more (txn_chosen c) c.log a told p put later more (replies given) grown
task_replied_more task a left told p put later more replies grown = tt

-- so its user sees it
spoken_so : {S R : Type 0} (session : Session S R) (logged : Bool) (trace told : Option (List ℕ)) (o : Output) (put : Option (List ℕ))
    → HasSaidFirst session logged trace told o put → HasSpokenFirst session.language logged trace told o put
spoken_so session logged trace told o put (first, begins, are) = spoken_first session logged first trace told o put are

pub task_replied : (task : Task) (a left told : Option (List ℕ)) (p : Output) (put : Option (List ℕ))
    → MachineRepliesFirst task a left told p put → TaskRepliesFirst task a left told p put
task_replied (Task.Run c) a left told p put replies = replies
task_replied (Task.Log c) a left told p put replies = replies
task_replied (Task.Check c) a left told p put replies = replies
task_replied (Task.Wear c) a left told p put replies = λ given. spoken_so (wear_chosen c) c.log a told p put (replies given)
task_replied (Task.Tree c) a left told p put replies = λ given. spoken_so (tree_chosen c) c.log a told p put (replies given)
task_replied (Task.Txn c) a left told p put replies = λ given. spoken_so (txn_chosen c) c.log a told p put (replies given)
task_replied task a left told p put replies = tt
