-- Two outcomes of one line in one session are the same.
use Rattle.std.proofs.Common.{◌≡◌, ◌∙◌, ℕ, Bool, true, false, List, [], refl, sym, ap, subst, subst₂}
use Rattle.std.specs.Prelude.{◌-◌, Option, Some, Result, Ok, Err}
use Rattle.std.proofs.lemmas.Bool.{true≢false}
use Rattle.any_suite.specs.Kinds.{any_formulas}
use Rattle.pmem_base.specs.declared.answers.Exhibit.{Exhibit}
use Rattle.pmem_base.specs.declared.answers.Answer.TheVariants as Say
use Rattle.pmem_base.specs.declared.commands.Command.{Command}
use Rattle.pmem_base.specs.declared.commands.Kind.{Kind}
use Rattle.board.specs.declared.access.Access.{Access}
use Rattle.plain_model.specs.Answers.{is_shown}
use Rattle.plain_model.specs.Grammar.{reading_of}
use Rattle.plain_model.specs.Run.{Step}
use Rattle.plain_model.specs.Texts.{answer_text}
use Rattle.pmem_replay.specs.Determined.{AreSameWorlds}
use Rattle.pmem_replay.specs.Logged.{IsLogged}
use Rattle.pmem_replay.specs.Stepped.{HasStepped}
use Rattle.pmem_replay.specs.World.{WorldState, IsWorld, setup_of_world}
use Rattle.pmem_replay.proofs.SameSteps.LogsAlike.{logged_alike}
use Rattle.pmem_replay.proofs.SameSteps.StepsAlike.{step_alike}
use Rattle.wear_session.proofs.DeterminedReplies as wear
use Rattle.wear_session.specs.Answers.{wear_text}
use Rattle.wear_session.specs.Commands.{reading_of_wear}
use Rattle.wear_session.specs.Determined.{IsWearReplied}
use Rattle.wear_session.specs.State.{WearState, wear_setup_in}
use Rattle.wear_session.specs.declared.answers.WearAnswer.{WearAnswer}
use Rattle.wear_session.specs.declared.commands.WearCommand.{WearCommand}
use Rattle.txn_session.proofs.DeterminedReplies as txn
use Rattle.txn_session.specs.Answers.{txn_text}
use Rattle.txn_session.specs.Commands.{reading_of_txn}
use Rattle.txn_session.specs.Determined.{IsTxnReplied}
use Rattle.txn_session.specs.State.{TxnState, txn_setup_in}
use Rattle.txn_session.specs.declared.answers.TxnAnswer.{TxnAnswer}
use Rattle.txn_session.specs.declared.commands.TxnCommand.{TxnCommand}
use Rattle.tree_session.proofs.DeterminedReplies as tree
use Rattle.tree_session.specs.Answers.{tree_text}
use Rattle.tree_session.specs.Commands.{reading_of_tree}
use Rattle.tree_session.specs.Determined.{IsTreeReplied}
use Rattle.tree_session.specs.State.{SessionState, tree_setup_in}
use Rattle.tree_session.specs.declared.answers.TreeAnswer.{TreeAnswer}
use Rattle.tree_session.specs.declared.commands.TreeCommand.{TreeCommand}
use Rattle.pmem_cli.proofs.SessionsAlike.{same_told}
use Rattle.pmem_cli.specs.Telling.{told_protocol}
use Rattle.any_session.specs.declared.Told.{Told}
use Rattle.any_session.specs.declared.Told.TheVariants.{Skipped, Replied, NoMemory, Faulty, Over}
use Rattle.any_session.specs.declared.kinds.AnySession.TheVariants.{Run, Wear, Txn, Tree}
use Rattle.any_session.specs.Determined.{IsWhole, ToldIsDetermined}
use Rattle.any_session.specs.Kinds.{wear_lines, txn_lines, tree_lines}
use Rattle.any_session.specs.Told.{Lines, IsReplyGoingOn, IsKept, HasTold}
use Rattle.any_session.specs.Worlds.{IsStepAt, IsWorldLogOf, world_lines}

-- ---- a line told, where its reply leaves nothing open

module _ {S X : Type 0} (lines : Lines S X) (R : S → S → Type 0) (old : S) (line : List ℕ) where
  -- what leaves nothing open: replies, exhibits, logs and counts
  pub record IsOpenNowhere : Type 0 where
    pub still : R old old
    pub answered : (a b : S) (x y : X) → lines.protocol.answers old line x a → lines.protocol.answers old line y b → (x ≡ y) × R a b
    pub shown : (a b : S) (x y : X) → lines.protocol.shows old line x a → lines.protocol.shows old line y b → (x ≡ y) × R a b
    pub apart : (a b : S) (x y : X) → lines.protocol.answers old line x a → lines.protocol.shows old line y b → ⊥
    pub logs :
        (over : Bool) (a b : S) (x y : X) (accesses others : List Access) → R a b → IsReplyGoingOn lines.protocol over old line x a
        → IsReplyGoingOn lines.protocol over old line y b → lines.logs old line (Some []) (Some accesses) a
        → lines.logs old line (Some []) (Some others) b → accesses ≡ others
    pub works : (a b : S) → R a b → lines.work a ≡ lines.work b

  module _ (exact : IsOpenNowhere) where
    replied : (over other : Bool) (x y : X) (a b : S) → IsReplyGoingOn lines.protocol over old line x a → IsReplyGoingOn lines.protocol other old line y b
        → (over ≡ other) × (x ≡ y) × R a b
    replied false false x y a b it its = let same = exact.answered a b x y it its in (refl, same.0, same.1)
    replied true true x y a b it its = let same = exact.shown a b x y it its in (refl, same.0, same.1)
    replied false true x y a b it its = absurd (exact.apart a b x y it its)
    replied true false x y a b it its = absurd (exact.apart b a y x its it)

    same_text : (logged over : Bool) (x y : X) (a b : S) (text other : List ℕ) → x ≡ y → R a b → IsReplyGoingOn lines.protocol over old line x a
        → IsReplyGoingOn lines.protocol over old line y b → IsKept lines logged true old line x a text → IsKept lines logged true old line y b other
        → text ≡ other
    same_text false over x y a b text other same like it its gave gives = gave ∙ ap lines.protocol.text_of same ∙ sym gives
    same_text true over x y a b text other same like it its gave gives =
        let work = exact.works a b like in
        let told : gave.0 ≡ gives.0 =
        same_told gave.0 gives.0 (gave.1 ∙ same ∙ sym gives.1) (exact.logs over a b x y gave.0.accesses gives.0.accesses like it its gave.2.accessed gives.2.accessed)
        (gave.2.tags ∙ ap (λ (n : ℕ × ℕ). n.0 - (lines.work old).0) work ∙ sym gives.2.tags)
        (gave.2.digests ∙ ap (λ (n : ℕ × ℕ). n.1 - (lines.work old).1) work ∙ sym gives.2.digests) in
        gave.3 ∙ ap (told_protocol lines.protocol lines.logs lines.work).text_of told ∙ sym gives.3

    -- nothing was done in either
    stayed : (a b : S) → a ≡ old → b ≡ old → R a b
    stayed a b first second = subst₂ R (sym first) (sym second) exact.still

    pub alike : (logged : Bool) (first second : Told) (text other : List ℕ) (was is its : Bool) (a b : S) → HasTold lines logged first line text was old is a
        → HasTold lines logged second line other was old its b → IsWhole first → IsWhole second
        → (first ≡ second) × (text ≡ other) × (is ≡ its) × R a b
    alike logged NoMemory second text other was is its a b one two whole full = absurd whole
    alike logged (Replied over false) second text other was is its a b one two whole full = absurd whole
    alike logged first NoMemory text other was is its a b one two whole full = absurd full
    alike logged first (Replied over false) text other was is its a b one two whole full = absurd full
    alike logged Over Over text other was is its a b one two whole full =
        (refl, one.3 ∙ sym two.3, one.1 ∙ sym two.1, stayed a b one.2 two.2)
    alike logged Over second text other was is its a b one two whole full = absurd (true≢false (sym one.0 ∙ two.0))
    alike logged first Over text other was is its a b one two whole full = absurd (true≢false (sym two.0 ∙ one.0))
    alike logged Skipped Skipped text other was is its a b one two whole full =
        (refl, one.4 ∙ sym two.4, one.1 ∙ sym two.1, stayed a b one.3 two.3)
    alike logged (Faulty kind) (Faulty another) text other was is its a b one two whole full =
        let same : kind ≡ another = cc (one.2, two.2) in (ap Faulty same, one.4 ∙ sym two.4, one.1 ∙ sym two.1, stayed a b one.3 two.3)
    alike logged (Replied over true) (Replied last true) text other was is its a b one two whole full =
        let x = one.3 in
        let y = two.3 in
        let same = replied over last x.0 y.0 a b x.1 y.1 in
        let going : IsReplyGoingOn lines.protocol over old line y.0 b =
        subst (λ o. IsReplyGoingOn lines.protocol o old line y.0 b) (sym same.0) y.1 in (
          ap (λ o. Replied o true) same.0,
          same_text logged over x.0 y.0 a b text other same.1 same.2 x.1 going x.2 y.2,
          one.1 ∙ same.0 ∙ sym two.1,
          same.2,
        )
    alike logged first second text other was is its a b one two whole full = absurd (cc (one.2, two.2))

-- ---- sessions in languages of their own

-- a line reads as one command
same_command : {C : Type 0} (a b : C) (reading : Result (Option C) Kind) → reading ≡ Ok (Some a) → reading ≡ Ok (Some b) → a ≡ b
same_command a b reading it its = cc

module _ {S C A : Type 0} (reading : Result (Option C) Kind) (text_of : A → List ℕ) (gives : C → Result A Exhibit → S → Type 0)
    (one : (a b : S) (asked : C) (first second : Result A Exhibit) → gives asked first a → gives asked second b → (first ≡ second) × (a ≡ b)) where
  at_command : (c d : C) (result : Result A Exhibit) (b : S) → reading ≡ Ok (Some c) → reading ≡ Ok (Some d) → gives d result b → gives c result b
  at_command c d result b it its gave = subst (λ (k : C). gives k result b) (same_command d c reading its it) gave

  pub answers_alike : (a b : S) (c d : C) (v w : A) (x y : List ℕ) → reading ≡ Ok (Some c) → reading ≡ Ok (Some d) → x ≡ text_of v → y ≡ text_of w
      → gives c (Ok v) a → gives d (Ok w) b → (x ≡ y) × (a ≡ b)
  answers_alike a b c d v w x y it its text other gave given =
      let same = one a b c (Ok v) (Ok w) gave (at_command c d (Ok w) b it its given) in
      let answer : v ≡ w = cc (same.0) in
      (text ∙ ap text_of answer ∙ sym other, same.1)

  pub exhibits_alike : (a b : S) (c d : C) (e f : Exhibit) (x y : List ℕ) → reading ≡ Ok (Some c) → reading ≡ Ok (Some d)
      → x ≡ answer_text (Say.Shown e) → y ≡ answer_text (Say.Shown f) → gives c (Err e) a → gives d (Err f) b → (x ≡ y) × (a ≡ b)
  exhibits_alike a b c d e f x y it its text other gave given =
      let same = one a b c (Err e) (Err f) gave (at_command c d (Err f) b it its given) in
      let exhibit : e ≡ f = cc (same.0) in
      (text ∙ ap (λ (s : Exhibit). answer_text (Say.Shown s)) exhibit ∙ sym other, same.1)

  pub not_both : (a b : S) (c d : C) (v : A) (f : Exhibit) → reading ≡ Ok (Some c) → reading ≡ Ok (Some d) → gives c (Ok v) a → gives d (Err f) b → ⊥
  not_both a b c d v f it its gave given =
      let same = one a b c (Ok v) (Err f) gave (at_command c d (Err f) b it its given) in cc (same.0)

one_wear : (old a b : WearState) (asked : WearCommand) (first second : Result WearAnswer Exhibit) → IsWearReplied (wear_setup_in any_formulas old) old asked first a
    → IsWearReplied (wear_setup_in any_formulas old) old asked second b → (first ≡ second) × (a ≡ b)
one_wear old a b asked first second it its = wear.replies_are_determined (wear_setup_in any_formulas old) old a b asked first second it its

wear_exact : (old : WearState) (line : List ℕ) → IsOpenNowhere wear_lines (λ a b. a ≡ b) old line
wear_exact old line =
    let setup = wear_setup_in any_formulas old in
    let reading = reading_of_wear line in
    let gives : WearCommand → Result WearAnswer Exhibit → WearState → Type 0 = λ c r new. IsWearReplied setup old c r new in
    record {
      still = refl;
      answered = λ a b x y it its.
          answers_alike reading wear_text gives (one_wear old) a b it.command its.command it.answer its.answer x y it.its_reading its.its_reading it.its_text
          its.its_text it.answered its.answered;
      shown = λ a b x y it its.
          exhibits_alike reading wear_text gives (one_wear old) a b it.2.command its.2.command it.0 its.0 x y it.2.its_reading its.2.its_reading it.1 its.1
          it.2.shown its.2.shown;
      apart = λ a b x y it its.
          not_both reading wear_text gives (one_wear old) a b it.command its.2.command it.answer its.0 it.its_reading its.2.its_reading it.answered its.2.shown;
      logs = λ over a b x y accesses others same it its log other.
          wear.same_logs reading old a accesses others log
          (subst (λ (s : WearState). wear_lines.logs old line (Some []) (Some others) s) (sym same) other);
      works = λ a b same. ap wear_lines.work same;
    }

one_txn : (old a b : TxnState) (asked : TxnCommand) (first second : Result TxnAnswer Exhibit) → IsTxnReplied (txn_setup_in any_formulas old) old asked first a
    → IsTxnReplied (txn_setup_in any_formulas old) old asked second b → (first ≡ second) × (a ≡ b)
one_txn old a b asked first second it its = txn.replies_are_determined (txn_setup_in any_formulas old) old a b asked first second it its

txn_exact : (old : TxnState) (line : List ℕ) → IsOpenNowhere txn_lines (λ a b. a ≡ b) old line
txn_exact old line =
    let setup = txn_setup_in any_formulas old in
    let reading = reading_of_txn line in
    let gives : TxnCommand → Result TxnAnswer Exhibit → TxnState → Type 0 = λ c r new. IsTxnReplied setup old c r new in
    record {
      still = refl;
      answered = λ a b x y it its.
          answers_alike reading txn_text gives (one_txn old) a b it.command its.command it.answer its.answer x y it.its_reading its.its_reading it.its_text
          its.its_text it.answered its.answered;
      shown = λ a b x y it its.
          exhibits_alike reading txn_text gives (one_txn old) a b it.2.command its.2.command it.0 its.0 x y it.2.its_reading its.2.its_reading it.1 its.1
          it.2.shown its.2.shown;
      apart = λ a b x y it its.
          not_both reading txn_text gives (one_txn old) a b it.command its.2.command it.answer its.0 it.its_reading its.2.its_reading it.answered its.2.shown;
      logs = λ over a b x y accesses others same it its log other.
          txn.same_logs reading old a accesses others log
          (subst (λ (s : TxnState). txn_lines.logs old line (Some []) (Some others) s) (sym same) other);
      works = λ a b same. ap txn_lines.work same;
    }

one_tree : (old a b : SessionState) (asked : TreeCommand) (first second : Result TreeAnswer Exhibit) → IsTreeReplied (tree_setup_in any_formulas old) old asked first a
    → IsTreeReplied (tree_setup_in any_formulas old) old asked second b → (first ≡ second) × (a ≡ b)
one_tree old a b asked first second it its = tree.replies_are_determined (tree_setup_in any_formulas old) asked first second old a b it its

tree_exact : (old : SessionState) (line : List ℕ) → IsOpenNowhere tree_lines (λ a b. a ≡ b) old line
tree_exact old line =
    let setup = tree_setup_in any_formulas old in
    let reading = reading_of_tree line in
    let gives : TreeCommand → Result TreeAnswer Exhibit → SessionState → Type 0 = λ c r new. IsTreeReplied setup old c r new in
    record {
      still = refl;
      answered = λ a b x y it its.
          answers_alike reading tree_text gives (one_tree old) a b it.command its.command it.answer its.answer x y it.its_reading its.its_reading it.its_text
          its.its_text it.answered its.answered;
      shown = λ a b x y it its.
          exhibits_alike reading tree_text gives (one_tree old) a b it.2.command its.2.command it.0 its.0 x y it.2.its_reading its.2.its_reading it.1 its.1
          it.2.shown its.2.shown;
      apart = λ a b x y it its.
          not_both reading tree_text gives (one_tree old) a b it.command its.2.command it.answer its.0 it.its_reading its.2.its_reading it.answered its.2.shown;
      logs = λ over a b x y accesses others same it its log other.
          tree.same_logs reading old a accesses others log
          (subst (λ (s : SessionState). tree_lines.logs old line (Some []) (Some others) s) (sym same) other);
      works = λ a b same. ap tree_lines.work same;
    }

-- ---- the world of a run

-- a world is the same as itself
same_world : (world : WorldState) → AreSameWorlds world world
same_world world =
    record {
      keys = refl;
      alike =
          record {
            shape = refl;
            start = refl;
            shown = refl;
            state = λ hidden. refl;
            parts = record { board = refl; engine = refl; ledger = refl; tags = refl; digests = refl };
          };
    }

-- a step is its command and its reply
same_step : (x y : Step) → x.command ≡ y.command → x.reply ≡ y.reply → x ≡ y
same_step x y command reply = λ i. record { command = command i; reply = reply i }

module _ (old : WorldState) (line : List ℕ) (whole : IsWorld (setup_of_world any_formulas old) old) where
  steps : (a b : WorldState) (x y : Step) → IsStepAt any_formulas old line x a → IsStepAt any_formulas old line y b → (x ≡ y) × AreSameWorlds a b
  steps a b x y it its =
      let asked : y.command ≡ x.command = same_command y.command x.command (reading_of line) its.reading it.reading in
      let same =
      step_alike (setup_of_world any_formulas old) old a b x.command x.reply y.reply whole it.stepped.stepped
      (subst (λ (c : Command). HasStepped (setup_of_world any_formulas old) old c y.reply b) asked its.stepped.stepped) in
      (same_step x y (sym asked) same.0, same.1)

  going : (over : Bool) (x : Step) (a : WorldState) → IsReplyGoingOn (world_lines any_formulas).protocol over old line x a → IsStepAt any_formulas old line x a
  going false x a it = it.0
  going true x a it = it.0

  one_log : (a b : WorldState) (x y : Step) (accesses others : List Access) → IsStepAt any_formulas old line x a → IsStepAt any_formulas old line y b
      → IsWorldLogOf old line (Some []) (Some accesses) a → IsWorldLogOf old line (Some []) (Some others) b → accesses ≡ others
  one_log a b x y accesses others it its log other =
      let asked : y.command ≡ x.command = same_command y.command x.command (reading_of line) its.reading it.reading in
      let first : log.command ≡ x.command = same_command log.command x.command (reading_of line) log.reading it.reading in
      let second : other.command ≡ x.command = same_command other.command x.command (reading_of line) other.reading it.reading in
      logged_alike (setup_of_world any_formulas old) old a b x.command x.reply y.reply accesses others whole it.stepped.stepped
      (subst (λ (c : Command). HasStepped (setup_of_world any_formulas old) old c y.reply b) asked its.stepped.stepped)
      (subst (λ (c : Command). IsLogged c (Some []) old.board (Some accesses) a.board) first log.logged)
      (subst (λ (c : Command). IsLogged c (Some []) old.board (Some others) b.board) second other.logged)

  run_exact : IsOpenNowhere (world_lines any_formulas) AreSameWorlds old line
  run_exact =
      record {
        still = same_world old;
        answered = λ a b x y it its. steps a b x y it.0 its.0;
        shown = λ a b x y it its. steps a b x y it.0 its.0;
        apart = λ a b x y it its.
            let same = steps a b x y it.0 its.0 in
            true≢false (sym its.1 ∙ ap (λ (s : Step). is_shown s.reply.answer) (sym same.0) ∙ it.1);
        logs = λ over a b x y accesses others same it its log other. one_log a b x y accesses others (going over x a it) (going over y b its) log other;
        works = λ a b same. λ i. (same.alike.parts.tags i, same.alike.parts.digests i);
      }

-- ---- any session

-- an exhibit ended it
over_alike : (first second : Told) (text other : List ℕ) (was is its : Bool) (old a b : WorldState) (line : List ℕ) (logged : Bool) → was ≡ true
    → HasTold (world_lines any_formulas) logged first line text was old is a → HasTold (world_lines any_formulas) logged second line other was old its b
    → (first ≡ second) × (text ≡ other) × AreSameWorlds a b
over_alike Over Over text other was is its old a b line logged ended one two =
    (refl, one.3 ∙ sym two.3, subst₂ AreSameWorlds (sym one.2) (sym two.2) (same_world old))
over_alike Over second text other was is its old a b line logged ended one two = absurd (true≢false (sym ended ∙ two.0))
over_alike first second text other was is its old a b line logged ended one two = absurd (true≢false (sym ended ∙ one.0))

run_alike : (shown : Bool) (first second : Told) (text other : List ℕ) (old a b : WorldState) (line : List ℕ) (logged : Bool) → old.shown ≡ shown
    → (old.shown ≡ false → IsWorld (setup_of_world any_formulas old) old) → HasTold (world_lines any_formulas) logged first line text old.shown old a.shown a
    → HasTold (world_lines any_formulas) logged second line other old.shown old b.shown b → IsWhole first → IsWhole second
    → (first ≡ second) × (text ≡ other) × AreSameWorlds a b
run_alike true first second text other old a b line logged is held one two whole full =
    over_alike first second text other old.shown a.shown b.shown old a b line logged is one two
run_alike false first second text other old a b line logged is held one two whole full =
    let same =
    alike (world_lines any_formulas) AreSameWorlds old line (run_exact old line (held is)) logged first second text other old.shown a.shown b.shown a b one two
    whole full in
    (same.0, same.1, same.3)

pub told_alike : ToldIsDetermined
told_alike (Run old) (Run a) (Run b) line first second text other held one two whole full =
    let same =
    run_alike old.world.shown first second text other old.world a.world b.world line old.logged refl held one.1 two.1 whole full in
    (same.0, same.1, (one.0 ∙ sym two.0, same.2))
told_alike (Wear old) (Wear a) (Wear b) line first second text other held one two whole full =
    let same =
    alike wear_lines (λ s t. s ≡ t) old.session line (wear_exact old.session line) old.logged first second text other old.over a.over b.over a.session
    b.session one.1 two.1 whole full in
    (same.0, same.1, λ i. Wear (record { session = same.3 i; logged = (one.0 ∙ sym two.0) i; over = same.2 i }))
told_alike (Txn old) (Txn a) (Txn b) line first second text other held one two whole full =
    let same =
    alike txn_lines (λ s t. s ≡ t) old.session line (txn_exact old.session line) old.logged first second text other old.over a.over b.over a.session
    b.session one.1 two.1 whole full in
    (same.0, same.1, λ i. Txn (record { session = same.3 i; logged = (one.0 ∙ sym two.0) i; over = same.2 i }))
told_alike (Tree old) (Tree a) (Tree b) line first second text other held one two whole full =
    let same =
    alike tree_lines (λ s t. s ≡ t) old.session line (tree_exact old.session line) old.logged first second text other old.over a.over b.over a.session
    b.session one.1 two.1 whole full in
    (same.0, same.1, λ i. Tree (record { session = same.3 i; logged = (one.0 ∙ sym two.0) i; over = same.2 i }))
told_alike (Run old) (Run a) b line first second text other held one two whole full = absurd two
told_alike (Wear old) (Wear a) b line first second text other held one two whole full = absurd two
told_alike (Txn old) (Txn a) b line first second text other held one two whole full = absurd two
told_alike (Tree old) (Tree a) b line first second text other held one two whole full = absurd two
told_alike old a b line first second text other held one two whole full = absurd one
