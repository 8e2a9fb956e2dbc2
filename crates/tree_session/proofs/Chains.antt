-- Chains of answers from a new session on.
use Rattle.std.proofs.Common.{ℕ, ◌≡◌, ◌<◌, true, false, Bool, inl, inr, List, [], ◌∷◌, length, Some, None, refl, sym, ap, subst, ◌∙◌, rules}
use Rattle.std.proofs.lemmas.List.Elements.{All-nil, All-cons, All-head, All-tail}
use Rattle.tree_session.proofs.Common.{slice_set, slice_index_or, is_some, not, nat_lt, if◌then◌else◌, All, cases_lt, le-ltb, false≢true, length-replicate, set-get_or, none-some, Line, Exhibit, Shape, Setup, tree_lines, tree_size, line_of_node, line_of_slot, PlainTree, true_version, hurt_with, replicate-default, TreeCommand, TreeAnswer, SessionState, IsNewTree, is_made, tree_decided, IsPathTampered, IsSlotTampered, IsTreeAnswered, IsPlainKept, IsNodeExhibit, IsDataExhibit, IsShadowExhibit, ShowsEngine, TreeReply, AreTreeAnswered, IsTreeSession, History, first_history, history_with, history_after, is_answered_ok, IsAllowed, AreAllowed, MayShow, version_by, ShowsNode, ShowsLine, ShowsClash, IsTreeKept, IsTreeShown, IsTreeUntouched, IsNoTampering, IsTreeAnswerUnrefused}
use Rattle.asit_shadow.specs.Plain.{true_node}
use Rattle.tree_session.specs.declared.commands.TreeCommand.TheVariants as Do
use Rattle.tree_session.specs.declared.answers.TreeAnswer.TheVariants as Say
use Rattle.tree_session.proofs.Histories.{history_of, history-equal, TreeFollows, follows, path-kept, slot-kept, hurt-kept}

-- ---- the beginning

history-first : (setup : Setup) (first : SessionState) → IsNewTree setup first → history_of first.plain ≡ first_history setup.shape
history-first setup first new =
    history-equal (history_of first.plain) (first_history setup.shape) new.memory new.counts new.tampered new.hurt new.power new.fuse
    (ap is_some new.snapshot)

counts-first : (setup : Setup) (first : SessionState) → IsNewTree setup first → length first.plain.counts ≡ tree_lines setup.shape
counts-first setup first new = ap length new.counts ∙ length-replicate (tree_lines setup.shape) 0

-- ---- chains

next : (setup : Setup) (first : SessionState) (reply : TreeReply) (second : SessionState) → length first.plain.counts ≡ tree_lines setup.shape → IsTreeAnswered setup first reply.command reply.answer second
    → TreeFollows setup.shape first.plain second.plain reply.command reply.answer
next setup first reply second count it = follows setup first.plain second.plain reply.command reply.answer count it.answered

allowed-chain : (setup : Setup) (first last : SessionState) (replies : List TreeReply) → length first.plain.counts ≡ tree_lines setup.shape → AreTreeAnswered setup first replies last
    → AreAllowed setup.shape (history_of first.plain) replies
allowed-chain setup first last [] count it = tt
allowed-chain setup first last (reply ∷ replies) count it =
    let step = next setup first reply it.0 count it.1 in (
      step.allowed,
      subst (λ h. AreAllowed setup.shape h replies) step.history (allowed-chain setup it.0 last replies (step.count ∙ count) it.2),
    )

history-chain : (setup : Setup) (first last : SessionState) (replies : List TreeReply) → length first.plain.counts ≡ tree_lines setup.shape → AreTreeAnswered setup first replies last
    → history_of last.plain ≡ history_after setup.shape (history_of first.plain) replies
history-chain setup first last [] count it = ap (λ (s : SessionState). history_of s.plain) it
history-chain setup first last (reply ∷ replies) count it =
    let step = next setup first reply it.0 count it.1 in
    history-chain setup it.0 last replies (step.count ∙ count) it.2 ∙ ap (λ h. history_after setup.shape h replies) step.history

unshown-chain : (setup : Setup) (first last : SessionState) (replies : List TreeReply) → first.shown ≡ None → AreTreeAnswered setup first replies last → last.shown ≡ None
unshown-chain setup first last [] none it = ap (λ (s : SessionState). s.shown) it ∙ none
unshown-chain setup first last (reply ∷ replies) none it = unshown-chain setup it.0 last replies (it.1.kept.shown ∙ none) it.2

-- the law
pub kept : (setup : Setup) → IsTreeKept setup
kept setup replies last session =
    subst (λ h. AreAllowed setup.shape h replies) (history-first setup session.first session.is_new)
    (allowed-chain setup session.first last replies (counts-first setup session.first session.is_new) session.answered)

history-last : (setup : Setup) (replies : List TreeReply) (last : SessionState) → IsTreeSession setup replies last
    → history_of last.plain ≡ history_after setup.shape (first_history setup.shape) replies
history-last setup replies last session =
    history-chain setup session.first last replies (counts-first setup session.first session.is_new) session.answered
    ∙ ap (λ h. history_after setup.shape h replies) (history-first setup session.first session.is_new)

-- ---- exhibits

-- where the state decides nothing of a line, power is on and the line is there
served-from : (power : Bool) (a n : ℕ) (off past : TreeAnswer) → (if not power then Some off else if nat_lt a n then None else Some past) ≡ None
    → (power ≡ true) × (a < n)
served-from false a n off past is = absurd (none-some off (sym is))
served-from true a n off past is = search (rules, cases_lt, none-some, le-ltb)

dark-from : (power : Bool) (on : TreeAnswer) → (if power then Some on else None) ≡ None → power ≡ false
dark-from false on is = refl
dark-from true on is = absurd (none-some on (sym is))

version-is : (g : Shape) (plain : PlainTree) (x : ℕ) → true_version g plain x ≡ version_by g plain.counts x
unfolding true_node
version-is g plain x = refl

counts-kept : (before after : PlainTree) → IsPlainKept before after → after.counts ≡ before.counts
counts-kept before after plain = ap (λ (p : PlainTree). p.counts) plain

shows-node : (setup : Setup) (before after : PlainTree) (a : ℕ) (exhibit : Exhibit) → IsPlainKept before after → IsNodeExhibit setup after a exhibit → ShowsNode setup.shape (history_of before) a exhibit
shows-node setup before after a exhibit plain it = search (rules, version-is, counts-kept, path-kept)

shows-line : (setup : Setup) (before after : PlainTree) (a : ℕ) (exhibit : Exhibit) → IsPlainKept before after → IsDataExhibit setup after a exhibit → ShowsLine (history_of before) a exhibit
shows-line setup before after a exhibit plain it = search (rules, hurt-kept, counts-kept)

shows-clash : (setup : Setup) (before after : PlainTree) (exhibit : Exhibit) → IsPlainKept before after → IsShadowExhibit setup after exhibit → ShowsClash setup.shape (history_of before) exhibit
shows-clash setup before after exhibit plain it =
    record { position = it.position; first = _; second = _; place = slot-kept setup.shape before after plain it.place; its = it.its }

may-show : (setup : Setup) (before after : PlainTree) (command : TreeCommand) (exhibit : Exhibit) → tree_decided setup.shape before command ≡ None → IsPlainKept before after
    → ShowsEngine setup before command after exhibit → MayShow setup.shape (history_of before) command exhibit
may-show setup before after (Do.Write a line) exhibit undecided plain it =
    let served = served-from before.board.powered a (tree_lines setup.shape) Say.Off Say.Range undecided in
    (record { power = served.0; inside = served.1 }, it.0, shows-node setup before after a exhibit plain it.1)
may-show setup before after (Do.Read a) exhibit undecided plain it = search (rules, served-from, shows-node, shows-line)
may-show setup before after Do.On exhibit undecided plain it = (dark-from before.board.powered Say.Already undecided, shows-clash setup before after exhibit plain it)
may-show setup before after command exhibit undecided plain it = absurd it

-- the law
pub shown : (setup : Setup) → IsTreeShown setup
shown setup replies last new command exhibit session by =
    let none = unshown-chain setup session.first last replies session.is_new.shown session.answered in
    elim by [
      | inl it ↦ (
        it.holds,
        subst (λ h. MayShow setup.shape h command exhibit) (history-last setup replies last session)
            (may-show setup last.plain new.plain command exhibit it.undecided it.plain it.shows),
      )
      | inr again ↦ absurd (none-some exhibit (sym none ∙ again.0))
    ]

-- ---- without tampering

-- nothing was changed
record IsClear (history : History) : Type 0 where
  tampered : (d : ℕ) → slice_index_or history.tampered d false ≡ false
  hurt : (a : ℕ) → slice_index_or history.hurt a false ≡ false

clear-first : (g : Shape) → IsClear (first_history g)
clear-first g = record { tampered = λ d. replicate-default (tree_size g) d false; hurt = λ a. replicate-default (tree_lines g) a false }

clear-written : (history : History) (a : ℕ) → IsClear history → slice_set history.hurt a false ≡ history.hurt
clear-written history a clear = ap (λ (b : Bool). slice_set history.hurt a b) (sym (clear.hurt a)) ∙ set-get_or history.hurt a false

clear-from : (old new : History) → IsClear old → new.tampered ≡ old.tampered → new.hurt ≡ old.hurt → IsClear new
clear-from old new clear tampered hurt = search rules

clear-write : (g : Shape) (history : History) (a : ℕ) (line : Line) (answer : TreeAnswer) → IsClear history → IsClear (history_with g history (Do.Write a line) answer)
clear-write g history a line answer clear =
    clear-from history (history_with g history (Do.Write a line) answer) clear refl (of (is_made answer))
  where
    of : (made : Bool) → (if made then slice_set history.hurt a false else history.hurt) ≡ history.hurt
    of true = clear-written history a clear
    of false = refl

clear-change : (g : Shape) (history : History) (d : ℕ) (command : TreeCommand) (answer : TreeAnswer) → is_answered_ok answer ≡ false → IsClear history
    → (history_with g history command answer).tampered ≡ (if is_answered_ok answer then slice_set history.tampered d true else history.tampered)
    → (history_with g history command answer).hurt ≡ (if is_answered_ok answer then hurt_with g history.hurt d else history.hurt) → IsClear (history_with g history command answer)
clear-change g history d command answer none clear tampered hurt =
    clear-from history (history_with g history command answer) clear (tampered ∙ ap (λ (b : Bool). if b then slice_set history.tampered d true else history.tampered) none)
    (hurt ∙ ap (λ (b : Bool). if b then hurt_with g history.hurt d else history.hurt) none)

clear-next : (g : Shape) (history : History) (command : TreeCommand) (answer : TreeAnswer) → IsNoTampering command answer → IsClear history → IsClear (history_with g history command answer)
clear-next g history (Do.Write a line) answer none clear = clear-write g history a line answer clear
clear-next g history (Do.Poke d line) answer none clear = clear-change g history d (Do.Poke d line) answer none clear refl refl
clear-next g history (Do.Back d) answer none clear = clear-change g history d (Do.Back d) answer none clear refl refl
clear-next g history command answer none clear = clear-from history (history_with g history command answer) clear refl refl

untampered : (g : Shape) (history : History) (a x : ℕ) → IsClear history → IsPathTampered g history.tampered a x → ⊥
untampered g history a x clear it = false≢true (sym (clear.tampered (line_of_node g x)) ∙ it.its_line)

untampered-slot : (g : Shape) (history : History) → IsClear history → IsSlotTampered g history.tampered → ⊥
untampered-slot g history clear it = false≢true (sym (clear.tampered (line_of_slot g it.slot)) ∙ it.its_line)

no_node : (g : Shape) (history : History) (command : TreeCommand) (x s : ℕ) → IsClear history → IsAllowed g history command (Say.RefusedNode x s) → ⊥
no_node g history (Do.Write a line) x s clear it = untampered g history a x clear it.2
no_node g history (Do.Read a) x s clear it = untampered g history a x clear it.1
no_node g history (Do.Cut n) x s clear it = cc
no_node g history Do.Snap x s clear it = cc
no_node g history command x s clear it = it

no_data : (g : Shape) (history : History) (command : TreeCommand) (b s : ℕ) → IsClear history → IsAllowed g history command (Say.RefusedData b s) → ⊥
no_data g history (Do.Read a) b s clear it = false≢true (sym (clear.hurt a) ∙ it.2)
no_data g history (Do.Cut n) b s clear it = cc
no_data g history Do.Snap b s clear it = cc
no_data g history command b s clear it = it

no_shadow : (g : Shape) (history : History) (command : TreeCommand) (first found : List ℕ) (s : ℕ) → IsClear history → IsAllowed g history command (Say.RefusedShadow first found s) → ⊥
no_shadow g history Do.On first found s clear it = untampered-slot g history clear it.1
no_shadow g history (Do.Cut n) first found s clear it = cc
no_shadow g history Do.Snap first found s clear it = cc
no_shadow g history command first found s clear it = it

unrefused : (g : Shape) (history : History) (command : TreeCommand) (answer : TreeAnswer) → IsClear history → IsAllowed g history command answer → IsTreeAnswerUnrefused answer
unrefused g history command (Say.RefusedNode x s) clear it = no_node g history command x s clear it
unrefused g history command (Say.RefusedData b s) clear it = no_data g history command b s clear it
unrefused g history command (Say.RefusedShadow first found s) clear it = no_shadow g history command first found s clear it
unrefused g history command answer clear it = tt

unrefused-chain : (g : Shape) (history : History) (replies : List TreeReply) → IsClear history → All (λ (reply : TreeReply). IsNoTampering reply.command reply.answer) replies → AreAllowed g history replies
    → All (λ (reply : TreeReply). IsTreeAnswerUnrefused reply.answer) replies
unrefused-chain g history [] clear none it = All-nil (λ (reply : TreeReply). IsTreeAnswerUnrefused reply.answer)
unrefused-chain g history (reply ∷ replies) clear none it =
    All-cons (λ (reply : TreeReply). IsTreeAnswerUnrefused reply.answer) reply replies (unrefused g history reply.command reply.answer clear it.0)
    (unrefused-chain g (history_with g history reply.command reply.answer) replies (clear-next g history reply.command reply.answer (All-head (λ (reply : TreeReply). IsNoTampering reply.command reply.answer) reply replies none) clear) (All-tail (λ (reply : TreeReply). IsNoTampering reply.command reply.answer) reply replies none) it.1)

clear-chain : (g : Shape) (history : History) (replies : List TreeReply) → IsClear history → All (λ (reply : TreeReply). IsNoTampering reply.command reply.answer) replies → IsClear (history_after g history replies)
clear-chain g history [] clear none = clear
clear-chain g history (reply ∷ replies) clear none =
    clear-chain g (history_with g history reply.command reply.answer) replies (clear-next g history reply.command reply.answer (All-head (λ (reply : TreeReply). IsNoTampering reply.command reply.answer) reply replies none) clear) (All-tail (λ (reply : TreeReply). IsNoTampering reply.command reply.answer) reply replies none)

unshown : (g : Shape) (history : History) (command : TreeCommand) (exhibit : Exhibit) → IsClear history → MayShow g history command exhibit → ⊥
unshown g history (Do.Write a line) exhibit clear it = untampered g history a it.2.x clear it.2.place
unshown g history (Do.Read a) exhibit clear it = search (rules, untampered, false≢true)
unshown g history Do.On exhibit clear it = untampered-slot g history clear it.1.place
unshown g history command exhibit clear it = it

-- the law
pub untouched : (setup : Setup) → IsTreeUntouched setup
untouched setup replies last session none = (
  unrefused-chain setup.shape (first_history setup.shape) replies (clear-first setup.shape) none (kept setup replies last session),
  λ command exhibit new by.
      unshown setup.shape (history_after setup.shape (first_history setup.shape) replies) command exhibit
      (clear-chain setup.shape (first_history setup.shape) replies (clear-first setup.shape) none) (shown setup replies last new command exhibit session by).1,
)
