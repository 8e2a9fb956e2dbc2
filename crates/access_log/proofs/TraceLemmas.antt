-- A log goes on by what the watched board answered.
use Rattle.std.proofs.Common.{◌≡◌, ℕ, ◌<◌, ◌≤◌, List, [], ◌∷◌, ◌++◌, refl, sym, ◌∙◌, ap, inl, inr, subst, arith, Option, Some, None}
use Rattle.std.specs.Prelude.{length, option_map, IfSome}
use Rattle.std.proofs.lemmas.List.{append-nil, append_assoc, append_cancel_left}
use Rattle.std.proofs.lemmas.Option.{same_Some}
use Rattle.pmem_base.specs.declared.lines.Line.{Line}
use Rattle.pmem_base.specs.declared.registers.Regs.{Regs}
use Rattle.pmem_base.specs.Counts.{last_count, risen}
use Rattle.board.specs.Counts.{RisesOnce}
use Rattle.board.specs.Memory.{BoardMemory}
use Rattle.board.specs.Steps.{HasRead, HasWritten, HasLatched, WasCut}
use Rattle.watched_board.specs.declared.taken.Taken.{Taken}
use Rattle.watched_board.specs.Watching.{counted, device_during, AreInCount, FollowsOn}
use Rattle.watched_board.proofs.StepLaws.{few_exact}
use Rattle.board.specs.declared.access.Access.{Access}
use Rattle.board.specs.declared.access.Access.TheVariants as Did
use Rattle.access_log.specs.Traced.{Traced, traced_of, after_access, after_accesses, LeadsTo, GoesOn, IsNoted}

-- one access more
after-append : (t : Traced) (accesses : List Access) (access : Access)
    → after_accesses t (accesses ++ access ∷ []) ≡ after_access (after_accesses t accesses) access
after-append t [] access = refl
after-append t (a ∷ later) access = after-append (after_access t a) later access

noted_some : (first : Traced) (log : Option (List Access)) (access : Access) (old new : BoardMemory) → traced_of new ≡ after_access (traced_of old) access
    → LeadsTo first log old → LeadsTo first (option_map (λ accesses. accesses ++ access ∷ []) log) new
noted_some first None access old new is leads = tt
noted_some first (Some accesses) access old new is leads =
    after-append first accesses access ∙ ap (λ t. after_access t access) leads ∙ sym is

-- an access that made the new board of the old one, and was noted
pub goes_on-noted : (before log_old log_new : Option (List Access)) (access : Access) (start old new : BoardMemory)
    → traced_of new ≡ after_access (traced_of old) access → IsNoted log_old access log_new → GoesOn before start log_old old → GoesOn before start log_new new
goes_on-noted before log_old log_new access start old new is (inl kept) goes first leads =
    subst (λ log. LeadsTo first log new) (sym kept) (noted_some first log_old access old new is (goes first leads))
goes_on-noted before log_old log_new access start old new is (inr lost) goes first leads =
    subst (λ log. LeadsTo first log new) (sym lost) tt

-- nothing that a log tells of was changed
pub goes_on-same : (before log_old log_new : Option (List Access)) (start old new : BoardMemory)
    → traced_of new ≡ traced_of old → log_new ≡ log_old → GoesOn before start log_old old → GoesOn before start log_new new
goes_on-same before log_old log_new start old new is same goes first leads =
    subst (λ log. LeadsTo first log new) (sym same)
    (subst (λ t. IfSome log_old (λ accesses. after_accesses first accesses ≡ t)) (sym is) (goes first leads))

-- a log that goes on and then goes on
pub goes_on-then : (a b c : Option (List Access)) (old mid new : BoardMemory) → GoesOn a old b mid → GoesOn b mid c new → GoesOn a old c new
goes_on-then a b c old mid new first second from leads = second from (first from leads)

-- the board before, or the board afterwards, as another one that the log tells the same of
pub goes_on-between : (log_old log_new : Option (List Access)) (old its_old its_new new : BoardMemory) → traced_of its_old ≡ traced_of old → traced_of new ≡ traced_of its_new
    → GoesOn log_old its_old log_new its_new → GoesOn log_old old log_new new
goes_on-between log_old log_new old its_old its_new new before after goes first leads =
    subst (λ t. IfSome log_new (λ accesses. after_accesses first accesses ≡ t)) (sym after)
    (goes first (subst (λ t. IfSome log_old (λ accesses. after_accesses first accesses ≡ t)) (sym before) leads))

same_traced : (a b : Traced) → a.lines ≡ b.lines → a.armed ≡ b.armed → a.reads ≡ b.reads → a.writes ≡ b.writes → a.latches ≡ b.latches
    → a.accesses ≡ b.accesses → a ≡ b
same_traced a b lines armed reads writes latches accesses = grind arith

-- ---- what a log holds

one_access : (t : Traced) (access : Access) → (after_access t access).accesses ≡ t.accesses ++ access ∷ []
one_access t (Did.Read at) = refl
one_access t (Did.Write at line) = refl
one_access t (Did.Latch armed) = refl

accesses_after : (t : Traced) (accesses : List Access) → (after_accesses t accesses).accesses ≡ t.accesses ++ accesses
accesses_after t [] = sym (append-nil t.accesses)
accesses_after t (access ∷ later) =
    accesses_after (after_access t access) later ∙ ap (λ (l : List Access). l ++ later) (one_access t access)
    ∙ append_assoc t.accesses (access ∷ []) later

-- the accesses of a log that was begun empty are those that the board answered since
pub exact_log : (old new : BoardMemory) (accesses : List Access) → GoesOn (Some []) old (Some accesses) new → new.accesses ≡ old.accesses ++ accesses
exact_log old new accesses goes =
    sym (ap (λ (t : Traced). t.accesses) (goes (traced_of old) refl)) ∙ accesses_after (traced_of old) accesses

pub same_log : (old new : BoardMemory) (accesses others : List Access) → GoesOn (Some []) old (Some accesses) new → GoesOn (Some []) old (Some others) new
    → accesses ≡ others
same_log old new accesses others it its =
    append_cancel_left old.accesses accesses others (sym (exact_log old new accesses it) ∙ exact_log old new others its)

-- ---- one access of a watched board

-- a count of the board rose with the call's own
rose : (before more later : ℕ) → before ≤ last_count → more < last_count → RisesOnce more later → counted before later ≡ risen (counted before more)
rose before more later in_range few once = omega (arith, in_range, few, once.is_risen)

-- a read
pub read-traced : (start old new : BoardMemory) (taken_old taken_new : Taken) (at : ℕ) (line : Line)
    → AreInCount start → FollowsOn start old taken_old → FollowsOn start new taken_new
    → HasRead (device_during old taken_old) at line (device_during new taken_new) → traced_of new ≡ after_access (traced_of old) (Did.Read at)
read-traced start old new taken_old taken_new at line in_count before after done =
    same_traced _ _ (same_Some _ _ done.lines) (ap (λ (r : Regs). length r.group.items) done.regs) done.reads.is_risen
    (after.writes ∙ ap (counted start.writes) done.writes ∙ sym before.writes)
    (after.latches ∙ ap (counted start.latches) done.latches ∙ sym before.latches) (same_Some _ _ done.accesses)

pub write-traced : (start old new : BoardMemory) (taken_old taken_new : Taken) (at : ℕ) (line : Line)
    → AreInCount start → FollowsOn start old taken_old → FollowsOn start new taken_new
    → HasWritten (device_during old taken_old) at line (device_during new taken_new) → traced_of new ≡ after_access (traced_of old) (Did.Write at line)
write-traced start old new taken_old taken_new at line in_count before after done =
    same_traced _ _ (same_Some _ _ done.lines) (ap (λ (r : Regs). length r.group.items) done.regs) done.reads
    (after.writes ∙ rose start.writes taken_old.writes taken_new.writes in_count.writes (few_exact taken_old before.few).0 done.writes ∙ ap risen (sym before.writes))
    (after.latches ∙ ap (counted start.latches) done.latches ∙ sym before.latches) (same_Some _ _ done.accesses)

pub latch-traced : (start old new : BoardMemory) (taken_old taken_new : Taken) (regs : Regs)
    → AreInCount start → FollowsOn start old taken_old → FollowsOn start new taken_new
    → HasLatched (device_during old taken_old) regs (device_during new taken_new) → traced_of new ≡ after_access (traced_of old) (Did.Latch (length regs.group.items))
latch-traced start old new taken_old taken_new regs in_count before after done =
    same_traced _ _ (same_Some _ _ done.lines) (ap (λ (r : Regs). length r.group.items) done.regs) done.reads
    (after.writes ∙ ap (counted start.writes) done.writes ∙ sym before.writes)
    (after.latches ∙ rose start.latches taken_old.latches taken_new.latches in_count.latches (few_exact taken_old before.few).1 done.latches ∙ ap risen (sym before.latches))
    (same_Some _ _ done.accesses)

pub cut-traced : (start old new : BoardMemory) (taken_old taken_new : Taken)
    → AreInCount start → FollowsOn start old taken_old → FollowsOn start new taken_new
    → WasCut (device_during old taken_old) (device_during new taken_new) → traced_of new ≡ traced_of old
cut-traced start old new taken_old taken_new in_count before after done =
    same_traced _ _ (same_Some _ _ done.lines) (ap (λ (r : Regs). length r.group.items) done.regs) done.reads
    (after.writes ∙ ap (counted start.writes) done.writes ∙ sym before.writes)
    (after.latches ∙ ap (counted start.latches) done.latches ∙ sym before.latches) (same_Some _ _ done.accesses)
