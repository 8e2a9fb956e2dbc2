-- Two runs of a call over a watched board, and of calls one after another: the answers are the same, and so are the states beside the
-- board, the steps taken, and the boards.
use Rattle.std.proofs.Common.{ℕ, ◌≡◌, ◌≤◌, ◌+◌, ◌-◌, Result, Ok, Err, refl, sym, ap, subst, ◌∙◌, inl, inr, arith}
use Rattle.std.specs.Prelude.{Bool, true, List, [], ◌∷◌, Option, Some, None, IfSome, option_map}
use Rattle.pmem_base.specs.declared.lines.Line.{Line}
use Rattle.pmem_base.specs.declared.registers.Regs.{Regs}
use Rattle.board.specs.declared.access.Access.{Access}
use Rattle.board.specs.Device.{Device}
use Rattle.board.specs.Memory.{BoardMemory}
use Rattle.watched_board.specs.declared.taken.Taken.{Taken}
use Rattle.watched_board.specs.Watching.{FollowsOn, device_during, none_taken, steps_in, counted, cuts_after}
use Rattle.call_plan.specs.Plans.{Plan, ended}
use Rattle.call_plan.specs.Following.{Follows}
use Rattle.call_plan.specs.Runs.{AreBelowEnd, BurnsFuse, IsRunOn, IsOutcome, IsChain}
use Rattle.call_plan.proofs.Determined.{on_or_off, determined_by_fuse}

lasts : (fuse : Option ℕ) (steps : ℕ) → IfSome fuse (λ n. steps ≤ n) → IfSome fuse (λ n. steps ≤ 0 + 0 + n)
lasts None steps it = it
lasts (Some n) steps it = (omega arith)

burns : (old new : BoardMemory) (taken : Taken) → IsRunOn old new taken
    → BurnsFuse old.fuse (device_during old none_taken) (device_during new taken)
burns old new taken run =
    record {
      lasting = λ on. lasts old.fuse (taken.writes + taken.latches) (run.follows.lasting on);
      spent = λ off. (steps_in taken, run.follows.spent off (run.within off), omega arith);
    }

below : (old new : BoardMemory) (taken : Taken) → IsRunOn old new taken → AreBelowEnd (device_during new taken)
below old new taken run =
    let few : taken.writes + taken.latches ≤ 65536 = run.follows.few in
    record { writes = omega arith; latches = omega arith }

told : {X : Type 0} (a b : X) → Some a ≡ Some b → a ≡ b
told a b same = cc

same_taken : (x y : Taken) → x.writes ≡ y.writes → x.latches ≡ y.latches → x.cuts ≡ y.cuts → x ≡ y
same_taken x y writes latches cuts =
    ap (λ (n : ℕ). let t : Taken = record { writes = n; latches = x.latches; cuts = x.cuts } in t) writes
    ∙ ap (λ (n : ℕ). let t : Taken = record { writes = y.writes; latches = n; cuts = x.cuts } in t) latches
    ∙ ap (λ (n : ℕ). let t : Taken = record { writes = y.writes; latches = y.latches; cuts = n } in t) cuts

same_fuse : (old a b : BoardMemory) (x y : Taken) → FollowsOn old a x → FollowsOn old b y → a.powered ≡ b.powered → x ≡ y → a.fuse ≡ b.fuse
same_fuse old a b x y first second powered taken =
    elim (on_or_off a.powered) [
      | inl on ↦
          first.burnt on ∙ ap (λ (t : Taken). option_map (λ n. n - steps_in t) old.fuse) taken ∙ sym (second.burnt (sym powered ∙ on))
      | inr off ↦ first.cleared off ∙ sym (second.cleared (sym powered ∙ off))
    ]

-- a board is its fields
pub same_board : (a b : BoardMemory) → a.lines ≡ b.lines → a.regs ≡ b.regs → a.powered ≡ b.powered → a.fuse ≡ b.fuse → a.snapshot ≡ b.snapshot
    → a.reads ≡ b.reads → a.writes ≡ b.writes → a.latches ≡ b.latches → a.cuts ≡ b.cuts → a.accesses ≡ b.accesses → a ≡ b
same_board a b lines regs powered fuse snapshot reads writes latches cuts accesses =
    ap (λ (l : List Line). record a { lines = l }) lines
    ∙ ap (λ (r : Regs). record a { lines = b.lines; regs = r }) regs
    ∙ ap (λ (p : Bool). record a { lines = b.lines; regs = b.regs; powered = p }) powered
    ∙ ap (λ (f : Option ℕ). record a { lines = b.lines; regs = b.regs; powered = b.powered; fuse = f }) fuse
    ∙ ap (λ (s : Option (List Line)).
    record b { snapshot = s; reads = a.reads; writes = a.writes; latches = a.latches; cuts = a.cuts; accesses = a.accesses }) snapshot
    ∙ ap (λ (n : ℕ). record b { reads = n; writes = a.writes; latches = a.latches; cuts = a.cuts; accesses = a.accesses }) reads
    ∙ ap (λ (n : ℕ). record b { writes = n; latches = a.latches; cuts = a.cuts; accesses = a.accesses }) writes
    ∙ ap (λ (n : ℕ). record b { latches = n; cuts = a.cuts; accesses = a.accesses }) latches
    ∙ ap (λ (n : ℕ). record b { cuts = n; accesses = a.accesses }) cuts
    ∙ ap (λ (l : List Access). record b { accesses = l }) accesses

pub determined_on_board : {E T : Type 0} {plan : Plan E T} {old a b : BoardMemory} {x y : Taken} {first second : Result T E} → old.powered ≡ true
    → IsRunOn old a x → IsRunOn old b y → Follows plan (device_during old none_taken) (device_during a x) first
    → Follows plan (device_during old none_taken) (device_during b y) second → (first ≡ second) × (a ≡ b) × (x ≡ y)
determined_on_board {plan = plan} {old = old} {a = a} {b = b} {x = x} {y = y} {first = first} {second = second} on run_a run_b it its =
    let same : (first ≡ second) × (device_during a x ≡ device_during b y) =
    determined_by_fuse old.fuse old.lines refl on (below old a x run_a) (below old b y run_b) (burns old a x run_a) (burns old b y run_b) it its in
    let device = same.1 in
    let powered : a.powered ≡ b.powered = ap (λ (d : Device). d.live) device in
    let writes : x.writes ≡ y.writes = ap (λ (d : Device). d.writes) device in
    let latches : x.latches ≡ y.latches = ap (λ (d : Device). d.latches) device in
    let cuts : x.cuts ≡ y.cuts = ap (λ (d : Device). d.cuts) device in
    let taken : x ≡ y = same_taken x y writes latches cuts in (
      same.0,
      same_board a b (told a.lines b.lines (ap (λ (d : Device). d.lines) device)) (ap (λ (d : Device). d.regs) device) powered
          (same_fuse old a b x y run_a.follows run_b.follows powered taken) (run_a.follows.snapshot ∙ sym run_b.follows.snapshot)
          (ap (λ (d : Device). d.reads) device)
          (run_a.follows.writes ∙ ap (λ (n : ℕ). counted old.writes n) writes ∙ sym run_b.follows.writes)
          (run_a.follows.latches ∙ ap (λ (n : ℕ). counted old.latches n) latches ∙ sym run_b.follows.latches)
          (run_a.follows.cuts ∙ ap (λ (n : ℕ). cuts_after old.cuts n) cuts ∙ sym run_b.follows.cuts)
          (told a.accesses b.accesses (ap (λ (d : Device). d.accesses) device)),
      taken,
    )

-- ---- a call

same_ok : {S A F : Type 0} (v w : A) (s t : S) → (let a : Result (S × A) (S × F) = Ok (s, v) in a ≡ Ok (t, w)) → (v ≡ w) × (s ≡ t)
same_ok {S = S} {A = A} v w s t e =
    let same : (let p : S × A = (s, v) in p ≡ (t, w)) = cc in
    (ap (λ (p : S × A). p.1) same, ap (λ (p : S × A). p.0) same)

same_fault : {S A F : Type 0} (v w : F) (s t : S) → (let a : Result (S × A) (S × F) = Err (s, v) in a ≡ Err (t, w)) → (v ≡ w) × (s ≡ t)
same_fault {S = S} {F = F} v w s t e =
    let same : (let p : S × F = (s, v) in p ≡ (t, w)) = cc in
    (ap (λ (p : S × F). p.1) same, ap (λ (p : S × F). p.0) same)

same_ends : {S A F : Type 0} (first second : Result A F) (left other : S) → ended first left ≡ ended second other → (first ≡ second) × (left ≡ other)
same_ends {A = A} {F = F} (Ok v) (Ok w) left other e =
    let both = same_ok v w left other e in let made : A → Result A F = Ok in (ap made both.0, both.1)
same_ends (Ok v) (Err w) left other e = absurd (cc)
same_ends (Err v) (Ok w) left other e = absurd (cc)
same_ends {A = A} {F = F} (Err v) (Err w) left other e =
    let both = same_fault v w left other e in let made : F → Result A F = Err in (ap made both.0, both.1)

-- two outcomes of one call, told by its plan, are the same
pub call_is_determined : {S A F : Type 0} {plan : Plan (S × F) (S × A)} {old a b : BoardMemory} {x y : Taken} {first second : Result A F} {left other : S}
    → old.powered ≡ true → IsOutcome plan old a x first left → IsOutcome plan old b y second other
    → (first ≡ second) × (left ≡ other) × (a ≡ b) × (x ≡ y)
call_is_determined {first = first} {second = second} {left = left} {other = other} on it its =
    let same = determined_on_board on it.run its.run it.follows its.follows in
    let end = same_ends first second left other same.0 in
    (end.0, end.1, same.1, same.2)

-- ---- calls one after another

same_failure : {A F : Type 0} (f g : F) → (let a : Result A F = Err f in a ≡ Err g) → (let x : Option F = Some f in x ≡ Some g)
same_failure {F = F} f g e = let same : f ≡ g = cc in let made : F → Option F = Some in ap made same

pub chain_is_determined : {X S A F : Type 0} (plan : X → S → Plan (S × F) (S × A)) (calls : List X) (old a b : BoardMemory) (state left other : S)
    (first second : Option F) → old.powered ≡ true → IsChain plan calls old state a left first → IsChain plan calls old state b other second
    → (first ≡ second) × (left ≡ other) × (a ≡ b)
unfolding IsChain
chain_is_determined plan [] old a b state left other first second on it its = (it.2 ∙ sym its.2, it.1 ∙ sym its.1, it.0 ∙ sym its.0)
chain_is_determined {A = A} plan (x ∷ later) old a b state left other first second on (inl s) (inl t) =
    let same = call_is_determined on s.outcome t.outcome in
    (s.ends ∙ same_failure {A = A} s.fault t.fault same.0 ∙ sym t.ends, same.1, same.2)
chain_is_determined plan (x ∷ later) old a b state left other first second on (inl s) (inr t) =
    let same = call_is_determined on s.outcome t.outcome in let no = same.0 in absurd (cc)
chain_is_determined plan (x ∷ later) old a b state left other first second on (inr s) (inl t) =
    let same = call_is_determined on s.outcome t.outcome in let no = same.0 in absurd (cc)
chain_is_determined {S = S} plan (x ∷ later) old a b state left other first second on (inr s) (inr t) =
    let same = call_is_determined on s.outcome t.outcome in
    chain_is_determined plan later s.mid a b s.between left other first second s.powered s.rest
    (subst (λ (m : BoardMemory). IsChain plan later m s.between b other second) (sym same.2)
    (subst (λ (u : S). IsChain plan later t.mid u b other second) (sym same.1) t.rest))
