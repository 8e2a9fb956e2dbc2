-- What a posted write changes of a queue, and of what it shows.
use Rattle.std.proofs.Common.{◌≡◌, ℕ, zero, suc, ◌+◌, ◌≤◌, ◌<◌, ◌⊎◌, Bool, true, false, List, [], ◌∷◌, ◌++◌, length, get_or, take, refl, sym, ap, ap₂, subst, ◌∙◌, inl, inr, arith}
use Rattle.std.specs.Prelude.{◌==◌, ◌||◌, ◌&&◌, nat_le, map, filter, cond, if◌then◌else◌, slice_set, option_and_then, is_none, Option, Some, None, IfSome, All, IsTrue, IsErr, OnOk, OnErr, Result, Ok, Err, ◌↔◌}
use Rattle.std.proofs.lemmas.Bool.{cases_Bool, cases_eq, both_ways, or_right, eqb-true, eq-eqb, ne_eqb, and_parts, leb-false, false≢true, false_from_ne_true}
use Rattle.std.proofs.lemmas.Option.{same_Some, none-some}
use Rattle.std.proofs.lemmas.List.{append-nil, append_assoc, map-append, take-append-le, take_all, take_more, length-take-le, length-map, length-set, length-append, get_or-set_same, get_or-set_other}
use Rattle.std.proofs.lemmas.List.Elements.{All-head, All-tail, All-set, All-push, All-filter, filter-append}
use Rattle.std.proofs.lemmas.List.Folds.{list_any-append}
use Rattle.pmem_base.proofs.ListLaws.{All-append_left}
use Rattle.pmem_base.specs.declared.lines.Line.{Line}
use Rattle.pmem_base.specs.declared.commands.Posted.{Posted}
use Rattle.pmem_base.specs.Ranges.{IsPosted}
use Rattle.pmem_base.specs.WaitingWrites.{queue_of, writes_to, put_write, put_writes, has_byte, later_or, newest_to, is_whole, combined_place, put_at, queue_posted, is_queue_full}
use Rattle.write_ports.specs.Queues.{IsQueue, have_byte, ShowsPosted}
use Rattle.write_ports.proofs.WriteLemmas.{put_writes-append, length-put_write, length-put_writes, put_write_whole, whole_has}

-- ---- the newest write to a line

-- of one write more
pub newest_to-push : (xs : List Posted) (w : Posted) (a : ℕ)
    → newest_to (xs ++ w ∷ []) a ≡ (if w.at == a then Some (length xs, w) else newest_to xs a)
newest_to-push [] w a = refl
newest_to-push (x ∷ xs) w a = ap (later_or a x) (newest_to-push xs w a) ∙ by_line (w.at == a)
  where
    by_line : (b : Bool) → later_or a x (if b then Some (length xs, w) else newest_to xs a)
        ≡ (if b then Some (length (x ∷ xs), w) else later_or a x (newest_to xs a))
    by_line true = refl
    by_line false = refl

pub newest_to-here : (xs : List Posted) (i a : ℕ) (d : Posted) → i < length xs → (get_or xs i d).at ≡ a
    → newest_to (take (i + 1) xs) a ≡ Some (i, get_or xs i d)
newest_to-here xs i a d h same =
    ap (λ ws. newest_to ws a) (take_more xs i d h) ∙ newest_to-push (take i xs) (get_or xs i d) a
    ∙ ap (λ b. if b then Some (length (take i xs), get_or xs i d) else newest_to (take i xs) a) (eq-eqb (get_or xs i d).at a same)
    ∙ ap (λ n. Some (n, get_or xs i d)) (length-take-le i xs (omega (arith, h)))

pub newest_to-elsewhere : (xs : List Posted) (i a : ℕ) (d : Posted) → i < length xs → ((get_or xs i d).at ≡ a → ⊥)
    → newest_to (take (i + 1) xs) a ≡ newest_to (take i xs) a
newest_to-elsewhere xs i a d h apart =
    ap (λ ws. newest_to ws a) (take_more xs i d h) ∙ newest_to-push (take i xs) (get_or xs i d) a
    ∙ ap (λ b. if b then Some (length (take i xs), get_or xs i d) else newest_to (take i xs) a) (ne_eqb (get_or xs i d).at a apart)

pub within-more : (newest : Option (ℕ × Posted)) (n : ℕ) → IfSome newest (λ found. found.0 < n) → IfSome newest (λ found. found.0 < n + 1)
within-more None n it = tt
within-more (Some found) n it = omega (arith, it)

-- where none is found there is none
no_writes_to : (xs : List Posted) (a : ℕ) → newest_to xs a ≡ None → writes_to xs a ≡ []
no_writes_to [] a none = refl
no_writes_to (x ∷ xs) a none = by_later (no_writes_to xs a) (newest_to xs a) refl none
  where
    here : (b : Bool) → writes_to xs a ≡ [] → ◌≡◌ {A = Option (ℕ × Posted)} (if b then Some (0, x) else None) None → cond b (x ∷ writes_to xs a) (writes_to xs a) ≡ []
    here true rest it = absurd (none-some (0, x) (sym it))
    here false rest it = rest

    by_later : (newest_to xs a ≡ None → writes_to xs a ≡ []) → (later : Option (ℕ × Posted)) → newest_to xs a ≡ later
        → later_or a x later ≡ None → writes_to (x ∷ xs) a ≡ []
    by_later rest None is it = here (x.at == a) (rest is) it
    by_later rest (Some found) is it = absurd (none-some (suc found.0, found.1) (sym it))

-- A queue with a write in the place of the newest one to its line: the writes to that line but for the last are the
-- same, and so are those to other lines, and all places.
pub record IsReplaced (queue new : List Posted) (old write : Posted) : Type 0 where
  pub before : List Posted
  pub was : writes_to queue write.at ≡ before ++ old ∷ []
  pub now : writes_to new write.at ≡ before ++ write ∷ []
  pub others : (b : ℕ) → (b ≡ write.at → ⊥) → writes_to new b ≡ writes_to queue b
  pub places : map (λ (w : Posted). w.at) new ≡ map (λ (w : Posted). w.at) queue

-- the write's line is its own, and no other
same_line : (w : Posted) (rest : List Posted) → writes_to (w ∷ rest) w.at ≡ w ∷ writes_to rest w.at
same_line w rest = ap (λ b. cond b (w ∷ writes_to rest w.at) (writes_to rest w.at)) (eq-eqb w.at w.at refl)

other_line : (w : Posted) (rest : List Posted) (b : ℕ) → (b ≡ w.at → ⊥) → writes_to (w ∷ rest) b ≡ writes_to rest b
other_line w rest b apart =
    ap (λ c. cond c (w ∷ writes_to rest b) (writes_to rest b)) (ne_eqb w.at b (λ same. apart (sym same)))

pub replaced : (queue : List Posted) (write : Posted) (found : ℕ × Posted) → newest_to queue write.at ≡ Some found
    → IsReplaced queue (slice_set queue found.0 write) found.1 write
replaced [] write found it = absurd (none-some found it)
replaced (x ∷ xs) write found it = by_later (λ f there. replaced xs write f there) (newest_to xs write.at) refl it
  where
    -- it is in the rest
    behind : (f : ℕ × Posted) → IsReplaced xs (slice_set xs f.0 write) f.1 write
        → IsReplaced (x ∷ xs) (x ∷ slice_set xs f.0 write) f.1 write
    behind f rest = by_line (cases_Bool (x.at == write.at))
      where
        others : (b : ℕ) → (b ≡ write.at → ⊥) → writes_to (x ∷ slice_set xs f.0 write) b ≡ writes_to (x ∷ xs) b
        others b apart = ap (λ ws. cond (x.at == b) (x ∷ ws) ws) (rest.others b apart)

        by_line : (x.at == write.at ≡ true) ⊎ (x.at == write.at ≡ false) → IsReplaced (x ∷ xs) (x ∷ slice_set xs f.0 write) f.1 write
        by_line (inl here) =
            record {
              before = x ∷ rest.before;
              was = ap (λ b. cond b (x ∷ writes_to xs write.at) (writes_to xs write.at)) here ∙ ap (λ ws. x ∷ ws) rest.was;
              now =
                  ap (λ b. cond b (x ∷ writes_to (slice_set xs f.0 write) write.at) (writes_to (slice_set xs f.0 write) write.at)) here
                  ∙ ap (λ ws. x ∷ ws) rest.now;
              others = others;
              places = ap (λ ns. x.at ∷ ns) rest.places;
            }
        by_line (inr apart) =
            record {
              before = rest.before;
              was = ap (λ b. cond b (x ∷ writes_to xs write.at) (writes_to xs write.at)) apart ∙ rest.was;
              now =
                  ap (λ b. cond b (x ∷ writes_to (slice_set xs f.0 write) write.at) (writes_to (slice_set xs f.0 write) write.at)) apart
                  ∙ rest.now;
              others = others;
              places = ap (λ ns. x.at ∷ ns) rest.places;
            }

    -- it is the first, and none follows
    first : (b : Bool) → x.at == write.at ≡ b → writes_to xs write.at ≡ [] → (if b then Some (0, x) else None) ≡ Some found
        → IsReplaced (x ∷ xs) (slice_set (x ∷ xs) found.0 write) found.1 write
    first true same none is =
        let at : x.at ≡ write.at = eqb-true x.at write.at same in
        subst (λ (f : ℕ × Posted). IsReplaced (x ∷ xs) (slice_set (x ∷ xs) f.0 write) f.1 write) (same_Some (0, x) found is)
        (record {
          before = [];
          was = ap (λ b. cond b (x ∷ writes_to xs write.at) (writes_to xs write.at)) same ∙ ap (λ ws. x ∷ ws) none;
          now = same_line write xs ∙ ap (λ ws. write ∷ ws) none;
          others =
              λ b apart.
              other_line write xs b apart ∙ sym (other_line x xs b (λ same. apart (same ∙ at)));
          places = ap (λ n. n ∷ map (λ (w : Posted). w.at) xs) (sym at);
        })
    first false same none is = absurd (none-some found is)

    by_later : ((f : ℕ × Posted) → newest_to xs write.at ≡ Some f → IsReplaced xs (slice_set xs f.0 write) f.1 write)
        → (later : Option (ℕ × Posted)) → newest_to xs write.at ≡ later → later_or write.at x later ≡ Some found
        → IsReplaced (x ∷ xs) (slice_set (x ∷ xs) found.0 write) found.1 write
    by_later rest None none is = first (x.at == write.at) refl (no_writes_to xs write.at none) is
    by_later rest (Some f) there is =
        subst (λ (g : ℕ × Posted). IsReplaced (x ∷ xs) (slice_set (x ∷ xs) g.0 write) g.1 write) (same_Some (suc f.0, f.1) found is)
        (behind f (rest f there))

-- it stands in the queue
pub newest_in : (queue : List Posted) (a : ℕ) (found : ℕ × Posted) → newest_to queue a ≡ Some found → All IsPosted queue
    → (found.0 < length queue) × IsPosted found.1
newest_in [] a found it all = absurd (none-some found it)
newest_in (x ∷ xs) a found it all =
    by_later (λ f there. newest_in xs a f there (All-tail IsPosted x xs all)) (newest_to xs a) refl it
  where
    first : (b : Bool) → (if b then Some (0, x) else None) ≡ Some found → (found.0 < length (x ∷ xs)) × IsPosted found.1
    first true is =
        subst (λ (f : ℕ × Posted). (f.0 < length (x ∷ xs)) × IsPosted f.1) (same_Some (0, x) found is)
        (omega arith, All-head IsPosted x xs all)
    first false is = absurd (none-some found is)

    by_later : ((f : ℕ × Posted) → newest_to xs a ≡ Some f → (f.0 < length xs) × IsPosted f.1)
        → (later : Option (ℕ × Posted)) → newest_to xs a ≡ later → later_or a x later ≡ Some found
        → (found.0 < length (x ∷ xs)) × IsPosted found.1
    by_later rest None none is = first (x.at == a) is
    by_later rest (Some f) there is =
        let its = rest f there in
        subst (λ (g : ℕ × Posted). (g.0 < length (x ∷ xs)) × IsPosted g.1) (same_Some (suc f.0, f.1) found is)
        (omega (arith, its.0), its.1)

-- ---- what a queue shows after a post

-- both are whole lines where one takes the place of another
combined_found : (combines : Bool) (queue : List Posted) (write : Posted) (place : ℕ) → combined_place combines queue write ≡ Some place
    → (found : ℕ × Posted) × (newest_to queue write.at ≡ Some found) × (found.0 ≡ place) × (write.len ≡ 64) × (found.1.len ≡ 64)
combined_found combines queue write place it = by_newest (newest_to queue write.at) refl it
  where
    asked : ℕ × Posted → Option ℕ
    asked found = if combines && is_whole write && is_whole found.1 then Some found.0 else None

    by_test : (found : ℕ × Posted) (b : Bool) → (combines && is_whole write && is_whole found.1) ≡ b → (if b then Some found.0 else None) ≡ Some place
        → (found.0 ≡ place) × (write.len ≡ 64) × (found.1.len ≡ 64)
    by_test found true test is =
        let parts = and_parts (combines && is_whole write) (is_whole found.1) test in
        (same_Some found.0 place is, eqb-true write.len 64 (and_parts combines (is_whole write) parts.0).1, eqb-true found.1.len 64 parts.1)
    by_test found false test is = absurd (none-some place is)

    by_newest : (newest : Option (ℕ × Posted)) → newest_to queue write.at ≡ newest → option_and_then asked newest ≡ Some place
        → (found : ℕ × Posted) × (newest_to queue write.at ≡ Some found) × (found.0 ≡ place) × (write.len ≡ 64) × (found.1.len ≡ 64)
    by_newest None there is = absurd (none-some place is)
    by_newest (Some found) there is =
        let its = by_test found (combines && is_whole write && is_whole found.1) refl is in
        (found, there, its.0, its.1, its.2)

-- What is shown of the queue of one port.
pub record ShowsPostedIn (old new : List Posted) (write : Posted) : Type 0 where
  pub newest :
      (line : Line) → length line.0 ≡ 64
      → put_writes line (writes_to new write.at) ≡ put_write (put_writes line (writes_to old write.at)) write
  pub bytes :
      (i : ℕ) → i < 64
      → have_byte (writes_to new write.at) i ≡ (have_byte (writes_to old write.at) i || has_byte write i)
  pub others : (a : ℕ) → (a ≡ write.at → ⊥) → writes_to new a ≡ writes_to old a
  pub in_place : take (length old) (map (λ (w : Posted). w.at) new) ≡ map (λ (w : Posted). w.at) old

-- behind the others
shown_behind : (queue : List Posted) (write : Posted) → ShowsPostedIn queue (queue ++ write ∷ []) write
shown_behind queue write =
    record {
      newest =
          λ line long.
          ap (put_writes line) (at_end write.at ∙ ap (λ ws. writes_to queue write.at ++ ws) (same_line write []))
          ∙ put_writes-append line (writes_to queue write.at) (write ∷ []);
      bytes =
          λ i inside.
          ap (λ ws. have_byte ws i) (at_end write.at ∙ ap (λ ws. writes_to queue write.at ++ ws) (same_line write []))
          ∙ list_any-append (λ (w : Posted). has_byte w i) (writes_to queue write.at) (write ∷ [])
          ∙ ap (λ b. have_byte (writes_to queue write.at) i || b) (or_false (has_byte write i));
      others =
          λ a apart.
          at_end a ∙ ap (λ ws. writes_to queue a ++ ws) (other_line write [] a apart) ∙ append-nil (writes_to queue a);
      in_place =
          ap (take (length queue)) (map-append (λ (w : Posted). w.at) queue (write ∷ []))
          ∙ take-append-le (length queue) (map (λ (w : Posted). w.at) queue) (write.at ∷ []) (omega (arith, length-map queue (λ (w : Posted). w.at)))
          ∙ take_all (length queue) (map (λ (w : Posted). w.at) queue) (omega (arith, length-map queue (λ (w : Posted). w.at)));
    }
  where
    at_end : (a : ℕ) → writes_to (queue ++ write ∷ []) a ≡ writes_to queue a ++ writes_to (write ∷ []) a
    at_end a = filter-append (λ (w : Posted). w.at == a) queue (write ∷ [])

    or_false : (b : Bool) → (b || false) ≡ b
    or_false true = refl
    or_false false = refl

-- in the place of a whole line, where the write is one too
shown_replaced : (queue new : List Posted) (old write : Posted) → IsPosted old → IsPosted write → All IsPosted queue → old.len ≡ 64 → write.len ≡ 64
    → IsReplaced queue new old write → ShowsPostedIn queue new write
shown_replaced queue new old write its_old its_new all old_whole new_whole it =
    record {
      newest =
          λ line long.
          let before : All IsPosted (it.before ++ old ∷ []) =
          subst (λ ws. All IsPosted ws) it.was (All-filter (λ (w : Posted). w.at == write.at) IsPosted queue all) in
          let front = length-put_writes line it.before long (All-append_left IsPosted it.before (old ∷ []) before) in
          ap (put_writes line) it.now ∙ put_writes-append line it.before (write ∷ [])
          ∙ put_write_whole (put_writes line it.before) (put_write (put_writes line it.before) old) write front
          (length-put_write (put_writes line it.before) old front its_old) its_new new_whole
          ∙ sym (ap (λ l. put_write l write) (ap (put_writes line) it.was ∙ put_writes-append line it.before (old ∷ [])));
      bytes =
          λ i inside.
          let has : has_byte write i ≡ true = whole_has write i its_new new_whole inside in
          ap (λ ws. have_byte ws i) it.now ∙ list_any-append (λ (w : Posted). has_byte w i) it.before (write ∷ [])
          ∙ ap (λ b. have_byte it.before i || (b || false)) has ∙ or_right (have_byte it.before i) (true || false) refl
          ∙ sym (ap (λ b. have_byte (writes_to queue write.at) i || b) has ∙ or_right (have_byte (writes_to queue write.at) i) true refl);
      others = it.others;
      in_place =
          ap (take (length queue)) it.places
          ∙ take_all (length queue) (map (λ (w : Posted). w.at) queue) (omega (arith, length-map queue (λ (w : Posted). w.at)));
    }

-- what a post shows of its own port's queue
pub posted_shows : (combines : Bool) (queue : List Posted) (write : Posted) → IsPosted write → All IsPosted queue
    → ShowsPostedIn queue (queue_posted combines queue write) write
posted_shows combines queue write posted all = by_place (combined_place combines queue write) refl
  where
    by_place : (place : Option ℕ) → combined_place combines queue write ≡ place → ShowsPostedIn queue (put_at queue write place) write
    by_place None none = shown_behind queue write
    by_place (Some place) there =
        let found = combined_found combines queue write place there in
        let at = newest_in queue write.at found.0 found.1 all in
        subst (λ n. ShowsPostedIn queue (slice_set queue n write) write) found.2
        (shown_replaced queue (slice_set queue found.0.0 write) found.0.1 write at.1 posted all found.4 found.3
        (replaced queue write found.0 found.1))

-- ---- all ports

-- a post at one port leaves the others
pub shows_posted : (combines : Bool) (queues : List (List Posted)) (port : ℕ) (write : Posted) → port < length queues → IsPosted write
    → IsQueue (queue_of queues port)
    → ShowsPosted queues (slice_set queues port (queue_posted combines (queue_of queues port) write)) port write
shows_posted combines queues port write small posted its =
    let shown = posted_shows combines (queue_of queues port) write posted its.posted in
    let here : queue_of after port ≡ queue_posted combines (queue_of queues port) write = get_or-set_same queues port (queue_posted combines (queue_of queues port) write) [] small in
    record {
      newest = λ line long. ap (λ queue. put_writes line (writes_to queue write.at)) here ∙ shown.newest line long;
      bytes = λ i inside. ap (λ queue. have_byte (writes_to queue write.at) i) here ∙ shown.bytes i inside;
      others =
          λ h a apart.
          elim (cases_eq h port) [
            | inl same ↦
                ap (λ n. writes_to (queue_of after n) a) same ∙ ap (λ queue. writes_to queue a) here
                ∙ shown.others a (apart same) ∙ sym (ap (λ n. writes_to (queue_of queues n) a) same)
            | inr other ↦
                ap (λ queue. writes_to queue a)
                (get_or-set_other queues port h (queue_posted combines (queue_of queues port) write) [] other)
          ];
      in_place =
          ap (λ queue. take (length (queue_of queues port)) (map (λ (w : Posted). w.at) queue)) here ∙ shown.in_place;
    }
  where
    after : List (List Posted)
    after = slice_set queues port (queue_posted combines (queue_of queues port) write)

-- what holds for each write that waits and for the posted one
pub posted_all : (P : Posted → Type 0) (combines : Bool) (queue : List Posted) (write : Posted) → All P queue → P write
    → All P (queue_posted combines queue write)
posted_all P combines queue write all one = by_place (combined_place combines queue write)
  where
    by_place : (place : Option ℕ) → All P (put_at queue write place)
    by_place None = All-push P queue write all one
    by_place (Some place) = All-set P queue place write one all

-- the queue has room for it
pub posted_queue : (combines : Bool) (queue : List Posted) (write : Posted) → IsQueue queue → IsPosted write
    → is_queue_full combines queue write ≡ false → IsQueue (queue_posted combines queue write)
posted_queue combines queue write its posted room =
    record {
      room = by_place (combined_place combines queue write) room;
      posted = posted_all IsPosted combines queue write its.posted posted;
    }
  where
    by_place : (place : Option ℕ) → (is_none place && nat_le 16 (length queue)) ≡ false → length (put_at queue write place) ≤ 16
    by_place None free = omega (arith, length-append queue (write ∷ []), leb-false 16 (length queue) free)
    by_place (Some place) free = omega (arith, length-set queue place write, its.room)

-- ---- the call

-- the queue that it leaves
pub queue_after : {T E : Type 0} (result : Result T E) (combines : Bool) (old new : List Posted) (write : Posted)
    → (IsErr result ↔ IsTrue (is_queue_full combines old write)) → OnOk result (new ≡ queue_posted combines old write) → OnErr result (new ≡ old)
    → IsQueue old → IsPosted write → IsQueue new
queue_after (Ok t) combines old new write full ok err its posted =
    subst IsQueue (sym ok)
    (posted_queue combines old write its posted (false_from_ne_true (is_queue_full combines old write) (λ holds. false≢true (full.1 holds))))
queue_after (Err e) combines old new write full ok err its posted = subst IsQueue (sym err) its

-- what it shows
pub shows_after : {T E : Type 0} (result : Result T E) (combines : Bool) (queues : List (List Posted)) (n port : ℕ) (new : List Posted) (write : Posted)
    → n ≡ port → port < length queues → IsPosted write → IsQueue (queue_of queues port)
    → OnOk result (new ≡ queue_posted combines (queue_of queues port) write) → OnOk result (ShowsPosted queues (slice_set queues n new) port write)
shows_after (Ok t) combines queues n port new write same small posted its ok =
    subst (λ k. ShowsPosted queues (slice_set queues k new) port write) (sym same)
    (subst (λ queue. ShowsPosted queues (slice_set queues port queue) port write) (sym ok) (shows_posted combines queues port write small posted its))
shows_after (Err e) combines queues n port new write same small posted its ok = tt
