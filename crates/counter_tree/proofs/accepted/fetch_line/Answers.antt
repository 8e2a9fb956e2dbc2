-- A line whose tag fits.
use Rattle.std.proofs.Common.{ℕ, ◌≡◌, ◌≢◌, List, Option, Some, None, Result, Ok, Err, subst, ◌∙◌, rules}
use Rattle.counter_tree.proofs.Common.{IfSome, Line, shape_of, tag_slot, Forged, HasRead, Setup, unsealed, ended_err, version_counter, WatchState, last_seal_of, HasShown, LineSeal, FetchFault, line_of_tag, ReadParts, read_parts}
use Rattle.counter_tree.specs.declared.accepted.FetchFault.TheVariants as Fail
use Rattle.counter_tree.proofs.AcceptedLemmas.{unsealed-some}
use Rattle.counter_tree.proofs.ReadPlans.{watch_shown, leaving, seal_of, line_unread, line_half_read, line_refused, line_accepted, line_shown}
use Rattle.counter_tree.proofs.accepted.fetch_line.Given.{Over}
use Rattle.counter_tree.proofs.accepted.fetch_line.Goals.{After-tag_at-tag}
use Rattle.counter_tree.proofs.accepted.fetch_line.Goals as goal

pub returns-in-Stop-clause-fetched : goal.returns-in-Stop-clause-fetched
returns-in-Stop-clause-fetched g c =
    let f = g.S.Suite.formulas_of (g.S.Suite.keys c.args.suite.now) in
    let watch = g.W.Watch.watched c.args.watch.now in
    let it = unsealed-some f c.args.at (version_counter c.args.counter) c.in_ok-cipher.cipher c.tag_at-tag.result c.in-Some.plain c.in-Some.ensures.value in
    record {
      cipher = c.in_ok-cipher.cipher;
      tags = c.in_ok-tag_line.tag_line;
      read =
          record {
            between = g.B.Board.device c.read_line.new.self;
            first = c.in_ok-cipher.ensures.ok;
            second =
                subst (λ (p : ℕ). HasRead (g.B.Board.device c.read_line.new.self) p c.in_ok-tag_line.tag_line (g.B.Board.device c.read_line-2.new.self)) c.tag_place.ensures.value
                c.in_ok-tag_line.ensures.ok;
          };
      fits = it.0 ∙ c.tag_at-tag.ensures;
      exhibit =
          subst
          (λ (t : List ℕ). IfSome (last_seal_of watch c.args.at) (λ (seal : LineSeal). (c.in_ok-cipher.cipher ≢ seal.cipher) × HasShown watch (g.W.Watch.watched c.see_line.new.self) (Forged c.args.at (version_counter seal.counter) c.in_ok-cipher.cipher t)))
          c.tag_at-tag.ensures c.in-Stop.ensures;
    }

pub returns-in-On-clause-fetched : goal.returns-in-On-clause-fetched
returns-in-On-clause-fetched g c =
    let f = g.S.Suite.formulas_of (g.S.Suite.keys c.args.suite.now) in
    let it = unsealed-some f c.args.at (version_counter c.args.counter) c.in_ok-cipher.cipher c.tag_at-tag.result c.in-Some.plain c.in-Some.ensures.value in
    record {
      cipher = c.in_ok-cipher.cipher;
      tags = c.in_ok-tag_line.tag_line;
      read =
          record {
            between = g.B.Board.device c.read_line.new.self;
            first = c.in_ok-cipher.ensures.ok;
            second =
                subst (λ (p : ℕ). HasRead (g.B.Board.device c.read_line.new.self) p c.in_ok-tag_line.tag_line (g.B.Board.device c.read_line-2.new.self)) c.tag_place.ensures.value
                c.in_ok-tag_line.ensures.ok;
          };
      fits = it.0 ∙ c.tag_at-tag.ensures;
      its_plain = it.1;
      seen = c.in-On.ensures.0;
      watch_kept = c.in-On.ensures.1;
    }

-- ---- the plan

module _ (g : Over) (c : After-tag_at-tag g) where
  abbrev setup : Setup
  setup = record { shape = shape_of c.args.geo.now; formulas = g.S.Suite.formulas_of (g.S.Suite.keys c.args.suite.now) }

  abbrev watch : WatchState
  watch = g.W.Watch.watched c.args.watch.now

  abbrev parts : ReadParts
  parts = read_parts watch (g.S.Suite.pads c.args.suite.now) (g.S.Suite.tags c.args.suite.now)

  second : HasRead (g.B.Board.device c.read_line.new.self) (line_of_tag setup.shape c.args.at) c.in_ok-tag_line.tag_line
      (g.B.Board.device c.read_line-2.new.self)
  second = search rules

  opened : (plain : Option Line) → plain ≡ unsealed setup.formulas c.args.at (version_counter c.args.counter) c.in_ok-cipher.cipher c.tag_at-tag.result
      → unsealed setup.formulas c.args.at (version_counter c.args.counter) c.in_ok-cipher.cipher (tag_slot c.in_ok-tag_line.tag_line 0) ≡ plain
  opened plain is = search rules

pub returns-in_err-cipher-clause-plan : goal.returns-in_err-cipher-clause-plan
returns-in_err-cipher-clause-plan g c = search (rules, ended_err, line_unread)

pub returns-in_err-tag_line-clause-plan : goal.returns-in_err-tag_line-clause-plan
returns-in_err-tag_line-clause-plan g c = search (rules, ended_err, line_half_read)

pub returns-in-None-clause-plan : goal.returns-in-None-clause-plan
returns-in-None-clause-plan g c =
    let here = (goal.at.returns-in-None-clause-plan g c).After-tag_at-tag in
    let refused : Result Line FetchFault = Err Fail.Refused in
    leaving refused (read_parts (watch g here) (g.S.Suite.pads c.unseal.new.suite) (g.S.Suite.tags c.unseal.new.suite))
    (λ i. read_parts (watch g here) (c.in-None.ensures.pads i) (c.unseal.ensures.tags i))
    (line_refused (setup g here) c.args.at c.args.counter (parts g here) c.in_ok-cipher.ensures.ok c.is_whole.ensures (second g here) c.is_whole-2.ensures
    (opened g here None c.in-None.ensures.value))

pub returns-in-On-clause-plan : goal.returns-in-On-clause-plan
returns-in-On-clause-plan g c =
    let here = (goal.at.returns-in-On-clause-plan g c).After-tag_at-tag in
    let accepted : Result Line FetchFault = Ok c.in-Some.plain in
    let seal = seal_of (last_seal_of (watch g here) c.args.at) c.requires.sealed in
    leaving accepted (read_parts (g.W.Watch.watched c.see_line.new.self) (g.S.Suite.pads c.unseal.new.suite) (g.S.Suite.tags c.unseal.new.suite))
    (λ i. read_parts (c.in-On.ensures.1 i) (c.in-Some.ensures.pads i) (c.unseal.ensures.tags i))
    (line_accepted (setup g here) c.args.at c.args.counter (parts g here) c.in_ok-cipher.ensures.ok c.is_whole.ensures (second g here) c.is_whole-2.ensures
    c.in-Some.plain seal.0 (opened g here (Some c.in-Some.plain) c.in-Some.ensures.value) seal.1
    (subst (λ s. IfSome s (λ (seal : LineSeal). c.in_ok-cipher.cipher ≡ seal.cipher)) seal.1 c.in-On.ensures.0))

pub returns-in-Stop-clause-plan : goal.returns-in-Stop-clause-plan
returns-in-Stop-clause-plan g c =
    let here = (goal.at.returns-in-Stop-clause-plan g c).After-tag_at-tag in
    let shown : Result Line FetchFault = Err Fail.Shown in
    let seal = seal_of (last_seal_of (watch g here) c.args.at) c.requires.sealed in
    let its = subst (λ s. IfSome s (λ (seal : LineSeal). (c.in_ok-cipher.cipher ≢ seal.cipher) × HasShown (watch g here) (g.W.Watch.watched c.see_line.new.self)
    (Forged c.args.at (version_counter seal.counter) c.in_ok-cipher.cipher c.tag_at-tag.result))) seal.1 c.in-Stop.ensures in
    let told = watch_shown (watch g here) (g.W.Watch.watched c.see_line.new.self)
    (Forged c.args.at (version_counter (seal.0).counter) c.in_ok-cipher.cipher (tag_slot c.in_ok-tag_line.tag_line 0))
    (subst (λ tag. HasShown (watch g here) (g.W.Watch.watched c.see_line.new.self)
    (Forged c.args.at (version_counter (seal.0).counter) c.in_ok-cipher.cipher tag)) c.tag_at-tag.ensures its.1) in
    leaving shown (read_parts (g.W.Watch.watched c.see_line.new.self) (g.S.Suite.pads c.unseal.new.suite) (g.S.Suite.tags c.unseal.new.suite))
    (λ i. read_parts (told i) (c.in-Some.ensures.pads i) (c.unseal.ensures.tags i))
    (line_shown (setup g here) c.args.at c.args.counter (parts g here) c.in_ok-cipher.ensures.ok c.is_whole.ensures (second g here) c.is_whole-2.ensures
    c.in-Some.plain seal.0 (opened g here (Some c.in-Some.plain) c.in-Some.ensures.value) seal.1 its.0)
