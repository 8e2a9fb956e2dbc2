-- A text that is kept, with the log before it if logs are told, as a line told.
use Rattle.std.proofs.Common.{◌≡◌, ◌≢◌, ◌-◌, ◌++◌, ◌∙◌, ℕ, Bool, true, false, List, refl, ap}
use Rattle.std.specs.Prelude.{Option, Some, None}
use Rattle.pmem_base.specs.declared.answers.Exhibit.{Exhibit}
use Rattle.pmem_base.specs.declared.answers.Answer.TheVariants as Say
use Rattle.board.specs.declared.access.Access.{Access}
use Rattle.collision_witness.specs.Texts.{exhibit_text}
use Rattle.plain_model.specs.Texts.{answer_text}
use Rattle.any_session.specs.Told.{Lines, IsKept, IsTextKept, begun_log, kept_text, log_before}

pub shown_is : (exhibit : Exhibit) → exhibit_text exhibit ≡ answer_text (Say.Shown exhibit)
unfolding answer_text
shown_is exhibit = refl

-- the log was kept, and then the text, or not
pub text_kept : (logged : Bool) (log : Option (List Access)) (tags digests : ℕ) (text : List ℕ) (kept : Bool) (front all : List ℕ)
    → (logged ≡ true → log ≢ None) → front ≡ log_before logged log tags digests → all ≡ kept_text kept (front ++ text)
    → IsTextKept logged log tags digests text kept all
text_kept logged log tags digests text false front all whole its_log its_text = its_text
text_kept false log tags digests text true front all whole its_log its_text = its_text ∙ ap (λ front. front ++ text) its_log
text_kept true (Some accesses) tags digests text true front all whole its_log its_text = its_text ∙ ap (λ front. front ++ text) its_log
text_kept true None tags digests text true front all whole its_log its_text = absurd (whole refl refl)

-- it is the reply's, of a command that was logged so
pub reply_kept : {S X : Type 0} (lines : Lines S X) (logged : Bool) (old : S) (line : List ℕ) (reply : X) (new : S) (log : Option (List Access))
    (tags digests : ℕ) (kept : Bool) (all : List ℕ)
    → lines.logs old line (begun_log logged) log new → tags ≡ (lines.work new).0 - (lines.work old).0 → digests ≡ (lines.work new).1 - (lines.work old).1
    → IsTextKept logged log tags digests (lines.protocol.text_of reply) kept all → IsKept lines logged kept old line reply new all
reply_kept lines logged old line reply new log tags digests false all its_log its_tags its_digests is = is
reply_kept lines false old line reply new log tags digests true all its_log its_tags its_digests is = is
reply_kept lines true old line reply new (Some accesses) tags digests true all its_log its_tags its_digests is = (
  record { said = reply; accesses = accesses; tags = tags; digests = digests },
  refl,
  record { accessed = its_log; tags = its_tags; digests = its_digests },
  is,
)
reply_kept lines true old line reply new None tags digests true all its_log its_tags its_digests is = absurd is
