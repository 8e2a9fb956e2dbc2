-- A plan that was followed leaves the registers that are said of it.
use Rattle.std.proofs.Common.{◌≡◌, Result, Ok, Err, refl, sym, ap, ◌∙◌, inl, inr}
use Rattle.pmem_base.specs.declared.registers.Regs.{Regs}
use Rattle.board.specs.Device.{Device}
use Rattle.call_plan.specs.Plans.{Plan, done, stop, read, write, latch}
use Rattle.call_plan.specs.Following.{Took, Follows}
use Rattle.call_plan.proofs.Bind.{same_err}
use Rattle.engine_lines.specs.Plans.{with_regs}

done_with : {E T : Type 0} (t s : T) (regs now : Regs) → regs ≡ now → (let x : Result T E = Ok t in x ≡ Ok s)
    → (let x : Result (T × Regs) E = Ok (t, now) in x ≡ Ok (s, regs))
done_with {E = E} {T = T} t s regs now same e =
    let t_is_s : t ≡ s = cc in
    let ok : T → Regs → Result (T × Regs) E = λ t r. Ok (t, r) in
    ap (λ (t : T). ok t now) t_is_s ∙ ap (ok s) (sym same)

done_took : {E T : Type 0} (plan : Plan E T) (regs : Regs) (old new : Device) (t : T) → regs ≡ old.regs → Took plan old new (Ok t)
    → Took (with_regs regs plan) old new (Ok (t, new.regs))
unfolding Took with_regs
done_took {E = E} (done s) regs old new t same it =
    (done_with {E = E} t s regs new.regs (same ∙ sym (ap (λ (d : Device). d.regs) it.1)) it.0, it.1)
done_took (stop left) regs old new t same it = absurd (cc)
done_took (read left at later) regs old new t same (inl s) =
    inl (record {
      line = s.line;
      whole = s.whole;
      mid = s.mid;
      step = s.step;
      rest = done_took (later s.line) regs s.mid new t (same ∙ sym s.step.regs) s.rest;
    })
done_took (read left at later) regs old new t same (inr s) = let no = s.0.ends in absurd (cc)
done_took (write left at line later) regs old new t same (inl s) =
    inl (record { mid = s.mid; step = s.step; rest = done_took later regs s.mid new t (same ∙ sym s.step.regs) s.rest })
done_took (write left at line later) regs old new t same (inr s) = let no = s.ends in absurd (cc)
done_took (latch left next later) regs old new t same (inl s) =
    inl (record { mid = s.mid; step = s.step; rest = done_took later next s.mid new t (sym s.step.regs) s.rest })
done_took (latch left next later) regs old new t same (inr s) = let no = s.ends in absurd (cc)

stopped_took : {E T : Type 0} (plan : Plan E T) (regs : Regs) (old new : Device) (left : E) → Took plan old new (Err left)
    → Took (with_regs regs plan) old new (Err left)
unfolding Took with_regs
stopped_took (done t) regs old new left it = absurd (cc)
stopped_took (stop l) regs old new left it = (same_err left l it.0, it.1)
stopped_took (read l at later) regs old new left (inl s) =
    inl (record {
      line = s.line;
      whole = s.whole;
      mid = s.mid;
      step = s.step;
      rest = stopped_took (later s.line) regs s.mid new left s.rest;
    })
stopped_took (read l at later) regs old new left (inr s) =
    inr (record { ends = same_err left l s.0.ends; cut = s.0.cut }, s.1)
stopped_took (write l at line later) regs old new left (inl s) =
    inl (record { mid = s.mid; step = s.step; rest = stopped_took later regs s.mid new left s.rest })
stopped_took (write l at line later) regs old new left (inr s) =
    inr (record { ends = same_err left l s.ends; cut = s.cut })
stopped_took (latch l next later) regs old new left (inl s) =
    inl (record { mid = s.mid; step = s.step; rest = stopped_took later next s.mid new left s.rest })
stopped_took (latch l next later) regs old new left (inr s) =
    inr (record { ends = same_err left l s.ends; cut = s.cut })

module _ {E T : Type 0} {plan : Plan E T} {old new : Device} where
  -- it was done, and the board has these registers now
  pub done_with_regs : {t : T} → Follows plan old new (Ok t) → Follows (with_regs old.regs plan) old new (Ok (t, new.regs))
  done_with_regs {t = t} it = record { took = done_took plan old.regs old new t refl it.took }

  -- it stopped
  pub stopped_with_regs : {left : E} → Follows plan old new (Err left) → Follows (with_regs old.regs plan) old new (Err left)
  stopped_with_regs {left = left} it = record { took = stopped_took plan old.regs old new left it.took }
