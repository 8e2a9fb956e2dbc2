use Rattle.std.proofs.Common.{◌≡◌, ◌∙◌, ◌+◌, ◌/◌, ◌%◌, ◌++◌, ◌∷◌, [], arith, ap, length, append_assoc, length-append}
use Rattle.std.specs.Prelude.{decimal}
use Rattle.std.proofs.lemmas.Fmt.{decimal_digit, decimal_step}
use Rattle.collision_witness.proofs.texts.+push_digits.Goals as goal

pub push-requires : goal.push-requires
push-requires t c =
    let one : decimal c.args.number ≡ (48 + c.args.number) ∷ [] = decimal_digit c.args.number c.if-number-lt10.true in
    omega (arith, ap length one, c.requires)

pub returns-then-number-lt10 : goal.returns-then-number-lt10
returns-then-number-lt10 t c = rw (decimal_digit c.args.number c.if-number-lt10.true) c.push.ensures.items

pub push_digits-requires : goal.push_digits-requires
push_digits-requires t c =
    let more : decimal c.args.number ≡ decimal (c.args.number / 10) ++ ((48 + c.args.number % 10) ∷ []) = decimal_step c.args.number c.if-number-lt10.false c.ranges.number.fits in
    (omega (arith, c.decreases), omega (arith, simp length-append at (ap length more), c.requires))

pub push-requires-2 : goal.push-requires-2
push-requires-2 t c =
    let more : decimal c.args.number ≡ decimal (c.args.number / 10) ++ ((48 + c.args.number % 10) ∷ []) = decimal_step c.args.number c.if-number-lt10.false c.ranges.number.fits in
    rw (c.push_digits.ensures, length-append) (omega (arith, simp length-append at (ap length more), c.requires))

pub returns : goal.returns
returns t c =
    let more : decimal c.args.number ≡ decimal (c.args.number / 10) ++ ((48 + c.args.number % 10) ∷ []) = decimal_step c.args.number c.if-number-lt10.false c.ranges.number.fits in
    rw more (c.push-2.ensures.items ∙ ap (λ l. l ++ ((48 + c.args.number % 10) ∷ [])) c.push_digits.ensures ∙ append_assoc c.args.text.now.items (decimal (c.args.number / 10)) ((48 + c.args.number % 10) ∷ []))
