use Rattle.std.proofs.Common.{◌≡◌, ◌∙◌, ◌+◌, ◌%◌, ◌^◌, ◌++◌, ◌∷◌, [], List, refl, sym, ap, subst, arith, inl, inr}
use Rattle.std.proofs.Math.Nat.{mod-eq_of_lt}
use Rattle.pmem_base.specs.declared.answers.Answer.{Answer}
use Rattle.pmem_base.specs.declared.commands.Command.{Command}
use Rattle.pmem_base.specs.declared.commands.Command.TheVariants as Do
use Rattle.plain_model.specs.Answers.{is_shown}
use Rattle.trace_text.specs.Samples.{sample_trace, commands_from}
use Rattle.pmem_cli.specs.Sampled.{HasAnsweredFront, HasReachedAnswer}
use Rattle.pmem_cli.proofs.MakeLemmas.{one_more}
use Rattle.pmem_cli.proofs.SampleLemmas.{sample_is, come_first, come_last, HasAnsweredFront-nil, HasAnsweredFront-next, HasReachedAnswer-of}
use Rattle.pmem_cli.proofs.sampling.replay_sample.Goals as goal

pub commands-init : goal.commands-init
commands-init g c =
    let s = g.W.Execute.standing c.args.world.now in
    let all : sample_trace c.args.seed c.args.count ≡ commands_from c.new-maker.result.state c.new-maker.result.number c.args.count ++ Do.Stat ∷ [] =
    rw c.new-maker.ensures (sample_is c.args.seed c.args.count) in record {
      steps = [];
      left = c.args.count;
      counted = omega arith;
      number = rw c.new-maker.ensures refl;
      running = c.requires.running;
      come = subst (λ (behind : List Command). HasAnsweredFront s s (sample_trace c.args.seed c.args.count) behind []) all (HasAnsweredFront-nil s _ c.requires.running);
    }

pub returns-then-is_shown-clause-reached : goal.returns-then-is_shown-clause-reached
returns-then-is_shown-clause-reached g c =
    let before = c.commands.invariant in
    let more = one_more before.left (omega (arith, before.counted, c.commands-test.true)) in
    let done = c.in_ok-answer.ensures.executed in
    let shown = ap is_shown done.its_answer ∙ sym c.is_shown.ensures ∙ c.if-is_shown.true in
    subst (λ (answer : Answer). HasReachedAnswer (g.W.Execute.standing c.args.world.now) (sample_trace c.args.seed c.args.count) answer) done.its_answer
    (HasReachedAnswer-of _ _ _ _ _ before.steps _ (come_first _ _ _ before.steps _ _ before.left more.0 _ more.1 c.next-command.ensures.command before.come)
    done.replied (inl shown))

pub commands-preserved : goal.commands-preserved
commands-preserved g c =
    let before = c.commands.invariant in
    let more = one_more before.left (omega (arith, before.counted, c.commands-test.true)) in
    let maker = c.commands.maker in
    let come = come_first _ _ _ before.steps maker.state maker.number before.left more.0 c.next-command.result more.1 c.next-command.ensures.command before.come in
    let done = c.in_ok-answer.ensures.executed in
    let hidden = sym c.is_shown.ensures ∙ c.if-is_shown.false in
    let on = done.on hidden in
    let small : (maker.number + 1) % 2 ^ 64 ≡ maker.number + 1 = mod-eq_of_lt (omega (arith, before.number, c.commands-test.true, c.ranges.count.fits)) in record {
      steps = before.steps ++ done.step ∷ [];
      left = more.0;
      counted = omega (arith, before.counted, more.1);
      number = c.next-command.ensures.number ∙ (small ∙ omega (arith, before.number));
      running = on.running;
      come =
          rw (c.next-command.ensures.state, c.next-command.ensures.number, small)
          (HasAnsweredFront-next _ _ _ _ _ _ before.steps done.step come done.replied (ap is_shown done.its_answer ∙ hidden) on);
    }

pub returns-clause-reached : goal.returns-clause-reached
returns-clause-reached g c =
    let before = c.commands.invariant in
    let done = c.in_ok-answer-2.ensures.executed in
    subst (λ (answer : Answer). HasReachedAnswer (g.W.Execute.standing c.args.world.now) (sample_trace c.args.seed c.args.count) answer) done.its_answer
    (HasReachedAnswer-of _ _ _ [] Do.Stat before.steps _
    (come_last _ _ _ before.steps _ _ before.left (omega (arith, before.counted, c.commands-test.false)) before.come) done.replied (inr refl))
