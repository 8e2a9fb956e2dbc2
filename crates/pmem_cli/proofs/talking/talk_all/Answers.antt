use Rattle.std.proofs.Common.{rules, refl, ap, inl, inr}
use Rattle.trace_text.specs.Conversations.{talk_protocol}
use Rattle.pmem_cli.specs.declared.ending.Ending.TheVariants.{Stopped}
use Rattle.pmem_cli.specs.Printed.{with_waiting}
use Rattle.pmem_cli.proofs.CompleteRuns.{talk_complete}
use Rattle.pmem_cli.proofs.FaultLemmas.{CountsFault-map}
use Rattle.pmem_cli.proofs.ReplyLemmas.{ending_appends, told_more_since}
use Rattle.pmem_cli.proofs.StatusLemmas.{talk_done, pull_told, push_told, push_once}
use Rattle.pmem_cli.proofs.talking.talk_all.Goals as goal

pub returns-clause-words : goal.returns-clause-words
returns-clause-words g c = λ two. c.talk_trace-stop.ensures.cause.words (cc (c.finish.ensures.words.0 two))

pub returns-clause-told : goal.returns-clause-told
returns-clause-told g c = λ whole may.
    talk_done (talk_protocol g.T.Talk.sort_of g.T.Talk.answers g.T.Talk.shows g.T.Talk.wants_memory) c.args.session c.talk_trace-stop.result c.finish.result _ _ _ _ _ _
    ((rw c.new-printer.ensures at c.talk_trace-stop.ensures.stopped) whole may)
    (λ same. c.talk_trace-stop.ensures.cause.reads.failed (cc same))
    (record {
      good = returns-clause-words g c;
      its_status = c.finish.ensures.status;
      fault = c.finish.ensures.write;
      kept = λ same. ap (g.K.Sink.put) (c.finish.ensures.kept same);
      whole = c.finish.ensures.whole;
      front = c.finish.ensures.front;
    })

pub returns-clause-failed_pull : goal.returns-clause-failed_pull
returns-clause-failed_pull g c = pull_told (Stopped c.talk_trace-stop.result) _ _ _ (CountsFault-map _ _ _ _ _ (λ same. cc) (λ same. cc) refl c.talk_trace-stop.ensures.cause.reads) c.finish.ensures.status

pub returns-clause-failed_push : goal.returns-clause-failed_push
returns-clause-failed_push g c = λ changed.
    elim (push_told (Stopped c.talk_trace-stop.result) _ _ _ _ (CountsFault-map _ _ _ _ _ (λ same. cc) (λ same. cc) refl c.talk_trace-stop.ensures.cause.writes)
    c.finish.ensures.write c.finish.ensures.failed changed) [ inl four ↦ four | inr two ↦ absurd (returns-clause-words g c two) ]

pub returns-clause-one_failed_push : goal.returns-clause-one_failed_push
returns-clause-one_failed_push g c =
    push_once (Stopped c.talk_trace-stop.result) _ _ _ (CountsFault-map _ _ _ _ _ (λ same. cc) (λ same. cc) refl c.talk_trace-stop.ensures.cause.writes)
    (λ same. ap g.K.Sink.faults (c.finish.ensures.kept same)) c.finish.ensures.once

pub returns-clause-read : goal.returns-clause-read
returns-clause-read g c = search rules

pub returns-clause-write : goal.returns-clause-write
returns-clause-write g c = search rules

pub returns-clause-complete : goal.returns-clause-complete
returns-clause-complete g c = λ whole may.
    talk_complete (talk_protocol g.T.Talk.sort_of g.T.Talk.answers g.T.Talk.shows g.T.Talk.wants_memory) c.args.session c.finish.result _ _ _ _ _ _ (returns-clause-told g c whole may)
    (returns-clause-read g c) (returns-clause-write g c)

pub returns-clause-replies_first : goal.returns-clause-replies_first
returns-clause-replies_first g c = λ whole may.
    let put = g.K.Sink.put c.talk_trace-stop.new.out in
    let after = g.K.Sink.put c.finish.new.out in
    let grown = ending_appends (Stopped c.talk_trace-stop.result) (with_waiting put c.talk_trace-stop.new.printer) after
    (λ same. ap (g.K.Sink.put) (c.finish.ensures.kept same)) c.finish.ensures.front in
    told_more_since (talk_protocol g.T.Talk.sort_of g.T.Talk.answers g.T.Talk.shows g.T.Talk.wants_memory) _ _ _ _ _ _ _ _ grown.0
    ((rw c.new-printer.ensures at c.talk_trace-stop.ensures.replies_first) whole may) grown.1
