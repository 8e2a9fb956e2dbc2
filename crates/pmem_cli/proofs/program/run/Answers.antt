use Rattle.std.proofs.Common.{rules, ◌≡◌, ℕ, List, [], ap}
use Rattle.std.proofs.lemmas.Bool.{true≢false}
use Rattle.std.specs.Prelude.{◌⊎◌, ◌↔◌, IsNone, map, string_bytes, Some}
use Rattle.collision_witness.specs.Words.{Word}
use Rattle.plain_model.specs.declared.Stop.TheVariants.{Words}
use Rattle.pmem_cli.specs.declared.options.Task.{Task}
use Rattle.pmem_cli.specs.declared.ending.Ending.{Ending}
use Rattle.pmem_cli.specs.declared.ending.Ending.TheVariants.{Stopped}
use Rattle.pmem_cli.specs.Words.{task_of}
use Rattle.pmem_cli.specs.Printed.{with_waiting, Across}
use Rattle.pmem_cli.specs.Causes.{Rose}
use Rattle.pmem_cli.specs.Wholes.{ForEachWhole, left_in, left_before_in}
use Rattle.pmem_cli.specs.HasRun.{TaskOutcome, TaskMachine, HasEnded, IsComplete}
use Rattle.pmem_cli.specs.RepliesFirst.{RepliesBeforePull, MachineRepliesBeforePull}
use Rattle.pmem_cli.proofs.CompleteRuns.{complete}
use Rattle.pmem_cli.proofs.ReplyLemmas.{ending_appends, task_replied_more, task_replied}
use Rattle.pmem_cli.proofs.StatusLemmas.{TaskMachine-finished, TaskMachine-outcome, pull_told, push_told, push_once}
use Rattle.pmem_cli.proofs.TurnLemmas.{IfSome-map}
use Rattle.pmem_cli.proofs.program.run.Goals as goal

pub returns-clause-machine : goal.returns-clause-machine
returns-clause-machine g c = λ whole may.
    let words = map string_bytes c.args.words.now in
    let trace = left_in g.S.Source.known whole c.args.trace.now in
    let left = left_in g.S.Source.known whole c.do_words-ending.new.trace in
    let before = g.K.Sink.put c.args.out.now in
    let after = g.K.Sink.put c.finish.new.out in
    let ending = c.do_words-ending.result in
    let status = c.finish.result in
    let between = with_waiting (g.K.Sink.put c.do_words-ending.new.out) c.do_words-ending.new.printer in
    let reads = Rose (g.S.Source.faults c.args.trace.now) (g.S.Source.faults c.do_words-ending.new.trace) in
    IfSome-map (task_of words) (λ (task : Task). Across (HasEnded task ending) g.S.Source.known c.args.trace.now c.do_words-ending.new.trace
    g.K.Sink.put c.args.out.now c.do_words-ending.new.out [] c.do_words-ending.new.printer)
    (λ (task : Task). TaskMachine task status reads trace left before after)
    (λ (task : Task) (some : task_of words ≡ Some task). λ ended.
    TaskMachine-finished task ending status reads trace left before after between (ended whole may) c.do_words-ending.ensures.reads.failed
    (record {
      good = λ faulty. true≢false (rw some at (c.do_words-ending.ensures.words.0 (c.finish.ensures.words.0 faulty)));
      its_status = c.finish.ensures.status;
      fault = c.finish.ensures.write;
      kept = λ same. ap (g.K.Sink.put) (c.finish.ensures.kept same);
      whole = c.finish.ensures.whole;
      front = c.finish.ensures.front;
    }))
    (rw c.new-printer.ensures at c.do_words-ending.ensures.ended)

-- the words, and the line that faulty ones are answered with
told_words : (ending : Ending) (status : ℕ) (words : List Word) → (ending ≡ Stopped Words) ↔ IsNone (task_of words)
    → (status ≡ 2) ↔ (ending ≡ Stopped Words) → (status ≡ 2) ↔ IsNone (task_of words)
told_words ending status words of_words of_status = (λ is. of_words.0 (of_status.0 is), λ none. of_status.1 (of_words.1 none))

pub returns-clause-call : goal.returns-clause-call
returns-clause-call g c = λ whole may.
    let words = map string_bytes c.args.words.now in
    let trace = left_in g.S.Source.known whole c.args.trace.now in
    let left = left_in g.S.Source.known whole c.do_words-ending.new.trace in
    let before = g.K.Sink.put c.args.out.now in
    let after = g.K.Sink.put c.finish.new.out in
    let status = c.finish.result in
    let reads = Rose (g.S.Source.faults c.args.trace.now) (g.S.Source.faults c.do_words-ending.new.trace) in
    record {
      faulty = told_words c.do_words-ending.result status words c.do_words-ending.ensures.words c.finish.ensures.words;
      refused = search rules;
      told =
          IfSome-map (task_of words) (λ (task : Task). TaskMachine task status reads trace left before after)
          (λ (task : Task). TaskOutcome task status reads trace left before after)
          (λ (task : Task) (some : task_of words ≡ Some task) (done : TaskMachine task status reads trace left before after).
          TaskMachine-outcome task status reads trace left before after done) (returns-clause-machine g c whole may);
      read = search rules;
      write = search rules;
    }

pub returns-clause-failed_pull : goal.returns-clause-failed_pull
returns-clause-failed_pull g c = pull_told _ _ _ _ c.do_words-ending.ensures.reads c.finish.ensures.status

pub returns-clause-failed_push : goal.returns-clause-failed_push
returns-clause-failed_push g c = push_told _ _ _ _ _ c.do_words-ending.ensures.writes c.finish.ensures.write c.finish.ensures.failed

pub returns-clause-one_failed_push : goal.returns-clause-one_failed_push
returns-clause-one_failed_push g c =
    push_once _ _ _ _ c.do_words-ending.ensures.writes (λ same. ap g.K.Sink.faults (c.finish.ensures.kept same)) c.finish.ensures.once

pub returns-clause-complete : goal.returns-clause-complete
returns-clause-complete g c = λ whole may.
    let words = map string_bytes c.args.words.now in
    let trace = left_in g.S.Source.known whole c.args.trace.now in
    let left = left_in g.S.Source.known whole c.do_words-ending.new.trace in
    let before = g.K.Sink.put c.args.out.now in
    let after = g.K.Sink.put c.finish.new.out in
    let status = c.finish.result in
    let reads = Rose (g.S.Source.faults c.args.trace.now) (g.S.Source.faults c.do_words-ending.new.trace) in
    let writes = Rose (g.K.Sink.faults c.args.out.now) (g.K.Sink.faults c.finish.new.out) in
    let call = returns-clause-call g c whole may in
    IfSome-map (task_of words) (λ (task : Task). TaskOutcome task status reads trace left before after) (λ (task : Task). IsComplete task status trace (reads ⊎ writes))
    (λ (task : Task) (some : task_of words ≡ Some task) (done : TaskOutcome task status reads trace left before after).
    complete task status trace left before after reads writes done call.read call.write) call.told

pub returns-clause-machine_first : goal.returns-clause-machine_first
returns-clause-machine_first g c =
    let words = map string_bytes c.args.words.now in
    let trace = c.do_words-ending.new.trace in
    let from = with_waiting (g.K.Sink.put c.args.out.now) [] in
    let put = g.K.Sink.put c.do_words-ending.new.out in
    let after = g.K.Sink.put c.finish.new.out in
    let grown = ending_appends c.do_words-ending.result (with_waiting put c.do_words-ending.new.printer) after
    (λ same. ap (g.K.Sink.put) (c.finish.ensures.kept same)) c.finish.ensures.front in
    IfSome-map (task_of words)
    (λ (task : Task). MachineRepliesBeforePull task g.S.Source.known c.args.trace.now trace g.K.Sink.put c.args.out.now c.do_words-ending.new.out [])
    (λ (task : Task). MachineRepliesBeforePull task g.S.Source.known c.args.trace.now trace g.K.Sink.put c.args.out.now c.finish.new.out [])
    (λ (task : Task) (some : task_of words ≡ Some task). λ replies whole may.
    task_replied_more task (left_in g.S.Source.known whole c.args.trace.now) (left_in g.S.Source.known whole trace) (left_before_in g.S.Source.known whole trace)
    from put after grown.0 (replies whole may) grown.1)
    (rw c.new-printer.ensures at c.do_words-ending.ensures.replies_first)

pub returns-clause-replies_first : goal.returns-clause-replies_first
returns-clause-replies_first g c =
    let words = map string_bytes c.args.words.now in
    let trace = c.do_words-ending.new.trace in
    IfSome-map (task_of words)
    (λ (task : Task). MachineRepliesBeforePull task g.S.Source.known c.args.trace.now trace g.K.Sink.put c.args.out.now c.finish.new.out [])
    (λ (task : Task). RepliesBeforePull task g.S.Source.known c.args.trace.now trace g.K.Sink.put c.args.out.now c.finish.new.out [])
    (λ (task : Task) (some : task_of words ≡ Some task). λ replies whole may.
    task_replied task (left_in g.S.Source.known whole c.args.trace.now) (left_in g.S.Source.known whole trace) (left_before_in g.S.Source.known whole trace)
    (with_waiting (g.K.Sink.put c.args.out.now) []) (g.K.Sink.put c.finish.new.out) (replies whole may)) (returns-clause-machine_first g c)
