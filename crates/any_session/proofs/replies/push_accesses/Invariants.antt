use Rattle.std.proofs.Common.{◌≡◌, ◌++◌, drop}
use Rattle.pmem_cli.specs.Logged.{accesses_text}
use Rattle.any_session.proofs.replies.push_accesses.Given as goal

abbrev pub invariant-each : goal.invariant-each
invariant-each l = record { text : l.reply.items ++ accesses_text (drop l.access-index l.accesses) ≡ l.initial.reply.items ++ accesses_text l.accesses }
