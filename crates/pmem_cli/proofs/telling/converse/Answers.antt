use Rattle.pmem_cli.proofs.telling.converse.Goals as goal

pub returns-then-logged-clause-stopped : goal.returns-then-logged-clause-stopped
returns-then-logged-clause-stopped g c = rw c.if-logged.true c.serve_all.ensures.stopped

pub returns-then-logged-clause-replies_first : goal.returns-then-logged-clause-replies_first
returns-then-logged-clause-replies_first g c = rw c.if-logged.true c.serve_all.ensures.replies_first

pub returns-else-logged-clause-stopped : goal.returns-else-logged-clause-stopped
returns-else-logged-clause-stopped g c = rw c.if-logged.false c.talk_trace.ensures.stopped

pub returns-else-logged-clause-replies_first : goal.returns-else-logged-clause-replies_first
returns-else-logged-clause-replies_first g c = rw c.if-logged.false c.talk_trace.ensures.replies_first
