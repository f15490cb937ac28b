use Rattle.formats.proofs.Threads.{read_length}
use Rattle.formats.proofs.card.Card.thread_len.Goals as goal

pub returns-in-Some-clause-value : goal.returns-in-Some-clause-value
returns-in-Some-clause-value c = read_length c.args.self.now c.in-Some.thread c.in-Some.ensures.some c.len.ensures
