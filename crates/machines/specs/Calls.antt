-- What a call comes to: the port's outcome, with its answer as an answer of any call.
use Rattle.std.specs.Prelude.{Ok, Err, Result}
use Rattle.model.specs.declared.fault.Fault.{Fault}
use Rattle.port.specs.Calls.{Choice, Outcome, refuses, gives, newest_outcome, old_outcome, put_outcome, landing_outcome, reconcile_outcome, commit_answer}
use Rattle.port.specs.Holdings.{Held}
use Rattle.machines.specs.declared.answers.Answer.{Answer}
use Rattle.machines.specs.declared.answers.Answer.TheVariants.{Loaded, Taken, Landed, Done}
use Rattle.machines.specs.declared.calls.Call.{Call}
use Rattle.machines.specs.declared.calls.Call.TheVariants.{Newest, Old, Put, Landing, Commit, Reconcile}

-- the same outcome, with f of the answer
abbrev pub mapped : {X Y : Type 0} → (X → Y) → Outcome X → Outcome Y
mapped f (refuses fault) = refuses fault
mapped f (gives x h) = gives (f x) h

-- the outcome of a call that changes nothing
abbrev pub unchanged : {X : Type 0} → Held → Result X Fault → Outcome X
unchanged h (Ok x) = gives x h
unchanged h (Err fault) = refuses fault

abbrev pub call_outcome : Choice → Held → Call → Outcome Answer
call_outcome choice h (Newest p a) = mapped Loaded (newest_outcome h p a)
call_outcome choice h (Old p a s) = mapped Loaded (old_outcome choice h p a s)
call_outcome choice h (Put p a word place) = mapped Taken (put_outcome choice h p a word place)
call_outcome choice h (Landing p a) = mapped Landed (landing_outcome choice h p a)
call_outcome choice h (Commit p) = mapped (λ _. Done) (unchanged h (commit_answer h p))
call_outcome choice h (Reconcile p) = mapped (λ _. Done) (reconcile_outcome h p)
