-- `next_waiting` meets its contract: a pair waits whose byte is 2 or more and below 128.
use borrow.Author.Rules.{rules}
use Rattle.stricter_word.proofs.explore.next_waiting.Statement.{statement}
use Rattle.stricter_word.proofs.explore.next_waiting.Tie as tie

pub next_waiting_spec : {M : Type 1} → statement M
next_waiting_spec = tie.close (tie.spec (λ c κs. search rules) (λ c. c.next_between.ensures))
