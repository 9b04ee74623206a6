-- `lacks_room` meets its contract.
use borrow.Author.Rules.{rules}
use borrow.Author.Tests.{lt-ltb, le-ltb}
use Rattle.stricter.proofs.lacks_room.Statement.{statement}
use Rattle.stricter.proofs.lacks_room.Tie as tie

pub lacks_room_spec : {M : Type 1} → statement M
lacks_room_spec = tie.close (tie.spec (λ c. search rules) (λ c. rw (lt-ltb _ _ c.if-word-pairs.true)) (λ c. rw (le-ltb _ _ c.if-word-pairs.false)))
