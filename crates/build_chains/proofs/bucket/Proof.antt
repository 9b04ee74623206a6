-- `build_chains::bucket` meets its contract.
use mathlib.Core.Path.{refl}
use borrow.Author.Rules.{rules}
use Rattle.build_spec.specs.Chains.{bucket_of}
use Rattle.build_chains.proofs.bucket.Statement.{statement}
use Rattle.build_chains.proofs.bucket.Tie as tie

returns : tie.Need-returns
unfolding bucket_of
returns c = refl

pub bucket_spec : {M : Type 1} → statement M
bucket_spec = tie.close (tie.spec (λ c. search rules) returns)
