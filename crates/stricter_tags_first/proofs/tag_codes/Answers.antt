-- `tag_codes` meets its contract: the codes up to i have no tag yet, so what is found among them is the first number with the core.
use Rattle.std.proofs.Common.{◌≡◌, ap, ◌∙◌, inl, List, ℕ, ◌+◌, ◌-◌, ◌≤◌, ◌<◌, length, take, arith}
use Rattle.stricter_spec.specs.Tags.{first_of}
use Rattle.stricter_laws.specs.Fill.{Filled}
use Rattle.stricter_laws.proofs.Fill.{filled-before}
use Rattle.stricter_laws.proofs.First.{first-low, first-take}
use Rattle.stricter_tags_first.proofs.First.{front_same, asc-take}
use Rattle.stricter_tags_first.proofs.tag_codes.Goals as goal

module _ {f : ℕ → ℕ} {i to : ℕ} {old new : List ℕ} (F : Filled f i to old new) (some : 0 < i) (fits : i ≤ length old) where
  -- the codes up to the next one are as they were
  front : take (i - 1 + 1) new ≡ take (i - 1 + 1) old
  front = front_same old new (i - 1 + 1) (omega arith) F.long (λ k h. F.outside k (inl (omega arith)))

  found : {r : ℕ} → r ≡ first_of (take (i - 1 + 1) new) (i - 1) → r ≡ first_of old (i - 1)
  found e = e ∙ ap (λ (xs : List ℕ). first_of xs (i - 1)) front ∙ first-take old (i - 1) (omega arith)

pub first_of-first-requires : goal.first_of-first-requires
first_of-first-requires c = let F = c.loop-i.invariant in (
  omega arith,
  rw (front F (omega arith) (omega arith)) (asc-take (c.loop-i.i - 1 + 1) (omega arith) c.requires.1),
  λ j h. rw (F.outside j (inl (omega arith))) (c.requires.2 j (omega arith)).1,
)

pub overflow_mul-codes : goal.overflow_mul-codes
overflow_mul-codes c = omega (arith, found c.loop-i.invariant (omega arith) (omega arith) c.first_of-first.ensures, first-low c.args.codes.now (c.loop-i.i - 1))

pub overflow_add-codes : goal.overflow_add-codes
overflow_add-codes c =
    omega (
      arith,
      found c.loop-i.invariant (omega arith) (omega arith) c.first_of-first.ensures,
      first-low c.args.codes.now (c.loop-i.i - 1),
      c.loop-i.invariant.outside (c.loop-i.i - 1) (inl (omega arith)),
      (c.requires.2 (c.loop-i.i - 1) (omega arith)).0,
    )

pub loop-i-preserved : goal.loop-i-preserved
loop-i-preserved c = let F = c.loop-i.invariant in let i : c.loop-i.i ≡ c.loop-i.i - 1 + 1 = omega arith in
    filled-before (c.loop-i.i - 1) _ (omega arith) (omega arith) (rw i at F)
    (omega (arith, found F (omega arith) (omega arith) c.first_of-first.ensures, F.outside (c.loop-i.i - 1) (inl (omega arith))))
