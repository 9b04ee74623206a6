-- The component of a state, from the table of what each state reaches.
use mathlib.Core.Path.{◌≡◌, sym, ◌∙◌}
use Prim.Native.Nat.{ℕ, ◌<◌, ◌≤◌}
use lib.Dec.{eqb}
use borrow.Author.Tests.{eq-eqb, eqb-true}
use Rattle.sets.specs.Masks.{mask}
use Rattle.sets.proofs.Bools.{iff}
use Rattle.sets.proofs.Masks.{mask-ext}
use Rattle.theory.specs.Rule.{Rule}
use Rattle.theory.specs.Components.{component, together}
use Rattle.theory_laws.proofs.Components.{component-of-together, together-of-component}
use Rattle.rule_reach.specs.Tables.{closures_of}
use Rattle.rule_components.proofs.Mixed.{class_by, class-by}

pub class-mask : (r : Rule) → r.n ≤ 8 → (q : ℕ) → q < r.n → class_by (closures_of r) r.n q ≡ mask r.n (λ x. eqb (component r x) (component r q))
class-mask r few q l =
    class-by r few q l
    ∙ mask-ext r.n (together r q) (λ x. eqb (component r x) (component r q))
    (λ x m. iff (together r q x) (eqb (component r x) (component r q))
    (λ t. eq-eqb (component r x) (component r q) (sym (component-of-together r q x l m t)))
    (λ t. together-of-component r q x l m (sym (eqb-true (component r x) (component r q) t))))
