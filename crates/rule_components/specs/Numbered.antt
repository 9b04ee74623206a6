-- The components of a rule, laid out in a table.
use Rattle.std.specs.Prelude.{eqb}
use Rattle.sets.specs.Masks.{mask}
use Rattle.sets.specs.Lists.{tabulate}
use Rattle.theory.specs.Rule.{Rule}
use Rattle.theory.specs.Components.{component, components}
use Rattle.rule_components.specs.declared.Components.{Components}

-- 01: components "are numbered 0, 1, 2 and on, in rising order of their smallest states": for each number up to 7 the mask of the component's states,
-- and how many components there are
unfoldable pub components_of : Rule → Components
unfolding tabulate mask component components
components_of r = record { masks = tabulate 8 (λ k. mask r.n (λ q. eqb (component r q) k)) 0; count = components r }
