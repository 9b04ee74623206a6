-- What the build and the comparison work by is that of the file's rule.
use mathlib.Core.Path.{◌≡◌, refl, subst}
use mathlib.Core.Bool.{Bool}
use mathlib.Core.List.{List}
use Prim.Native.Nat.{ℕ, ◌<◌}
use Rattle.theory.specs.Rule.{Rule}
use Rattle.theory.specs.Automaton.{automaton}
use Rattle.theory.specs.Passing.{Passing, WellFormed}
use Rattle.rule_entries.specs.Entries.{rule_of}
use Rattle.rule_entries.proofs.Entries.{accepting-small}
use Rattle.rule_components.specs.declared.Components.{Components}
use Rattle.rule_components.specs.Numbered.{components_of}
use Rattle.file_spec.specs.declared.Layout.{Layout}
use Rattle.std.specs.Prelude.{Ok}
use Rattle.file_spec.specs.Reading.{read_of}
use Rattle.file_read.proofs.Answer.{lent-rule, lent-passing}
use Rattle.file_spec.specs.File.{counts_of_lem, clauses_of_lem, rule_in}
use Rattle.build_cores.specs.Opens.{Opens}
use Rattle.build_cores.proofs.Rules.{parts-of}
use Rattle.build_spec.specs.Tables.{Shaped}

-- the numbers of a rule and the masks of its components
shape_of : (r : Rule) → Passing r → (k : Components) → k ≡ components_of r → (holds : Bool)
    → Shaped r k.masks (record { s = r.s; components = k.count; accepting = r.accepting; initial = r.initial; holds = holds })
unfolding automaton components_of
shape_of r P k e holds = rw e (record { passing = P; masks = parts-of r P; letters_are = refl; components_are = refl; accepting_are = refl; initial_is = refl })

-- from the parts of an accepted file
module _ (f : List ℕ) (l : Layout) (p : read_of f ≡ Ok l) (counts clauses : List ℕ) (c : counts ≡ counts_of_lem f) (d : clauses ≡ clauses_of_lem f) where
  abbrev lent : Rule
  lent = rule_of l.head counts clauses

  pub file-formed : WellFormed lent
  file-formed = (lent-passing f l p counts clauses c d).formed

  pub file-accepting : l.head.accepting < 256
  file-accepting = accepting-small lent file-formed

  pub file-shape : (k : Components) → k ≡ components_of lent → (holds : Bool)
      → Shaped (rule_in f) k.masks (record { s = l.head.s; components = k.count; accepting = l.head.accepting; initial = l.head.initial; holds = holds })
  file-shape k e holds =
      subst (λ (r : Rule). Shaped r k.masks (record { s = l.head.s; components = k.count; accepting = l.head.accepting; initial = l.head.initial; holds = holds }))
      (lent-rule f l p counts clauses c d) (shape_of lent (lent-passing f l p counts clauses c d) k e holds)

  pub opens-same : (opens : List ℕ) → Opens (automaton lent) l.head.s opens → Opens (automaton (rule_in f)) (rule_in f).s opens
  opens-same opens O = subst (λ (r : Rule). Opens (automaton r) r.s opens) (lent-rule f l p counts clauses c d) O
