-- Sameness of rules.
use Rattle.std.specs.Prelude.{ℕ, ◌^◌, Bool, true, false, ◌&&◌, not, List, ◌++◌, eqb, Result, Ok}
use Rattle.std.specs.Result.{result_and}
use Rattle.refusals.specs.declared.Refusal.{Refusal}
use Rattle.refusals.specs.Rows.{first_refusal}
use Rattle.sets.specs.Tests.{every}
use Rattle.sets.specs.Masks.{bit}
use Rattle.slice_search.specs.Same.{same_lists}
use Rattle.theory.specs.Rule.{Rule, entry, satisfies}
use Rattle.file_spec.specs.File.{NamedRule, named_in, rule_in}
use Rattle.file_spec.specs.Rows.{file_rows_lem}

-- both hold, or neither
abbrev pub agree : Bool → Bool → Bool
agree true b = b
agree false b = not b

-- two entries over n states are satisfied by the same sets: the masks X of the sets of states are the numbers below 2 to the power n
unfoldable pub same_entry_lem : ℕ → List ℕ → List ℕ → Bool
unfolding every satisfies bit
same_entry_lem n cs ds = every (2 ^ n) (λ X. agree (satisfies n (bit X) cs) (satisfies n (bit X) ds))

-- "every entry is satisfied by the same sets"
unfoldable pub same_entries_lem : Rule → Rule → Bool
unfolding every same_entry_lem entry
same_entries_lem r t = every r.n (λ q. every r.s (λ a. same_entry_lem r.n (entry r q a) (entry t q a)))

-- 01: "Two rules are the same if n, s, initial state and accepting mask agree and every entry is satisfied by the same sets."
unfoldable pub same_rules : Rule → Rule → Bool
unfolding same_entries_lem
same_rules r t = (eqb r.n t.n && (eqb r.s t.s && (eqb r.initial t.initial && eqb r.accepting t.accepting))) && same_entries_lem r t

-- 02: "From now on two rules are the same only if, besides, both lack names or all names agree.": the bytes of the names are the same ones
unfoldable pub same_named : NamedRule → NamedRule → Bool
same_named r t = same_rules r.rule t.rule && same_lists r.names t.names

-- the rules of two files, with their names
abbrev pub same_files_lem : List ℕ → List ℕ → Bool
same_files_lem f g = same_named (named_in f) (named_in g)

-- whatever their names
abbrev pub same_bodies_lem : List ℕ → List ℕ → Bool
same_bodies_lem f g = same_rules (rule_in f) (rule_in g)

-- whether the rules of two files are the same, or what refuses first. 01: "for sameness the first file, then the second"
unfoldable pub same_rules_of : List ℕ → List ℕ → Result Bool Refusal
same_rules_of f g = result_and (first_refusal (file_rows_lem f ++ file_rows_lem g)) (Ok (same_files_lem f g))
