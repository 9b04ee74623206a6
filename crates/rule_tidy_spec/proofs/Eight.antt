-- Clauses over n states of eight: the states from n on are in no clause, so what stays is the same over eight.
use mathlib.Core.Path.{◌≡◌, refl, sym, ◌∙◌, ap₂}
use mathlib.Core.Logic.{⊎_elim}
use mathlib.Core.Bool.{Bool, ◌&&◌, not}
use mathlib.Core.List.Memᴰ
use mathlib.Core.List.{List, [], ◌∷◌, ◌++◌, Memᴰ}
use Prim.Native.Nat.{ℕ, ◌^◌, ◌≤◌, ◌<◌}
use lib.ListN.{take, drop}
use Rattle.sets.specs.Tests.{Set}
use Rattle.sets.specs.Masks.{bit}
use Rattle.sets.specs.Lists.{any_of}
use Rattle.sets.proofs.Bools.{bif, iff}
use Rattle.sets.proofs.Lists.{any-in, any_out}
use Rattle.sets.proofs.Members.{inside-trim}
use Rattle.rule_tidy_spec.specs.Tidy.{contains, properly_contains, drops, tidy_from, tidy_entry_lem, tidy_counts, tidy_clauses}
use Rattle.rule_tidy_spec.proofs.Minimal.{tidy-drop, tidy-keep}
use Rattle.rule_tidy_spec.proofs.Entries.{mem-take, mem-drop}

any-ext : (xs : List ℕ) (f g : Set) → ((x : ℕ) → Memᴰ x xs → f x ≡ g x) → any_of xs f ≡ any_of xs g
any-ext xs f g h =
    iff (any_of xs f) (any_of xs g)
    (λ e. let r = any_out xs f e in any-in xs g r.0 r.1 (sym (h r.0 r.1) ∙ r.2))
    (λ e. let r = any_out xs g e in any-in xs f r.0 r.1 (h r.0 r.1 ∙ r.2))

module _ (n : ℕ) (few : n ≤ 8) where
  -- each clause is over n states
  abbrev Small : List ℕ → Type 0
  Small cs = (c : ℕ) → Memᴰ c cs → c < 2 ^ n

  contains-eight : (c d : ℕ) → d < 2 ^ n → contains 8 c d ≡ contains n c d
  contains-eight c d l = inside-trim n 8 (bit c) d few l

  properly-eight : (c d : ℕ) → c < 2 ^ n → d < 2 ^ n → properly_contains 8 c d ≡ properly_contains n c d
  properly-eight c d k l = unfold properly_contains in ap₂ (λ (x y : Bool). x && not y) (contains-eight c d l) (contains-eight d c k)

  drops-eight : (all kept : List ℕ) (c : ℕ) → Small all → Small kept → c < 2 ^ n → drops 8 all kept c ≡ drops n all kept c
  unfolding drops
  drops-eight all kept c a b l =
      rw (
        any-ext kept (contains 8 c) (contains n c) (λ d m. contains-eight c d (b d m)),
        any-ext all (properly_contains 8 c) (properly_contains n c) (λ d m. properly-eight c d l (a d m)),
      )

  from-eight : (all kept cs : List ℕ) → Small all → Small kept → Small cs → tidy_from 8 all kept cs ≡ tidy_from n all kept cs
  unfolding tidy_from
  from-eight all kept [] a b s = refl
  from-eight all kept (c ∷ cs) a b s =
      let e = drops-eight all kept c a b (s c (Memᴰ.head refl)) in
      let t : Small cs = λ x m. s x (Memᴰ.tail m) in
      let k : Small (kept ++ (c ∷ [])) = λ x m. ⊎_elim (b x) (λ j. s x (Memᴰ.head (Memᴰ.eq_of_singleton j))) (Memᴰ.append_cases kept m) in
      bif (drops 8 all kept c)
      (λ v. tidy-drop 8 all kept c cs v ∙ from-eight all kept cs a b t ∙ sym (tidy-drop n all kept c cs (sym e ∙ v)))
      (λ v. tidy-keep 8 all kept c cs v ∙ from-eight all (kept ++ (c ∷ [])) cs a k t ∙ sym (tidy-keep n all kept c cs (sym e ∙ v)))

  entry-eight : (cs : List ℕ) → Small cs → tidy_entry_lem 8 cs ≡ tidy_entry_lem n cs
  entry-eight cs s = unfold tidy_entry_lem in from-eight cs [] cs s (λ x m. absurd (Memᴰ.not-nil m)) s

  pub counts-eight : (counts clauses : List ℕ) → Small clauses → tidy_counts 8 counts clauses ≡ tidy_counts n counts clauses
  unfolding tidy_counts
  counts-eight [] clauses s = refl
  counts-eight (k ∷ counts) clauses s =
      rw (entry-eight (take k clauses) (λ x m. s x (mem-take k clauses m)), counts-eight counts (drop k clauses) (λ x m. s x (mem-drop k clauses m)))

  pub clauses-eight : (counts clauses : List ℕ) → Small clauses → tidy_clauses 8 counts clauses ≡ tidy_clauses n counts clauses
  unfolding tidy_clauses
  clauses-eight [] clauses s = refl
  clauses-eight (k ∷ counts) clauses s =
      rw (entry-eight (take k clauses) (λ x m. s x (mem-take k clauses m)), clauses-eight counts (drop k clauses) (λ x m. s x (mem-drop k clauses m)))
