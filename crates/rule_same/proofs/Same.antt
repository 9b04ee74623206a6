-- Entries whose clauses satisfy each other are satisfied by the same sets.
use mathlib.Core.Path.{◌≡◌, refl, ap, sym, ◌∙◌}
use mathlib.Core.Bool.{Bool, true, false, ◌&&◌, and-true, and-false}
use mathlib.Core.List.{List, [], ◌∷◌, Memᴰ}
use Prim.Native.Nat.{ℕ, ◌^◌, ◌<◌, ◌≤◌}
use borrow.Author.Tests.{eq-eqb, ne_eqb, eqb-true}
use lib.Dec.{eqb}
use Rattle.sets.specs.Tests.{Set, every}
use Rattle.sets.specs.Masks.{bit, inside}
use Rattle.sets.specs.Lists.{all_of, sum}
use Rattle.sets.proofs.Bools.{and_l, and_r, and_i, iff}
use Rattle.sets.proofs.Tests.{every-at, every-all}
use Rattle.sets.proofs.Members.{inside-all, all-of-at, all-of-all}
use Rattle.theory.specs.Rule.{Rule, entry, satisfies}
use Rattle.theory.specs.Passing.{WellFormed}
use Rattle.rule_entries.proofs.Clauses.{satisfies-wide}
use Rattle.rule_entries.proofs.Entries.{entry-states}
use Rattle.rule_entries.specs.declared.Head.{Head}
use Rattle.rule_entries.specs.Entries.{rule_of}
use Rattle.file_spec.specs.declared.Layout.{Layout}
use Rattle.std.specs.Prelude.{Ok}
use Rattle.refusals.proofs.Rows.{refusal_and, refusal-passes}
use Rattle.file_spec.specs.File.{counts_of_lem, clauses_of_lem, names_of, rule_in}
use Rattle.file_spec.specs.Rows.{file_rows_lem, file_row}
use Rattle.slice_search.specs.Same.{same_lists}
use Rattle.slice_search.proofs.Same.{lists-told}
use Rattle.file_spec.specs.Reading.{read_of}
use Rattle.file_spec.proofs.Clauses.{met-out, met-in, inside-trans}
use Rattle.file_read.proofs.Answer.{served}
use Rattle.rule_same.specs.Same.{agree, same_entry_lem, same_entries_lem, same_rules, same_named, same_files_lem, same_bodies_lem, same_rules_of}

-- ---- evaluated

-- one state and one letter
one : ℕ → List ℕ → List ℕ → Rule
one accepting counts clauses = record { n = 1; s = 1; initial = 0; accepting = accepting; counts = counts; clauses = clauses }

-- a clause that another makes superfluous: other clauses, the same sets
superfluous : same_rules (one 0 (2 ∷ []) (0 ∷ (1 ∷ []))) (one 0 (1 ∷ []) (0 ∷ [])) ≡ true
superfluous = unfold same_rules same_entries_lem same_entry_lem every entry sum satisfies inside bit one in refl

-- no clause and an empty clause
opposite : same_rules (one 0 (0 ∷ []) []) (one 0 (1 ∷ []) (0 ∷ [])) ≡ false
opposite = unfold same_rules same_entries_lem same_entry_lem every entry sum satisfies inside bit one in refl

-- another accepting mask
other-mask : same_rules (one 0 (1 ∷ []) (1 ∷ [])) (one 1 (1 ∷ []) (1 ∷ [])) ≡ false
other-mask = unfold same_rules same_entries_lem same_entry_lem every entry sum satisfies inside bit one in refl

-- ---- both hold, or neither

agree-equal : (a b : Bool) → agree a b ≡ true → a ≡ b
agree-equal true b e = sym e
agree-equal false true e = e
agree-equal false false e = refl

pub equal-agree : (a b : Bool) → a ≡ b → agree a b ≡ true
equal-agree true b e = sym e
equal-agree false b e = rw (sym e)

-- ---- clauses as sets

-- each clause of cs, as a set, satisfies ds
abbrev pub Each : ℕ → List ℕ → List ℕ → Bool
Each k cs ds = all_of cs (λ c. satisfies k (bit c) ds)

-- then each set that satisfies cs satisfies ds
pub each-satisfies : (n : ℕ) (cs ds : List ℕ) → Each n cs ds ≡ true → (X : Set) → satisfies n X cs ≡ true → satisfies n X ds ≡ true
each-satisfies n cs ds e X s =
    let c = met-out n X cs s in
    let d = met-out n (bit c.0) ds (all-of-at cs (λ c. satisfies n (bit c) ds) e c.0 c.1) in
    met-in n X ds d.0 d.1 (inside-trans n X c.0 d.0 c.2 d.2)

-- a clause satisfies its own entry
own : (n : ℕ) (cs : List ℕ) (c : ℕ) → Memᴰ c cs → satisfies n (bit c) cs ≡ true
own n cs c m = met-in n (bit c) cs c m (inside-all n (bit c) c (λ q l b. b))

module _ (n : ℕ) (cs ds : List ℕ) (small-c : (c : ℕ) → Memᴰ c cs → c < 2 ^ n) (small-d : (c : ℕ) → Memᴰ c ds → c < 2 ^ n) where
  wide : n ≤ 8 → (xs ys : List ℕ) → ((c : ℕ) → Memᴰ c ys → c < 2 ^ n) → Each 8 xs ys ≡ Each n xs ys
  unfolding all_of
  wide l [] ys h = refl
  wide l (x ∷ xs) ys h = rw (satisfies-wide 8 n (bit x) l ys h, wide l xs ys h)

  -- the clauses of each satisfy the other exactly if the same sets satisfy both
  pub each_same : (Each n cs ds && Each n ds cs) ≡ same_entry_lem n cs ds
  unfolding same_entry_lem
  each_same =
      iff (Each n cs ds && Each n ds cs) (same_entry_lem n cs ds)
      (λ e. every-all (2 ^ n) (λ X. agree (satisfies n (bit X) cs) (satisfies n (bit X) ds))
      (λ X l. equal-agree (satisfies n (bit X) cs) (satisfies n (bit X) ds) (iff (satisfies n (bit X) cs) (satisfies n (bit X) ds)
      (each-satisfies n cs ds (and_l (Each n cs ds) (Each n ds cs) e) (bit X))
      (each-satisfies n ds cs (and_r (Each n cs ds) (Each n ds cs) e) (bit X)))))
      (λ e. let at : (X : ℕ) → X < 2 ^ n → satisfies n (bit X) cs ≡ satisfies n (bit X) ds =
      λ X l. agree-equal (satisfies n (bit X) cs) (satisfies n (bit X) ds) (every-at (2 ^ n) (λ X. agree (satisfies n (bit X) cs) (satisfies n (bit X) ds)) e X l) in
      and_i (all-of-all cs (λ c. satisfies n (bit c) ds) (λ c m. sym (at c (small-c c m)) ∙ own n cs c m))
      (all-of-all ds (λ c. satisfies n (bit c) cs) (λ c m. at c (small-d c m) ∙ own n ds c m)))

  pub same-clauses : n ≤ 8 → (Each 8 cs ds && Each 8 ds cs) ≡ same_entry_lem n cs ds
  same-clauses l = rw (wide l cs ds small-d, wide l ds cs small-c) each_same

-- ---- entries of well-formed rules

pub entries-same : (r t : Rule) → WellFormed r → WellFormed t → r.n ≡ t.n → r.s ≡ t.s → (q a : ℕ) → q < r.n → a < r.s
    → (Each 8 (entry r q a) (entry t q a) && Each 8 (entry t q a) (entry r q a)) ≡ same_entry_lem r.n (entry r q a) (entry t q a)
entries-same r t w v e f q a l m =
    same-clauses _ _ _ (entry-states r w q a l m) (λ c h. rw e (entry-states t v q a (rw (sym e) l) (rw (sym f) m) c h)) w.few_states

-- ---- the numbers of two rules

-- n, s, initial state and accepting mask agree
abbrev pub Numbers : Head → Head → Bool
Numbers g h = eqb g.n h.n && (eqb g.s h.s && (eqb g.initial h.initial && eqb g.accepting h.accepting))

module _ (g h : Head) where
  pub differ-n : (g.n ≡ h.n → ⊥) → false ≡ Numbers g h
  differ-n d = rw (ne_eqb g.n h.n d)

  pub differ-s : g.n ≡ h.n → (g.s ≡ h.s → ⊥) → false ≡ Numbers g h
  differ-s n d = rw (eq-eqb g.n h.n n, ne_eqb g.s h.s d)

  pub differ-initial : g.n ≡ h.n → g.s ≡ h.s → (g.initial ≡ h.initial → ⊥) → false ≡ Numbers g h
  differ-initial n s d = rw (eq-eqb g.n h.n n, eq-eqb g.s h.s s, ne_eqb g.initial h.initial d)

  pub differ-accepting : g.n ≡ h.n → g.s ≡ h.s → g.initial ≡ h.initial → (g.accepting ≡ h.accepting → ⊥) → false ≡ Numbers g h
  differ-accepting n s i d = rw (eq-eqb g.n h.n n, eq-eqb g.s h.s s, eq-eqb g.initial h.initial i, ne_eqb g.accepting h.accepting d)

  pub agree-all : g.n ≡ h.n → g.s ≡ h.s → g.initial ≡ h.initial → g.accepting ≡ h.accepting → true ≡ Numbers g h
  agree-all n s i a = rw (eq-eqb g.n h.n n, eq-eqb g.s h.s s, eq-eqb g.initial h.initial i, eq-eqb g.accepting h.accepting a)

  -- rules of the same numbers differ in their lists alone
  pub numbers-equal : Numbers g h ≡ true → (counts clauses : List ℕ) → rule_of g counts clauses ≡ rule_of h counts clauses
  numbers-equal e counts clauses =
      let n = eqb g.n h.n in
      let s = eqb g.s h.s in
      let i = eqb g.initial h.initial in
      let a = eqb g.accepting h.accepting in
      let x = and_r n (s && (i && a)) e in
      let y = and_r s (i && a) x in
      let en : g.n ≡ h.n = eqb-true g.n h.n (and_l n (s && (i && a)) e) in
      let es : g.s ≡ h.s = eqb-true g.s h.s (and_l s (i && a) x) in
      let ei : g.initial ≡ h.initial = eqb-true g.initial h.initial (and_l i a y) in
      let ea : g.accepting ≡ h.accepting = eqb-true g.accepting h.accepting (and_r i a y) in
      cc

-- ---- the answer for two files

pub served-both : (f g : List ℕ) → file_row f ≡ 0 → file_row g ≡ 0 → Ok (same_files_lem f g) ≡ same_rules_of f g
unfolding same_rules_of file_row
served-both f g y z = rw (refusal_and (file_rows_lem f) (file_rows_lem g), refusal-passes (file_rows_lem f) y, refusal-passes (file_rows_lem g) z)

-- what the two walks over the clauses of two entries say of the entries
pub entries-told : (r t : Rule) → WellFormed r → WellFormed t → r.n ≡ t.n → r.s ≡ t.s → (q a : ℕ) → q < r.n → a < r.s → {xs ys : List ℕ} {b : Bool}
    → b ≡ (Each 8 xs ys && Each 8 ys xs) → xs ≡ entry r q a → ys ≡ entry t q a → b ≡ same_entry_lem r.n (entry r q a) (entry t q a)
entries-told r t w v e f q a l m {xs} {ys} h x y =
    h ∙ ap (λ (z : List ℕ). Each 8 z ys && Each 8 ys z) x ∙ ap (λ (z : List ℕ). Each 8 (entry r q a) z && Each 8 z (entry r q a)) y ∙ entries-same r t w v e f q a l m

-- ---- two files that no row refuses

module _ (f g : List ℕ) (l m : Layout) (p : read_of f ≡ Ok l) (q : read_of g ≡ Ok m) where
  first-rule : rule_of l.head (counts_of_lem f) (clauses_of_lem f) ≡ rule_in f
  first-rule = (served f l p).rule

  second-rule : rule_of m.head (counts_of_lem g) (clauses_of_lem g) ≡ rule_in g
  second-rule = (served g m q).rule

  same_by : same_bodies_lem f g ≡ (Numbers l.head m.head && same_entries_lem (rule_of l.head (counts_of_lem f) (clauses_of_lem f)) (rule_of m.head (counts_of_lem g) (clauses_of_lem g)))
  unfolding same_rules
  same_by =
      ap (λ (r : Rule). same_rules r (rule_in g)) (sym first-rule)
      ∙ ap (λ (t : Rule). same_rules (rule_of l.head (counts_of_lem f) (clauses_of_lem f)) t) (sym second-rule)

  pub numbers-differ : Numbers l.head m.head ≡ false → false ≡ same_bodies_lem f g
  numbers-differ e = sym (same_by ∙ rw e)

  module _ (e : Numbers l.head m.head ≡ true) {c₁ k₁ c₂ k₂ : List ℕ} (x : c₁ ≡ counts_of_lem f) (y : k₁ ≡ clauses_of_lem f) (z : c₂ ≡ counts_of_lem g) (w : k₂ ≡ clauses_of_lem g) where
    second-as : rule_of l.head (counts_of_lem g) (clauses_of_lem g) ≡ rule_in g
    second-as = numbers-equal l.head m.head e (counts_of_lem g) (clauses_of_lem g) ∙ second-rule

    pub both-formed : WellFormed (rule_of l.head c₁ k₁) × WellFormed (rule_of l.head c₂ k₂)
    both-formed = (rw (x, y, first-rule) (served f l p).passing.formed, rw (z, w, second-as) (served g m q).passing.formed)

    pub same-told : (b : Bool) → b ≡ same_entries_lem (rule_of l.head c₁ k₁) (rule_of l.head c₂ k₂) → b ≡ same_bodies_lem f g
    same-told b h =
        let n = numbers-equal l.head m.head e (counts_of_lem g) (clauses_of_lem g) in
        let s : b ≡ same_entries_lem (rule_of l.head (counts_of_lem f) (clauses_of_lem f)) (rule_of m.head (counts_of_lem g) (clauses_of_lem g)) =
        h ∙ ap (λ (c : List ℕ). same_entries_lem (rule_of l.head c k₁) (rule_of l.head c₂ k₂)) x
        ∙ ap (λ (k : List ℕ). same_entries_lem (rule_of l.head (counts_of_lem f) k) (rule_of l.head c₂ k₂)) y
        ∙ ap (λ (c : List ℕ). same_entries_lem (rule_of l.head (counts_of_lem f) (clauses_of_lem f)) (rule_of l.head c k₂)) z
        ∙ ap (λ (k : List ℕ). same_entries_lem (rule_of l.head (counts_of_lem f) (clauses_of_lem f)) (rule_of l.head (counts_of_lem g) k)) w
        ∙ ap (λ (t : Rule). same_entries_lem (rule_of l.head (counts_of_lem f) (clauses_of_lem f)) t) n in
        sym (same_by ∙ ap (λ (v : Bool). v && same_entries_lem (rule_of l.head (counts_of_lem f) (clauses_of_lem f)) (rule_of m.head (counts_of_lem g) (clauses_of_lem g))) e ∙ sym s)

-- ---- the names of two files

module _ (f g : List ℕ) {xs ys : List ℕ} {b : Bool} (x : xs ≡ names_of f) (y : ys ≡ names_of g) (e : (b ≡ true → xs ≡ ys) × (xs ≡ ys → b ≡ true)) where
  names-are : same_lists (names_of f) (names_of g) ≡ b
  names-are = sym (lists-told b (names_of f) (names_of g) (λ t. sym x ∙ e.0 t ∙ y) (λ p. e.1 (x ∙ p ∙ sym y)))

  pub names-differ : b ≡ false → false ≡ same_files_lem f g
  names-differ t = unfold same_named in rw (names-are ∙ t, and-false (same_rules (rule_in f) (rule_in g)))

  pub names-agree : b ≡ true → same_bodies_lem f g ≡ same_files_lem f g
  names-agree t = unfold same_named in rw (names-are ∙ t, and-true (same_rules (rule_in f) (rule_in g)))
