-- The first row that applies.
use mathlib.Core.Path.{◌≡◌, refl, sym, ◌∙◌, ap}
use mathlib.Core.Logic.{◌↔◌, ⊎_elim}
use mathlib.Core.Bool.{Bool, true, false, ◌&&◌}
use mathlib.Core.List.Memᴰ
use mathlib.Core.List.{List, [], ◌∷◌, ◌++◌, Memᴰ}
use Prim.Native.Nat.{ℕ, suc, ◌-◌, ◌<◌}
use Rattle.std.proofs.Common.{lit<}
use native.Mathlib.Omega.{arith}
use lib.Dec.{ltb}
use lib.ListN.{get_or}
use borrow.Author.Tests.{ltb-true}
use Rattle.std.specs.Prelude.{Result, Ok, Err, ⊤}
use Rattle.std.specs.Result.{result_and}
use Rattle.refusals.specs.declared.Refusal.{Refusal}
use Rattle.refusals.specs.declared.Refusal.TheVariants.{ShortFile, NoTag, States, Letters, Initial, Accepting, Cut, Count, Sum, Clause, Mixed, NoCycle, LongWord, Letter, Table, Slice, MacrostateRoom, TransitionRoom, NoTable, ClauseInside, Names, NameByte, EqualNames, Words, EventLine, CoveredLine, NoLine, OtherLetters, PairRoom, LogFull, LogEmpty, Mark, MarkNotSet}
use Rattle.refusals.specs.Rows.{Check, check, number_of, refusal_at, row_of, first_refusal, first_row}
use Rattle.sets.proofs.Bools.{bif, and_l, and_r}

-- each row has a number above 0
pub number-above : (r : Refusal) → 0 < number_of r
number-above r = elim r as (λ x. 0 < number_of x) [ ShortFile ↦ lit< tt | NoTag ↦ lit< tt | States ↦ lit< tt | Letters ↦ lit< tt | Initial ↦ lit< tt | Accepting ↦ lit< tt | Cut ↦ lit< tt | Count ↦ lit< tt | Sum ↦ lit< tt | Clause ↦ lit< tt | Mixed ↦ lit< tt | NoCycle ↦ lit< tt | LongWord ↦ lit< tt | Letter ↦ lit< tt | Table ↦ lit< tt | Slice ↦ lit< tt | MacrostateRoom ↦ lit< tt | TransitionRoom ↦ lit< tt | NoTable ↦ lit< tt | ClauseInside ↦ lit< tt | Names ↦ lit< tt | NameByte ↦ lit< tt | EqualNames ↦ lit< tt | Words ↦ lit< tt | EventLine ↦ lit< tt | CoveredLine ↦ lit< tt | NoLine ↦ lit< tt | OtherLetters ↦ lit< tt | PairRoom ↦ lit< tt | LogFull ↦ lit< tt | LogEmpty ↦ lit< tt | Mark ↦ lit< tt | MarkNotSet ↦ lit< tt ]

-- each row has a number above 0
abbrev pub Numbered : List Check → Type 0
Numbered cs = (x : Check) → Memᴰ x cs → 0 < number_of x.refusal

-- none of the rows applies
abbrev pub NoneApplies : List Check → Type 0
NoneApplies cs = (x : Check) → Memᴰ x cs → x.applies ≡ false

-- a row numbered k applies, and none of the rows before it
pub record FirstApplies (cs : List Check) (k : ℕ) : Type 0 where
  pub before : List Check
  pub row : Check
  pub after : List Check
  pub whole : cs ≡ before ++ (row ∷ after)
  pub none_before : NoneApplies before
  pub applies : row.applies ≡ true
  pub number : number_of row.refusal ≡ k

pub row-yes : (c : Check) (cs : List Check) → c.applies ≡ true → first_row (c ∷ cs) ≡ number_of c.refusal
unfolding first_row
row-yes c cs e = rw e

pub row-no : (c : Check) (cs : List Check) → c.applies ≡ false → first_row (c ∷ cs) ≡ first_row cs
unfolding first_row
row-no c cs e = rw e

found : (cs : List Check) (k : ℕ) → 0 < k → first_row cs ≡ k → FirstApplies cs k
unfolding first_row
found [] k p e = absurd (omega arith)
found (c ∷ cs) k p e =
    bif c.applies
    (λ t. record {
      before = [];
      row = c;
      after = cs;
      whole = refl;
      none_before = λ x m. absurd (Memᴰ.not-nil m);
      applies = t;
      number = sym (row-yes c cs t) ∙ e;
    })
    (λ t. let r = found cs k p (sym (row-no c cs t) ∙ e) in
    record {
      before = c ∷ r.before;
      row = r.row;
      after = r.after;
      whole = ap (λ (l : List Check). c ∷ l) r.whole;
      none_before = λ x m. ⊎_elim (λ q. ap (λ (y : Check). y.applies) q ∙ t) (λ n. r.none_before x n) (Memᴰ.cases_cons m);
      applies = r.applies;
      number = r.number;
    })

past : (before : List Check) (c : Check) (after : List Check) → NoneApplies before → c.applies ≡ true → first_row (before ++ (c ∷ after)) ≡ number_of c.refusal
past [] c after h t = row-yes c after t
past (b ∷ before) c after h t =
    row-no b (before ++ (c ∷ after)) (h b (Memᴰ.head refl)) ∙ past before c after (λ x m. h x (Memᴰ.tail m)) t

-- The answer is k exactly if a row numbered k applies and none before it.
pub first-row-iff : (cs : List Check) (k : ℕ) → 0 < k → (first_row cs ≡ k) ↔ FirstApplies cs k
first-row-iff cs k p = (
  λ e. found cs k p e,
  λ r. ap first_row r.whole ∙ past r.before r.row r.after r.none_before r.applies ∙ r.number,
)

pub row-none : (cs : List Check) → Numbered cs → first_row cs ≡ 0 → NoneApplies cs
row-none [] h e x m = absurd (Memᴰ.not-nil m)
row-none (c ∷ cs) h e x m =
    bif c.applies
    (λ t. let n = h c (Memᴰ.head refl) in let z : number_of c.refusal ≡ 0 = sym (row-yes c cs t) ∙ e in absurd (omega arith))
    (λ t. ⊎_elim (λ q. ap (λ (y : Check). y.applies) q ∙ t) (λ k. row-none cs (λ y n. h y (Memᴰ.tail n)) (sym (row-no c cs t) ∙ e) x k) (Memᴰ.cases_cons m))

pub none_row : (cs : List Check) → NoneApplies cs → first_row cs ≡ 0
unfolding first_row
none_row [] h = refl
none_row (c ∷ cs) h = row-no c cs (h c (Memᴰ.head refl)) ∙ none_row cs (λ x m. h x (Memᴰ.tail m))

-- The answer is 0 exactly if no row applies.
pub no-row-iff : (cs : List Check) → Numbered cs → (first_row cs ≡ 0) ↔ NoneApplies cs
no-row-iff cs h = (λ e. row-none cs h e, λ n. none_row cs n)

-- ---- one table after another

-- whether each row has a number above 0
unfoldable pub numbered : List Check → Bool
numbered [] = true
numbered (c ∷ cs) = ltb 0 (number_of c.refusal) && numbered cs

pub numbered-rows : (cs : List Check) → numbered cs ≡ true → Numbered cs
unfolding numbered
numbered-rows [] n x m = absurd (Memᴰ.not-nil m)
numbered-rows (c ∷ cs) n x m =
    ⊎_elim
    (λ e. rw e (ltb-true 0 (number_of c.refusal) (and_l (ltb 0 (number_of c.refusal)) (numbered cs) n)))
    (λ k. numbered-rows cs (and_r (ltb 0 (number_of c.refusal)) (numbered cs) n) x k)
    (Memᴰ.cases_cons m)

-- what refuses in the first table is the answer
pub first-left : (xs ys : List Check) (k : ℕ) → (k ≡ 0 → ⊥) → k ≡ first_row xs → k ≡ first_row (xs ++ ys)
unfolding first_row
first-left [] ys k n e = absurd (n e)
first-left (c ∷ xs) ys k n e =
    bif c.applies
    (λ t. e ∙ row-yes c xs t ∙ sym (row-yes c (xs ++ ys) t))
    (λ t. first-left xs ys k n (e ∙ row-no c xs t) ∙ sym (row-no c (xs ++ ys) t))

-- where nothing refuses in the first table, the second answers
pub first-right : (xs ys : List Check) → numbered xs ≡ true → first_row xs ≡ 0 → first_row (xs ++ ys) ≡ first_row ys
unfolding numbered
first-right [] ys n e = refl
first-right (c ∷ xs) ys n e =
    bif c.applies
    (λ t. let p = ltb-true 0 (number_of c.refusal) (and_l (ltb 0 (number_of c.refusal)) (numbered xs) n) in let z = sym (row-yes c xs t) ∙ e in absurd (omega arith))
    (λ t. row-no c (xs ++ ys) t ∙ first-right xs ys (and_r (ltb 0 (number_of c.refusal)) (numbered xs) n) (sym (row-no c xs t) ∙ e))

-- where nothing refuses in the joined table, nothing does in either
pub first-parts : (xs ys : List Check) → numbered xs ≡ true → first_row (xs ++ ys) ≡ 0 → (first_row xs ≡ 0) × (first_row ys ≡ 0)
unfolding numbered first_row
first-parts [] ys n e = (refl, e)
first-parts (c ∷ xs) ys n e =
    bif c.applies
    (λ t. let p = ltb-true 0 (number_of c.refusal) (and_l (ltb 0 (number_of c.refusal)) (numbered xs) n) in let z = sym (row-yes c (xs ++ ys) t) ∙ e in absurd (omega arith))
    (λ t. let r = first-parts xs ys (and_r (ltb 0 (number_of c.refusal)) (numbered xs) n) (sym (row-no c (xs ++ ys) t) ∙ e) in
    (row-no c xs t ∙ r.0, r.1))

-- where nothing refuses, the first row does not apply, and nothing refuses in the others
pub first-pass : (b : Bool) (r : Refusal) (cs : List Check) → first_row (check b r ∷ cs) ≡ 0 → (b ≡ false) × (first_row cs ≡ 0)
unfolding first_row
first-pass true r cs e = let n = number-above r in absurd (omega arith)
first-pass false r cs e = (refl, e)

-- ---- the refusal itself, as `?` passes it on

pub refusal-yes : (c : Check) (cs : List Check) → c.applies ≡ true → first_refusal (c ∷ cs) ≡ Err c.refusal
unfolding first_refusal
refusal-yes c cs e = rw e

pub refusal-no : (c : Check) (cs : List Check) → c.applies ≡ false → first_refusal (c ∷ cs) ≡ first_refusal cs
unfolding first_refusal
refusal-no c cs e = rw e

-- its number is that of the first row that applies
pub row-refusal : (cs : List Check) → row_of (first_refusal cs) ≡ first_row cs
unfolding first_refusal first_row
row-refusal [] = refl
row-refusal (c ∷ cs) =
    bif c.applies
    (λ t. ap row_of (refusal-yes c cs t) ∙ sym (row-yes c cs t))
    (λ t. ap row_of (refusal-no c cs t) ∙ row-refusal cs ∙ sym (row-no c cs t))

-- nothing refuses exactly if the number is 0
pub row-passes : (cs : List Check) → first_refusal cs ≡ Ok tt → first_row cs ≡ 0
row-passes cs e = sym (row-refusal cs) ∙ ap row_of e

pub refusal-passes : (cs : List Check) → first_row cs ≡ 0 → first_refusal cs ≡ Ok tt
unfolding first_refusal
refusal-passes [] e = refl
refusal-passes (c ∷ cs) e =
    bif c.applies
    (λ t. let z = sym (row-yes c cs t) ∙ e in let n = number-above c.refusal in absurd (omega arith))
    (λ t. refusal-no c cs t ∙ refusal-passes cs (sym (row-no c cs t) ∙ e))

-- two tables are one `?` after the other
pub refusal_and : (xs ys : List Check) → first_refusal (xs ++ ys) ≡ result_and (first_refusal xs) (first_refusal ys)
unfolding first_refusal
refusal_and [] ys = refl
refusal_and (c ∷ xs) ys =
    bif c.applies
    (λ t. refusal-yes c (xs ++ ys) t ∙ ap (λ (r : Result ⊤ Refusal). result_and r (first_refusal ys)) (sym (refusal-yes c xs t)))
    (λ t. refusal-no c (xs ++ ys) t ∙ refusal_and xs ys ∙ ap (λ (r : Result ⊤ Refusal). result_and r (first_refusal ys)) (sym (refusal-no c xs t)))

pub refused-row : (cs : List Check) (r : Refusal) → first_refusal cs ≡ Err r → first_row cs ≡ number_of r
refused-row cs r e = sym (row-refusal cs) ∙ ap row_of e

pub refused-some : (cs : List Check) (r : Refusal) → first_refusal cs ≡ Err r → first_row cs ≡ 0 → ⊥
refused-some cs r e z = let n = number-above r in let k = refused-row cs r e in omega arith

pub refused-suc : (cs : List Check) (r : Refusal) → first_refusal cs ≡ Err r → (k : ℕ) × (first_row cs ≡ suc k)
refused-suc cs r e = let n = number-above r in let k = refused-row cs r e in (first_row cs - 1, omega arith)

-- ---- an answer: the refusal, or a value

pub answer-passes : {A : Type 0} (cs : List Check) (v : A) → first_row cs ≡ 0 → result_and (first_refusal cs) (Ok v) ≡ Ok v
answer-passes cs v e = rw (refusal-passes cs e)

pub answer-refused : {A : Type 0} (cs : List Check) (v : A) (r : Refusal) → first_refusal cs ≡ Err r → result_and (first_refusal cs) (Ok v) ≡ Err r
answer-refused cs v r e = rw e

from-ok : {A : Type 0} (r : Result ⊤ Refusal) (v x : A) → result_and r (Ok v) ≡ Ok x → (r ≡ Ok tt) × (x ≡ v)
from-ok (Ok u) v x e = (refl, cc)
from-ok (Err r) v x e = cc

from-err : {A : Type 0} (r : Result ⊤ Refusal) (v : A) (k : Refusal) → result_and r (Ok v) ≡ Err k → r ≡ Err k
from-err (Ok u) v k e = cc
from-err (Err r) v k e = cc

pub answer-served : {A : Type 0} (cs : List Check) (v x : A) → result_and (first_refusal cs) (Ok v) ≡ Ok x → (first_row cs ≡ 0) × (x ≡ v)
answer-served cs v x e = let p = from-ok (first_refusal cs) v x e in (row-passes cs p.0, p.1)

pub answer-refuses : {A : Type 0} (cs : List Check) (v : A) (k : Refusal) → result_and (first_refusal cs) (Ok v) ≡ Err k → first_refusal cs ≡ Err k
answer-refuses cs v k e = from-err (first_refusal cs) v k e

-- ---- a number is that of one refusal alone

by_number : ℕ → Result ⊤ Refusal
by_number n = get_or (Ok tt ∷ Err ShortFile ∷ Err NoTag ∷ Err States ∷ Err Letters ∷ Err Initial ∷ Err Accepting ∷ Err Cut ∷ Err Count ∷ Err Sum ∷ Err Clause ∷ Err Mixed ∷ Err NoCycle ∷ Err LongWord ∷ Err Letter ∷ Err Table ∷ Err Slice ∷ Err MacrostateRoom ∷ Err TransitionRoom ∷ Err NoTable ∷ Err ClauseInside ∷ Err Names ∷ Err NameByte ∷ Err EqualNames ∷ Err Words ∷ Err EventLine ∷ Err CoveredLine ∷ Err NoLine ∷ Err OtherLetters ∷ Err PairRoom ∷ Err LogFull ∷ Err LogEmpty ∷ Err Mark ∷ Err MarkNotSet ∷ []) n (Ok tt)

by_number-row : (r : Result ⊤ Refusal) → by_number (row_of r) ≡ r
unfolding by_number
by_number-row (Ok u) = refl
by_number-row (Err r) = elim r as (λ x. by_number (number_of x) ≡ Err x) [ ShortFile ↦ refl | NoTag ↦ refl | States ↦ refl | Letters ↦ refl | Initial ↦ refl | Accepting ↦ refl | Cut ↦ refl | Count ↦ refl | Sum ↦ refl | Clause ↦ refl | Mixed ↦ refl | NoCycle ↦ refl | LongWord ↦ refl | Letter ↦ refl | Table ↦ refl | Slice ↦ refl | MacrostateRoom ↦ refl | TransitionRoom ↦ refl | NoTable ↦ refl | ClauseInside ↦ refl | Names ↦ refl | NameByte ↦ refl | EqualNames ↦ refl | Words ↦ refl | EventLine ↦ refl | CoveredLine ↦ refl | NoLine ↦ refl | OtherLetters ↦ refl | PairRoom ↦ refl | LogFull ↦ refl | LogEmpty ↦ refl | Mark ↦ refl | MarkNotSet ↦ refl ]

pub refusal-same : (xs ys : List Check) → first_row xs ≡ first_row ys → first_refusal xs ≡ first_refusal ys
refusal-same xs ys e =
    sym (by_number-row (first_refusal xs)) ∙ ap by_number (row-refusal xs ∙ e ∙ sym (row-refusal ys)) ∙ by_number-row (first_refusal ys)

refusal-at-number : (r : Refusal) → refusal_at (number_of r - 1) ≡ r
unfolding refusal_at
refusal-at-number r = elim r as (λ x. refusal_at (number_of x - 1) ≡ x) [ ShortFile ↦ refl | NoTag ↦ refl | States ↦ refl | Letters ↦ refl | Initial ↦ refl | Accepting ↦ refl | Cut ↦ refl | Count ↦ refl | Sum ↦ refl | Clause ↦ refl | Mixed ↦ refl | NoCycle ↦ refl | LongWord ↦ refl | Letter ↦ refl | Table ↦ refl | Slice ↦ refl | MacrostateRoom ↦ refl | TransitionRoom ↦ refl | NoTable ↦ refl | ClauseInside ↦ refl | Names ↦ refl | NameByte ↦ refl | EqualNames ↦ refl | Words ↦ refl | EventLine ↦ refl | CoveredLine ↦ refl | NoLine ↦ refl | OtherLetters ↦ refl | PairRoom ↦ refl | LogFull ↦ refl | LogEmpty ↦ refl | Mark ↦ refl | MarkNotSet ↦ refl ]

pub refusal-at : (r : Refusal) (k : ℕ) → number_of r ≡ suc k → refusal_at k ≡ r
refusal-at r k e = let n : k ≡ number_of r - 1 = omega arith in ap refusal_at n ∙ refusal-at-number r

-- where either table refuses, the value does not matter
pub answer-same : {A : Type 0} (r s : Result ⊤ Refusal) (v w : A) → (r ≡ Ok tt → s ≡ Ok tt → v ≡ w) → result_and (result_and r s) (Ok v) ≡ result_and (result_and r s) (Ok w)
answer-same (Ok u) (Ok t) v w h = ap Ok (h refl refl)
answer-same (Ok u) (Err k) v w h = refl
answer-same (Err k) s v w h = refl

-- what refuses in the first table is the answer
pub refusal-left : (xs ys : List Check) (r : Refusal) → first_refusal xs ≡ Err r → first_refusal (xs ++ ys) ≡ Err r
refusal-left xs ys r e = rw (refusal_and xs ys, e)

-- where nothing refuses in the first table, the second answers
pub refusal-right : (xs ys : List Check) → first_refusal xs ≡ Ok tt → first_refusal (xs ++ ys) ≡ first_refusal ys
refusal-right xs ys e = rw (refusal_and xs ys, e)
