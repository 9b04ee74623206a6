-- A table of refusals, tried in order.
use Rattle.std.specs.Prelude.{Bool, cond, List, [], ◌∷◌, ℕ, get_or, Result, Ok, Err, ⊤}
use Rattle.refusals.specs.declared.Refusal.{Refusal}
use Rattle.refusals.specs.declared.Refusal.TheVariants.{ShortFile, NoTag, States, Letters, Initial, Accepting, Cut, Count, Sum, Clause, Mixed, NoCycle, LongWord, Letter, Table, Slice, MacrostateRoom, TransitionRoom, NoTable, ClauseInside, Names, NameByte, EqualNames, Words, EventLine, CoveredLine, NoLine, OtherLetters, PairRoom, LogFull, LogEmpty, Mark, MarkNotSet}

-- the number of a refusal's row
abbrev pub number_of : Refusal → ℕ
number_of ShortFile = 1
number_of NoTag = 2
number_of States = 3
number_of Letters = 4
number_of Initial = 5
number_of Accepting = 6
number_of Cut = 7
number_of Count = 8
number_of Sum = 9
number_of Clause = 10
number_of Mixed = 11
number_of NoCycle = 12
number_of LongWord = 13
number_of Letter = 14
number_of Table = 15
number_of Slice = 16
number_of MacrostateRoom = 17
number_of TransitionRoom = 18
number_of NoTable = 19
number_of ClauseInside = 20
number_of Names = 21
number_of NameByte = 22
number_of EqualNames = 23
number_of Words = 24
number_of EventLine = 25
number_of CoveredLine = 26
number_of NoLine = 27
number_of OtherLetters = 28
number_of PairRoom = 29
number_of LogFull = 30
number_of LogEmpty = 31
number_of Mark = 32
number_of MarkNotSet = 33

-- the refusal whose row has the number k + 1, where there is one
unfoldable pub refusal_at : ℕ → Refusal
refusal_at k = get_or (ShortFile ∷ NoTag ∷ States ∷ Letters ∷ Initial ∷ Accepting ∷ Cut ∷ Count ∷ Sum ∷ Clause ∷ Mixed ∷ NoCycle ∷ LongWord ∷ Letter ∷ Table ∷ Slice ∷ MacrostateRoom ∷ TransitionRoom ∷ NoTable ∷ ClauseInside ∷ Names ∷ NameByte ∷ EqualNames ∷ Words ∷ EventLine ∷ CoveredLine ∷ NoLine ∷ OtherLetters ∷ PairRoom ∷ LogFull ∷ LogEmpty ∷ Mark ∷ MarkNotSet ∷ []) k MarkNotSet

-- one row: whether it applies, and what it refuses for
pub record Check : Type 0 where
  pub applies : Bool
  pub refusal : Refusal

-- a test and the refusal of its row
abbrev pub check : Bool → Refusal → Check
check applies refusal = record { applies = applies; refusal = refusal }

-- the refusal of the first row that applies, or none
unfoldable pub first_refusal : List Check → Result ⊤ Refusal
first_refusal [] = Ok tt
first_refusal (c ∷ cs) = cond c.applies (Err c.refusal) (first_refusal cs)

-- the number of a refusal, or 0 for none
abbrev pub row_of : Result ⊤ Refusal → ℕ
row_of (Ok _) = 0
row_of (Err r) = number_of r

-- the number of the first row that applies, or 0
unfoldable pub first_row : List Check → ℕ
first_row [] = 0
first_row (c ∷ cs) = cond c.applies (number_of c.refusal) (first_row cs)
