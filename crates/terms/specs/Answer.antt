-- What a call answers, in document 01's numbers and values.
use Rattle.std.specs.Prelude.{ℕ, Bool, true, false, List, Result, Ok, Err, codes}
use Rattle.terms.specs.declared.Refusal.{Refusal}

-- "The answer .. is a result or one of the .. refusals": a refusal is its number, a result its values.
pub data Answer (A : Type 0) : Type 0 where
  refusal : ℕ → Answer A
  result : A → Answer A

-- "Checks run in this order": refusal k where the test holds, and otherwise what the later checks say.
abbrev pub refuse_if : {A : Type 0} → Bool → ℕ → Answer A → Answer A
refuse_if true k later = refusal k
refuse_if false k later = later

-- A refusal stands; the checks on a result go on.
abbrev pub and_then : {A B : Type 0} → Answer A → (A → Answer B) → Answer B
and_then (refusal k) later = refusal k
and_then (result v) later = later v

-- The table of refusals: the number of each trade word.
abbrev pub number_of : Refusal → ℕ
number_of Refusal.WrongFile = 1
number_of Refusal.WrongVersion = 2
number_of Refusal.WrongLength = 3
number_of Refusal.StackSize = 4
number_of Refusal.BadComponent = 5
number_of Refusal.BadGap = 6
number_of Refusal.BadLimit = 7
number_of Refusal.ShortBuffer = 8
number_of Refusal.Unmeetable = 9
number_of Refusal.BrokenFolding = 10
number_of Refusal.BadMark = 11
number_of Refusal.RowSize = 12

-- The trade words as text.
abbrev pub trade_word : Refusal → List ℕ
trade_word Refusal.WrongFile = codes "wrong file"
trade_word Refusal.WrongVersion = codes "wrong version"
trade_word Refusal.WrongLength = codes "wrong length"
trade_word Refusal.StackSize = codes "stack size"
trade_word Refusal.BadComponent = codes "bad component"
trade_word Refusal.BadGap = codes "bad gap"
trade_word Refusal.BadLimit = codes "bad limit"
trade_word Refusal.ShortBuffer = codes "short buffer"
trade_word Refusal.Unmeetable = codes "unmeetable"
trade_word Refusal.BrokenFolding = codes "broken folding"
trade_word Refusal.BadMark = codes "bad fold mark"
trade_word Refusal.RowSize = codes "row size"

-- The answer of a call: its result, or the number of its refusal.
abbrev pub answer_of : {A : Type 0} → Result A Refusal → Answer A
answer_of (Ok v) = result v
answer_of (Err k) = refusal (number_of k)
