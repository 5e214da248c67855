-- The words in which the theorems about the table are stated. Definitions only.
use Rattle.std.specs.Prelude.{ℕ, zero, suc, ◌+◌, ◌-◌, ◌<◌, ◌≤◌, ◌≡◌, ◌⊎◌, Bool, true, false, cond, not, ◌&&◌, ◌||◌, List, [], ◌∷◌, ◌++◌, eqb, ltb, ℤ, pos, negsuc, length, get_or}
use Rattle.opcode.specs.declared.record.OpCode.{OpCode}
use Rattle.opcode.specs.Record.{unfilled}
use Rattle.opcode.specs.Times.{time_of}
use Rattle.table.specs.declared.Answer.{Answer}
use Rattle.table.specs.declared.Mode.{Mode}
use Rattle.table.specs.Row.{Kind, none, is, hl, h, l, at_hl, byte, word, at_word, at_port, rel, at_index, byte_behind, Cycles, always, conditional, repeating, Row, row, gap, is_at_hl}
use Rattle.table.specs.Departures.{one_figure, after_first, swapped}
use Rattle.table.specs.Ed.{ed}
use Rattle.table.specs.Prefix.{is_hl_kind}
use Rattle.table.specs.Decode.{page_row, made, four, done, Reading, decode_by}
use Rattle.table.specs.Chip.{chip_row_of, decode_in}

-- f's values at the n numbers from i
abbrev pub values : {A : Type 0} → (ℕ → A) → ℕ → ℕ → List A
values f i zero = []
values f i (suc n) = f i ∷ values f (suc i) n

-- a list of bytes
abbrev pub AllBytes : List ℕ → Type 0
AllBytes s = (k : ℕ) → get_or s k 0 < 256

abbrev pub first : List ℕ → ℕ
first s = get_or s 0 0

abbrev pub second : List ℕ → ℕ
second s = get_or s 1 0

-- the first is DD or FD
abbrev pub Prefixed : List ℕ → Type 0
Prefixed s = (first s ≡ 0xDD) ⊎ (first s ≡ 0xFD)

-- the code is an undefined ED one
abbrev pub Undefined : List ℕ → Type 0
Undefined s = (1 < length s) × (first s ≡ 0xED) × (get_or ed (second s) gap ≡ gap)

-- CB or ED with its code yet to come: fewer than the length of every row of its page
abbrev pub Alone : List ℕ → Type 0
Alone s = (length s ≡ 1) × ((first s ≡ 0xCB) ⊎ (first s ≡ 0xED))

abbrev pub length_of : Row → ℕ
length_of gap = 0
length_of (row i x y z n t) = n

-- fewer than the row's length
abbrev pub Cut : List ℕ → Type 0
Cut s = length s < length_of (page_row (first s) (second s))

-- too few to decide the row: fewer than its length, and in the Rust's mode all of up to three where the first is DD or FD or the code is an undefined ED one; in the chip's, DD or FD alone
abbrev pub TooFew : Mode → List ℕ → Type 0
TooFew Mode.Rust s = Prefixed s ⊎ (Undefined s ⊎ (Alone s ⊎ Cut s))
TooFew Mode.Chip s = ((length s ≡ 1) × Prefixed s) ⊎ (length s < length_of (chip_row_of s))

-- 1, Nothing: no bytes
abbrev pub NothingWhen : List ℕ → Type 0
NothingWhen s = length s ≡ 0

-- 2, Short: one to three bytes, too few to decide the row
abbrev pub ShortWhen : Mode → List ℕ → Type 0
ShortWhen m s = (1 ≤ length s) × (length s ≤ 3) × TooFew m s

-- the same of any reading: one to three bytes, fewer than are needed
abbrev pub Below : Reading → List ℕ → Type 0
Below r s = (1 ≤ length s) × (length s ≤ 3) × (length s < r.needed s)

-- 3, Long: over four bytes
abbrev pub LongWhen : List ℕ → Type 0
LongWhen s = 4 < length s

-- 0, Done: otherwise
abbrev pub DoneWhen : Mode → List ℕ → Type 0
DoneWhen m s = (NothingWhen s → ⊥) × (ShortWhen m s → ⊥) × (LongWhen s → ⊥)

-- what a decoded record of n given bytes keeps to: its length, its machine cycles m, the first m of six T-state places filled and the rest zero, its row times
pub record Keeps (n : ℕ) (o : OpCode) : Type 0 where
  pub length_least : 1 ≤ o.length.0
  pub length_most : o.length.0 ≤ 4
  pub length_given : o.length.0 ≤ n
  pub cycles_least : 1 ≤ o.mcycles.0
  pub cycles_most : o.mcycles.0 ≤ 6
  pub places : length o.tstates ≡ 6
  pub first_filled : (k : ℕ) → k < o.mcycles.0 → 0 < (get_or o.tstates k unfilled).0
  pub rest_zero : (k : ℕ) → o.mcycles.0 ≤ k → get_or o.tstates k unfilled ≡ unfilled
  pub time_least : 4 ≤ o.least.0
  pub time_apart : o.least.0 ≤ o.most.0
  pub time_most : o.most.0 ≤ 23
  pub time_told : o.most ≡ time_of o

-- the record with other data
abbrev pub with_data : OpCode → List ℕ → OpCode
with_data o d =
    record {
      length = o.length;
      ins = o.ins;
      op1 = o.op1;
      op2 = o.op2;
      op3 = o.op3;
      «data» = d;
      tstates = o.tstates;
      mcycles = o.mcycles;
      least = o.least;
      most = o.most;
    }

-- bytes t added to s change nothing of what s decodes to but the data
abbrev pub Stays : Mode → List ℕ → List ℕ → Type 0
Stays m s t = decode_in m (s ++ t) ≡ done (with_data (decode_in m s).rec (four (s ++ t)))

-- k bytes behind s for which the decode succeeds
pub record Completion (r : Reading) (s : List ℕ) (k : ℕ) : Type 0 where
  pub bytes : List ℕ
  pub are_bytes : AllBytes bytes
  pub count : length bytes ≡ k
  pub succeeds : (decode_by r (s ++ bytes)).answer ≡ Answer.Done

-- the fewest bytes that, for some choice of them, would make the decode succeed
abbrev pub Fewest : Reading → List ℕ → ℕ → Type 0
Fewest r s k = Completion r s k × ((j : ℕ) → Completion r s j → k ≤ j)

-- displacements: 0 to 127, then -128 to -1; `negsuc n` is -(n + 1)
abbrev pub displacement : ℕ → ℤ
displacement b = cond (ltb b 128) (pos b) (negsuc (255 - b))

-- relative operands: 2 to 129, then -126 to -1, then 0 and 1
abbrev pub relative : ℕ → ℤ
relative b = cond (ltb b 128) (pos (b + 2)) (cond (ltb b 254) (negsuc (253 - b)) (pos (b - 254)))

-- the sum of a list of T-states
abbrev pub total : List ℕ → ℕ
total [] = 0
total (t ∷ ts) = t + total ts

-- a conditional row shows the larger of UM0080's two figures; a repeating row the smaller one, five less than the other
abbrev pub Shows : Row → Type 0
Shows gap = Unit {0}
Shows (row i x y z n (always ts)) = Unit {0}
Shows (row i x y z n (conditional met unmet)) = total unmet < total (one_figure (conditional met unmet))
Shows (row i x y z n (repeating last again)) = total again ≡ total (one_figure (repeating last again)) + 5

-- UM0080's figures: the quick way through a row, and the slow one
abbrev pub quick : Cycles → List ℕ
quick (always ts) = ts
quick (conditional met unmet) = unmet
quick (repeating last again) = last

abbrev pub slow : Cycles → List ℕ
slow (always ts) = ts
slow (conditional met unmet) = met
slow (repeating last again) = again

-- they are the least and the most of the row's record, whatever bytes s stand behind the code and whatever the data d
abbrev pub Figures : Row → Type 0
Figures gap = Unit {0}
Figures (row i x y z n t) = (s d : List ℕ) → ((made i x y z n t s d).least.0 ≡ total (quick t)) × ((made i x y z n t s d).most.0 ≡ total (slow t))

-- a row at a code of a list of them
abbrev pub listed : ℕ → List (ℕ × Row) → Bool
listed b [] = false
listed b (p ∷ ps) = eqb p.0 b || listed b ps

-- HL or (HL)
abbrev pub is_pair : Kind → Bool
is_pair none = false
is_pair (is o) = false
is_pair hl = true
is_pair h = false
is_pair l = false
is_pair at_hl = true
is_pair byte = false
is_pair word = false
is_pair at_word = false
is_pair at_port = false
is_pair rel = false
is_pair (at_index i) = false
is_pair byte_behind = false

-- a row whose first or second operand is
abbrev pub names_pair : Row → Bool
names_pair gap = false
names_pair (row i x y z n t) = is_pair x || is_pair y

abbrev pub same : List ℕ → List ℕ → Bool
same [] [] = true
same [] (u ∷ us) = false
same (t ∷ ts) [] = false
same (t ∷ ts) (u ∷ us) = eqb t u && same ts us

-- a row of UM0080 behind a prefix whose first two cycles differ, so that the original has them in another order
abbrev pub moved : Row → Bool
moved gap = false
moved (row i x y z n t) = not (same (swapped (one_figure t)) (one_figure t))

-- a row whose HL, H or L is renamed, with its cycles in another order than UM0080's, which has the prefix's [4] in front
abbrev pub reordered : Row → Bool
reordered gap = false
reordered (row i x y z n t) = not (is_at_hl x || is_at_hl y) && ((is_hl_kind x || is_hl_kind y) && not (same (after_first (4 ∷ []) (one_figure t)) (4 ∷ one_figure t)))
