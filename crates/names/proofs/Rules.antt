-- The tables of spellings: each row of each is whole and spells its name, by computed tests over all rows. Assumes nothing.
use mathlib.Core.Path.{◌≡◌, refl}
use mathlib.Core.Bool.{Bool, true, ◌&&◌}
use mathlib.Core.List.{List, []}
use Prim.Native.Nat.{ℕ, ◌+◌, ◌*◌, ◌<◌}
use Prim.Native.String.{String}
use lib.Dec.{T, leb, leb→le, lit<}
use lib.ListN.{length, get_or}
use Rattle.opcode.specs.declared.instruction.Instruction.{Instruction}
use Rattle.opcode.specs.declared.registers.Reg8.{Reg8}
use Rattle.opcode.specs.declared.registers.Reg16.{Reg16}
use Rattle.opcode.specs.declared.registers.FlagCondition.{FlagCondition}
use Rattle.table.specs.Consequences.{values}
use Rattle.table.proofs.Upto.{agree}
use Rattle.table.proofs.Pages.{both_left, both_right}
use Rattle.wording.specs.Names.{instruction_of, reg8_of, reg16_of, condition_of, names, reg8_names, reg16_names, condition_names, spelt, name_of, reg8_text, reg16_text, condition_text}
use Rattle.names.specs.Table.{table_of, Row, spelling}

-- whether row k is whole and counts up to four letters
abbrev whole : List ℕ → ℕ → Bool
whole table k = leb (k * 5 + 5) (length table) && (leb 48 (get_or table (k * 5 + 4) 0) && leb (get_or table (k * 5 + 4) 0) 52)

-- the rule of a table of n spellings: each row is whole, and spells its name
pub record Rule (table : List ℕ) (spellings : List String) (n : ℕ) : Type 0 where
  pub rows : values (whole table) 0 n ≡ values (λ (k : ℕ). true) 0 n
  pub spells : values (spelling table) 0 n ≡ values (spelt spellings) 0 n

-- at the row k of what has the number m
abbrev Right : List ℕ → List ℕ → ℕ → Type 0
Right table t k = Row table k × (spelling table k ≡ t)

right : (table : List ℕ) (spellings : List String) (n : ℕ) → Rule table spellings n → (k m : ℕ) → k ≡ m → m < n → Right table (spelt spellings m) k
right table spellings n rule k m e h =
    let w : T (whole table m) = rw (agree (whole table) (λ (j : ℕ). true) true n rule.rows m h) tt in
    let w' = both_right (leb (m * 5 + 5) (length table)) _ w in
    rw e (
      record {
        inside = leb→le _ _ (both_left (leb (m * 5 + 5) (length table)) _ w);
        least = leb→le _ _ (both_left (leb 48 (get_or table (m * 5 + 4) 0)) _ w');
        most = leb→le _ _ (both_right (leb 48 (get_or table (m * 5 + 4) 0)) _ w');
      },
      agree (spelling table) (spelt spellings) [] n rule.spells m h,
    )

instruction_rule : Rule (table_of names) names 68
unfolding spelling names
instruction_rule = record { rows = refl; spells = refl }

instruction_below : (x : Instruction) → instruction_of x < 68
instruction_below Instruction.ADC = lit< tt
instruction_below _ = lit< tt

pub instruction_right : (x : Instruction) (k : ℕ) → k ≡ instruction_of x → Right (table_of names) (name_of x) k
unfolding name_of
instruction_right x k e = right (table_of names) names 68 instruction_rule k (instruction_of x) e (instruction_below x)

reg8_rule : Rule (table_of reg8_names) reg8_names 13
unfolding spelling reg8_names
reg8_rule = record { rows = refl; spells = refl }

reg8_below : (x : Reg8) → reg8_of x < 13
reg8_below Reg8.A = lit< tt
reg8_below _ = lit< tt

pub reg8_right : (x : Reg8) (k : ℕ) → k ≡ reg8_of x → Right (table_of reg8_names) (reg8_text x) k
unfolding reg8_text
reg8_right x k e = right (table_of reg8_names) reg8_names 13 reg8_rule k (reg8_of x) e (reg8_below x)

reg16_rule : Rule (table_of reg16_names) reg16_names 8
unfolding spelling reg16_names
reg16_rule = record { rows = refl; spells = refl }

reg16_below : (x : Reg16) → reg16_of x < 8
reg16_below Reg16.AF = lit< tt
reg16_below _ = lit< tt

pub reg16_right : (x : Reg16) (k : ℕ) → k ≡ reg16_of x → Right (table_of reg16_names) (reg16_text x) k
unfolding reg16_text
reg16_right x k e = right (table_of reg16_names) reg16_names 8 reg16_rule k (reg16_of x) e (reg16_below x)

condition_rule : Rule (table_of condition_names) condition_names 8
unfolding spelling condition_names
condition_rule = record { rows = refl; spells = refl }

condition_below : (x : FlagCondition) → condition_of x < 8
condition_below FlagCondition.NZ = lit< tt
condition_below _ = lit< tt

pub condition_right : (x : FlagCondition) (k : ℕ) → k ≡ condition_of x → Right (table_of condition_names) (condition_text x) k
unfolding condition_text
condition_right x k e = right (table_of condition_names) condition_names 8 condition_rule k (condition_of x) e (condition_below x)
