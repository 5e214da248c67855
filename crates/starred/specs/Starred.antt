-- Document 01's starred rows, document 02's single rows and the chip's own, a list each. Definitions only.
use Rattle.std.specs.Prelude.{ℕ, ◌≡◌, List, [], ◌∷◌, ◌++◌, pos, negsuc, Ok, length, take}
use Rattle.opcode.specs.declared.counts.TStates.{TStates}
use Rattle.opcode.specs.declared.registers.Reg8.{Reg8}
use Rattle.opcode.specs.declared.registers.Reg16.{Reg16}
use Rattle.opcode.specs.declared.registers.RegI.{RegI}
use Rattle.opcode.specs.declared.registers.FlagCondition.{FlagCondition}
use Rattle.opcode.specs.declared.operand.Operand.{Operand}
use Rattle.opcode.specs.declared.operand.Operand.TheVariants.{Imm8, Imm16, RelAddr, RegAddr, RegIOAddr, IgnoreIO}
use Rattle.opcode.specs.declared.operand.Place.{Place}
use Rattle.opcode.specs.declared.instruction.Instruction.{Instruction}
use Rattle.opcode.specs.declared.instruction.Instruction.TheVariants.{BIT, CALL, DEC, DJNZ, IN, INC, JR, LD, LDIR, NOP, PUSH, RET, SBC, SET}
use Rattle.opcode.specs.Record.{empty_of}
use Rattle.table.specs.declared.Answer.{Answer}
use Rattle.table.specs.declared.Answer.TheVariants.{Long}
use Rattle.table.specs.declared.Mode.{Mode}
use Rattle.table.specs.Chip.{decode_in}
use Rattle.marking.specs.Rules.{chart}
use Rattle.marking.specs.Verdict.{Checked, number_of, address_of, Verdict}
use Rattle.flow.specs.Flow.{look_of}

pub data Starred : Type 0 where
  -- bytes that decode to a length, an instruction, operands, T-states, and the least and the most that the row takes
  reads : List ℕ → ℕ → Instruction → List Operand → List ℕ → ℕ → ℕ → Starred
  -- bytes that are Short of so many
  lacks : List ℕ → ℕ → Starred
  -- any five bytes are refused
  five : Answer → Starred
  -- a map at origin 0, with its image, marks and entries, is given an answer
  checks : List ℕ → List ℕ → List ℕ → Checked → Starred

abbrev pub starred : List Starred
starred =
    reads (0x00 ∷ []) 1 NOP [] (4 ∷ []) 4 4
    ∷ reads (0x18 ∷ 0x80 ∷ []) 2 JR (RelAddr (negsuc 125) ∷ []) (4 ∷ 3 ∷ 5 ∷ []) 12 12
    ∷ reads (0x18 ∷ 0x7F ∷ []) 2 JR (RelAddr (pos 129) ∷ []) (4 ∷ 3 ∷ 5 ∷ []) 12 12
    ∷ reads (0x10 ∷ 0xFE ∷ []) 2 DJNZ (RelAddr (pos 0) ∷ []) (5 ∷ 3 ∷ 5 ∷ []) 8 13
    ∷ reads (0xCB ∷ 0x46 ∷ []) 2 BIT (Imm8 0x00 ∷ RegAddr Reg16.HL ∷ []) (4 ∷ 4 ∷ 4 ∷ []) 12 12
    ∷ reads (0xED ∷ 0x70 ∷ []) 2 IN (Operand.Reg8 Reg8.A ∷ RegIOAddr Reg8.C ∷ IgnoreIO ∷ []) (4 ∷ 4 ∷ 4 ∷ []) 12 12
    ∷ reads (0xDD ∷ 0x36 ∷ 0x80 ∷ 0x07 ∷ []) 4 LD (Operand.RegI (RegI.IX (negsuc 127)) ∷ Imm8 0x07 ∷ []) (4 ∷ 4 ∷ 3 ∷ 5 ∷ 3 ∷ []) 19 19
    ∷ reads (0xDD ∷ 0x66 ∷ 0x05 ∷ 0x00 ∷ []) 3 LD (Operand.Reg8 Reg8.H ∷ Operand.RegI (RegI.IX (pos 5)) ∷ []) (4 ∷ 4 ∷ 3 ∷ 5 ∷ 3 ∷ []) 19 19
    ∷ reads (0xDD ∷ 0x23 ∷ 0x00 ∷ 0x00 ∷ []) 2 INC (Operand.Reg16 Reg16.IX ∷ []) (6 ∷ 4 ∷ []) 10 10
    ∷ lacks (0xDD ∷ 0x23 ∷ 0x00 ∷ []) 1
    ∷ reads (0xDD ∷ 0x01 ∷ 0x34 ∷ 0x12 ∷ []) 1 NOP (Operand.Reg16 Reg16.BC ∷ Imm16 0x1234 ∷ []) (4 ∷ 3 ∷ 3 ∷ []) 10 10
    ∷ reads (0xED ∷ 0x00 ∷ 0x00 ∷ 0x00 ∷ []) 1 NOP [] (4 ∷ []) 4 4
    ∷ lacks (0xED ∷ 0x00 ∷ 0x00 ∷ []) 1
    ∷ reads (0xFD ∷ 0xCB ∷ 0x7F ∷ 0xC6 ∷ []) 4 SET (Imm8 0x00 ∷ Operand.RegI (RegI.IY (pos 127)) ∷ []) (4 ∷ 4 ∷ 3 ∷ 5 ∷ 4 ∷ 3 ∷ []) 23 23
    ∷ reads (0xDD ∷ 0xED ∷ 0x62 ∷ 0x00 ∷ []) 3 SBC (Operand.Reg16 Reg16.IX ∷ Operand.Reg16 Reg16.IX ∷ []) (4 ∷ 4 ∷ 4 ∷ 4 ∷ 3 ∷ []) 19 19
    ∷ five Long
    ∷ checks (0x18 ∷ 0xFE ∷ []) (1 ∷ 2 ∷ []) (0 ∷ 0 ∷ []) (Ok tt)
    ∷ []

-- what document 02 says of single rows: how many bytes are missing; their row times, those of a NOP with leftovers among them
abbrev pub requested : List Starred
requested =
    lacks (0xDD ∷ []) 3
    ∷ lacks (0xED ∷ []) 1
    ∷ lacks (0xED ∷ 0x43 ∷ []) 2
    ∷ lacks (0xDD ∷ 0x23 ∷ 0x00 ∷ []) 1
    ∷ reads (0x20 ∷ 0x00 ∷ []) 2 JR (Operand.FlagCondition FlagCondition.NZ ∷ RelAddr (pos 2) ∷ []) (4 ∷ 3 ∷ 5 ∷ []) 7 12
    ∷ reads (0xC4 ∷ 0x34 ∷ 0x12 ∷ []) 3 CALL (Operand.FlagCondition FlagCondition.NZ ∷ Imm16 0x1234 ∷ []) (4 ∷ 3 ∷ 4 ∷ 3 ∷ 3 ∷ []) 10 17
    ∷ reads (0xC0 ∷ []) 1 RET (Operand.FlagCondition FlagCondition.NZ ∷ []) (5 ∷ 3 ∷ 3 ∷ []) 5 11
    ∷ reads (0xED ∷ 0xB0 ∷ []) 2 LDIR [] (4 ∷ 4 ∷ 3 ∷ 5 ∷ []) 16 21
    ∷ reads (0xDD ∷ 0x20 ∷ 0x00 ∷ 0x00 ∷ []) 1 NOP (Operand.FlagCondition FlagCondition.NZ ∷ RelAddr (pos 2) ∷ []) (4 ∷ 3 ∷ 5 ∷ []) 12 12
    ∷ []

-- what the chip's own reading says of rows where the Rust's is an odd one, and of some where it is not
abbrev pub chip_rows : List Starred
chip_rows =
    lacks (0xDD ∷ []) 1
    ∷ reads (0xDD ∷ 0x00 ∷ []) 1 NOP [] (4 ∷ []) 4 4
    ∷ reads (0xDD ∷ 0xDD ∷ []) 1 NOP [] (4 ∷ []) 4 4
    ∷ reads (0xDD ∷ 0xED ∷ 0x62 ∷ []) 1 NOP [] (4 ∷ []) 4 4
    ∷ reads (0xDD ∷ 0xEB ∷ []) 1 NOP [] (4 ∷ []) 4 4
    ∷ reads (0xDD ∷ 0x01 ∷ 0x34 ∷ 0x12 ∷ []) 1 NOP [] (4 ∷ []) 4 4
    ∷ reads (0xED ∷ 0x00 ∷ []) 2 NOP [] (4 ∷ 4 ∷ []) 8 8
    ∷ reads (0xDD ∷ 0x23 ∷ []) 2 INC (Operand.Reg16 Reg16.IX ∷ []) (4 ∷ 6 ∷ []) 10 10
    ∷ reads (0xFD ∷ 0x2B ∷ []) 2 DEC (Operand.Reg16 Reg16.IY ∷ []) (4 ∷ 6 ∷ []) 10 10
    ∷ reads (0xDD ∷ 0xE5 ∷ []) 2 PUSH (Operand.Reg16 Reg16.IX ∷ []) (4 ∷ 5 ∷ 3 ∷ 3 ∷ []) 15 15
    ∷ reads (0xDD ∷ 0xF9 ∷ []) 2 LD (Operand.Reg16 Reg16.SP ∷ Operand.Reg16 Reg16.IX ∷ []) (4 ∷ 6 ∷ []) 10 10
    ∷ lacks (0xDD ∷ 0x66 ∷ []) 1
    ∷ reads (0xDD ∷ 0x66 ∷ 0x05 ∷ []) 3 LD (Operand.Reg8 Reg8.H ∷ Operand.RegI (RegI.IX (pos 5)) ∷ []) (4 ∷ 4 ∷ 3 ∷ 5 ∷ 3 ∷ []) 19 19
    ∷ reads (0xDD ∷ 0x36 ∷ 0x80 ∷ 0x07 ∷ []) 4 LD (Operand.RegI (RegI.IX (negsuc 127)) ∷ Imm8 0x07 ∷ []) (4 ∷ 4 ∷ 3 ∷ 5 ∷ 3 ∷ []) 19 19
    ∷ reads (0xFD ∷ 0xCB ∷ 0x7F ∷ 0xC6 ∷ []) 4 SET (Imm8 0x00 ∷ Operand.RegI (RegI.IY (pos 127)) ∷ []) (4 ∷ 4 ∷ 3 ∷ 5 ∷ 4 ∷ 3 ∷ []) 23 23
    ∷ reads (0xDD ∷ 0x76 ∷ []) 1 NOP [] (4 ∷ []) 4 4
    ∷ reads (0x00 ∷ []) 1 NOP [] (4 ∷ []) 4 4
    ∷ checks (0xDD ∷ 0x23 ∷ 0xC9 ∷ []) (1 ∷ 2 ∷ 1 ∷ []) (0 ∷ 0 ∷ []) (Ok tt)
    ∷ []

-- the operand places, those behind the last operand being empty
abbrev pub place_of : List Operand → Place
place_of [] = Place.Empty
place_of (o ∷ os) = Place.Of o

abbrev pub rest : List Operand → List Operand
rest [] = []
rest (o ∷ os) = os

abbrev pub as_states : List ℕ → List TStates
as_states [] = []
as_states (t ∷ ts) = record { 0 = t } ∷ as_states ts

abbrev pub zeros : List ℕ
zeros = 0 ∷ 0 ∷ 0 ∷ 0 ∷ 0 ∷ 0 ∷ []

-- what a claim says in a mode: answer and every field of the record, data and T-states padded with zeros; of a map, that the marking rules name this answer
abbrev pub Holds : Mode → Starred → Type 0
Holds m (reads s n i os ts low high) =
    decode_in m s
    ≡ record {
      answer = Answer.Done;
      rec =
          record {
            length = record { 0 = n };
            ins = i;
            op1 = place_of os;
            op2 = place_of (rest os);
            op3 = place_of (rest (rest os));
            «data» = take 4 (s ++ zeros);
            tstates = as_states (take 6 (ts ++ zeros));
            mcycles = record { 0 = length ts };
            least = record { 0 = low };
            most = record { 0 = high };
          };
    }
Holds m (lacks s k) = decode_in m s ≡ record { answer = Answer.Short (record { 0 = k }); rec = empty_of }
Holds m (five a) = (b0 b1 b2 b3 b4 : ℕ) → decode_in m (b0 ∷ b1 ∷ b2 ∷ b3 ∷ b4 ∷ []) ≡ record { answer = a; rec = empty_of }
Holds m (checks s ms es x) = Verdict (look_of m) (chart s 0 ms) es (number_of x) (address_of x)

abbrev pub All : Mode → List Starred → Type 0
All m [] = Unit {0}
All m (x ∷ xs) = Holds m x × All m xs
