-- UM0080's own rows behind DD, which name IX, and behind FD, where IY stands for it: instruction, operands, length, cycles in the manual's order. Definitions only.
use Rattle.std.specs.Prelude.{ℕ, ◌+◌, ◌*◌, List, [], ◌∷◌, ◌++◌}
use Rattle.opcode.specs.declared.registers.Reg8.TheVariants.{A, B, C, D, E}
use Rattle.opcode.specs.declared.registers.Reg16.TheVariants.{BC, DE, SP}
use Rattle.opcode.specs.declared.instruction.Instruction.TheVariants.{ADC, ADD, AND, BIT, CP, DEC, EX, INC, JP, LD, OR, POP, PUSH, RES, RL, RLC, RR, RRC, SBC, SET, SLA, SRA, SRL, SUB, XOR}
use Rattle.table.specs.Row.{Index, h, l, word, at_word, at_index, byte_behind, Row, row1, row2, r, rr, at, lit, t2, t4, t5, t6}
use Rattle.table.specs.Prefix.{pair}
use Rattle.table.specs.Consequences.{values}

-- the byte behind the prefix, and its row
abbrev pub index_page : Index → List (ℕ × Row)
index_page i =
    (0x09, row2 ADD (rr (pair i)) (rr BC) 2 (t4 4 4 4 3))
    ∷ (0x19, row2 ADD (rr (pair i)) (rr DE) 2 (t4 4 4 4 3))
    ∷ (0x21, row2 LD (rr (pair i)) word 4 (t4 4 4 3 3))
    ∷ (0x22, row2 LD at_word (rr (pair i)) 4 (t6 4 4 3 3 3 3))
    ∷ (0x23, row1 INC (rr (pair i)) 2 (t2 4 6))
    ∷ (0x29, row2 ADD (rr (pair i)) (rr (pair i)) 2 (t4 4 4 4 3))
    ∷ (0x2A, row2 LD (rr (pair i)) at_word 4 (t6 4 4 3 3 3 3))
    ∷ (0x2B, row1 DEC (rr (pair i)) 2 (t2 4 6))
    ∷ (0x34, row1 INC (at_index i) 3 (t6 4 4 3 5 4 3))
    ∷ (0x35, row1 DEC (at_index i) 3 (t6 4 4 3 5 4 3))
    ∷ (0x36, row2 LD (at_index i) byte_behind 4 (t5 4 4 3 5 3))
    ∷ (0x39, row2 ADD (rr (pair i)) (rr SP) 2 (t4 4 4 4 3))
    ∷ (0x46, row2 LD (r B) (at_index i) 3 (t5 4 4 3 5 3))
    ∷ (0x4E, row2 LD (r C) (at_index i) 3 (t5 4 4 3 5 3))
    ∷ (0x56, row2 LD (r D) (at_index i) 3 (t5 4 4 3 5 3))
    ∷ (0x5E, row2 LD (r E) (at_index i) 3 (t5 4 4 3 5 3))
    ∷ (0x66, row2 LD h (at_index i) 3 (t5 4 4 3 5 3))
    ∷ (0x6E, row2 LD l (at_index i) 3 (t5 4 4 3 5 3))
    ∷ (0x70, row2 LD (at_index i) (r B) 3 (t5 4 4 3 5 3))
    ∷ (0x71, row2 LD (at_index i) (r C) 3 (t5 4 4 3 5 3))
    ∷ (0x72, row2 LD (at_index i) (r D) 3 (t5 4 4 3 5 3))
    ∷ (0x73, row2 LD (at_index i) (r E) 3 (t5 4 4 3 5 3))
    ∷ (0x74, row2 LD (at_index i) h 3 (t5 4 4 3 5 3))
    ∷ (0x75, row2 LD (at_index i) l 3 (t5 4 4 3 5 3))
    ∷ (0x77, row2 LD (at_index i) (r A) 3 (t5 4 4 3 5 3))
    ∷ (0x7E, row2 LD (r A) (at_index i) 3 (t5 4 4 3 5 3))
    ∷ (0x86, row2 ADD (r A) (at_index i) 3 (t5 4 4 3 5 3))
    ∷ (0x8E, row2 ADC (r A) (at_index i) 3 (t5 4 4 3 5 3))
    ∷ (0x96, row1 SUB (at_index i) 3 (t5 4 4 3 5 3))
    ∷ (0x9E, row2 SBC (r A) (at_index i) 3 (t5 4 4 3 5 3))
    ∷ (0xA6, row1 AND (at_index i) 3 (t5 4 4 3 5 3))
    ∷ (0xAE, row1 XOR (at_index i) 3 (t5 4 4 3 5 3))
    ∷ (0xB6, row1 OR (at_index i) 3 (t5 4 4 3 5 3))
    ∷ (0xBE, row1 CP (at_index i) 3 (t5 4 4 3 5 3))
    ∷ (0xE1, row1 POP (rr (pair i)) 2 (t4 4 4 3 3))
    ∷ (0xE3, row2 EX (at SP) (rr (pair i)) 2 (t6 4 4 3 4 3 5))
    ∷ (0xE5, row1 PUSH (rr (pair i)) 2 (t4 4 5 3 3))
    ∷ (0xE9, row1 JP (rr (pair i)) 2 (t2 4 4))
    ∷ (0xF9, row2 LD (rr SP) (rr (pair i)) 2 (t2 4 6))
    ∷ []

-- behind DD CB d, by group: the byte behind the displacement, and its row
abbrev pub rotates : Index → List (ℕ × Row)
rotates i =
    (0x06, row1 RLC (at_index i) 4 (t6 4 4 3 5 4 3))
    ∷ (0x0E, row1 RRC (at_index i) 4 (t6 4 4 3 5 4 3))
    ∷ (0x16, row1 RL (at_index i) 4 (t6 4 4 3 5 4 3))
    ∷ (0x1E, row1 RR (at_index i) 4 (t6 4 4 3 5 4 3))
    ∷ (0x26, row1 SLA (at_index i) 4 (t6 4 4 3 5 4 3))
    ∷ (0x2E, row1 SRA (at_index i) 4 (t6 4 4 3 5 4 3))
    ∷ (0x3E, row1 SRL (at_index i) 4 (t6 4 4 3 5 4 3))
    ∷ []

abbrev pub index_bits : Index → List (ℕ × Row)
index_bits i =
    rotates i
    ++ values (λ (b : ℕ). (0x46 + 8 * b, row2 BIT (lit b) (at_index i) 4 (t5 4 4 3 5 4))) 0 8
    ++ values (λ (b : ℕ). (0x86 + 8 * b, row2 RES (lit b) (at_index i) 4 (t6 4 4 3 5 4 3))) 0 8
    ++ values (λ (b : ℕ). (0xC6 + 8 * b, row2 SET (lit b) (at_index i) 4 (t6 4 4 3 5 4 3))) 0 8
