-- What a prefix makes of a record, as a stage's answer. Definitions only.
use Rattle.std.specs.Prelude.{ℕ, ◌+◌, cond, ◌||◌, Option, Some, None, unwrap_or, ltb}
use Rattle.opcode.specs.declared.operand.Operand.{Operand}
use Rattle.opcode.specs.declared.operand.Place.{Place}
use Rattle.opcode.specs.declared.record.OpCode.{OpCode}
use Rattle.opcode.specs.declared.timing.Timing.{Timing}
use Rattle.opcode.specs.Timing.{insert_of, remove_of, rec_of}
use Rattle.table.specs.Row.{Index}
use Rattle.table.specs.Steps.{has_addr, has_hl, is_imm8, replace_addr, replace_hl, changed, with_addr, with_hl}
use Rattle.stage.specs.Stage.{Stage, passed, taken}

-- what an operand becomes, where it is replaced: (HL), and HL, H or L
abbrev pub addr_replaced : Index → ℕ → Place → Option Place
addr_replaced i d p = cond (has_addr p) (Some (replace_addr i d p)) None

abbrev pub hl_replaced : Index → Place → Option Place
hl_replaced i p = cond (has_hl p) (Some (replace_hl i p)) None

-- a record with what its first two operands become, where one of them is replaced
abbrev pub operands_replaced : OpCode → Option Place → Option Place → Option OpCode
operands_replaced o None None = None
operands_replaced o None (Some y) = Some (changed o o.length.0 o.ins o.op1 y)
operands_replaced o (Some x) y = Some (changed o o.length.0 o.ins x (unwrap_or y o.op2))

-- its first two operands with (HL) replaced, and with HL, H and L
abbrev pub addressed : Index → ℕ → OpCode → OpCode
addressed i d o = changed o o.length.0 o.ins (replace_addr i d o.op1) (replace_addr i d o.op2)

abbrev pub renamed : Index → OpCode → OpCode
renamed i o = changed o o.length.0 o.ins (replace_hl i o.op1) (replace_hl i o.op2)

-- that record, where one of them is replaced
abbrev pub addr_record : Index → ℕ → OpCode → Option OpCode
addr_record i d o = cond (has_addr o.op1 || has_addr o.op2) (Some (addressed i d o)) None

abbrev pub hl_record : Index → OpCode → Option OpCode
hl_record i o = cond (has_hl o.op1 || has_hl o.op2) (Some (renamed i o)) None

-- n bytes longer, with T-states put in after the first cycle
abbrev pub lengthened : OpCode → ℕ → Timing → OpCode
lengthened o n t = rec_of (insert_of (changed o (o.length.0 + n) o.ins o.op1 o.op2) 1 t)

-- where the second operand is a byte it is n, and the sixth cycle goes
abbrev pub loaded : ℕ → OpCode → OpCode
loaded n o =
    cond (is_imm8 o.op2)
    (rec_of (remove_of (changed o o.length.0 o.ins o.op1 (Place.Of (Operand.Imm8 n))) 5))
    o

-- its (HL) replaced, or else its HL, H and L; where there is none, or the record is longer than any row, it is left as it is
unfoldable pub replaced : Index → ℕ → ℕ → OpCode → Stage
replaced i d n o =
    cond (ltb 4 o.length.0) (passed o)
    (cond (has_addr o.op1 || has_addr o.op2) (taken (with_addr i d n o))
    (cond (has_hl o.op1 || has_hl o.op2) (taken (with_hl i o))
    (passed o)))
