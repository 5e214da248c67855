-- Operands replaced first, then T-states put in, then LD (IX+d),n mended, as the original does it: what the definition has at once.
-- Assumes nothing.
use Rattle.std.specs.Prelude.{Some, None}
use mathlib.Core.Bool.{Bool, true, false, cond, ◌||◌, true≢false}
use mathlib.Core.List.{[], ◌∷◌}
use mathlib.Core.Path.{◌≡◌, refl, ap}
use Prim.Native.Nat.{ℕ, ◌+◌}
use Rattle.opcode.specs.declared.operand.Operand.{Operand}
use Rattle.opcode.specs.declared.operand.Place.{Place}
use Rattle.opcode.specs.declared.registers.Reg8.{Reg8}
use Rattle.opcode.specs.declared.registers.Reg16.{Reg16}
use Rattle.opcode.specs.declared.record.OpCode.{OpCode}
use Rattle.opcode.specs.declared.timing.Timing.{Timing}
use Rattle.std.specs.Prelude.{Result}
use Rattle.opcode.specs.Timing.{listed, no, yes, rec_of, inserted, may_insert, insert_of}
use Rattle.table.specs.Row.{Index, ix, iy}
use Rattle.table.specs.Steps.{has_addr, has_hl, half, is_half, is_imm8, replace_addr, replace_hl, changed, timing, with_addr}
use Rattle.four_bytes.specs.Replaced.{addr_replaced, hl_replaced, operands_replaced, addressed, addr_record, hl_record, lengthened, loaded}

-- what stands for (HL) is no byte
index_no_byte : (i : Index) (d : ℕ) (q : Reg16) → is_imm8 (replace_addr i d (Place.Of (Operand.RegAddr q))) ≡ false
index_no_byte ix d Reg16.HL = refl
index_no_byte iy d Reg16.HL = refl
index_no_byte i d _ = refl

byte_kept : (i : Index) (d : ℕ) (p : Place) → is_imm8 (replace_addr i d p) ≡ is_imm8 p
byte_kept i d (Place.Of (Operand.RegAddr q)) = index_no_byte i d q
byte_kept i d _ = refl

-- an insert leaves the operands, whatever its test says
module _ (o : OpCode) (pos : ℕ) (t : Timing) where
  abbrev tested : Bool → OpCode → Result OpCode OpCode
  tested b r = cond b (yes r (inserted r.tstates pos (listed t)) (r.mcycles.0 + t.mcycles.0)) (no r)

  second_kept : (rec_of (insert_of o pos t)).op2 ≡ o.op2
  unfolding insert_of
  second_kept = by_test (may_insert o.mcycles.0 pos t.mcycles.0)
    where
      by_test : (b : Bool) → (rec_of (tested b o)).op2 ≡ o.op2
      by_test true = refl
      by_test false = refl

  abbrev second : Place → OpCode → OpCode
  second y r = changed r r.length.0 r.ins r.op1 y

  second_before : (y : Place) → second y (rec_of (insert_of o pos t)) ≡ rec_of (insert_of (second y o) pos t)
  unfolding insert_of
  second_before y = by_test (may_insert o.mcycles.0 pos t.mcycles.0)
    where
      by_test : (b : Bool) → second y (rec_of (tested b o)) ≡ rec_of (tested b (second y o))
      by_test true = refl
      by_test false = refl

-- what is neither H nor L, and an operand that is not replaced, stays
half_kept : (i : Index) (r : Reg8) → is_half r ≡ false → half i r ≡ r
half_kept i Reg8.H e = absurd (true≢false e)
half_kept i Reg8.L e = absurd (true≢false e)
half_kept i _ e = refl

hl_kept : (i : Index) (p : Place) → has_hl p ≡ false → replace_hl i p ≡ p
hl_kept i (Place.Of (Operand.Reg8 r)) e = ap (λ (x : Reg8). Place.Of (Operand.Reg8 x)) (half_kept i r e)
hl_kept i (Place.Of (Operand.Reg16 q)) e = rw e refl
hl_kept i _ e = refl

-- operands that are replaced, as u and v tell; where u or v does not, x or y is what stands there
records :
    (o : OpCode) (u v : Bool) (x y : Place) → (u ≡ false → x ≡ o.op1) → (v ≡ false → y ≡ o.op2)
    → operands_replaced o (cond u (Some x) None) (cond v (Some y) None) ≡ cond (u || v) (Some (changed o o.length.0 o.ins x y)) None
records o true true x y f g = refl
records o true false x y f g = rw (g refl) refl
records o false true x y f g = rw (f refl) refl
records o false false x y f g = refl

pub addr_records : (i : Index) (d : ℕ) (o : OpCode) → operands_replaced o (addr_replaced i d o.op1) (addr_replaced i d o.op2) ≡ addr_record i d o
addr_records i d o =
    records o (has_addr o.op1) (has_addr o.op2) (replace_addr i d o.op1) (replace_addr i d o.op2) (λ e. rw e refl) (λ e. rw e refl)

pub hl_records : (i : Index) (o : OpCode) → operands_replaced o (hl_replaced i o.op1) (hl_replaced i o.op2) ≡ hl_record i o
hl_records i o = records o (has_hl o.op1) (has_hl o.op2) (replace_hl i o.op1) (replace_hl i o.op2) (hl_kept i o.op1) (hl_kept i o.op2)

-- whether there is a record, and which
pub told : (t : Bool) (x a : OpCode) → Some a ≡ cond t (Some x) None → (t ≡ true) × (a ≡ x)
told true x a e = (refl, cc)
told false x a e = cc

pub untold : (t : Bool) (x : OpCode) → None ≡ cond t (Some x) None → t ≡ false
untold true x e = cc
untold false x e = refl

pub with_addr_lem :
    (i : Index) (d n : ℕ) (o : OpCode)
    → loaded n (lengthened (addressed i d o) 2 (timing (4 ∷ 3 ∷ 5 ∷ []))) ≡ with_addr i d n o
with_addr_lem i d n o =
    let t = timing (4 ∷ 3 ∷ 5 ∷ []) in
    let x = changed o (o.length.0 + 2) o.ins (replace_addr i d o.op1) (replace_addr i d o.op2) in
    rw (second_kept x 1 t, byte_kept i d o.op2, second_before x 1 t (Place.Of (Operand.Imm8 n)))
