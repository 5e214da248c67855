-- A decoded row that leads to a place it does not name is a JP whose first operand is HL, IX or IY: what the definitions say of other rows without a target is never met. Assumes nothing.
use Rattle.std.proofs.Common.{◌≡◌, ℕ, Bool, true, ◌&&◌, T, eqb, List, refl, sym, ap, subst, arith, eqb→eq}
use denote.Enum.Declared.{tag_of}
use Rattle.opcode.specs.contracts.instruction.Instruction.{the_type}
use Rattle.opcode.specs.declared.instruction.Instruction.{Instruction}
use Rattle.opcode.specs.declared.instruction.Instruction.TheVariants.{JP}
use Rattle.opcode.specs.declared.operand.Place.{Place}
use Rattle.opcode.specs.declared.record.OpCode.{OpCode}
use Rattle.table.specs.declared.Answer.{Answer}
use Rattle.table.specs.declared.Decoded.{Decoded}
use Rattle.table.specs.declared.Mode.{Mode}
use Rattle.table.specs.Row.{Row, row, gap, read}
use Rattle.table.specs.Plain.{plain}
use Rattle.table.specs.Cb.{cb}
use Rattle.table.specs.Ed.{ed}
use Rattle.table.specs.Decode.{operand_bytes, record_of, four}
use Rattle.table.specs.Chip.{reading_of, decode_in}
use Rattle.table.proofs.Rows.{either_index, Everywhere, mode_row_holds}
use Rattle.table.proofs.Done.{decides}
use Rattle.marking.specs.declared.Flow.{Flow}
use Rattle.flow.specs.Flow.{lead_of, flow_by, flow_of}
use Rattle.table.proofs.Pages.{both_left, both_right}
use Rattle.flow.specs.Consequences.{has_pointer, ByRegister}

-- JP by its number among the instructions
is_jp : (i : Instruction) → tag_of the_type i ≡ 27 → i ≡ JP
is_jp JP e = refl
is_jp i e = absurd (omega arith)

-- a row that goes on so, with such an instruction and first operand, names where it leads, or is a JP with HL, IX or IY there
abbrev told : Flow → Instruction → Place → Bool
told Flow.RegisterJump i p = eqb (tag_of the_type i) 27 && has_pointer p
told f i p = true

module _ (a : ℕ) (s : List ℕ) where
  abbrev tells : Row → Bool
  tells gap = true
  tells (row i x y z n t) = told (flow_by i (lead_of a (read x s)) (lead_of a (read y s))) i (read x s)

  all_tell : Everywhere tells
  unfolding plain cb ed
  all_tell =
      record {
        none = tt;
        on_plain = tt;
        on_cb = tt;
        on_ed = tt;
        behind_plain = either_index _ tt tt;
        behind_ed = either_index _ tt tt;
        load = either_index _ tt tt;
        no_bit = λ i. tt;
        on_bit = either_index _ tt tt;
        chip_none = (tt, tt);
        chip_plain = either_index _ tt tt;
        chip_ed = tt;
      }

  of_row : (x : Row) (d : List ℕ) → T (tells x) → flow_of a (record_of x s d) ≡ Flow.RegisterJump → ByRegister (record_of x s d)
  of_row gap d w e = absurd (cc e)
  of_row (row i x y z n t) d w e =
      let v = subst (λ (f : Flow). T (told f i (read x s))) e w in
      record {
        jump = is_jp i (eqb→eq (tag_of the_type i) 27 (both_left (eqb (tag_of the_type i) 27) (has_pointer (read x s)) v));
        pointer = both_right (eqb (tag_of the_type i) 27) (has_pointer (read x s)) v;
      }

pub register_jumps :
    (mode : Mode) (a : ℕ) (s : List ℕ) → (decode_in mode s).answer ≡ Answer.Done → flow_of a (decode_in mode s).rec ≡ Flow.RegisterJump
    → ByRegister (decode_in mode s).rec
unfolding decode_in
register_jumps mode a s done e =
    let x = (reading_of mode).row s in
    let made : (decode_in mode s).rec ≡ record_of x (operand_bytes s) (four s) = ap (λ (u : Decoded). u.rec) (decides (reading_of mode) s done).made in
    subst ByRegister (sym made)
    (of_row a (operand_bytes s) x (four s) (mode_row_holds (tells a (operand_bytes s)) (all_tell a (operand_bytes s)) mode s) (subst (λ (o : OpCode). flow_of a o ≡ Flow.RegisterJump) made e))
