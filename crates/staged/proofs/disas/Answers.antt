-- What the stages gave, its row times filled, is what the table says; bytes that they leave are too few.
use mathlib.Core.List.{List}
use mathlib.Core.Path.{◌≡◌, sym, ap, ◌∙◌}
use Prim.Native.Nat.{ℕ, ◌<◌, ◌≤◌}
use lib.ListN.{length}
use borrow.Author.Tests.{eqb-false}
use native.Mathlib.Omega.{arith}
use Rattle.opcode.specs.declared.record.OpCode.{OpCode}
use Rattle.opcode.specs.Times.{retimed}
use Rattle.table.specs.Consequences.{AllBytes}
use Rattle.table.specs.Decode.{four, needed_of, done, decode_of}
use Rattle.stage.specs.Stage.{passed, taken}
use Rattle.staged.specs.Chain.{decoder_of}
use Rattle.staged.proofs.Agrees.{fresh, timed, decoder_agrees, done_staged, few_staged, short_staged}
use Rattle.staged.proofs.disas.Goals as goal

-- o being the record that the stages took the bytes s to, or passed on
module _ (s : List ℕ) (o : OpCode) (most : length s ≤ 4) (bytes : AllBytes s) where
  all_done : taken o ≡ decoder_of s (fresh (four s)) → done (retimed o) ≡ decode_of s
  all_done e = done_staged (decode_of s) (fresh (four s)) (retimed o) (ap timed e ∙ decoder_agrees s bytes most)

  few : passed o ≡ decoder_of s (fresh (four s)) → (length s ≡ 0 → ⊥) → length s < needed_of s
  few e some = few_staged s (fresh (four s)) o some most (ap timed e ∙ decoder_agrees s bytes most)

pub returns-in-Break : goal.returns-in-Break
returns-in-Break c =
    ap (λ (o : OpCode). done o) c.with_row_times.ensures
    ∙ all_done c.args.ins.now c.in-Break.rec c.if-ins-gt-LENGTH_MAX.false (λ k. (c.type_inv.ins k).fits)
    (rw (c.new.ensures, c.ins_to_data.ensures) at c.in-Break.ensures)

pub bytes_needed-requires-clause-ins_len_bound : goal.bytes_needed-requires-clause-ins_len_bound
bytes_needed-requires-clause-ins_len_bound c =
    few c.args.ins.now c.in-Continue.rec c.if-ins-gt-LENGTH_MAX.false (λ k. (c.type_inv.ins k).fits)
    (rw (c.new.ensures, c.ins_to_data.ensures) at c.in-Continue.ensures)
    (eqb-false (length c.args.ins.now) 0 (sym c.if-is_empty.ensures))

pub overflow_sub-missing : goal.overflow_sub-missing
overflow_sub-missing c =
    let some = eqb-false (length c.args.ins.now) 0 (sym c.if-is_empty.ensures) in
    let left = rw (c.new.ensures, c.ins_to_data.ensures) at c.in-Continue.ensures in
    omega (arith, c.bytes_needed.ensures, few c.args.ins.now c.in-Continue.rec c.if-ins-gt-LENGTH_MAX.false (λ k. (c.type_inv.ins k).fits) left some)

pub returns-in-Continue : goal.returns-in-Continue
returns-in-Continue c =
    let some = eqb-false (length c.args.ins.now) 0 (sym c.if-is_empty.ensures) in
    (rw c.bytes_needed.ensures at c.refuse-in-Continue.ensures)
    ∙ short_staged c.args.ins.now some c.if-ins-gt-LENGTH_MAX.false
    (few c.args.ins.now c.in-Continue.rec c.if-ins-gt-LENGTH_MAX.false (λ k. (c.type_inv.ins k).fits)
    (rw (c.new.ensures, c.ins_to_data.ensures) at c.in-Continue.ensures)
    some)
