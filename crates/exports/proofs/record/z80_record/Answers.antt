-- What was found says what the table says; a row needs room, and a refusal is told without.
use mathlib.Core.Path.{◌≡◌, refl}
use mathlib.Core.Bool.{Bool, true, false, cond}
use mathlib.Core.List.{List}
use Prim.Native.Nat.{ℕ}
use native.Mathlib.Omega.{arith}
use lib.Dec.{leb, ltb}
use lib.ListN.{length}
use borrow.Author.Tests.{leb-true, leb-false, le-leb, le-ltb, lt-ltb}
use Rattle.std.specs.Prelude.{Ok, Err}
use Rattle.table.specs.Decode.{number_of, missing_of}
use Rattle.disas.specs.declared.Refusal.{Refusal}
use Rattle.disas.specs.Says.{answer_of}
use Rattle.disas.proofs.Finding.{found_told}
use Rattle.exports.specs.Record.{outcome, number_below24}
use Rattle.exports.proofs.record.z80_record.Goals as goal

-- that 24 bytes have room is that no fewer are lent
fewer : (n : ℕ) (t : Bool) → leb 24 n ≡ t → ltb n 24 ≡ cond t false true
fewer n true e = le-ltb n 24 (leb-true 24 n e)
fewer n false e = lt-ltb n 24 (leb-false 24 n e)

told : (r : Refusal) (t : Bool) (x y : List ℕ) → let n = number_of (answer_of r) in let k = missing_of (answer_of r) in outcome n k (cond t y x) ≡ cond (cond t false true) (outcome (number_below24 n) k x) (outcome n k y)
told Refusal.Nothing true x y = refl
told Refusal.Nothing false x y = refl
told (Refusal.Short k) true x y = refl
told (Refusal.Short k) false x y = refl
told Refusal.Long true x y = refl
told Refusal.Long false x y = refl

pub returns-then-out-lt-SIZE : goal.returns-then-out-lt-SIZE
returns-then-out-lt-SIZE c =
    let said = found_told c.in-Ok.mode c.args.ins.now (Ok c.in-Ok-find.found) (λ k. (c.type_inv.ins k).fits) c.in-Ok-find.ensures in
    rw (c.in-Ok.ensures.0, ← c.in-Ok.ensures.1, ← said, lt-ltb (length c.args.out.now) 24 c.if-out-lt-SIZE.true) refl

pub returns-else-out-lt-SIZE : goal.returns-else-out-lt-SIZE
returns-else-out-lt-SIZE c =
    let said = found_told c.in-Ok.mode c.args.ins.now (Ok c.in-Ok-find.found) (λ k. (c.type_inv.ins k).fits) c.in-Ok-find.ensures in
    let size : length c.layout_row.result ≡ 24 = omega arith in
    let room = c.if-out-lt-SIZE.false in
    rw (c.in-Ok.ensures.0, ← c.in-Ok.ensures.1, ← said, le-ltb (length c.args.out.now) 24 room, c.give.ensures.bytes, size, le-leb 24 (length c.args.out.now) room, c.layout_row.ensures) refl

pub returns-in-Err : goal.returns-in-Err
returns-in-Err c =
    let said = found_told c.in-Ok.mode c.args.ins.now (Err c.in-Err.refusal) (λ k. (c.type_inv.ins k).fits) c.in-Err.ensures in
    let size : length c.layout.result ≡ 24 = omega arith in
    rw (c.in-Ok.ensures.0, ← c.in-Ok.ensures.1, ← said, c.number.ensures, c.from.ensures, c.missing.ensures, c.from-answer.ensures, c.give-in-Err.ensures.bytes, size, c.layout.ensures, c.new.ensures, fewer (length c.args.out.now) _ refl) (told c.in-Err.refusal _ _ _)
