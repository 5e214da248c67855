-- The stage that would take the bytes says how many are needed.
use mathlib.Core.Path.{◌≡◌, sym}
use native.Mathlib.Omega.{arith}
use lib.ListN.{get_or}
use Rattle.std.proofs.lemmas.Grind.{common_steps}
use Rattle.table.specs.Decode.{needed_of}
use Rattle.table.specs.declared.Mode.{Mode}
use Rattle.table.proofs.Sizes.{needed_at_most}
use Rattle.staged.proofs.Needed.{two_told, two_left, three_told, three_left}
use Rattle.staged.proofs.bytes_needed.Goals as goal
use Rattle.staged.proofs.bytes_needed.Goals.{Then-is_break, Then-is_break-2}

two-needed : (c : Then-is_break) → needed_of c.args.ins.now ≡ 2
two-needed c =
    let ins2 : c.unwrap_or-ins2.result ≡ get_or c.args.ins.now 1 0x44 = grind (arith, common_steps) in
    let told = rw ins2 at c.two_bytes.ensures in
    two_told c.args.ins.now _ c.args.rec c.requires.ins_nonzero (sym (rw told at c.if-is_break.ensures))

three-needed : (c : Then-is_break-2) → needed_of c.args.ins.now ≡ 3
three-needed c = three_told c.args.ins.now _ c.args.rec c.requires.ins_nonzero (sym (rw c.three_bytes.ensures at c.if-is_break-2.ensures))

pub returns-then-is_break : goal.returns-then-is_break
returns-then-is_break c = sym (two-needed c)

pub returns-then-is_break-2 : goal.returns-then-is_break-2
returns-then-is_break-2 c = sym (three-needed c)

pub returns : goal.returns
returns c =
    let s = c.args.ins.now in
    let ins2 : c.unwrap_or-ins2.result ≡ get_or s 1 0x44 = grind (arith, common_steps) in
    let told = rw ins2 at c.two_bytes.ensures in
    let not_two = two_left s _ c.args.rec c.requires.ins_nonzero (sym (rw told at c.if-is_break.ensures)) in
    let not_three = three_left s _ c.args.rec c.requires.ins_nonzero (sym (rw c.three_bytes.ensures at c.if-is_break-2.ensures)) in
    omega (arith, needed_at_most Mode.Rust s, not_two, not_three)
