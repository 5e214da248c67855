-- The row says how many of its letters are written.
use Rattle.std.proofs.Common.{◌≡◌, ◌+◌, ◌-◌, ◌*◌, arith, ap, drop, get_or, take, ℕ}
use Rattle.names.specs.Table.{spelling}
use Rattle.writer.proofs.Laws.{put_told}
use Rattle.names.proofs.put_spelling.Goals as goal

pub returns : goal.returns
unfolding spelling
returns c =
    let table = c.args.table.now in
    let k = c.args.k in
    let n = get_or table (k * 5 + 4) 0 - 48 in
    let e : k * 5 + n - k * 5 ≡ n = omega arith in
    put_told (ap (λ (m : ℕ). take m (drop (k * 5) table)) e) c.put_bytes.ensures
