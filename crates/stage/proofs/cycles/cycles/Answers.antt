-- Six places, each by its call.
use mathlib.Core.Path.{◌≡◌, refl}
use lib.ListN.{length, take}
use Rattle.std.proofs.Common.{arith, rules}
use Rattle.std.proofs.lemmas.List.{length-take}
use Rattle.opcode.specs.Record.{six}
use Rattle.table.specs.Row.{states}
use Rattle.stage.proofs.Places.{six_first, six_filled}
use Rattle.stage.proofs.cycles.cycles.Goals as goal

pub returns : goal.returns
returns c =
    let t = c.args.t.now in
    let calls = c.from_fn.ensures.items.each in
    let filled : c.from_fn.result ≡ six (states t) =
    six_filled _ (states t) c.from_fn.ensures.items.long (search rules) (search rules) (search rules) (search rules) (search rules) (search rules)
    in
    let counted : c.min.result ≡ length (take 6 t) = omega (arith, length-take 6 t) in
    rw (filled, counted, six_first) refl
