-- Six T-states are the first and those behind it. Assumes nothing.
use mathlib.Core.Path.{◌≡◌, refl}
use mathlib.Core.List.{List, [], ◌∷◌, ◌++◌}
use native.Mathlib.Omega.{arith}
use lib.ListN.{length, drop, get_or}
use Rattle.opcode.specs.declared.counts.TStates.{TStates}
use Rattle.opcode.specs.Record.{unfilled}
use Rattle.wording.specs.Ascii.{ascii}
use Rattle.wording.specs.Digits.{decimal}
use Rattle.wording.specs.Text.{each, next_time, times_text}

pub first_and_next : (t : List TStates) → length t ≡ 6 → ascii "[" ++ decimal (get_or t 0 unfilled).0 ++ each next_time (drop 1 t) ++ ascii "]" ≡ times_text t
first_and_next [] six = absurd (omega arith)
first_and_next (t ∷ ts) six = refl
