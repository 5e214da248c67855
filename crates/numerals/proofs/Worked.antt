-- A digit worked out from its value is the digit of `Digits.antt`: one test over the sixteen.
-- Assumes nothing.
use mathlib.Core.Bool.{cond}
use mathlib.Core.Path.{◌≡◌, refl}
use Prim.Native.Nat.{ℕ, ◌+◌, ◌-◌, ◌<◌}
use lib.Dec.{ltb}
use Rattle.table.proofs.Upto.{agree}
use Rattle.wording.specs.Digits.{digit}

-- 0 to 9 from the code of 0 on, A to F from that of A on
abbrev pub worked : ℕ → ℕ
worked n = cond (ltb n 10) (48 + n) (65 + (n - 10))

pub worked_right : (n : ℕ) → n < 16 → worked n ≡ digit n
worked_right = agree worked digit 0 16 refl
