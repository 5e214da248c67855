-- What the test below zero says of a signed number, at any width: the bits of one below zero, turned over, are how far it is below -1. Assumes nothing.
use mathlib.Core.Path.{◌≡◌, refl, ap, ◌∙◌}
use mathlib.Core.Bool.{true, false, true≢false}
use Prim.Native.Nat.{◌-◌, ◌^◌, ◌<◌}
use native.Mathlib.Omega.{arith}
use lib.IntN.{ℤ, pos, negsuc}
use lib.Signed.{mag, lt_z}
use mir.Syntax.{Width}
use mir.Val.{SFits, bits, hbits, to_z, of_z}
use mir.ValLaws.{to_z_pos, to_z-neg, pow-bits}
use borrow.Author.Tests.{ltb-true}

module _ (w : Width) where
  pub below : (z : ℤ) → SFits w z → lt_z (to_z w (of_z w z)) (pos 0) ≡ true → (z ≡ negsuc (mag z)) × (to_z w (2 ^ bits w - 1 - of_z w z) ≡ pos (mag z)) × (mag z < 2 ^ hbits w)
  below (pos n) f t = let h = ltb-true n 0 (rw (to_z_pos w n f.sfits) at t) in absurd (omega arith)
  below (negsuc n) f t = (refl, ap (to_z w) (omega (arith, f.sfits, pow-bits w)) ∙ to_z_pos w n f.sfits, f.sfits)

  pub above : (z : ℤ) → SFits w z → lt_z (to_z w (of_z w z)) (pos 0) ≡ false → (z ≡ pos (mag z)) × (to_z w (of_z w z) ≡ pos (mag z)) × (mag z < 2 ^ hbits w)
  above (pos n) f t = (refl, to_z_pos w n f.sfits, f.sfits)
  above (negsuc n) f t = absurd (true≢false (rw (to_z-neg w n f.sfits) at t))
