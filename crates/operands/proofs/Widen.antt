-- An i8 cast to an i16 is the same number. Assumes nothing.
use mathlib.Core.Path.{◌≡◌, ap, ◌∙◌}
use lib.IntN.{ℤ}
use mir.Syntax.{w8, w16}
use mir.Val.{SFits, to_z, of_z}
use mir.Facts.{sfits_widen, to_z-of_z}

module _ {z : ℤ} (fits : SFits w8 z) where
  pub widened : to_z w16 (of_z w16 (to_z w8 (of_z w8 z))) ≡ z
  widened = ap (λ (y : ℤ). to_z w16 (of_z w16 y)) (to_z-of_z fits) ∙ to_z-of_z {w = w16} (sfits_widen tt fits)
