-- How many bytes are looked at. Assumes nothing.
use mathlib.Core.Path.{◌≡◌}
use mathlib.Core.List.{List}
use Prim.Native.Nat.{ℕ, min}
use lib.ListN.{length, length-take}
use Rattle.image.specs.Places.{window}

-- up to four
pub window_size : (s : List ℕ) → length (window s) ≡ min 4 (length s)
window_size s = length-take 4 s
