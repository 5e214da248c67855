-- The lesser of two numbers, and a digit of one. Definitions only.
use Rattle.std.specs.Prelude.{ℕ, ◌*◌, ◌/◌, ◌%◌, ◌^◌, cond, ltb}

abbrev pub lesser_of : ℕ → ℕ → ℕ
lesser_of n most = cond (ltb n most) n most

-- the hex digit of n at a place, counted from its end, sixteen being the first again
unfoldable pub digit_at : ℕ → ℕ → ℕ
digit_at n place = n / 2 ^ (place % 16 * 4) % 16
