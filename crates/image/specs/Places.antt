-- Places of an image, whose first byte stands at the address origin. Definitions only.
use Rattle.std.specs.Prelude.{ℕ, ◌+◌, ◌-◌, Bool, ◌||◌, List, eqb, ltb, leb, length, take, drop}

-- 5: image empty, or origin + length over 65,536
abbrev pub wrong_size : List ℕ → ℕ → Bool
wrong_size image origin = eqb (length image) 0 || ltb 65536 (origin + length image)

-- 1: address outside
abbrev pub outside : List ℕ → ℕ → ℕ → Bool
outside image origin address = ltb address origin || leb (origin + length image) address

-- the bytes that are looked at where s begins: up to four, none past the image's end
abbrev pub window : List ℕ → List ℕ
window s = take 4 s

-- those at an address of the image
abbrev pub window_at : List ℕ → ℕ → ℕ → List ℕ
window_at image origin address = window (drop (address - origin) image)
