-- How the time of a row varies, by the number of its instruction. No promise rests on this file: it is proved equal to the pace of the instruction. Definitions only.
use Rattle.std.specs.Prelude.{ℕ, ◌+◌, ◌*◌, ◌/◌, ◌%◌, ◌^◌, Bool, cond, List, [], ◌∷◌, eqb, ltb}
use Rattle.opcode.specs.declared.times.Span.{Span}
use Rattle.choice.specs.Choice.{sel, arm}
use Rattle.packed.specs.Digits.{lesser_of, digit_at}

-- sixteen instructions to a number, a digit each: 1 JR, 2 CALL, 3 RET, 4 DJNZ, 5 one that repeats itself, 0 any other
abbrev pub parts : List (List ℕ × ℕ)
parts = arm 0 0x4000050500020000 ∷ arm 1 0x5001050500000000 ∷ arm 2 0x0030000005500050 ∷ []

unfoldable pub paces_of : ℕ → ℕ
paces_of part = sel part parts 0

unfoldable pub pace_digit : ℕ → ℕ
pace_digit n = digit_at (paces_of (lesser_of n 67 / 16 % 4)) (lesser_of n 67 % 16)

-- the quick way through, a byte each
unfoldable pub quick_of : ℕ → ℕ
quick_of pace = 0x1008050A0700 / 2 ^ (pace * 8) % 256

-- with a condition all but 0 have a quick way, without one DJNZ and the rows that repeat themselves
abbrev pub least_for : ℕ → Bool → ℕ → ℕ
least_for pace conditional n = cond (ltb (cond conditional 0 3) pace) (quick_of pace) n

abbrev pub most_for : ℕ → ℕ → ℕ
most_for pace n = cond (eqb pace 5) (n + 5) n

abbrev pub span_for : ℕ → Bool → ℕ → Span
span_for pace conditional n = record { least = record { 0 = least_for pace conditional n }; most = record { 0 = most_for pace n } }
