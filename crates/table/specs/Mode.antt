-- The mode as a number. Definitions only.
use Rattle.std.specs.Prelude.{ℕ, ◌≡◌, Bool, true, false, cond, eqb, ltb, Result, MatchResult}
use Rattle.table.specs.declared.Mode.{Mode}
use Rattle.table.specs.declared.UnknownMode.{UnknownMode}

-- 0 the Rust's, 1 the chip's
abbrev pub mode_of : ℕ → Mode
mode_of n = cond (eqb n 0) Mode.Rust Mode.Chip

-- a mode other than 0 or 1
abbrev pub bad_mode : ℕ → Bool
bad_mode n = ltb 1 n

-- what is made of a number: its mode, or a refusal of one that is no mode's
abbrev pub Numbered : ℕ → Result Mode UnknownMode → Type 0
Numbered n made = MatchResult made (λ mode. (bad_mode n ≡ false) × (mode ≡ mode_of n)) (λ unknown. bad_mode n ≡ true)
