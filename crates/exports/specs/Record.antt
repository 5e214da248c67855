-- What `z80_record` answers, in document 01's numbers, and the lent bytes as it leaves them. Definitions only.
use Rattle.std.specs.Prelude.{ℕ, cond, List, ◌++◌, eqb, ltb, length, drop}
use Rattle.table.specs.declared.Decoded.{Decoded}
use Rattle.table.specs.Decode.{number_of, missing_of}
use Rattle.layout.specs.Layout.{layout_of}

-- what a host is told, in document 01's numbers, and the lent bytes then
pub record Outcome : Type 0 where
  pub number : ℕ
  pub missing : ℕ
  pub bytes : List ℕ

abbrev pub outcome : ℕ → ℕ → List ℕ → Outcome
outcome n k out = record { number = n; missing = k; bytes = out }

-- the decoder's refusals 1, 2, 3, then 4, NoRoom, where fewer than 24 bytes are lent
abbrev pub number_below24 : ℕ → ℕ
number_below24 n = cond (eqb n 0) 4 n

-- where 24 bytes are lent: the record, which is the empty one on a refusal, at the front, and those behind as they were; else all as they were
abbrev pub record_outcome : Decoded → List ℕ → Outcome
record_outcome d out =
    cond (ltb (length out) 24) (outcome (number_below24 (number_of d.answer)) (missing_of d.answer) out)
    (outcome (number_of d.answer) (missing_of d.answer) (layout_of d.rec ++ drop 24 out))
