-- What the stage `disas_two_bytes` answers. No promise rests on this file: the stages together are proved equal to the page. Definitions only.
use Rattle.std.specs.Prelude.{ℕ, cond, [], ◌∷◌, eqb}
use Rattle.opcode.specs.declared.record.OpCode.{OpCode}
use Rattle.table.specs.Row.{word_of}
use Rattle.stage.specs.Stage.{Stage, passed, and_then, answer}
use Rattle.two_bytes.specs.Cb.{cb_row}
use Rattle.two_bytes.specs.Ed.{ed_row}
use Rattle.two_bytes.specs.Immediate.{immediate_row}

-- by the word of code that b and n make
abbrev pub words : ℕ → ℕ → OpCode → Stage
words b n o =
    cond (eqb b 0xED) (answer (ed_row (word_of (n ∷ b ∷ [])) n) [] o)
    (cond (eqb b 0xCB) (answer (cb_row (word_of (n ∷ b ∷ [])) n) [] o)
    (passed o))

unfoldable pub two_bytes : ℕ → ℕ → OpCode → Stage
two_bytes b n o = and_then (answer (immediate_row b) (n ∷ []) o) (words b n)
