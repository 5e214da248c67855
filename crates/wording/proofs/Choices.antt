-- The two texts of document 01 are two of the choices, no part is the empty text, and 26 comes first. Assumes nothing.
use mathlib.Core.Path.{◌≡◌, refl, sym, ap, ◌∙◌}
use mathlib.Core.List.{List, [], ◌++◌, append_assoc}
use Prim.Native.Nat.{ℕ, ◌<◌}
use borrow.Author.Tests.{lt-ltb}
use Rattle.opcode.specs.declared.record.OpCode.{OpCode}
use Rattle.table.specs.declared.Answer.{Answer}
use Rattle.table.specs.declared.Decoded.{Decoded}
use Rattle.wording.specs.Ascii.{ascii}
use Rattle.wording.specs.Answers.{outcome, text_outcome}
use Rattle.wording.specs.Text.{times_text, bytes_part, instruction_part, times_part, plain_text, full_text, text_of}

-- 6, instruction and T-states, is the plain text
pub six_is_plain : (r : OpCode) → text_of 6 r ≡ plain_text r
unfolding text_of plain_text
six_is_plain r = sym (append_assoc (instruction_part r) (ascii " ") (times_text r.tstates))

-- 7, all three, is the full one
pub seven_is_full : (r : OpCode) → text_of 7 r ≡ full_text r
unfolding text_of full_text plain_text
seven_is_full r =
    append_assoc (bytes_part r) (instruction_part r) (times_part r)
    ∙ ap (λ (t : List ℕ). bytes_part r ++ t) (sym (append_assoc (instruction_part r) (ascii " ") (times_text r.tstates)))

-- 0, none of them, is empty
pub zero_is_empty : (r : OpCode) → text_of 0 r ≡ []
unfolding text_of
zero_is_empty r = refl

-- which is Done with count 0, also in a buffer of length 0
pub empty_fits : (d : Decoded) → d.answer ≡ Answer.Done → text_outcome 0 d [] ≡ outcome 0 0 0 []
unfolding text_of
empty_fits d done = rw done refl

-- 26 comes before all others
pub bad_choice : (choice : ℕ) → 7 < choice → (d : Decoded) (out : List ℕ) → text_outcome choice d out ≡ outcome 26 0 0 out
bad_choice choice over d out = rw (lt-ltb 7 choice over) refl
