-- In either mode no text of a decoded record is longer than its choice's largest, 52 bytes for all three parts, and one is as long for each choice. A row's text is longest where each byte behind its code is 80 hex, so one computed test over the rows at these bytes is enough.
-- Assumes nothing.
use mathlib.Core.Path.{◌≡◌, refl, ap}
use mathlib.Core.Bool.{Bool, true, false, cond, ◌&&◌, ◌||◌}
use mathlib.Core.List.{List, [], ◌∷◌, ◌++◌}
use Prim.Native.Nat.{ℕ, ◌+◌, ◌*◌, ◌≤◌, ◌<◌}
use native.Mathlib.Nat.{le_refl, le_trans}
use native.Mathlib.Omega.{arith}
use lib.Dec.{eqb, ltb, leb, leb→le}
use lib.IntN.{ℤ}
use lib.ListN.{length, take, drop, get_or, length-append, length-take}
use Rattle.std.proofs.lemmas.List.{get_or-drop}
use borrow.Author.Tests.{leb-true}
use Rattle.opcode.specs.declared.instruction.Instruction.{Instruction}
use Rattle.opcode.specs.declared.record.OpCode.{OpCode}
use Rattle.table.specs.declared.Answer.{Answer}
use Rattle.table.specs.declared.Decoded.{Decoded}
use Rattle.table.specs.declared.Mode.{Mode}
use Rattle.table.specs.Signed.{signed_of, relative_of}
use Rattle.table.specs.Row.{ix, iy, Kind, none, is, hl, h, l, at_hl, byte, word, at_word, at_port, rel, at_index, byte_behind, Cycles, Row, row, gap, t1, read}
use Rattle.table.specs.Plain.{plain}
use Rattle.table.specs.Cb.{cb}
use Rattle.table.specs.Ed.{ed}
use Rattle.table.specs.Prefix.{behind_row}
use Rattle.table.specs.Decode as decode
use Rattle.table.specs.Decode.{is_prefix, row_of, operand_bytes, made, record_of, four, decode_of}
use Rattle.table.specs.Chip.{reading_of, decode_in}
use Rattle.table.specs.Consequences.{values, AllBytes}
use Rattle.table.proofs.Upto.{agree}
use Rattle.table.proofs.Pages.{both_left, both_right, chosen}
use Rattle.table.proofs.Rows.{either_index, Everywhere, mode_row_holds}
use Rattle.table.proofs.Done.{decides}
use Rattle.wording.specs.Ascii.{ascii}
use Rattle.wording.specs.Digits.{hex8, hex16, decimal, digit_at, signed}
use Rattle.wording.specs.Names.{names, name_of, reg8_names, reg8_text, reg16_names, reg16_text, condition_names, condition_text}
use Rattle.wording.specs.Sizes.{text_most, bytes_most, instruction_most, times_most, choice_most}
use Rattle.wording.specs.Text.{place_text, each, byte_text, bytes_part, instruction_part, times_part, part, has_bytes, has_instruction, has_times, text_of}
use Rattle.wording.specs.Answers.{Outcome, outcome, given, text_outcome}

-- the bytes behind the code at which a row's text is longest, and data as long as any
abbrev lowest : List ℕ
lowest = 0x80 ∷ 0x80 ∷ []

abbrev zeros : List ℕ
zeros = 0 ∷ 0 ∷ 0 ∷ 0 ∷ []

-- whether a signed number made of a byte has no longer a text than that of 80 hex
abbrev no_longer : (ℕ → ℤ) → ℕ → Bool
no_longer f b = leb (length (signed (f b))) (length (signed (f 0x80)))

longest_at : (f : ℕ → ℤ) → values (no_longer f) 0 256 ≡ values (λ (b : ℕ). true) 0 256 → (b : ℕ) → b < 256 → length (signed (f b)) ≤ length (signed (f 0x80))
longest_at f test b fits = leb-true _ _ (agree (no_longer f) (λ (k : ℕ). true) true 256 test b fits)

displacement_most : (b : ℕ) → b < 256 → length (signed (signed_of b)) ≤ length (signed (signed_of 0x80))
unfolding signed decimal digit_at signed_of
displacement_most = longest_at signed_of refl

relative_most : (b : ℕ) → b < 256 → length (signed (relative_of b)) ≤ length (signed (relative_of 0x80))
unfolding signed decimal digit_at relative_of signed_of
relative_most = longest_at relative_of refl

-- a place's text is no longer than where each byte behind the code is 80 hex
module _ (before s : List ℕ) (bytes : AllBytes s) where
  place_most : (k : Kind) → length (place_text before (read k s)) ≤ length (place_text before (read k lowest))
  unfolding hex8 hex16
  place_most none = le_refl _
  place_most (is o) = le_refl _
  place_most hl = le_refl _
  place_most h = le_refl _
  place_most l = le_refl _
  place_most at_hl = le_refl _
  place_most byte = simp length-append (omega arith)
  place_most word = simp length-append (omega arith)
  place_most at_word = simp length-append (omega arith)
  place_most at_port = simp length-append (omega arith)
  place_most rel = simp length-append (omega (arith, relative_most (get_or s 0 0) (bytes 0)))
  place_most (at_index ix) = simp length-append (omega (arith, displacement_most (get_or s 0 0) (bytes 0)))
  place_most (at_index iy) = simp length-append (omega (arith, displacement_most (get_or s 0 0) (bytes 0)))
  place_most byte_behind = simp length-append (omega arith)

-- three characters a byte
bytes_length : (s : List ℕ) → length (each byte_text s) ≡ 3 * length s
unfolding hex8
bytes_length [] = refl
bytes_length (b ∷ s) = omega (arith, bytes_length s)

-- no part is longer than at these bytes
record NoLonger (r q : OpCode) : Type 0 where
  bytes : length (bytes_part r) ≤ length (bytes_part q)
  instruction : length (instruction_part r) ≤ length (instruction_part q)
  times : length (times_part r) ≤ length (times_part q)

made_most : (ins : Instruction) (x y z : Kind) (n : ℕ) (t : Cycles) (s d : List ℕ) → AllBytes s → length d ≡ 4 → NoLonger (made ins x y z n t s d) (made ins x y z n t lowest zeros)
made_most ins x y z n t s d bytes size =
    record {
      bytes = simp length-append (omega (arith, bytes_length (take n d), bytes_length (take n zeros), length-take n d, length-take n zeros));
      instruction = simp length-append (omega (arith, place_most [] s bytes x, place_most (ascii ", ") s bytes y, place_most (ascii ", ") s bytes z));
      times = le_refl _;
    }

row_most : (x : Row) (s d : List ℕ) → AllBytes s → length d ≡ 4 → NoLonger (record_of x s d) (record_of x lowest zeros)
row_most gap s d bytes size = made_most Instruction.NOP none none none 1 (t1 4) s d bytes size
row_most (row ins x y z n t) s d bytes size = made_most ins x y z n t s d bytes size

-- the test
abbrev fits : Row → Bool
fits x =
    let r = record_of x lowest zeros in
    leb (length (bytes_part r)) bytes_most && (leb (length (instruction_part r)) instruction_most && leb (length (times_part r)) times_most)

all_fit : Everywhere fits
unfolding plain cb ed hex8 hex16 decimal digit_at signed signed_of relative_of name_of names reg8_text reg8_names reg16_text reg16_names condition_text condition_names
all_fit =
    record {
      none = tt;
      on_plain = tt;
      on_cb = tt;
      on_ed = tt;
      behind_plain = either_index _ tt tt;
      behind_ed = either_index _ tt tt;
      load = either_index _ tt tt;
      no_bit = λ i. tt;
      on_bit = either_index _ tt tt;
      chip_none = (tt, tt);
      chip_plain = either_index _ tt tt;
      chip_ed = tt;
    }

-- bytes stay bytes behind the first ones
pub drop_bytes : (n : ℕ) (s : List ℕ) → AllBytes s → AllBytes (drop n s)
drop_bytes n s bytes k = rw get_or-drop (bytes (n + k))

behind_bytes : (s : List ℕ) → AllBytes s → AllBytes (operand_bytes s)
behind_bytes s bytes = chosen AllBytes (is_prefix (get_or s 0 0) || (eqb (get_or s 0 0) 0xCB || eqb (get_or s 0 0) 0xED)) (drop 2 s) (drop 1 s) (drop_bytes 2 s bytes) (drop_bytes 1 s bytes)

-- a part where it is present, and its largest
part_most : (u : Bool) (x : List ℕ) (b : ℕ) → length x ≤ b → length (part u x) ≤ cond u b 0
part_most true x b most = most
part_most false x b most = omega arith

present_most : (u : Bool) (b : ℕ) → cond u b 0 ≤ b
present_most true b = omega arith
present_most false b = omega arith

-- what a choice adds up to
adds : (u v w : Bool) (x y z : List ℕ) (b i t : ℕ) → length x ≤ b → length y ≤ i → length z ≤ t → length (part u x ++ part v y ++ part w z) ≤ cond u b 0 + cond v i 0 + cond w t 0
adds u v w x y z b i t p q r = simp length-append (omega (arith, part_most u x b p, part_most v y i q, part_most w z t r))

module _ (choice : ℕ) where
  -- a choice's largest is at most 52
  pub choice_most_lem : choice_most choice ≤ text_most
  choice_most_lem = omega (arith, present_most (has_bytes choice) bytes_most, present_most (has_instruction choice) instruction_most, present_most (has_times choice) times_most)

  module _ (mode : Mode) (s : List ℕ) (bytes : AllBytes s) (done : (decode_in mode s).answer ≡ Answer.Done) where
    -- no text of a decoded record is longer than its choice's largest
    pub text_most_lem : length (text_of choice (decode_in mode s).rec) ≤ choice_most choice
    unfolding decode_in text_of
    text_most_lem =
        let x = (reading_of mode).row s in
        let q = record_of x lowest zeros in
        let p = row_most x (operand_bytes s) (four s) (behind_bytes s bytes) refl in
        let f = mode_row_holds fits all_fit mode s in
        let g = both_right (leb (length (bytes_part q)) bytes_most) _ f in
        let r = record_of x (operand_bytes s) (four s) in
        rw (ap (λ (d : Decoded). d.rec) (decides (reading_of mode) s done).made)
        (adds (has_bytes choice) (has_instruction choice) (has_times choice) (bytes_part r) (instruction_part r) (times_part r) bytes_most instruction_most times_most
        (le_trans p.bytes (leb→le (length (bytes_part q)) bytes_most (both_left (leb (length (bytes_part q)) bytes_most) _ f)))
        (le_trans p.instruction (leb→le (length (instruction_part q)) instruction_most (both_left (leb (length (instruction_part q)) instruction_most) _ g)))
        (le_trans p.times (leb→le (length (times_part q)) times_most (both_right (leb (length (instruction_part q)) instruction_most) _ g))))

    pub any_most : length (text_of choice (decode_in mode s).rec) ≤ text_most
    any_most = le_trans text_most_lem choice_most_lem

-- nor is any count
count_most : (a : Answer) (t out : List ℕ) → (a ≡ Answer.Done → length t ≤ text_most) → (cond (eqb (decode.number_of a) 0) (given t out) (outcome (decode.number_of a) 0 (decode.missing_of a) out)).count ≤ text_most
count_most Answer.Done t out most = chosen (λ (o : Outcome). o.count ≤ text_most) (leb (length t) (length out)) _ _ (most refl) (omega arith)
count_most Answer.Nothing t out most = omega arith
count_most (Answer.Short k) t out most = omega arith
count_most Answer.Long t out most = omega arith

pub text_count : (choice : ℕ) (mode : Mode) (s : List ℕ) → AllBytes s → (out : List ℕ) → (text_outcome choice (decode_in mode s) out).count ≤ text_most
text_count choice mode s bytes out =
    chosen (λ (o : Outcome). o.count ≤ text_most) (ltb 7 choice) _ _ (omega arith) (count_most (decode_in mode s).answer (text_of choice (decode_in mode s).rec) out (any_most choice mode s bytes))

-- DD CB 80 C7 is SET 00, (IX-128), A: each of its texts is the longest of its choice
abbrev longest : OpCode
longest = (decode_of (0xDD ∷ 0xCB ∷ 0x80 ∷ 0xC7 ∷ [])).rec

pub most_reached : values (λ (choice : ℕ). length (text_of choice longest)) 0 8 ≡ values choice_most 0 8
unfolding decode_of row_of behind_row cb text_of hex8 hex16 decimal digit_at signed signed_of name_of names reg8_text reg8_names reg16_text reg16_names
most_reached = refl
