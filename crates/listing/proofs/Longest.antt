-- No line is longer than 58 bytes, and no more than four bytes are passed. Assumes nothing.
use mathlib.Core.Path.{◌≡◌, refl}
use Prim.Native.Nat.{ℕ, ◌-◌, ◌≤◌}
use native.Mathlib.Omega.{arith}
use mathlib.Core.Bool.{Bool}
use mathlib.Core.List.{List}
use lib.Dec.{leb}
use lib.ListN.{length, take, drop, length-append, length-take}
use Rattle.std.proofs.lemmas.List.{get_or-take, get_or_past}
use Rattle.table.specs.declared.Mode.{Mode}
use Rattle.opcode.specs.declared.record.OpCode.{OpCode}
use Rattle.table.specs.declared.Answer.{Answer}
use Rattle.table.specs.Chip.{decode_in}
use Rattle.table.specs.Consequences.{AllBytes, first}
use Rattle.table.proofs.Pages.{chosen}
use Rattle.wording.specs.Digits.{hex8, hex16, decimal, digit_at}
use Rattle.wording.specs.Text.{text_of}
use Rattle.wording.proofs.Longest.{any_most, drop_bytes}
use Rattle.line.specs.Line.{decoded_line, short_line, line_by}
use Rattle.image.specs.Places.{wrong_size, outside, window, window_at}
use Rattle.listing.specs.Rows.{line_of}
use Rattle.listing.specs.Answers.{Outcome, row_outcome}
use Rattle.listing.proofs.Passed.{passed_most}

module _ (mode : Mode) where
  digit_most : (n p : ℕ) → length (digit_at n p) ≤ 1
  unfolding digit_at
  digit_most n p = chosen (λ (l : List ℕ). length l ≤ 1) (leb p n) _ _ (omega arith) (omega arith)

  short_most : (a b k : ℕ) → length (short_line a b k) ≤ 58
  unfolding short_line hex8 hex16 decimal
  short_most a b k = simp length-append (omega (arith, digit_most k 10000, digit_most k 1000, digit_most k 100, digit_most k 10))

  by_most : (x : Answer) (a : ℕ) (r : OpCode) (b : ℕ) → (x ≡ Answer.Done → length (text_of 7 r) ≤ 52) → length (line_by x a r b) ≤ 58
  unfolding decoded_line hex8 hex16
  by_most Answer.Done a r b most = simp length-append (omega (arith, most refl))
  by_most Answer.Nothing a r b most = short_most a b 0
  by_most (Answer.Short k) a r b most = short_most a b k.0
  by_most Answer.Long a r b most = short_most a b 0

  pub line_most : (a : ℕ) (w : List ℕ) → AllBytes w → length (line_of mode a w) ≤ 58
  unfolding line_of
  line_most a w bytes = by_most (decode_in mode w).answer a (decode_in mode w).rec (first w) (any_most 7 mode w bytes)

  -- a window of bytes has bytes
  take_bytes : (n : ℕ) (s : List ℕ) → AllBytes s → AllBytes (take n s)
  take_bytes n s bytes k = grind (arith, get_or-take, get_or_past, length-take, bytes k)

  pub window_bytes : (k : ℕ) (image : List ℕ) → AllBytes image → AllBytes (window (drop k image))
  window_bytes k image bytes = take_bytes 4 (drop k image) (drop_bytes k image bytes)

  -- nor is a count more, nor are more than four bytes passed
  module _ (image : List ℕ) (origin address : ℕ) (out : List ℕ) where
    abbrev fits : Bool
    fits = leb (length (line_of mode address (window_at image origin address))) (length out)

    pub count_most : AllBytes image → (row_outcome mode image origin address out).count ≤ 58
    count_most bytes =
        let most = line_most address (window_at image origin address) (window_bytes (address - origin) image bytes) in
        chosen (λ (o : Outcome). o.count ≤ 58) (wrong_size image origin) _ _ (omega arith)
        (chosen (λ (o : Outcome). o.count ≤ 58) (outside image origin address) _ _ (omega arith)
        (chosen (λ (o : Outcome). o.count ≤ 58) fits _ _ most (omega arith)))

    pub passed_over_most : (row_outcome mode image origin address out).passed ≤ 4
    passed_over_most =
        chosen (λ (o : Outcome). o.passed ≤ 4) (wrong_size image origin) _ _ (omega arith)
        (chosen (λ (o : Outcome). o.passed ≤ 4) (outside image origin address) _ _ (omega arith)
        (chosen (λ (o : Outcome). o.passed ≤ 4) fits _ _ (passed_most mode (window_at image origin address)) (omega arith)))
