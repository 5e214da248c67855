-- On which bytes the two modes agree, and how their rows differ elsewhere. Definitions only.
use Rattle.std.specs.Prelude.{ℕ, ◌≡◌, ◌↔◌, Bool, true, false, cond, not, ◌&&◌, ◌||◌, List, [], ◌∷◌, eqb, ltb, length, get_or}
use Rattle.table.specs.declared.Mode.{Mode}
use Rattle.table.specs.Row.{Index, Kind, none, is, hl, h, l, at_hl, byte, word, at_word, at_port, rel, at_index, byte_behind, is_at_hl, Row, row, gap}
use Rattle.table.specs.Departures.{one_figure, late, unchanged, ed_behind, needed}
use Rattle.table.specs.Plain.{plain}
use Rattle.table.specs.Ed.{ed}
use Rattle.table.specs.Prefix.{is_hl_kind, prefix_row}
use Rattle.table.specs.Decode.{is_prefix, row_of, needed_of}
use Rattle.table.specs.Chip.{idle, defined, larger, chip_row_of, chip_needed_of, decode_in}
use Rattle.table.specs.Consequences.{first, second, length_of, same, reordered}
use Rattle.table.specs.Steps.{named}

abbrev pub is_gap : Row → Bool
is_gap gap = true
is_gap (row i x y z n t) = false

abbrev pub is_none : Kind → Bool
is_none none = true
is_none (is o) = false
is_none hl = false
is_none h = false
is_none l = false
is_none at_hl = false
is_none byte = false
is_none word = false
is_none at_word = false
is_none at_port = false
is_none rel = false
is_none (at_index i) = false
is_none byte_behind = false

-- behind DD or FD, in four bytes: no row, an (HL), a renaming that keeps the order of the cycles, or nothing to keep of a row of [4]
abbrev pub alike : Row → Bool
alike gap = true
alike (row i x y z n t) =
    cond (is_at_hl x || is_at_hl y) true
    (cond (is_hl_kind x || is_hl_kind y) (not (reordered (row i x y z n t)))
    (is_none x && (is_none y && (is_none z && same (one_figure t) (4 ∷ [])))))

-- behind DD ED or FD ED: no row that three bytes hold
abbrev pub alike_ed : Row → Bool
alike_ed gap = true
alike_ed (row i x y z n t) = eqb n 4

-- in four bytes by the second and the third; in two or three, where the chip's row has four, so that both are Short; DD or FD alone lacks 3 and 1
unfoldable pub agrees_behind : List ℕ → Bool
agrees_behind s =
    cond (eqb (length s) 4) (cond (eqb (second s) 0xED) (alike_ed (get_or ed (get_or s 2 0) gap)) (alike (get_or plain (second s) gap)))
    (cond (eqb (length s) 1) false (eqb (needed (chip_row_of s)) 4))

-- up to four bytes, with no prefix in front: everywhere but at an undefined ED code
unfoldable pub agrees_upto4 : List ℕ → Bool
agrees_upto4 s = cond (is_prefix (first s)) (agrees_behind s) (not (ltb 1 (length s) && (eqb (first s) 0xED && is_gap (get_or ed (second s) gap))))

-- over four bytes both are Long
abbrev pub agrees : List ℕ → Bool
agrees s = ltb 4 (length s) || agrees_upto4 s

-- a row with an (HL), or else an HL, H or L, for a prefix to change
abbrev pub is_changed : Row → Bool
is_changed gap = false
is_changed (row i x y z n t) = (is_at_hl x || is_at_hl y) || (is_hl_kind x || is_hl_kind y)

-- a code before which DD or FD changes nothing; ED, DD and FD have no row of their own on the plain page, and EB is not looked into
abbrev pub idles : ℕ → Bool
idles b = eqb b 0xEB || not (eqb b 0xCB || is_changed (get_or plain b gap))

-- the Rust's row behind DD or FD, by the chip's row x there: before ED the row of the ED page with HL renamed, before EB none, where nothing changes the row behind it under NOP, and else x with its first two cycles the other way round
abbrev pub rust_behind : Index → ℕ → ℕ → Row → Row
rust_behind i b1 b2 x =
    cond (eqb b1 0xED) (prefix_row i (ed_behind (get_or ed b2 gap)))
    (cond (eqb b1 0xEB) gap
    (cond (idles b1) (unchanged (get_or plain b1 gap))
    (late x)))

-- the two modes side by side, row by row
pub record Compared (s : List ℕ) : Type 0 where
  -- answer and record, the number of missing bytes among it
  pub agree : (decode_in Mode.Chip s ≡ decode_in Mode.Rust s) ↔ (agrees s ≡ true)
  -- DD or FD in front: four bytes decide the Rust's row, its own and two at least the chip's
  pub rust_behind_lem : is_prefix (first s) ≡ true → row_of s ≡ rust_behind (named (first s)) (second s) (get_or s 2 0) (chip_row_of s)
  pub chip_idle : is_prefix (first s) ≡ true → idles (second s) ≡ true → chip_row_of s ≡ idle
  pub rust_needs : is_prefix (first s) ≡ true → needed_of s ≡ 4
  pub chip_needs : is_prefix (first s) ≡ true → chip_needed_of s ≡ larger 2 (length_of (chip_row_of s))
  -- no prefix in front: an undefined ED code is the chip's NOP of two bytes, and all else the same row
  pub chip_else : is_prefix (first s) ≡ false → chip_row_of s ≡ cond (eqb (first s) 0xED) (defined (row_of s)) (row_of s)
  pub chip_else_needs : is_prefix (first s) ≡ false → chip_needed_of s ≡ length_of (chip_row_of s)
