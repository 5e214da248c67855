-- The chip's own reading gives what the table says of it: behind ED by the page's lines, behind each prefix by a test over the codes, and else as in the Rust's mode.
-- Assumes nothing.
use mathlib.Core.Path.{◌≡◌, refl, sym, ap, ◌∙◌}
use mathlib.Core.Bool.{Bool, true, false, cond}
use mathlib.Core.List.{List, [], ◌∷◌, map}
use Prim.Native.Nat.{ℕ, ◌-◌, ◌<◌, ◌≤◌, ◌/◌, ◌%◌}
use native.Mathlib.Omega.{arith}
use lib.Dec.{eqb, ltb}
use lib.ListN.{length, get_or}
use borrow.Author.Tests.{eqb-true, ne_eqb, le-ltb}
use Rattle.std.specs.Prelude.{Result}
use Rattle.opcode.specs.declared.counts.Bytes.{Bytes}
use Rattle.opcode.specs.Record.{sum}
use Rattle.table.specs.declared.Answer.{Answer}
use Rattle.table.specs.declared.Decoded.{Decoded}
use Rattle.table.specs.declared.Mode.{Mode}
use Rattle.table.specs.Row.{Row, gap}
use Rattle.table.specs.Plain.{plain}
use Rattle.table.specs.Cb.{cb}
use Rattle.table.specs.Ed.{ed}
use Rattle.table.specs.Decode.{is_prefix, operand_bytes, four, refused, short, done}
use Rattle.table.specs.Chip.{defined, chip_behind, chip_row_of, decode_in}
use Rattle.table.specs.Consequences.{AllBytes, first, second}
use Rattle.table.proofs.Answers.{unprefixed, rust_mode}
use Rattle.table.proofs.Modes.{else_agree}
use Rattle.packed.specs.Named.{instruction_at, reg8_at, reg16_at, condition_at}
use Rattle.packed.specs.Packed.{packed, read_kind, kind_at, record_from}
use Rattle.prefix.specs.Changed.{indexed, is_hl, renamed, with_addr, with_hl, changed_of, chip_changed_of, besides, bits_of}
use Rattle.chain.specs.Chain.{whole_of, decoder_of}
use Rattle.chain.specs.Chip.{defined_of, chip_prefix_of, chip_of, number_in}
use Rattle.chain.proofs.Pages.{but, by_code, every, by_line, by_row}
use Rattle.chain.proofs.Agrees.{told, answered, by_prefix_lem, decoder_agrees}

abbrev decoded : List ℕ → Decoded
decoded s = answered (chip_of s) s

abbrev Meet : List ℕ → Type 0
Meet s = decoded s ≡ decode_in Mode.Chip s

-- what a row's number, taken whole, answers
abbrev by_length : ℕ → List ℕ → List ℕ → ℕ → Decoded
by_length n s d r = cond (ltb n (r / 0x100000000 % 16)) (short (r / 0x100000000 % 16 - n)) (done (record_from r s d))

length_answers : (r n : ℕ) (o d : List ℕ) → told (whole_of r n) o d ≡ by_length n o d r
unfolding whole_of
length_answers r n o d = by_test (ltb n (r / 0x100000000 % 16)) refl
  where
    by_test : (b : Bool) → ltb n (r / 0x100000000 % 16) ≡ b → told (whole_of r n) o d ≡ by_length n o d r
    by_test true e = rw e
    by_test false e = rw e

-- the ED page, its undefined codes defined
module _ (n : ℕ) (s d : List ℕ) where
  ed_same : map (λ (x : Row). by_length n s d (defined_of (packed x))) ed ≡ map (λ (x : Row). by_row n s d (defined x)) ed
  unfolding ed packed sum kind_at read_kind instruction_at reg8_at reg16_at condition_at
  ed_same = refl

  none_same : by_length n s d (defined_of (packed gap)) ≡ by_row n s d (defined gap)
  unfolding packed sum kind_at read_kind instruction_at
  none_same = refl

  ed_meets : (b : ℕ) → by_length n s d (defined_of (packed (get_or ed b gap))) ≡ by_row n s d (defined (get_or ed b gap))
  ed_meets b = by_line (λ (x : Row). by_length n s d (defined_of (packed x))) (λ (x : Row). by_row n s d (defined x)) ed ed_same none_same b

-- ED with its code, or alone
ed_row_meets : (s : List ℕ) → is_prefix (first s) ≡ false → eqb (first s) 0xED ≡ true → (o d : List ℕ) → told (chip_of s) o d ≡ by_row (length s) o d (chip_row_of s)
unfolding chip_of
ed_row_meets s q e o d =
    let x = get_or ed (second s) gap in
    let no : eqb (first s) 0xCB ≡ false = ap (λ (b : ℕ). eqb b 0xCB) (eqb-true (first s) 0xED e) in
    rw (q, unprefixed Mode.Chip s q, no, e) (length_answers (defined_of (packed x)) (length s) o d ∙ ed_meets (length s) o d (second s))

ed_meet : (s : List ℕ) → (length s ≡ 0 → ⊥) → length s ≤ 4 → is_prefix (first s) ≡ false → eqb (first s) 0xED ≡ true → Meet s
unfolding decode_in
ed_meet s some most q e = ed_row_meets s q e (operand_bytes s) (four s) ∙ rw (ne_eqb (length s) 0 some, le-ltb 4 (length s) most, q)

-- any other byte
else_number : (s : List ℕ) → is_prefix (first s) ≡ false → eqb (first s) 0xED ≡ false → chip_of s ≡ decoder_of s
unfolding chip_of
else_number s q e = rw (q, e)

-- one to four bytes with no prefix in front
page_meets : (s : List ℕ) → AllBytes s → (length s ≡ 0 → ⊥) → length s ≤ 4 → is_prefix (first s) ≡ false → Meet s
page_meets s bytes some most q = by_ed (eqb (first s) 0xED) refl
  where
    by_ed : (b : Bool) → eqb (first s) 0xED ≡ b → Meet s
    by_ed true e = ed_meet s some most q e
    by_ed false e = ap (λ (n : Result ℕ Bytes). answered n s) (else_number s q e) ∙ decoder_agrees s bytes some most ∙ sym (rust_mode s) ∙ sym (else_agree s q e)

-- both at each code b of a page, but where t tells otherwise; f lays the bytes around the code
abbrev Codes : (ℕ → Bool) → (ℕ → List ℕ) → Type 0
Codes t f = but t (refused Answer.Nothing) (λ (b : ℕ). decoded (f b)) ≡ but t (refused Answer.Nothing) (λ (b : ℕ). decode_in Mode.Chip (f b))

meets : (t : ℕ → Bool) (f : ℕ → List ℕ) → Codes t f → (b : ℕ) → b < 256 → t b ≡ false → Meet (f b)
meets t f same b fits q = by_code t (refused Answer.Nothing) (λ (k : ℕ). decoded (f k)) (λ (k : ℕ). decode_in Mode.Chip (f k)) same b fits q

abbrev is_cb : ℕ → Bool
is_cb b = eqb b 0xCB

-- one to four bytes that the prefix p leads
record Behind (p b2 b3 : ℕ) : Type 0 where
  pub alone : Meet (p ∷ [])
  pub two : Codes every (λ (b : ℕ). p ∷ b ∷ [])
  pub three : Codes every (λ (b : ℕ). p ∷ b ∷ b2 ∷ [])
  pub plain_behind : Codes is_cb (λ (b : ℕ). p ∷ b ∷ b2 ∷ b3 ∷ [])
  pub cb_behind : Codes every (λ (b : ℕ). p ∷ 0xCB ∷ b2 ∷ b ∷ [])

dd_behind : (b2 b3 : ℕ) → Behind 0xDD b2 b3
unfolding plain cb sum chip_behind chip_row_of decode_in chip_of chip_prefix_of whole_of packed kind_at read_kind instruction_at reg8_at reg16_at condition_at indexed is_hl renamed with_addr with_hl changed_of chip_changed_of besides bits_of
dd_behind b2 b3 = record { alone = refl; two = refl; three = refl; plain_behind = refl; cb_behind = refl }

fd_behind : (b2 b3 : ℕ) → Behind 0xFD b2 b3
unfolding plain cb sum chip_behind chip_row_of decode_in chip_of chip_prefix_of whole_of packed kind_at read_kind instruction_at reg8_at reg16_at condition_at indexed is_hl renamed with_addr with_hl changed_of chip_changed_of besides bits_of
fd_behind b2 b3 = record { alone = refl; two = refl; three = refl; plain_behind = refl; cb_behind = refl }

four_meet : (p b1 b2 b3 : ℕ) → Behind p b2 b3 → b1 < 256 → b3 < 256 → Meet (p ∷ b1 ∷ b2 ∷ b3 ∷ [])
four_meet p b1 b2 b3 codes h1 h3 = by_cb (is_cb b1) refl
  where
    by_cb : (c : Bool) → is_cb b1 ≡ c → Meet (p ∷ b1 ∷ b2 ∷ b3 ∷ [])
    by_cb true e = rw (eqb-true b1 0xCB e) (meets every (λ (b : ℕ). p ∷ 0xCB ∷ b2 ∷ b ∷ []) codes.cb_behind b3 h3 refl)
    by_cb false e = meets is_cb (λ (b : ℕ). p ∷ b ∷ b2 ∷ b3 ∷ []) codes.plain_behind b1 h1 e

-- on one to four bytes
pub chip_agrees : (s : List ℕ) → AllBytes s → (length s ≡ 0 → ⊥) → length s ≤ 4 → decoded s ≡ decode_in Mode.Chip s
chip_agrees [] bytes some most = absurd (some refl)
chip_agrees (b0 ∷ []) bytes some most = by_prefix_lem (λ (b : ℕ). Meet (b ∷ [])) b0 (dd_behind 0 0).alone (fd_behind 0 0).alone (page_meets _ bytes some most)
chip_agrees (b0 ∷ b1 ∷ []) bytes some most =
    by_prefix_lem (λ (b : ℕ). Meet (b ∷ b1 ∷ [])) b0 (meets every (λ (b : ℕ). 0xDD ∷ b ∷ []) (dd_behind 0 0).two b1 (bytes 1) refl)
    (meets every (λ (b : ℕ). 0xFD ∷ b ∷ []) (fd_behind 0 0).two b1 (bytes 1) refl) (page_meets _ bytes some most)
chip_agrees (b0 ∷ b1 ∷ b2 ∷ []) bytes some most =
    by_prefix_lem (λ (b : ℕ). Meet (b ∷ b1 ∷ b2 ∷ [])) b0 (meets every (λ (b : ℕ). 0xDD ∷ b ∷ b2 ∷ []) (dd_behind b2 0).three b1 (bytes 1) refl)
    (meets every (λ (b : ℕ). 0xFD ∷ b ∷ b2 ∷ []) (fd_behind b2 0).three b1 (bytes 1) refl) (page_meets _ bytes some most)
chip_agrees (b0 ∷ b1 ∷ b2 ∷ b3 ∷ []) bytes some most =
    by_prefix_lem (λ (b : ℕ). Meet (b ∷ b1 ∷ b2 ∷ b3 ∷ [])) b0 (four_meet 0xDD b1 b2 b3 (dd_behind b2 b3) (bytes 1) (bytes 3))
    (four_meet 0xFD b1 b2 b3 (fd_behind b2 b3) (bytes 1) (bytes 3)) (page_meets _ bytes some most)
chip_agrees (b0 ∷ b1 ∷ b2 ∷ b3 ∷ b4 ∷ s) bytes some most = absurd (omega arith)

-- in either mode the decoder gives what the table says
pub number_agrees : (m : Mode) (s : List ℕ) → AllBytes s → (length s ≡ 0 → ⊥) → length s ≤ 4 → answered (number_in m s) s ≡ decode_in m s
number_agrees Mode.Rust s bytes some most = decoder_agrees s bytes some most ∙ sym (rust_mode s)
number_agrees Mode.Chip s bytes some most = chip_agrees s bytes some most
